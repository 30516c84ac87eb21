-- `append_all` meets its contract: a wire has a tap more, or none. Assumes nothing.
use native.Mathlib.Omega.{arith}
use Prim.Native.Nat.{ℕ, ◌+◌}
use native.Mathlib.Numerals.{add-one}
use mathlib.Core.Path.{◌≡◌, sym, ap, subst}
use mathlib.Core.List.{List, []}
use lib.ListN.{length, get_or, set}
use Rattle.base.specs.Lists.{fold, upto}
use Rattle.board.specs.Board.{field}
use Rattle.board.specs.Groups.{add_wire}
use Rattle.board_groups.specs.Shares.{Appended}
use Rattle.board_groups.proofs.TapLaws.{wired_more, none_appended, one_appended, appended_done}
use Rattle.board_groups.proofs.groups.append_all.Goals.{in-Some, in_default}
use Rattle.board_groups.proofs.groups.append_all.Goals as goal

pub loop-w-preserved : goal.loop-w-preserved
loop-w-preserved c =
    let s = c.args.s in
    let facts = c.args.facts.now in
    let w = c.loop-w.w in
    let t = field facts w 5 in
    let old = c.loop-w.invariant in
    let low = old.0 in
    elim c.match-tap_of.branch [
      | in-Some v ↦
          let tap = v.in-Some.ensures in
          let own : get_or v.in-Some.tap 7 0 ≡ w = ap (λ (r : List ℕ). get_or r 7 0) tap.1 in
          rw (v.taps-is, v.m-is) (
            omega (arith, low),
            wired_more s.wires.now c.loop-w.taps c.loop-w.m v.in-Some.tap (omega (arith, low)) (omega (arith, own)) old.1,
            λ b n e k f. subst (λ (u : ℕ). Appended b (set c.loop-w.taps c.loop-w.m v.in-Some.tap) (c.loop-w.m + 1) (fold (add_wire b) [] (upto u))) (sym (add-one w))
                (rw tap.1 (one_appended b s.nodes.now s.wires.now facts c.loop-w.taps c.loop-w.m w t n e k (f w (let q = ap length e in omega arith)) _ (old.2 b n e k f) (omega arith) tap.0 (omega (arith, low)))),
          )
      | in_default v ↦
          rw (v.taps-is, v.m-is) (
            omega (arith, low),
            old.1,
            λ b n e k f. subst (λ (u : ℕ). Appended b c.loop-w.taps c.loop-w.m (fold (add_wire b) [] (upto u))) (sym (add-one w))
                (none_appended b s.nodes.now s.wires.now facts c.loop-w.taps c.loop-w.m w t n e k (f w (let q = ap length e in omega arith)) _ (old.2 b n e k f) v.in_default.ensures),
          )
    ]

pub returns-clause-appended : goal.returns-clause-appended
returns-clause-appended c = λ b n e k t. appended_done b c.args.s.wires.now c.loop-w.taps c.loop-w.m c.loop-w.w e (omega arith) (c.loop-w.invariant.2 b n e k t)
