use Prim.Native.Nat.{◌-◌}
use mathlib.Core.Path.{ap, sym}
use native.Mathlib.Omega.{arith}
use borrow.Author.Tests.{eq-eqb}
use Rattle.board.specs.Index.{found_of, entry_of}
use Rattle.board.proofs.Newest.{index_falls, index_start, index_next, index_entry, follow_found, follow_end}
use Rattle.board.proofs.ids.IdIndex.find.Goals as goal

pub loop-link-init : goal.loop-link-init
loop-link-init c = rw c.bucket_of.ensures (index_start c.args.self.rows.now c.args.self.count c.args.self.chained c.args.id.0)

pub loop-link-smaller : goal.loop-link-smaller
loop-link-smaller c =
    let a = c.args in
    let at_hand = index_entry _ _ c.args.self.chained _ _ c.loop-link.invariant c.loop-link-test.true in
    omega (arith, index_falls a.self.rows.now a.self.count c.args.self.chained a.id.0 (c.loop-link.link - 1) at_hand.1, at_hand)

pub loop-link-preserved : goal.loop-link-preserved
loop-link-preserved c =
    let a = c.args in
    let at_hand = index_entry _ _ c.args.self.chained _ _ c.loop-link.invariant c.loop-link-test.true in
    index_next a.self.rows.now a.self.count c.args.self.chained a.id.0 c.loop-link.link (c.loop-link.link - 1) at_hand.2 c.loop-link.invariant c.if-self-i.false

pub returns-then-self-i : goal.returns-then-self-i
unfolding entry_of
returns-then-self-i c =
    let at_hand = index_entry _ _ c.args.self.chained _ _ c.loop-link.invariant c.loop-link-test.true in
    let k = c.loop-link.link in
    record {
      value = sym (ap found_of (follow_found _ _ c.args.self.count k (k - 1) c.loop-link.invariant at_hand.2 (eq-eqb _ _ c.if-self-i.true)));
      below = at_hand.1;
    }

pub returns : goal.returns
unfolding entry_of
returns c = record { value = sym (ap found_of (follow_end _ _ c.args.self.count c.loop-link.link 0 c.loop-link.invariant c.loop-link-test.false)); below = tt }
