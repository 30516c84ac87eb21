use native.Mathlib.Omega.{arith}
use Prim.Native.Nat.{ℕ, ◌+◌, ◌<◌}
use mathlib.Core.List.{List}
use mathlib.Core.Path.{◌≡◌, ◌∙◌, sym, subst}
use lib.ListN.{length, get_or, drop}
use Rattle.std.proofs.lemmas.List.{length-drop, get_or-drop}
use Rattle.board_lanes.specs.PagePlan.{NoneAsks}
use Rattle.board_lanes.proofs.PageLaws.{all_behind, none_behind, none_on}
use Rattle.board_lanes.proofs.demands.next_asking.Goals as goal

pub returns-in_err-i : goal.returns-in_err-i
returns-in_err-i c =
    let marks = c.args.marks.now in
    let j = c.loop-j.j in
    let i = c.loop-j.invariant in
    let inside = i.1 in
    let end : j + length (drop j marks) ≡ length marks = omega (arith, length-drop j marks) in
    let far : NoneAsks (drop j marks) c.args.p 0 (length (drop j marks)) = subst (λ (l : List ℕ). NoneAsks l c.args.p 0 (length l)) (all_behind marks j) c.in_err-i.ensures in
    let none = none_on marks c.args.p c.args.k j (length marks) i.2 (subst (NoneAsks marks c.args.p j) end (none_behind marks c.args.p j (length (drop j marks)) far)) in
    rw c.from_residual.ensures none

pub returns : goal.returns
returns c =
    let marks = c.args.marks.now in
    let j = c.loop-j.j in
    let i = c.loop-j.invariant in
    let e : (c.in_ok-i.i < length (drop j marks)) × NoneAsks (drop j marks) c.args.p 0 c.in_ok-i.i × (get_or (drop j marks) c.in_ok-i.i 0 ≡ c.args.p) =
    subst (λ (l : List ℕ). (c.in_ok-i.i < length l) × NoneAsks l c.args.p 0 c.in_ok-i.i × (get_or l c.in_ok-i.i 0 ≡ c.args.p)) (all_behind marks j) c.in_ok-i.ensures in
    let behind = e.0 in
    let low = i.0 in (
      omega arith,
      omega (arith, length-drop j marks),
      none_on marks c.args.p c.args.k j (j + c.in_ok-i.i) i.2 (none_behind marks c.args.p j c.in_ok-i.i e.1),
      sym (get_or-drop j marks c.in_ok-i.i 0) ∙ e.2,
    )
