-- The marks looked at: none is that of the page, as long as nothing is hit.
use Prim.Native.Nat.{◌+◌}
use mathlib.Core.Path.{◌≡◌}
use mathlib.Core.Bool.{false}
use Rattle.board_lanes.specs.PagePlan.{NoneAsks}
use Rattle.board_lanes.proofs.demands.has_none.Given as goal

abbrev pub invariant-loop-mark : goal.invariant-loop-mark
invariant-loop-mark l = l.hit ≡ false → NoneAsks l.marks l.p l.j (l.j + l.mark-index)
