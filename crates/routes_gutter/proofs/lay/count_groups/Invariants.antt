-- The groups counted tap by tap.
use Prim.Native.Nat.{◌≤◌}
use mathlib.Core.Path.{◌≡◌}
use Rattle.base.specs.Views.{view}
use Rattle.board.specs.Tables.{tap_in}
use Rattle.routes.specs.Plan.{group_count}
use Rattle.routes_gutter.proofs.lay.count_groups.Given as goal

abbrev pub invariant-loop-k : goal.invariant-loop-k
invariant-loop-k l = (l.count ≤ l.k) × (l.count ≡ group_count (view tap_in l.taps l.k))
