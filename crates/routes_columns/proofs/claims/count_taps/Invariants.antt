-- `count_taps` meets its contract: after i taps each run has two more for each that has it. Assumes nothing.
use Prim.Native.Nat.{ℕ, ◌+◌, ◌*◌}
use mathlib.Core.Path.{◌≡◌}
use lib.ListN.{get_or}
use Rattle.base.specs.Runs.{having}
use Rattle.routes_columns.specs.Columns.{tap_key}
use Rattle.routes_columns.proofs.claims.count_taps.Given as goal

abbrev pub invariant-loop-tap : goal.invariant-loop-tap
invariant-loop-tap l = (j : ℕ) → get_or l.counts j 0 ≡ get_or l.initial.counts j 0 + 2 * having (tap_key l.groups l.taps) j l.tap-index
