-- `fill_tap_keys` meets its contract: the keys of the taps behind are written. Assumes nothing.
use Prim.Native.Nat.{ℕ, ◌+◌, ◌*◌, ◌<◌}
use mathlib.Core.Path.{◌≡◌}
use lib.ListN.{get_or}
use Rattle.board_groups.specs.Shares.{key_of, packed}
use Rattle.board_groups.proofs.shares.fill_tap_keys.Given as goal

abbrev pub invariant-loop-k : goal.invariant-loop-k
invariant-loop-k l = (j : ℕ) → j < l.k → get_or l.keys j 0 ≡ packed (key_of l.wires l.taps j) * 8192 + j
