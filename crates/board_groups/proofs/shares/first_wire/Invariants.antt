-- `first_wire` meets its contract: no tap passed has the key. Assumes nothing.
use Prim.Native.Nat.{ℕ, ◌<◌}
use mathlib.Core.Path.{◌≡◌}
use Rattle.board_groups.specs.Shares.{key_of}
use Rattle.board_groups.proofs.shares.first_wire.Given as goal

abbrev pub invariant-loop-tap : goal.invariant-loop-tap
invariant-loop-tap l = (i : ℕ) → i < l.tap-index → key_of l.wires l.taps i ≡ key_of l.wires l.taps l.k → ⊥
