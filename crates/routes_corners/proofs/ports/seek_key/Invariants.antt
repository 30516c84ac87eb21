-- `seek_key` meets its contract: the keys in front of the place at hand are below. Assumes nothing.
use Rattle.std.proofs.Common.{ℕ, ◌<◌, ◌≤◌, length, get_or}
use Rattle.routes_corners.proofs.ports.seek_key.Given as goal

abbrev pub invariant-loop-p : goal.invariant-loop-p
invariant-loop-p l = (l.p ≤ length l.keys) × ((i : ℕ) → i < l.p → get_or l.keys i 0 < l.key)
