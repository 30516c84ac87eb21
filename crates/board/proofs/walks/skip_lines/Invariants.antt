-- `skip_lines` meets its contract: `k` lines are behind, those that have rows among them. Assumes nothing.
use Prim.Native.Nat.{◌≤◌, max}
use lib.ListN.{length}
use Rattle.board.specs.Walk.{Ready}
use Rattle.board.proofs.walks.skip_lines.Given as goal

abbrev pub invariant-loop-k : goal.invariant-loop-k
invariant-loop-k l = (l.k ≤ max l.n (length l.rows)) × Ready l.text l.rows l.k l.place
