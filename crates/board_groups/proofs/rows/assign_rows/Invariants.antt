-- `assign_rows` meets its contract: the nodes of the keys behind have their rows. Assumes nothing.
use Prim.Native.Nat.{◌≤◌}
use Rattle.std.specs.Prelude.{IfSome}
use Rattle.board.specs.Board.{Board}
use Rattle.board_groups.specs.Collecting.{Ranked}
use Rattle.board_groups.proofs.KeyLaws.{Walked, run_or_none}
use Rattle.board_groups.proofs.rows.assign_rows.Given as goal

abbrev pub invariant-loop-key : goal.invariant-loop-key
invariant-loop-key l = IfSome l.before (λ run. run.row ≤ l.key-index) × ((b : Board) → Ranked b l.keys → Walked b l.keys l.facts l.key-index (run_or_none l.before))
