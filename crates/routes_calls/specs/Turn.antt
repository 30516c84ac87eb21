-- What the corner pass starts from, of a board whose sections are cut. No rule stands here.
use Rattle.std.specs.Prelude.{ℕ, List}
use Rattle.board.specs.Board.{Board}
use Rattle.routes_corners.specs.CornerTables.{BoardOf}
use Rattle.routes_corners.specs.Turning.{BoardFits}

-- These are a board's sections with its facts, and they fit together: what tells which wires may turn.
pub record BoardKnown (b : Board) (pages nodes wires facts : List (List ℕ)) : Type 0 where
  pub sections : BoardOf b pages nodes wires facts
  pub fits : BoardFits pages nodes wires facts
