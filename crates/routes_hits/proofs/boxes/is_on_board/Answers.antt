-- `boxes::is_on_board` meets its contract. Assumes nothing.
use mathlib.Core.Path.{refl}
use Rattle.routes_hits.specs.Hits.{on_board}
use Rattle.routes_hits.proofs.boxes.is_on_board.Goals as goal

pub returns : goal.returns
unfolding on_board
returns c = rw (c.lifted-4.ensures, c.lifted-3.ensures, c.lifted-2.ensures, c.lifted.ensures) refl
