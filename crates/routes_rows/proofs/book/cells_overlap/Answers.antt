-- `cells_overlap` meets its contract. Assumes nothing.
use mathlib.Core.Path.{refl}
use Rattle.board.specs.Rows.{cells_overlap}
use Rattle.routes_rows.proofs.book.cells_overlap.Goals as goal

pub returns : goal.returns
unfolding cells_overlap
returns c = refl
