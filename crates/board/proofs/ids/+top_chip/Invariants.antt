-- `top_chip` meets its contract: the record found names the parent, and the search goes on below it. The measure is the record's position. Assumes nothing.
use lib.ListN.{length}
use Rattle.board.proofs.ids.+top_chip.Given as goal

abbrev pub decreases-top_chip : goal.decreases-top_chip
decreases-top_chip l = length l.chips.now
