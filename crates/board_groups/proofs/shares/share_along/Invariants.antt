-- `share_along` meets its contract: the taps passed have their groups. Assumes nothing.
use Rattle.board_groups.proofs.ShareLaws.{Walked}
use Rattle.board_groups.proofs.shares.share_along.Given as goal

abbrev pub invariant-loop-p : goal.invariant-loop-p
invariant-loop-p l = Walked l.wires l.initial.taps l.taps l.keys l.p
