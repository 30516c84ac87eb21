-- `find` meets its contract: the link at hand leads to every entry that has the id. Assumes nothing.
use Rattle.board.proofs.Newest.{IdChain}
use Rattle.board.proofs.ids.IdIndex.find.Given as goal

abbrev pub invariant-loop-link : goal.invariant-loop-link
invariant-loop-link l = IdChain l.self.rows.now l.wanted l.self.count l.link

abbrev pub decreases-loop-link : goal.decreases-loop-link
decreases-loop-link l = l.link
