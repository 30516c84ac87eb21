-- `block_row` meets its contract: what is blocked, with what is booked before the k-th item, is what all block. Assumes nothing.
use Rattle.routes_rows.specs.Entries.{row_before}
use Rattle.routes_rows.proofs.EntryLaws.{Barring, Back}
use Rattle.routes_rows.proofs.standing.block_row.Given as goal

abbrev pub invariant-loop-k : goal.invariant-loop-k
invariant-loop-k l = Back l.items l.p l.key l.k × Barring l.span (row_before l.items l.first l.answers l.p) l.initial.ends (row_before l.items l.first l.answers l.k) l.ends
