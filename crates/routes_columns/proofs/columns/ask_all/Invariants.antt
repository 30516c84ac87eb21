-- `ask_all` meets its contract: after k taps the claims and the rows are theirs. Assumes nothing.
use lib.ListN.{length}
use Rattle.routes_columns.specs.Columns.{SamePlaces}
use Rattle.routes_columns.proofs.Walking.{Come}
use Rattle.routes_columns.proofs.columns.ask_all.Given as goal

abbrev pub invariant-loop-k : goal.invariant-loop-k
invariant-loop-k l = SamePlaces l.initial.claims l.claims
    × Come l.s.pages.now l.s.nodes.now l.s.wires.now l.laid.facts.now l.laid.groups.now l.laid.taps.now (length l.laid.taps.now) l.stops (length l.stops) l.initial.claims.starts l.claims.nexts l.claims.xs l.asked l.reached l.k
