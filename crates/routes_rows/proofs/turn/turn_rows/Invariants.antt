-- `turn_rows` meets its contract: a turn knows what stands on the row at hand, and the answers so far. Assumes nothing.
use Rattle.routes_rows.proofs.Standings.{Standing}
use Rattle.routes_rows.proofs.turn.turn_rows.Given as goal

abbrev pub invariant-loop-p : goal.invariant-loop-p
invariant-loop-p l = Standing l.items l.first l.initial.notes l.initial.answers l.p l.n l.cells l.notes l.answers
