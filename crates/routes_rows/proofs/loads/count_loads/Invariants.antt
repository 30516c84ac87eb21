-- `count_loads` meets its contract: the corners gone through are counted. Assumes nothing.
use Rattle.routes_rows.proofs.LoadLaws.{Counting}
use Rattle.routes_rows.proofs.loads.count_loads.Given as goal

abbrev pub invariant-loop-q : goal.invariant-loop-q
invariant-loop-q l = Counting l.initial.notes l.sink l.x0 l.q l.notes
