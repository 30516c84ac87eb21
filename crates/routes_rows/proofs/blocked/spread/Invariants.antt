-- `spread` meets its contract: the ends gone through are spread; `furthest` is the furthest of them. Assumes nothing.
use Rattle.routes_rows.proofs.Blocking.{Spreading}
use Rattle.routes_rows.proofs.blocked.spread.Given as goal

abbrev pub invariant-loop-end : goal.invariant-loop-end
invariant-loop-end l = Spreading l.initial.ends l.furthest l.end-index l.ends
