-- `fill_keys` meets its contract: the keys filled have their numbers behind them. Assumes nothing.
use Rattle.routes_levels.specs.Laying.{Numbered}
use Rattle.routes_levels.proofs.stops.fill_keys.Given as goal

abbrev pub invariant-loop-i : goal.invariant-loop-i
invariant-loop-i l = Numbered l.keys l.i
