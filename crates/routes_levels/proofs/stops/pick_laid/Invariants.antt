-- The taps of laid groups, newest first: the rows picked so far, then those of the laid taps that are left, are the rows of all laid taps.
use Rattle.routes_levels.proofs.PickLaws.{PickLeft}
use Rattle.routes_levels.proofs.stops.pick_laid.Given as goal

abbrev pub invariant-loop-tap : goal.invariant-loop-tap
invariant-loop-tap l = PickLeft l.nodes l.facts l.groups l.taps l.laid l.n l.tap-iterator.iter.rest.now
