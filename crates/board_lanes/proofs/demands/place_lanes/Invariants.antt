-- The demands not yet reached are the first ones, and those behind them have their lanes.
use Rattle.board_lanes.proofs.PageLaws.{LanesLeft}
use Rattle.board_lanes.proofs.demands.place_lanes.Given as goal

abbrev pub invariant-loop-demand : goal.invariant-loop-demand
invariant-loop-demand l = LanesLeft l.demands l.initial.groups l.demand-iterator.iter.rest.now l.groups
