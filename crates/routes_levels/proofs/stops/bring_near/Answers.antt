-- `bring_near` meets its contract: the rows copied along sorted keys are those given in another order. Assumes nothing.
use borrow.Author.Rules.{rules}
use Rattle.routes_levels.proofs.NearLaws.{row_there, near_sorted}
use Rattle.routes_levels.proofs.stops.bring_near.Goals as goal

pub copy_along-requires-clause-by_index : goal.copy_along-requires-clause-by_index
copy_along-requires-clause-by_index c = row_there c.fill_keys.new.keys c.sort_keys.new.keys c.args.from.now (search rules) c.fill_keys.ensures c.sort_keys.ensures

pub returns : goal.returns
returns c = near_sorted c.fill_keys.new.keys c.sort_keys.new.keys c.args.from.now (search rules) c.fill_keys.ensures c.sort_keys.ensures c.copy_along.new.to c.copy_along.ensures
