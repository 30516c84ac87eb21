-- Whether a group's lane is long enough: by the x of its source anchor and the least and greatest x of its taps.
use Rattle.routes_levels.proofs.StopLaws.{long_unplaced, long_placed}
use Rattle.routes_levels.proofs.stops.long_enough.Goals as goal

pub returns-then-x : goal.returns-then-x
returns-then-x c b ts ps t a m e = long_unplaced b ts ps _ _ _ a t m _ e c.requires c.if-x.true

pub returns : goal.returns
returns c b ts ps t a m e = long_placed b ts ps _ _ _ a t m _ e c.requires c.if-x.false _ _ c.min-low.ensures c.max-high.ensures
