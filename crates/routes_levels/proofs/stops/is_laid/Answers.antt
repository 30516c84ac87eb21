-- Whether a group's taps are laid: it has a lane, and the lane is long enough.
use mathlib.Core.Path.{ap, ◌∙◌}
use mathlib.Core.Bool.{not}
use borrow.Author.Tests.{eq-eqb}
use Rattle.routes_levels.proofs.StopLaws.{laid_none, laid_long}
use Rattle.routes_levels.proofs.stops.is_laid.Goals as goal

pub returns-then-groups-g : goal.returns-then-groups-g
returns-then-groups-g c b ts ps t a m e = laid_long b ts ps _ _ _ a t m _ e c.requires c.if-groups-g.true _ (c.long_enough.ensures b ts ps t a m e)

pub returns-else-groups-g : goal.returns-else-groups-g
returns-else-groups-g c b ts ps t a m e = ap not (eq-eqb _ _ c.if-groups-g.false) ∙ laid_none b ts ps _ _ _ a t m _ e c.requires c.if-groups-g.false
