use Rattle.board_plan.proofs.PageRows.{band_none, band_some}
use Rattle.board_plan.proofs.band.Goals as goal

pub returns-then-lanes-eq0 : goal.returns-then-lanes-eq0
returns-then-lanes-eq0 c = band_none c.args.lanes c.if-lanes-eq0.true

pub returns-else-lanes-eq0 : goal.returns-else-lanes-eq0
returns-else-lanes-eq0 c = band_some c.args.lanes c.if-lanes-eq0.false
