use mathlib.Core.Path.{ap}
use mathlib.Core.Bool.{not}
use lib.ListN.{length}
use borrow.Author.Tests.{ne_eqb}
use Rattle.sheet.specs.Table.{MISSING}
use Rattle.base.proofs.Bools.{clash}
use Rattle.board_lanes.proofs.PageLaws.{page_few}
use Rattle.board_lanes.proofs.demands.plan_gutter.Goals as goal

pub returns : goal.returns
returns c = record {
  without = λ h. clash (ap not (ne_eqb _ MISSING c.if-page.false)) h;
  within = λ h. c.plan_page.ensures;
  few = page_few c.args.asking.taps.now c.args.groups.now c.args.asking.marks.now (length c.args.asking.taps.now) c.args.p c.requires.packable _ c.plan_page.result c.plan_page.ensures;
}
