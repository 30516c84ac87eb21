use mathlib.Core.Path.{◌≡◌, refl, sym, ap, ◌∙◌}
use Rattle.std.proofs.Common.{Err}
use mathlib.Core.Bool.{true, false}
use Rattle.board_plan.specs.TextPlan.{fits_counts, fits_lent}
use Rattle.board_plan.proofs.Reading.{counts_few, fits_counted, lent_unfit, lent_fits, board_read}
use Rattle.board_plan.proofs.plan_fitting.Goals as goal

pub fits-requires : goal.fits-requires
fits-requires c = let b = c.requires.board_checked in counts_few b.0 c.args.counts b.1.counted b.1.accepted

pub returns-then-not-fits : goal.returns-then-not-fits
returns-then-not-fits c b checked = let a = c.args in
    let e : fits_counts a.lent a.counts ≡ false = sym c.fits.ensures ∙ c.if-not-fits.true in
    rw (lent_unfit (fits_lent a.lent) b (fits_counted a.lent b a.counts false checked.counted e)) (ap Err c.at.ensures)

pub plan_rows-requires : goal.plan_rows-requires
plan_rows-requires c =
    let enough : fits_counts c.args.lent c.args.counts ≡ true = sym c.fits.ensures ∙ c.if-not-fits.false in
    (c.requires.board_checked.0, board_read c.requires.board_checked.1 c.args.lent (enough) c.requires.work_lent)

pub shape_of-facts : goal.shape_of-facts
shape_of-facts c = c.plan_rows.auto.facts

pub shape_of-taps : goal.shape_of-taps
shape_of-taps c = c.plan_rows.auto.taps

pub shape_of-groups : goal.shape_of-groups
shape_of-groups c = c.plan_rows.auto.groups

pub shape_of-demands : goal.shape_of-demands
shape_of-demands c = c.plan_rows.auto.demands

pub shape_of-keys : goal.shape_of-keys
shape_of-keys c = c.plan_rows.auto.keys

pub shape_of-spare : goal.shape_of-spare
shape_of-spare c = c.plan_rows.auto.spare

pub returns : goal.returns
returns c b checked =
    let enough : fits_counts c.args.lent c.args.counts ≡ true = sym c.fits.ensures ∙ c.if-not-fits.false in
    let fits = enough in
    rw (lent_fits (fits_lent c.args.lent) b (fits_counted c.args.lent b c.args.counts true checked.counted fits))
    (c.plan_rows.result, refl, c.plan_rows.ensures b (board_read checked c.args.lent fits c.requires.work_lent))
