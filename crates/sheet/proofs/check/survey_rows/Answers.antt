use Rattle.std.proofs.Common.{sym, refl, ap, ◌∙◌, Err, arith}
use Rattle.sheet.proofs.Surveys.{tally_start, tally_unread, tally_unordered, tally_step, tally_ends}
use Rattle.sheet.proofs.Keeping.{keeping_start, keeping_step, keeping_ends, surveyed_refused}
use Rattle.sheet.proofs.check.survey_rows.Goals as goal

pub loop-at-init : goal.loop-at-init
loop-at-init c = (tally_start c.args.text.now c.args.most, keeping_start c.args.text.now c.args.rows.now)

pub returns-in_default : goal.returns-in_default
returns-in_default c = surveyed_refused (tally_unread c.loop-at.invariant.0 c.loop-at-test.true c.in_default.ensures.says) (ap Err c.at.ensures)

pub returns-then-s-section : goal.returns-then-s-section
returns-then-s-section c = surveyed_refused (tally_unordered c.loop-at.invariant.0 c.in-Some.ensures.says c.if-s-section.true) (ap Err c.at-then-s-section.ensures)

pub loop-at-preserved : goal.loop-at-preserved
loop-at-preserved c = let x = c.in-Some.ensures in (
  tally_step c.loop-at.invariant.0 x.says _ refl c.if-s-section.false _ _ c.first_of-over.ensures c.first_of-wide.ensures,
  keeping_step c.loop-at.invariant.1 x _ c.rest_of-rest.ensures,
)

pub returns : goal.returns
returns c = let l = c.loop-at in
    let over = c.loop-at-test.false in
    (l.rest, c.survey_by.ensures ∙ sym (tally_ends l.invariant.0 over _ c.from.ensures (omega arith)), λ rows e. keeping_ends l.invariant.1 over)
