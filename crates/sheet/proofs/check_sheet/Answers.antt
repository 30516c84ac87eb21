-- `sheet::check_sheet` meets its contract. Assumes nothing.
use Rattle.std.proofs.Common.{sym, ◌∙◌}
use Rattle.sheet.specs.Reading.{reading}
use Rattle.base.proofs.Passing.{passed}
use Rattle.sheet.proofs.Answers.{survey_is, checked_refused, checked_fine}
use Rattle.sheet.proofs.check_sheet.Goals as goal

pub returns-in_err-found : goal.returns-in_err-found
returns-in_err-found c = let a = c.args in
    let s = c.survey_sheet.ensures in
    passed c.from_residual.result _ c.from_residual.ensures.1
    ∙ checked_refused (reading a.most a.text.now) s.0 _ (sym c.in_err-found.was ∙ survey_is a.most a.text.now c.from.result s.0 c.survey_sheet.result c.from.ensures s.1)

pub returns : goal.returns
returns c = let a = c.args in
    let s = c.survey_sheet.ensures in
    checked_fine (reading a.most a.text.now) s.0 _ (sym c.in_ok-found.was ∙ survey_is a.most a.text.now c.from.result s.0 c.survey_sheet.result c.from.ensures s.1)
