-- `sheet::read_sheet` meets its contract. Assumes nothing.
use Rattle.std.proofs.Common.{ℕ, List, ◌++◌, drop, length-take-le, sym, ap, ◌∙◌}
use Rattle.sheet.specs.Reading.{reading}
use Rattle.base.proofs.Passing.{passed}
use Rattle.sheet.proofs.Answers.{survey_is, read_refused, read_short, read_fine, fill_asks}
use Rattle.sheet.proofs.read_sheet.Goals as goal

pub returns-in_err-found : goal.returns-in_err-found
returns-in_err-found c = let a = c.args in
    let s = c.survey_sheet.ensures in
    let r = read_refused (reading a.most a.text.now) s.0 _ a.rows.now (sym c.in_err-found.was ∙ survey_is a.most a.text.now c.from.result s.0 c.survey_sheet.result c.from.ensures s.1) in
    (passed c.from_residual.result _ c.from_residual.ensures.1 ∙ r.0, r.1)

pub returns-then-rows-lines : goal.returns-then-rows-lines
returns-then-rows-lines c = let a = c.args in
    let s = c.survey_sheet.ensures in
    rw c.at.ensures
    (read_short (reading a.most a.text.now) s.0 _ a.rows.now (sym c.in_ok-found.was ∙ survey_is a.most a.text.now c.from.result s.0 c.survey_sheet.result c.from.ensures s.1) c.if-rows-lines.true)

pub fill_rows-requires : goal.fill_rows-requires
fill_rows-requires c = let a = c.args in
    let s = c.survey_sheet.ensures in
    let f = fill_asks a.most a.text.now s.0 _ (sym c.in_ok-found.was ∙ survey_is a.most a.text.now c.from.result s.0 c.survey_sheet.result c.from.ensures s.1) in
    (length-take-le _ _ c.if-rows-lines.false ∙ f.0, f.1)

pub returns : goal.returns
returns c = let a = c.args in
    let s = c.survey_sheet.ensures in
    read_fine a.most a.text.now s.0 _ a.rows.now _ (sym c.in_ok-found.was ∙ survey_is a.most a.text.now c.from.result s.0 c.survey_sheet.result c.from.ensures s.1) c.if-rows-lines.false (ap (λ (l : List (List ℕ)). l ++ drop c.in_ok-found.found.lines a.rows.now) c.fill_rows.ensures)
