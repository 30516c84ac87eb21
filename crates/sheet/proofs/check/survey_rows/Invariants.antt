-- `sheet::check::survey_rows` meets its contract. The pass keeps, at each line, the first line of each refusal so far, how many records there are, and the rows of
-- the lines behind. Assumes nothing.
use Rattle.std.proofs.Common.{◌+◌, ◌-◌, length}
use Rattle.sheet.proofs.Surveys.{Tallied}
use Rattle.sheet.proofs.Keeping.{Keeping}
use Rattle.sheet.proofs.check.survey_rows.Given as goal

abbrev pub invariant-loop-at : goal.invariant-loop-at
invariant-loop-at l = Tallied l.text l.most l.section l.counts l.over l.wide l.at (l.k + 1) × Keeping l.text l.rows l.k l.at l.rest

abbrev pub decreases-loop-at : goal.decreases-loop-at
decreases-loop-at l = length l.text - l.at
