-- `sheet::check_rows` meets its contract. Assumes nothing.
use Rattle.sheet.proofs.Answers.{surveyed_is}
use Rattle.sheet.proofs.check_rows.Goals as goal

pub returns : goal.returns
returns c = surveyed_is c.args.most c.args.text.now c.from.result c.from.ensures c.survey_rows.ensures
