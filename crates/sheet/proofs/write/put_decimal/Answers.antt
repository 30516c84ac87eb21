use Rattle.sheet.specs.Written.{decimal}
use Rattle.sheet.proofs.write.put_decimal.Goals as goal

pub returns : goal.returns
unfolding decimal
returns c = c.put_digits.ensures
