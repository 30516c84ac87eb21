use Rattle.std.proofs.Common.{rules}
use Rattle.sheet.proofs.Writing.{number_missing, number_given}
use Rattle.sheet.proofs.write.put_number.Goals as goal

pub returns-then-n-eq-MISSING : goal.returns-then-n-eq-MISSING
returns-then-n-eq-MISSING c = rw (number_missing c.args.n (search rules)) c.put_byte.ensures

pub returns : goal.returns
returns c = rw (number_given c.args.n (search rules)) c.put_decimal.ensures
