-- `sheet::line::allowed` meets its contract, by cases. Assumes nothing.
use Rattle.std.proofs.Common.{refl}
use Rattle.sheet.specs.Record.{allowed}
use Rattle.sheet.proofs.line.allowed.Goals as goal

pub returns-in-Never : goal.returns-in-Never
unfolding allowed
returns-in-Never c = rw c.in-Never.is

pub returns-in-May : goal.returns-in-May
unfolding allowed
returns-in-May c = rw c.in-May.is

pub returns-in-AsBefore : goal.returns-in-AsBefore
unfolding allowed
returns-in-AsBefore c = rw c.in-AsBefore.is refl
