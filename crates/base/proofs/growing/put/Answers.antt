-- `put` meets its contract. Assumes nothing.
use Rattle.std.proofs.Common.{arith}
use mathlib.Core.Path.{refl}
use Rattle.base.proofs.growing.put.Goals as goal

pub take_one-requires : goal.take_one-requires
take_one-requires g c = (omega arith, omega arith)

pub returns : goal.returns
returns g c = record { onward = c.take_one.ensures.1; value = rw c.take_one.ensures.0 refl }
