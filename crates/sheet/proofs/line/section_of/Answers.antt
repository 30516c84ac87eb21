-- `sheet::line::section_of` meets its contract. Assumes nothing.
use Rattle.std.proofs.Common.{arith, refl}
use Rattle.sheet.specs.Record.{place_of}
use Rattle.sheet.proofs.Cells.{no_section}
use Rattle.sheet.proofs.line.section_of.Goals as goal

pub returns-in-80 : goal.returns-in-80
unfolding place_of
returns-in-80 c = rw c.in-80.is (omega arith, refl)

pub returns-in-78 : goal.returns-in-78
unfolding place_of
returns-in-78 c = rw c.in-78.is (omega arith, refl)

pub returns-in-67 : goal.returns-in-67
unfolding place_of
returns-in-67 c = rw c.in-67.is (omega arith, refl)

pub returns-in-70 : goal.returns-in-70
unfolding place_of
returns-in-70 c = rw c.in-70.is (omega arith, refl)

pub returns-in-88 : goal.returns-in-88
unfolding place_of
returns-in-88 c = rw c.in-88.is (omega arith, refl)

pub returns-in-87 : goal.returns-in-87
unfolding place_of
returns-in-87 c = rw c.in-87.is (omega arith, refl)

pub returns-in_default : goal.returns-in_default
returns-in_default c = let r = c.in_default.in_default-own.rest in no_section c.args.b r.0.0.0.0.0.1 r.0.0.0.0.1 r.0.0.0.1 r.0.0.1 r.0.1 r.1
