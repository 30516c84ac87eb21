use Rattle.std.proofs.Common.{◌-◌, [], ◌∷◌, arith, rules}
use Rattle.sheet.specs.Number.{MINUS}
use Rattle.sheet.specs.Table.{ORIGIN}
use Rattle.sheet.specs.Written.{decimal}
use Rattle.sheet.proofs.Writing.{wrote_more, decimal-length, coordinate_below, coordinate_above}
use Rattle.sheet.proofs.write.put_coordinate.Goals as goal

pub returns-then-held-lt-ORIGIN : goal.returns-then-held-lt-ORIGIN
returns-then-held-lt-ORIGIN c = let few = decimal-length (ORIGIN - c.args.held) in
    let room = c.requires in
    rw (coordinate_below c.args.held (search rules))
    (wrote_more _ _ _ _ _ _ (MINUS ∷ []) (decimal (ORIGIN - c.args.held)) (omega arith) c.put_byte-next.ensures c.put_decimal.ensures)

pub returns : goal.returns
returns c = rw (coordinate_above c.args.held (search rules)) c.put_decimal-2.ensures
