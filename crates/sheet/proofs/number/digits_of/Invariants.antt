-- `sheet::number::digits_of` meets its contract. The digits passed have written a value below their power of ten, so ten digits fit; the rest goes on from it.
-- Assumes nothing.
use Rattle.std.proofs.Common.{◌≡◌, suc, ◌^◌, ◌<◌, drop}
use Rattle.sheet.specs.Walk.{digits_read}
use Rattle.sheet.proofs.number.digits_of.Given as goal

abbrev pub invariant-loop-b : goal.invariant-loop-b
invariant-loop-b l = (l.value < 10 ^ suc l.b-index) × (digits_read l.first l.rest ≡ digits_read l.value (drop l.b-index l.rest))
