-- `sheet::number::unsigned_of` meets its contract: each test is one of `plain`'s, and digits are left. Assumes nothing.
use Rattle.std.proofs.Common.{◌<◌, length, sym, ap, ◌∙◌, arith, rules}
use Rattle.sheet.specs.Walk.{plus_in}
use Rattle.sheet.proofs.Numbers.{unsigned_one, unsigned_zero, unsigned_many, unsigned_digits}
use Rattle.sheet.proofs.number.unsigned_of.Goals as goal

pub returns-then-is_empty : goal.returns-then-is_empty
returns-then-is_empty c = sym (unsigned_one c.args.first c.requires c.args.rest.now (search rules))

pub returns-then-first-eq0 : goal.returns-then-first-eq0
returns-then-first-eq0 c = sym (unsigned_zero c.args.first c.requires c.args.rest.now (search rules) c.if-first-eq0.true)

pub returns-then-rest-ge-DIGITS_MOST : goal.returns-then-rest-ge-DIGITS_MOST
returns-then-rest-ge-DIGITS_MOST c = sym (unsigned_many _ (omega (arith, c.if-rest-ge-DIGITS_MOST.true)))

pub returns : goal.returns
returns c = let few : length c.args.rest.now < 10 = omega (arith, c.if-rest-ge-DIGITS_MOST.false) in
    sym (unsigned_digits c.args.first c.requires c.args.rest.now c.if-first-eq0.false few ∙ ap plus_in (sym c.digits_of.ensures))
