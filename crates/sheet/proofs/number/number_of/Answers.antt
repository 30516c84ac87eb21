-- `sheet::number::number_of` meets its contract: the first byte tells whether a sign stands there. Assumes nothing.
use Rattle.std.proofs.Common.{◌∙◌}
use Rattle.sheet.proofs.Numbers.{number_none, number_minus, number_digit, number_other}
use Rattle.sheet.proofs.number.number_of.Goals as goal

pub returns-in_err-first : goal.returns-in_err-first
returns-in_err-first c = rw c.from_residual.ensures (number_none c.args.field.now c.in_err-first.ensures.cases)

pub returns-in_err-unsigned_of : goal.returns-in_err-unsigned_of
returns-in_err-unsigned_of c = rw (c.in_ok-first.ensures.cases.0, c.in-Some.ensures.2, c.from_residual-in_err-unsigned_of.ensures) (c.in_err-unsigned_of.ensures ∙ number_digit _ _)

pub returns-in-Some : goal.returns-in-Some
returns-in-Some c = rw (c.in_ok-first.ensures.cases.0, c.in-Some.ensures.2) (c.in_ok-unsigned_of.ensures ∙ number_digit _ _)

pub returns-then-first-eq-MINUS : goal.returns-then-first-eq-MINUS
returns-then-first-eq-MINUS c = rw c.in_ok-first.ensures.cases.0 (c.signed_of.ensures ∙ number_minus _ _ c.if-first-eq-MINUS.true)

pub returns : goal.returns
returns c = rw c.in_ok-first.ensures.cases.0 (number_other _ _ c.in_default.ensures c.if-first-eq-MINUS.false)
