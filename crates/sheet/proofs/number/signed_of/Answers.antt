-- `sheet::number::signed_of` meets its contract. Assumes nothing.
use Rattle.std.proofs.Common.{sym}
use Rattle.sheet.proofs.Numbers.{unsigned_other, signed_none, signed_bad, signed_zero, signed_minus}
use Rattle.sheet.proofs.number.signed_of.Goals as goal

pub returns-in_default : goal.returns-in_default
returns-in_default c = signed_none c.args.bytes.now c.in_default.ensures.cases

pub returns-in_err-digit_of : goal.returns-in_err-digit_of
returns-in_err-digit_of c = rw (c.in-Some.ensures.cases.0, c.from_residual.ensures) (signed_bad _ _ (sym (unsigned_other _ _ c.in_err-digit_of.ensures)))

pub returns-in_err-v : goal.returns-in_err-v
returns-in_err-v c = rw (c.in-Some.ensures.cases.0, c.in_ok-digit_of.ensures.2, c.from_residual-in_err-v.ensures) (signed_bad _ _ c.in_err-v.ensures)

pub returns-then-v-eq0 : goal.returns-then-v-eq0
returns-then-v-eq0 c = rw (c.in-Some.ensures.cases.0, c.in_ok-digit_of.ensures.2) (signed_zero _ _ _ c.in_ok-v.ensures c.if-v-eq0.true)

pub returns : goal.returns
returns c = rw (c.in-Some.ensures.cases.0, c.in_ok-digit_of.ensures.2) (signed_minus _ _ _ c.in_ok-v.ensures c.if-v-eq0.false)
