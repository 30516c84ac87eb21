use Rattle.std.proofs.Common.{◌≡◌, ℕ, ◌+◌, ◌-◌, ◌/◌, ◌%◌, [], ◌∷◌, subst, arith, rules}
use Rattle.sheet.specs.Number.{ZERO}
use Rattle.sheet.specs.Written.{Wrote}
use Rattle.sheet.proofs.Writing.{wrote_none, wrote_one, wrote_last, digits_length}
use Rattle.sheet.proofs.write.+put_digits.Goals as goal

pub returns-then-most-eq0 : goal.returns-then-most-eq0
returns-then-most-eq0 t c = wrote_none _ _ _ _ c.if-most-eq0.true

pub returns-then-n-lt10 : goal.returns-then-n-lt10
returns-then-n-lt10 t c = let a = c.args in
    let small : a.n ≡ a.n % 10 = omega (arith, c.if-n-lt10.true) in
    wrote_one _ _ _ _ _ _ c.if-most-eq0.false (search rules) (subst (λ (d : ℕ). Wrote a.out.now a.at ((ZERO + d) ∷ []) c.put_byte.new.out c.put_byte.result) small c.put_byte.ensures)

pub put_byte-requires-2 : goal.put_byte-requires-2
put_byte-requires-2 t c = omega (
  arith,
  c.if-most-eq0.false,
  c.put_digits-last.ensures.place,
  c.put_digits-last.auto.out,
  digits_length (c.args.most - 1) (c.args.n / 10),
)

pub returns : goal.returns
returns t c = wrote_last _ _ _ _ _ _ _ _ c.if-most-eq0.false c.if-n-lt10.false c.requires c.put_digits-last.ensures c.put_byte-2.ensures
