-- What is written is read back as the same number.
use Rattle.std.proofs.Common.{◌≡◌, ℕ, zero, suc, ◌+◌, ◌-◌, ◌*◌, ◌/◌, ◌%◌, ◌^◌, ◌<◌, ◌≤◌, Bool, true, false, ◌&&◌, eqb, ltb, leb, List, [], ◌∷◌, ◌++◌, length, get_or, sym, refl, ap, ◌∙◌, subst, pow-suc, arith, length-append, ltb-false, ltb-true, ne_eqb, eqb-true, le-leb, leb-true}
use lib.ListN.{get_or-append}
use borrow.Author.Tests.{eqb-false}
use Rattle.sheet.specs.declared.table.Gap.{Gap}
use Rattle.std.specs.Prelude.{Ok}
use Rattle.sheet.specs.Number.{missing, plus, minus, digit, all_digits, value_from, no_leading_zero, plain, unsigned, signed, number, ZERO, NINE, MINUS, digits_most}
use Rattle.sheet.specs.Table.{ORIGIN, MISSING, COORDINATE_MOST, coordinate}
use Rattle.sheet.specs.Record.{present}
use Rattle.sheet.specs.Written.{digits_of, decimal, coordinate_text, number_text, coordinate_of}
use Rattle.base.proofs.Bools.{and_left}
use Rattle.sheet.proofs.Cells.{within_holds}
use Rattle.sheet.proofs.Writing.{digits_one, digits_more, decimal-length, coordinate_below, coordinate_above, number_missing, number_given}

-- one digit more at the end
value_snoc : (v : ℕ) (xs : List ℕ) (b : ℕ) → value_from v (xs ++ (b ∷ [])) ≡ value_from v xs * 10 + (b - ZERO)
unfolding value_from
value_snoc v [] b = refl
value_snoc v (x ∷ xs) b = value_snoc (v * 10 + (x - ZERO)) xs b

all_snoc : (xs : List ℕ) (b : ℕ) → all_digits xs ≡ true → digit b ≡ true → all_digits (xs ++ (b ∷ [])) ≡ true
unfolding all_digits
all_snoc [] b a d = rw d
all_snoc (x ∷ xs) b a d = go (digit x) (all_digits xs) (all_snoc xs b) a
  where
    go : (p q : Bool) → (q ≡ true → digit b ≡ true → all_digits (xs ++ (b ∷ [])) ≡ true) → (p && q) ≡ true → (p && all_digits (xs ++ (b ∷ []))) ≡ true
    go true q h a = h a d
    go false q h a = a

a_digit : (n : ℕ) → n < 10 → digit (ZERO + n) ≡ true
a_digit n h = rw (le-leb ZERO (ZERO + n) (omega arith), le-leb (ZERO + n) NINE (omega arith))

-- the digits of a number below a power of ten
pub record Digital (k n : ℕ) : Type 0 where
  pub value : value_from 0 (digits_of k n) ≡ n
  pub digits : all_digits (digits_of k n) ≡ true
  -- a number above zero has digits, and does not start with 0
  pub first : 0 < n → (0 < length (digits_of k n)) × (ZERO < get_or (digits_of k n) 0 0)

digital_one : (k n : ℕ) → n < 10 → Digital (suc k) n
unfolding value_from all_digits
digital_one k n h =
    let small : n % 10 ≡ n = omega arith in
    let one = digits_one (suc k) n (omega arith) h in
    record {
      value = rw one (omega arith);
      digits = rw one (rw (a_digit (n % 10) (omega arith)));
      first = λ p. (rw one (omega arith), rw one (omega arith));
    }

digital_more : (k n : ℕ) → 10 ≤ n → Digital k (n / 10) → Digital (suc k) n
digital_more k n h d =
    let less : suc k - 1 ≡ k = omega arith in
    let more : digits_of (suc k) n ≡ digits_of k (n / 10) ++ ((ZERO + n % 10) ∷ []) = digits_more (suc k) n (omega arith) h ∙ rw less in
    let f = d.first (omega arith) in
    record {
      value = ap (value_from 0) more ∙ (value_snoc 0 (digits_of k (n / 10)) (ZERO + n % 10) ∙ (rw d.value (omega arith)));
      digits = ap all_digits more ∙ all_snoc (digits_of k (n / 10)) (ZERO + n % 10) d.digits (a_digit (n % 10) (omega arith));
      first = λ p. (
        omega (arith, f.0, ap length more ∙ length-append (digits_of k (n / 10)) ((ZERO + n % 10) ∷ [])),
        omega (arith, f.1, ap (λ (l : List ℕ). get_or l 0 0) more ∙ get_or-append (digits_of k (n / 10)) ((ZERO + n % 10) ∷ []) 0 0 f.0),
      );
    }

digital : (k n : ℕ) → n < 10 ^ k → Digital k n
unfolding digits_of value_from all_digits
digital zero n h = record { value = omega arith; digits = refl; first = λ p. absurd (omega arith) }
digital (suc k) n h = go (ltb n 10) refl (digital k (n / 10))
  where
    go : (b : Bool) → ltb n 10 ≡ b → (n / 10 < 10 ^ k → Digital k (n / 10)) → Digital (suc k) n
    go true e d = digital_one k n (ltb-true n 10 e)
    go false e d = digital_more k n (ltb-false n 10 e) (d (omega (arith, pow-suc 10 k)))

-- digits without a leading zero are plain
plain_digits : (xs : List ℕ) → all_digits xs ≡ true → length xs ≤ digits_most → (0 < length xs) × (ZERO < get_or xs 0 0) → plain xs ≡ true
unfolding plain no_leading_zero
plain_digits [] a l f = absurd (omega arith)
plain_digits (b ∷ []) a l f = rw (a, le-leb 1 digits_most l)
plain_digits (b ∷ c ∷ xs) a l f = rw (a, ne_eqb b ZERO (λ (e : b ≡ ZERO). omega arith), le-leb (length (b ∷ c ∷ xs)) digits_most l)

-- digits are no sign
unsigned_digits : (xs : List ℕ) → all_digits xs ≡ true → number xs ≡ unsigned xs
unfolding number unsigned all_digits
unsigned_digits [] a = refl
unsigned_digits (b ∷ xs) a =
    let low : ZERO ≤ b = leb-true ZERO b (and_left (leb ZERO b) (leb b NINE) (and_left (digit b) (all_digits xs) a)) in
    rw (ne_eqb b MINUS (λ (e : b ≡ MINUS). omega arith), number)

-- plain digits are the number of their value, and below zero after a `-`
number_is : (xs : List ℕ) (n : ℕ) → all_digits xs ≡ true → plain xs ≡ true → value_from 0 xs ≡ n → number xs ≡ plus n
unfolding unsigned
number_is xs n a p v = unsigned_digits xs a ∙ rw (p, unsigned) (ap plus v)

minus_is : (xs : List ℕ) (n : ℕ) → plain xs ≡ true → value_from 0 xs ≡ n → 0 < length xs → 0 < n → number (MINUS ∷ xs) ≡ minus n
unfolding number signed
minus_is [] n p v l h = absurd (omega arith)
minus_is (b ∷ xs) n p v l h = rw (p, ne_eqb (value_from 0 (b ∷ xs)) 0 (λ (e : value_from 0 (b ∷ xs) ≡ 0). omega arith), signed) (ap minus v)

decimal_is : (n : ℕ) → digits_of digits_most n ≡ decimal n
unfolding decimal
decimal_is n = refl

module _ (n : ℕ) (h : n < 10 ^ digits_most) where
  ten : Digital digits_most n
  ten = digital digits_most n h

  value_decimal : value_from 0 (decimal n) ≡ n
  value_decimal = ap (value_from 0) (sym (decimal_is n)) ∙ ten.value

  digits_decimal : all_digits (decimal n) ≡ true
  digits_decimal = ap all_digits (sym (decimal_is n)) ∙ ten.digits

  first_decimal : 0 < n → (0 < length (decimal n)) × (ZERO < get_or (decimal n) 0 0)
  first_decimal p = subst (λ (l : List ℕ). (0 < length l) × (ZERO < get_or l 0 0)) (decimal_is n) (ten.first p)

  plain_decimal : plain (decimal n) ≡ true
  plain_decimal = go (eqb n 0) refl
    where
      zero_plain : plain (decimal 0) ≡ true
      zero_plain = unfold plain decimal in refl

      go : (b : Bool) → eqb n 0 ≡ b → plain (decimal n) ≡ true
      go true e = ap (λ (m : ℕ). plain (decimal m)) (eqb-true n 0 e) ∙ zero_plain
      go false e =
          let some = eqb-false n 0 e in
          plain_digits (decimal n) digits_decimal (decimal-length n) (first_decimal (omega arith))

  -- a number is read back
  pub decimal_back : number (decimal n) ≡ plus n
  decimal_back = number_is (decimal n) n digits_decimal plain_decimal value_decimal

  -- and so is one below zero
  pub minus_back : 0 < n → number (MINUS ∷ decimal n) ≡ minus n
  minus_back p = minus_is (decimal n) n plain_decimal value_decimal (first_decimal p).0 p

-- a number of a plan sheet, or a missing one
pub number_back : (n : ℕ) → n < 10 ^ digits_most → (n ≡ MISSING → ⊥) → number (number_text n) ≡ plus n
number_back n h m = ap number (number_given n m) ∙ decimal_back n h

pub missing_back : number (number_text MISSING) ≡ missing
unfolding number signed
missing_back = ap number (number_missing MISSING refl)

-- a coordinate, as far as ten digits go
pub coordinate_back : (held : ℕ) → held < 10 ^ digits_most → coordinate_of (number (coordinate_text held)) ≡ held
coordinate_back held h = go (ltb held ORIGIN) refl
  where
    go : (b : Bool) → ltb held ORIGIN ≡ b → coordinate_of (number (coordinate_text held)) ≡ held
    go true e =
        let low : held < ORIGIN = ltb-true held ORIGIN e in
        ap (λ (l : List ℕ). coordinate_of (number l)) (coordinate_below held low) ∙ (ap coordinate_of (minus_back (ORIGIN - held) (omega arith) (omega arith)) ∙ omega arith)
    go false e =
        let high : ORIGIN ≤ held = ltb-false held ORIGIN e in
        ap (λ (l : List ℕ). coordinate_of (number l)) (coordinate_above held high) ∙ (ap coordinate_of (decimal_back (held - ORIGIN) (omega arith)) ∙ omega arith)

-- and in a sheet's column of coordinates it is held as it was
pub coordinate_held : (gap : Gap) (held : ℕ) → ORIGIN - COORDINATE_MOST ≤ held → held ≤ ORIGIN + COORDINATE_MOST → present (coordinate gap) (number (coordinate_text held)) ≡ Ok held
unfolding present
coordinate_held gap held l h = go (ltb held ORIGIN) refl
  where
    go : (b : Bool) → ltb held ORIGIN ≡ b → present (coordinate gap) (number (coordinate_text held)) ≡ Ok held
    go true e =
        let low : held < ORIGIN = ltb-true held ORIGIN e in
        let same : ORIGIN - (ORIGIN - held) ≡ held = omega arith in
        ap (λ (x : List ℕ). present (coordinate gap) (number x)) (coordinate_below held low)
        ∙ (ap (present (coordinate gap)) (minus_back (ORIGIN - held) (omega arith) (omega arith))
        ∙ rw (le-leb (ORIGIN - held) ORIGIN (omega arith), same) (sym (within_holds (ORIGIN - COORDINATE_MOST) (ORIGIN + COORDINATE_MOST) held l h)))
    go false e =
        let high : ORIGIN ≤ held = ltb-false held ORIGIN e in
        let same : ORIGIN + (held - ORIGIN) ≡ held = omega arith in
        ap (λ (x : List ℕ). present (coordinate gap) (number x)) (coordinate_above held high)
        ∙ (ap (present (coordinate gap)) (decimal_back (held - ORIGIN) (omega arith))
        ∙ rw same (sym (within_holds (ORIGIN - COORDINATE_MOST) (ORIGIN + COORDINATE_MOST) held l h)))
