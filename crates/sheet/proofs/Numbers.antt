-- The number that a field writes.
use Rattle.std.proofs.Common.{◌≡◌, ℕ, suc, ◌+◌, ◌-◌, ◌*◌, ◌^◌, ◌<◌, ◌≤◌, Bool, true, false, not, ◌&&◌, eqb, leb, List, [], ◌∷◌, ◌++◌, length, get_or, drop, sym, refl, ap, ◌∙◌, subst, pow-suc, arith, drop_of_length-le, drop-cons, eq-eqb, ne_eqb, le-leb, leb-true}
use Rattle.std.specs.Prelude.{Some, None}
use native.Mathlib.Nat.{pow-le-pow_right}
use borrow.Author.Tests.{lt-leb}
use Rattle.base.proofs.Bools.{and_left, and_right, never}
use Rattle.sheet.specs.Number.{Number, bad, missing, plus, minus, digit, all_digits, value_from, plain, no_leading_zero, unsigned, signed, number, ZERO, NINE, MINUS, digits_most}
use Rattle.sheet.specs.Walk.{plus_in, digits_read, DigitSays}

-- Digits, one after the other.

digit_true : (d : ℕ) → d < 10 → digit (ZERO + d) ≡ true
digit_true d h = rw (le-leb ZERO (ZERO + d) (omega arith), le-leb (ZERO + d) NINE (omega arith))

-- the digits behind those that wrote `v`
module _ (l : List ℕ) (v i : ℕ) (h : i < length l) where
  pub digits_stop : DigitSays (get_or l i 0) None → digits_read v (drop i l) ≡ None
  unfolding digits_read
  digits_stop e = rw (drop-cons l i 0 h) (rw (e, digits_read))

  pub digits_more : (d : ℕ) → DigitSays (get_or l i 0) (Some d) → digits_read v (drop i l) ≡ digits_read (v * 10 + d) (drop (suc i) l)
  unfolding digits_read
  digits_more d e =
      let n : get_or l i 0 - ZERO ≡ d = omega (arith, e.2) in
      rw (drop-cons l i 0 h) (rw (e.0, digits_read, n))

pub digits_end : (l : List ℕ) (v i : ℕ) → length l ≤ i → digits_read v (drop i l) ≡ Some v
unfolding digits_read
digits_end l v i h = rw (drop_of_length-le l {i = i} h)

-- one digit more keeps the value below the next power of ten, and ten digits fit
pub value_grows : (k v d : ℕ) → v < 10 ^ k → d < 10 → v * 10 + d < 10 ^ suc k
value_grows k v d h l = rw (pow-suc 10 k) (omega arith)

pub power_small : (k : ℕ) → k ≤ digits_most → 10 ^ k ≤ 10 ^ digits_most
power_small k h = pow-le-pow_right (omega arith) h

digits_are : (v : ℕ) (bs : List ℕ) → plus_in (digits_read v bs) ≡ elim (all_digits bs) as (λ _. Number) [ true ↦ plus (value_from v bs) | false ↦ bad ]
unfolding digits_read all_digits value_from
digits_are v [] = refl
digits_are v (b ∷ bs) = go (digit b) refl (digits_are (v * 10 + (b - ZERO)) bs)
  where
    go : (d : Bool) → digit b ≡ d → plus_in (digits_read (v * 10 + (b - ZERO)) bs) ≡ elim (all_digits bs) as (λ _. Number) [ true ↦ plus (value_from (v * 10 + (b - ZERO)) bs) | false ↦ bad ]
        → plus_in (digits_read v (b ∷ bs)) ≡ elim (all_digits (b ∷ bs)) as (λ _. Number) [ true ↦ plus (value_from v (b ∷ bs)) | false ↦ bad ]
    go true e h = rw (e, digits_read) h
    go false e h = rw (e, digits_read)

-- A number without a sign.

and_last : (a b : Bool) → (a && b && false) ≡ false
and_last true true = refl
and_last true false = refl
and_last false b = refl

and_middle : (a c : Bool) → (a && false && c) ≡ false
and_middle true c = refl
and_middle false c = refl

pub unsigned_many : (bs : List ℕ) → digits_most < length bs → unsigned bs ≡ bad
unfolding unsigned plain
unsigned_many bs h = rw (lt-leb (length bs) digits_most h, and_last (all_digits bs) (no_leading_zero bs), unsigned)

-- the first byte is no digit
pub unsigned_other : (b : ℕ) (bs : List ℕ) → DigitSays b None → unsigned (b ∷ bs) ≡ bad
unfolding unsigned plain all_digits
unsigned_other b bs e = rw (e, unsigned)

-- no zero leads and there are not too many bytes: the digits tell
unsigned_read : (bs : List ℕ) → no_leading_zero bs ≡ true → length bs ≤ digits_most → unsigned bs ≡ plus_in (digits_read 0 bs)
unfolding unsigned plain
unsigned_read bs z q = go (all_digits bs) refl
  where
    short : leb (length bs) digits_most ≡ true
    short = le-leb (length bs) digits_most q

    go : (d : Bool) → all_digits bs ≡ d → unsigned bs ≡ plus_in (digits_read 0 bs)
    go true e = rw (e, z, short, unsigned) (sym (digits_are 0 bs ∙ rw e))
    go false e = rw (e, unsigned) (sym (digits_are 0 bs ∙ rw e))

-- a field whose first digit is known
module _ (d : ℕ) (small : d < 10) where
  first_read : (bs : List ℕ) → digits_read 0 ((ZERO + d) ∷ bs) ≡ digits_read d bs
  unfolding digits_read
  first_read bs =
      let z : 0 * 10 + ((ZERO + d) - ZERO) ≡ d = omega arith in
      rw (digit_true d small, digits_read) (ap (λ (w : ℕ). digits_read w bs) z)

  pub unsigned_one : (bs : List ℕ) → length bs ≡ 0 → unsigned ((ZERO + d) ∷ bs) ≡ plus d
  unfolding no_leading_zero digits_read
  unsigned_one [] e = unsigned_read ((ZERO + d) ∷ []) refl (omega arith) ∙ ap plus_in (first_read [])
  unsigned_one (c ∷ bs) e = absurd (omega arith)

  pub unsigned_zero : (bs : List ℕ) → (length bs ≡ 0 → ⊥) → d ≡ 0 → unsigned ((ZERO + d) ∷ bs) ≡ bad
  unfolding unsigned plain no_leading_zero
  unsigned_zero [] n z = absurd (n refl)
  unsigned_zero (c ∷ bs) n z =
      let e : ZERO + d ≡ ZERO = omega arith in
      rw (eq-eqb (ZERO + d) ZERO e, and_middle (all_digits ((ZERO + d) ∷ c ∷ bs)) (leb (length ((ZERO + d) ∷ c ∷ bs)) digits_most), unsigned)

  pub unsigned_digits : (bs : List ℕ) → (d ≡ 0 → ⊥) → length bs < digits_most → unsigned ((ZERO + d) ∷ bs) ≡ plus_in (digits_read d bs)
  unfolding no_leading_zero
  unsigned_digits bs n q = unsigned_read ((ZERO + d) ∷ bs) (go bs) (omega arith) ∙ ap plus_in (first_read bs)
    where
      go : (l : List ℕ) → no_leading_zero ((ZERO + d) ∷ l) ≡ true
      go [] = refl
      go (c ∷ l) = rw (ne_eqb (ZERO + d) ZERO (λ (e : ZERO + d ≡ ZERO). n (omega arith)))

-- A number with a sign.

-- a number with a `-` in front
negated : Number → Number
negated bad = bad
negated missing = bad
negated (plus v) = elim (eqb v 0) [ true ↦ bad | false ↦ minus v ]
negated (minus v) = bad

pub signed_none : (bs : List ℕ) → length bs ≡ 0 → missing ≡ signed bs
unfolding signed
signed_none [] e = refl
signed_none (b ∷ bs) e = absurd (omega arith)

module _ (b : ℕ) (bs : List ℕ) where
  signed_some : signed (b ∷ bs) ≡ negated (unsigned (b ∷ bs))
  unfolding signed unsigned negated
  signed_some = go (plain (b ∷ bs)) refl (eqb (value_from 0 (b ∷ bs)) 0) refl
    where
      go : (x : Bool) → plain (b ∷ bs) ≡ x → (y : Bool) → eqb (value_from 0 (b ∷ bs)) 0 ≡ y → signed (b ∷ bs) ≡ negated (unsigned (b ∷ bs))
      go true e true f = rw (e, unsigned, signed) (rw (f, negated))
      go true e false f = rw (e, unsigned, signed) (rw (f, negated))
      go false e y f = rw (e, unsigned, signed)

  pub signed_bad : bad ≡ unsigned (b ∷ bs) → bad ≡ signed (b ∷ bs)
  unfolding negated
  signed_bad e = sym (signed_some ∙ ap negated (sym e))

  pub signed_zero : (v : ℕ) → plus v ≡ unsigned (b ∷ bs) → v ≡ 0 → bad ≡ signed (b ∷ bs)
  unfolding negated
  signed_zero v e z = sym (signed_some ∙ (ap negated (sym e) ∙ rw (eq-eqb v 0 z, negated)))

  pub signed_minus : (v : ℕ) → plus v ≡ unsigned (b ∷ bs) → (v ≡ 0 → ⊥) → minus v ≡ signed (b ∷ bs)
  unfolding negated
  signed_minus v e n = sym (signed_some ∙ (ap negated (sym e) ∙ rw (ne_eqb v 0 n, negated)))

-- A field.

pub number_none : (bs : List ℕ) → length bs ≡ 0 → bad ≡ number bs
unfolding number
number_none [] e = refl
number_none (b ∷ bs) e = absurd (omega arith)

module _ (b : ℕ) (bs : List ℕ) where
  pub number_minus : b ≡ MINUS → signed bs ≡ number (b ∷ bs)
  unfolding number
  number_minus e = rw (eq-eqb b MINUS e, number)

  pub number_plain : (b ≡ MINUS → ⊥) → unsigned (b ∷ bs) ≡ number (b ∷ bs)
  unfolding number
  number_plain n = rw (ne_eqb b MINUS n, number)

-- a digit is no sign
pub number_digit : (d : ℕ) (bs : List ℕ) → unsigned ((ZERO + d) ∷ bs) ≡ number ((ZERO + d) ∷ bs)
number_digit d bs = number_plain (ZERO + d) bs (λ (e : ZERO + d ≡ MINUS). omega arith)

pub number_other : (b : ℕ) (bs : List ℕ) → DigitSays b None → (b ≡ MINUS → ⊥) → bad ≡ number (b ∷ bs)
number_other b bs e n = sym (unsigned_other b bs e) ∙ number_plain b bs n

-- A field with a byte that no number has writes none.
module _ (s : ℕ) (d : digit s ≡ false) (m : eqb s MINUS ≡ false) where
  digits_broken : (a b : List ℕ) → all_digits (a ++ s ∷ b) ≡ false
  unfolding all_digits
  digits_broken [] b = rw d
  digits_broken (x ∷ a) b = rw (digits_broken a b) (go (digit x))
    where
      go : (p : Bool) → (p && false) ≡ false
      go true = refl
      go false = refl

  plain_broken : (a b : List ℕ) → plain (a ++ s ∷ b) ≡ false
  unfolding plain
  plain_broken a b = rw (digits_broken a b)

  signed_broken : (a b : List ℕ) → signed (a ++ s ∷ b) ≡ bad
  unfolding signed
  signed_broken [] b = rw (plain_broken [] b, signed)
  signed_broken (x ∷ a) b = rw (plain_broken (x ∷ a) b, signed)

  pub number_broken : (a b : List ℕ) → number (a ++ s ∷ b) ≡ bad
  unfolding number unsigned
  number_broken [] b = rw (m, number) (rw (plain_broken [] b, unsigned))
  number_broken (x ∷ a) b = go (eqb x MINUS) refl
    where
      go : (e : Bool) → eqb x MINUS ≡ e → number (x ∷ (a ++ s ∷ b)) ≡ bad
      go true e = rw (e, number) (signed_broken a b)
      go false e = rw (e, number) (rw (plain_broken (x ∷ a) b, unsigned))

abbrev plus_of : Number → ℕ
plus_of (plus v) = v
plus_of bad = 0
plus_of missing = 0
plus_of (minus v) = 0

plus_same : {v w : ℕ} → plus v ≡ plus w → v ≡ w
plus_same e = ap plus_of e

-- A number without a sign that a field writes is below the least one of eleven digits.

value_short : (bs : List ℕ) (v k : ℕ) → all_digits bs ≡ true → v < 10 ^ k → value_from v bs < 10 ^ (k + length bs)
unfolding all_digits value_from
value_short [] v k d h = subst (λ (m : ℕ). v < 10 ^ m) (omega arith) h
value_short (b ∷ bs) v k d h =
    let high : b ≤ NINE = leb-true b NINE (and_right (leb ZERO b) (leb b NINE) (and_left (digit b) (all_digits bs) d)) in
    let rest = value_short bs (v * 10 + (b - ZERO)) (suc k) (and_right (digit b) (all_digits bs) d) (value_grows k v (b - ZERO) h (omega arith)) in
    subst (λ (m : ℕ). value_from (v * 10 + (b - ZERO)) bs < 10 ^ m) (omega arith) rest

unsigned_short : (bs : List ℕ) (v : ℕ) → unsigned bs ≡ plus v → v < 10 ^ digits_most
unfolding unsigned plain
unsigned_short bs v e = go (plain bs) refl
  where
    go : (x : Bool) → plain bs ≡ x → v < 10 ^ digits_most
    go false p = let no : bad ≡ plus v = rw (p, unsigned) at e in never cc
    go true p =
        let is : plus (value_from 0 bs) ≡ plus v = rw (p, unsigned) at e in
        let few : length bs ≤ digits_most = leb-true (length bs) digits_most (and_right (all_digits bs && no_leading_zero bs) (leb (length bs) digits_most) p) in
        let digits = and_left (all_digits bs) (no_leading_zero bs) (and_left (all_digits bs && no_leading_zero bs) (leb (length bs) digits_most) p) in
        let same : value_from 0 bs ≡ v = plus_same is in
        let low : value_from 0 bs < 10 ^ length bs = subst (λ (m : ℕ). value_from 0 bs < 10 ^ m) (omega arith) (value_short bs 0 0 digits (omega arith)) in
        omega (arith, power_small (length bs) few)

signed_minus_only : (bs : List ℕ) (v : ℕ) → signed bs ≡ plus v → v < 10 ^ digits_most
unfolding signed
signed_minus_only [] v e = let no : missing ≡ plus v = e in never cc
signed_minus_only (b ∷ bs) v e = go (plain (b ∷ bs) && not (eqb (value_from 0 (b ∷ bs)) 0)) refl
  where
    go : (x : Bool) → (plain (b ∷ bs) && not (eqb (value_from 0 (b ∷ bs)) 0)) ≡ x → v < 10 ^ digits_most
    go true p = let no : minus (value_from 0 (b ∷ bs)) ≡ plus v = rw (p, signed) at e in never cc
    go false p = let no : bad ≡ plus v = rw (p, signed) at e in never cc

pub number_short : (f : List ℕ) (v : ℕ) → number f ≡ plus v → v < 10 ^ digits_most
unfolding number
number_short [] v e = let no : bad ≡ plus v = e in never cc
number_short (b ∷ bs) v e = go (eqb b MINUS) refl
  where
    go : (x : Bool) → eqb b MINUS ≡ x → v < 10 ^ digits_most
    go true p = signed_minus_only bs v (rw (p, number) at e)
    go false p = unsigned_short (b ∷ bs) v (rw (p, number) at e)
