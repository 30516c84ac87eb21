-- Bytes written into a buffer, one run behind the other, and the digits of a number one by one.
use Rattle.std.proofs.Common.{◌≡◌, ℕ, zero, suc, ◌+◌, ◌-◌, ◌/◌, ◌%◌, ◌^◌, ◌<◌, ◌≤◌, Bool, true, false, eqb, ltb, List, [], ◌∷◌, ◌++◌, length, take, drop, set, sym, refl, ap, ◌∙◌, append_assoc, add-zero, add_assoc, pow-suc, add-one, arith, length-append, take-append-drop, length-take-le, drop-drop, take_at, le-ltb, lt-ltb, eq-eqb, ne_eqb}
use lib.Seq.{set_split, drop-append-add}
use Rattle.sheet.specs.Number.{ZERO, MINUS}
use Rattle.sheet.specs.Table.{ORIGIN, MISSING}
use Rattle.sheet.specs.Written.{Wrote, written, digits_of, decimal, coordinate_text, number_text}
use Rattle.base.proofs.Bools.{pick_true, pick_false}

-- Nothing written, and one byte written.
pub wrote_nothing : (old : List ℕ) (at : ℕ) → Wrote old at [] old at
unfolding written
wrote_nothing old at = record { place = simp add-zero; buffer = rw add-zero (sym (take-append-drop at old)) }

pub wrote_byte : (old : List ℕ) (at byte : ℕ) → at < length old → Wrote old at (byte ∷ []) (set old at byte) (at + 1)
unfolding written
wrote_byte old at byte h = record { place = refl; buffer = set_split old at byte h ∙ rw add-one }

-- A run behind a run.
pub wrote_more : (old mid new : List ℕ) (at m n : ℕ) (xs ys : List ℕ) → at + length xs + length ys ≤ length old
    → Wrote old at xs mid m → Wrote mid m ys new n → Wrote old at (xs ++ ys) new n
unfolding written
wrote_more old mid new at m n xs ys room first second =
    record {
      place = second.place ∙ ap (λ k. k + length ys) first.place ∙ simp (length-append, add_assoc);
      buffer = second.buffer ∙ ap (λ l. take m l ++ (ys ++ drop (m + length ys) l)) joined ∙ parts;
    }
  where
    front : List ℕ
    front = take at old ++ xs

    rest : List ℕ
    rest = drop (at + length xs) old

    joined : mid ≡ front ++ rest
    joined = first.buffer ∙ sym (append_assoc (take at old) xs (drop (at + length xs) old))

    size : length front ≡ m
    size = length-append (take at old) xs ∙ ap (λ k. k + length xs) (length-take-le at old (omega arith)) ∙ sym first.place

    taken : take m (front ++ rest) ≡ front
    taken = take_at front rest m size

    dropped : drop (m + length ys) (front ++ rest) ≡ drop (at + length (xs ++ ys)) old
    dropped =
        ap (λ k. drop (k + length ys) (front ++ rest)) (sym size)
        ∙ drop-append-add front rest (length ys)
        ∙ drop-drop (length ys) (at + length xs) old
        ∙ ap (λ k. drop k old) (add_assoc at (length xs) (length ys) ∙ ap (λ k. at + k) (sym (length-append xs ys)))

    parts : take m (front ++ rest) ++ (ys ++ drop (m + length ys) (front ++ rest)) ≡ take at old ++ ((xs ++ ys) ++ drop (at + length (xs ++ ys)) old)
    parts = (λ i. taken i ++ (ys ++ dropped i)) ∙ append_assoc (take at old) xs (ys ++ drop (at + length (xs ++ ys)) old) ∙ ap (λ l. take at old ++ l) (sym (append_assoc xs ys (drop (at + length (xs ++ ys)) old)))

-- The digits of a number below 10, and of any other: those of its tenth and the last one.
pub digits_one : (most n : ℕ) → 0 < most → n < 10 → digits_of most n ≡ (ZERO + n % 10) ∷ []
unfolding digits_of
digits_one zero n h small = absurd (omega arith)
digits_one (suc most) n h small =
    let same : n ≡ n % 10 = omega arith in
    pick_true (ltb n 10) ((ZERO + n) ∷ []) (digits_of most (n / 10) ++ ((ZERO + n % 10) ∷ [])) (lt-ltb n 10 small) ∙ ap (λ k. (ZERO + k) ∷ []) same

pub digits_more : (most n : ℕ) → 0 < most → 10 ≤ n → digits_of most n ≡ digits_of (most - 1) (n / 10) ++ ((ZERO + n % 10) ∷ [])
unfolding digits_of
digits_more zero n h big = absurd (omega arith)
digits_more (suc most) n h big =
    let same : most ≡ suc most - 1 = omega arith in
    pick_false (ltb n 10) ((ZERO + n) ∷ []) (digits_of most (n / 10) ++ ((ZERO + n % 10) ∷ [])) (le-ltb n 10 big)
    ∙ ap (λ m. digits_of m (n / 10) ++ ((ZERO + n % 10) ∷ [])) same

pub digits_length : (most n : ℕ) → length (digits_of most n) ≤ most
unfolding digits_of
digits_length zero n = omega arith
digits_length (suc most) n = go (ltb n 10) (digits_length most (n / 10))
  where
    go : (t : Bool) → length (digits_of most (n / 10)) ≤ most
        → length {A = ℕ} (elim t as (λ _. List ℕ) [ true ↦ (ZERO + n) ∷ [] | false ↦ digits_of most (n / 10) ++ ((ZERO + n % 10) ∷ []) ]) ≤ suc most
    go true h = omega arith
    go false h = simp length-append (omega arith)

-- A number below a power of ten has so many digits at most.
pub digits_few : (most k n : ℕ) → n < 10 ^ suc k → length (digits_of most n) ≤ suc k
unfolding digits_of
digits_few zero k n h = omega arith
digits_few (suc most) zero n h = rw (digits_one (suc most) n (omega arith) h) (omega arith)
digits_few (suc most) (suc k) n h = go (ltb n 10) (digits_few most k (n / 10) (omega (arith, pow-suc 10 (suc k))))
  where
    go : (t : Bool) → length (digits_of most (n / 10)) ≤ suc k
        → length {A = ℕ} (elim t as (λ _. List ℕ) [ true ↦ (ZERO + n) ∷ [] | false ↦ digits_of most (n / 10) ++ ((ZERO + n % 10) ∷ []) ]) ≤ suc (suc k)
    go true h = omega arith
    go false h = simp length-append (omega arith)

-- The three ways in which the digits of a number are written.
pub wrote_none : (old : List ℕ) (at most n : ℕ) → most ≡ 0 → Wrote old at (digits_of most n) old at
unfolding digits_of
wrote_none old at most n e = rw e (wrote_nothing old at)

module _ (old new : List ℕ) (at most n r : ℕ) where
  pub wrote_one : (most ≡ 0 → ⊥) → n < 10 → Wrote old at ((ZERO + n % 10) ∷ []) new r → Wrote old at (digits_of most n) new r
  wrote_one h small w = rw (digits_one most n (omega (arith, h)) small) w

  pub wrote_last : (mid : List ℕ) (m : ℕ) → (most ≡ 0 → ⊥) → 10 ≤ n → at + most ≤ length old
      → Wrote old at (digits_of (most - 1) (n / 10)) mid m → Wrote mid m ((ZERO + n % 10) ∷ []) new r → Wrote old at (digits_of most n) new r
  wrote_last mid m h big room first last =
      let some : 0 < most = omega (arith, h) in
      let few = digits_length (most - 1) (n / 10) in
      let fits : at + length (digits_of (most - 1) (n / 10)) + length {A = ℕ} ((ZERO + n % 10) ∷ []) ≤ length old = omega arith in
      rw (digits_more most n some big) (wrote_more old mid new at m r (digits_of (most - 1) (n / 10)) ((ZERO + n % 10) ∷ []) fits first last)

-- A held coordinate and a number that may be missing, by their cases.
pub decimal-length : (n : ℕ) → length (decimal n) ≤ 10
unfolding decimal
decimal-length n = digits_length 10 n

pub coordinate_below : (held : ℕ) → held < ORIGIN → coordinate_text held ≡ (MINUS ∷ []) ++ decimal (ORIGIN - held)
unfolding coordinate_text
coordinate_below held h = pick_true (ltb held ORIGIN) (MINUS ∷ decimal (ORIGIN - held)) (decimal (held - ORIGIN)) (lt-ltb held ORIGIN h)

pub coordinate_above : (held : ℕ) → ORIGIN ≤ held → coordinate_text held ≡ decimal (held - ORIGIN)
unfolding coordinate_text
coordinate_above held h = pick_false (ltb held ORIGIN) (MINUS ∷ decimal (ORIGIN - held)) (decimal (held - ORIGIN)) (le-ltb held ORIGIN h)

pub number_missing : (n : ℕ) → n ≡ MISSING → number_text n ≡ MINUS ∷ []
unfolding number_text
number_missing n e = pick_true (eqb n MISSING) (MINUS ∷ []) (decimal n) (eq-eqb n MISSING e)

pub number_given : (n : ℕ) → (n ≡ MISSING → ⊥) → number_text n ≡ decimal n
unfolding number_text
number_given n e = pick_false (eqb n MISSING) (MINUS ∷ []) (decimal n) (ne_eqb n MISSING e)

-- A coordinate below zero is at least minus ORIGIN, which has seven digits: with its sign it is no longer than a number.
below_length : (held : ℕ) → length (decimal (ORIGIN - held)) ≤ 9
unfolding decimal
below_length held = digits_few 10 8 (ORIGIN - held) (omega arith)

pub coordinate-length : (held : ℕ) → length (coordinate_text held) ≤ 10
unfolding coordinate_text
coordinate-length held = go (ltb held ORIGIN) (below_length held) (decimal-length (held - ORIGIN))
  where
    go : (t : Bool) → length (decimal (ORIGIN - held)) ≤ 9 → length (decimal (held - ORIGIN)) ≤ 10
        → length {A = ℕ} (elim t as (λ _. List ℕ) [ true ↦ MINUS ∷ decimal (ORIGIN - held) | false ↦ decimal (held - ORIGIN) ]) ≤ 10
    go true a b = omega arith
    go false a b = omega arith

pub number-length : (n : ℕ) → length (number_text n) ≤ 10
unfolding number_text
number-length n = go (eqb n MISSING) (decimal-length n)
  where
    go : (t : Bool) → length (decimal n) ≤ 10 → length {A = ℕ} (elim t as (λ _. List ℕ) [ true ↦ MINUS ∷ [] | false ↦ decimal n ]) ≤ 10
    go true h = omega arith
    go false h = h
