-- Of the numbers below n those that pass a test, rising, each with what is said of it: where each stands in the list, and that each comes once. One law for rerouters and bus wires.
use Prim.Native.Nat.{ℕ, zero, suc, ◌+◌, ◌≤◌, ◌<◌}
use native.Mathlib.Omega.{arith}
use native.Mathlib.Decide.{dec_lt}
use mathlib.Core.Path.{◌≡◌, refl, ap, ◌∙◌}
use mathlib.Core.Bool.{Bool, true, false}
use mathlib.Core.List.{List, [], ◌++◌}
use lib.ListN.{length, get_or, length-append, get_or-append}
use lib.Seq.{get_or-append-add}

module _ (test : ℕ → Bool) (what : ℕ → List ℕ) where
  abbrev pub picked : ℕ → List ℕ
  picked n = elim (test n) [ true ↦ what n | false ↦ [] ]

  unfoldable pub listed : ℕ → List ℕ
  listed zero = []
  listed (suc n) = listed n ++ picked n

  unfoldable pub count : ℕ → ℕ
  count zero = zero
  count (suc n) = elim (test n) [ true ↦ suc (count n) | false ↦ count n ]

  pub count_yes : (n : ℕ) → test n ≡ true → count (suc n) ≡ suc (count n)
  unfolding count
  count_yes n h = rw (h, count)

  pub count_no : (n : ℕ) → test n ≡ false → count (suc n) ≡ count n
  unfolding count
  count_no n h = rw (h, count)

  pub listed_yes : (n : ℕ) → test n ≡ true → listed (suc n) ≡ listed n ++ what n
  unfolding listed
  listed_yes n h = rw (h, picked)

  length_more : (n : ℕ) → length (listed (suc n)) ≡ length (listed n) + length (picked n)
  unfolding listed
  length_more n = length-append (listed n) (picked n)

  count_more : (n : ℕ) → count n ≤ count (suc n)
  count_more n = go (test n) refl
    where
      go : (t : Bool) → test n ≡ t → count n ≤ count (suc n)
      go true e = omega (arith, count_yes n e)
      go false e = omega (arith, count_no n e)

  -- More numbers, no fewer picked.
  pub count_up : (n m : ℕ) → m ≤ n → count m ≤ count n
  count_up zero m h = let z : m ≡ zero = omega arith in rw z (omega arith)
  count_up (suc n) m h =
      elim (dec_lt m (suc n)) [
        | yes l ↦ omega (arith, count_up n m (omega arith), count_more n)
        | no l ↦ let z : m ≡ suc n = omega arith in rw z (omega arith)
      ]

  -- A number that is picked counts.
  pub count_past : (n m : ℕ) → m < n → test m ≡ true → count m < count n
  count_past n m h t = omega (arith, count_yes m t, count_up n (suc m) (omega arith))

  -- By how many are before it, a number is known.
  pub earlier : (m n : ℕ) → count m < count n → m < n
  earlier m n h = elim (dec_lt m n) [ yes l ↦ l | no l ↦ absurd (omega (arith, count_up m n (omega arith))) ]

  -- Each place of the list has its number.
  pub at_place : (n i : ℕ) → i < count n → (m : ℕ) × (m < n) × (test m ≡ true) × (count m ≡ i)
  unfolding count
  at_place zero i h = absurd (omega arith)
  at_place (suc n) i h = go (test n) refl (at_place n i)
    where
      go : (t : Bool) → test n ≡ t → (i < count n → (m : ℕ) × (m < n) × (test m ≡ true) × (count m ≡ i)) → (m : ℕ) × (m < suc n) × (test m ≡ true) × (count m ≡ i)
      go false e ih = let r = ih (omega (arith, h, count_no n e)) in (r.0, omega (arith, r.1), r.2, r.3)
      go true e ih =
          elim (dec_lt i (count n)) [
            | yes l ↦ let r = ih l in (r.0, omega (arith, r.1), r.2, r.3)
            | no l ↦ (n, omega arith, e, omega (arith, h, count_yes n e))
          ]

  -- What is said of a picked number lies inside the list.
  inside : (n m : ℕ) → m < n → test m ≡ true → length (listed m) + length (what m) ≤ length (listed n)
  inside zero m h t = absurd (omega arith)
  inside (suc n) m h t =
      elim (dec_lt m n) [
        | yes l ↦ omega (arith, inside n m l t, length_more n)
        | no l ↦ let z : m ≡ n = omega arith in rw z (let e = rw z at t in omega (arith, ap (λ (r : List ℕ). length r) (listed_yes n e), length-append (listed n) (what n)))
      ]

  -- And stands where the list of the numbers before it ends.
  pub entry : (n m j : ℕ) → m < n → test m ≡ true → j < length (what m) → get_or (listed n) (length (listed m) + j) 0 ≡ get_or (what m) j 0
  unfolding listed
  entry zero m j h t l = absurd (omega arith)
  entry (suc n) m j h t l =
      elim (dec_lt m n) [
        | yes k ↦ get_or-append (listed n) (picked n) 0 (length (listed m) + j) (omega (arith, inside n m k t)) ∙ entry n m j k t l
        | no k ↦
            let z : m ≡ n = omega arith in
            rw z (let e = rw z at t in ap (λ (r : List ℕ). get_or r (length (listed n) + j) 0) (listed_yes n e) ∙ get_or-append-add (listed n) (what n) j 0)
      ]

  -- The same with more behind the list.
  pub entry_in : (n : ℕ) (rest : List ℕ) (m j : ℕ) → m < n → test m ≡ true → j < length (what m) → get_or (listed n ++ rest) (length (listed m) + j) 0 ≡ get_or (what m) j 0
  entry_in n rest m j h t l = get_or-append (listed n) rest 0 (length (listed m) + j) (omega (arith, inside n m h t)) ∙ entry n m j h t l
