-- What stands in a list: kept elements, numbers below n, mapped and sorted lists.
use Prim.Native.Nat.{ℕ, zero, suc, ◌<◌}
use native.Mathlib.Omega.{arith}
use mathlib.Core.Path.{◌≡◌, refl, sym, ap, ◌∙◌, subst}
use mathlib.Core.Logic.{◌⊎◌, inl, inr, ⊎_elim}
use mathlib.Core.Bool.{Bool, true, false}
use mathlib.Core.List.Memᴰ.{cases_cons as cases}
use mathlib.Core.List.Memᴰ.{head as here}
use mathlib.Core.List.Memᴰ.{not-nil as nowhere}
use mathlib.Core.List.Memᴰ.{tail as there}
use mathlib.Core.List.{List, [], ◌∷◌, map, Memᴰ as Mem}
use lib.ListN.{length, get_or}
use Rattle.base.specs.Sort.{inserted, sorted, lex_less}
use Rattle.base.proofs.Bools.{clash}
use Rattle.base.proofs.SortLaws.{Order, weak_alone}
use Rattle.base.proofs.Orders.{row_weak}
use Rattle.base.specs.Lists.{keep, upto}

module _ {A : Type 0} where
  pub mem_at : (d : A) (l : List A) {x : A} → Mem x l → (k : ℕ) × (k < length l) × (get_or l k d ≡ x)
  mem_at d [] m = absurd (nowhere m)
  mem_at d (y ∷ l) {x} m = go (cases m) (λ n. mem_at d l n)
    where
      go : (x ≡ y) ⊎ Mem x l → (Mem x l → (k : ℕ) × (k < length l) × (get_or l k d ≡ x)) → (k : ℕ) × (k < length (y ∷ l)) × (get_or (y ∷ l) k d ≡ x)
      go (inl e) ih = (zero, omega arith, sym e)
      go (inr n) ih = let r = ih n in (suc r.0, let h = r.1 in omega arith, r.2)

  pub at_mem : (d : A) (l : List A) (k : ℕ) → k < length l → Mem (get_or l k d) l
  at_mem d [] k h = absurd (omega arith)
  at_mem d (y ∷ l) zero h = here refl
  at_mem d (y ∷ l) (suc k) h = there (at_mem d l k (omega arith))

  pub keep_in : (p : A → Bool) (l : List A) {x : A} → Mem x l → p x ≡ true → Mem x (keep p l)
  keep_in p [] m h = absurd (nowhere m)
  keep_in p (y ∷ l) {x} m h = go (p y) refl (cases m) (λ n. keep_in p l n h)
    where
      go : (t : Bool) → p y ≡ t → (x ≡ y) ⊎ Mem x l → (Mem x l → Mem x (keep p l)) → Mem x (elim t [ true ↦ y ∷ keep p l | false ↦ keep p l ])
      go true e (inl f) ih = here f
      go true e (inr n) ih = there (ih n)
      go false e (inl f) ih = clash (subst (λ (z : A). p z ≡ true) f h) e
      go false e (inr n) ih = ih n

  pub keep_from : (p : A → Bool) (l : List A) {x : A} → Mem x (keep p l) → Mem x l × (p x ≡ true)
  keep_from p [] m = absurd (nowhere m)
  keep_from p (y ∷ l) {x} m = go (p y) refl (λ n. keep_from p l n) m
    where
      go : (t : Bool) → p y ≡ t → (Mem x (keep p l) → Mem x l × (p x ≡ true)) → Mem x (elim t [ true ↦ y ∷ keep p l | false ↦ keep p l ]) → Mem x (y ∷ l) × (p x ≡ true)
      go true e ih n = ⊎_elim (λ f. (here f, subst (λ (z : A). p z ≡ true) (sym f) e)) (λ o. (there (ih o).0, (ih o).1)) (cases n)
      go false e ih n = (there (ih n).0, (ih n).1)

  module _ {B : Type 0} (f : A → B) where
    pub map_in : (l : List A) {x : A} → Mem x l → Mem (f x) (map f l)
    map_in [] m = absurd (nowhere m)
    map_in (y ∷ l) m = ⊎_elim (λ e. here (ap f e)) (λ n. there (map_in l n)) (cases m)

    pub map_from : (l : List A) {z : B} → Mem z (map f l) → (x : A) × Mem x l × (z ≡ f x)
    map_from [] m = absurd (nowhere m)
    map_from (y ∷ l) m = ⊎_elim (λ e. (y, here refl, e)) (λ n. let r = map_from l n in (r.0, there r.1, r.2)) (cases m)

pub upto_in : (n i : ℕ) → i < n → Mem i (upto n)
upto_in zero i h = absurd (omega arith)
upto_in (suc n) i h = elim (native.Mathlib.Decide.dec_lt i n) [ yes k ↦ there (upto_in n i k) | no f ↦ let e : i ≡ n = omega arith in here e ]

pub upto_below : (n : ℕ) {i : ℕ} → Mem i (upto n) → i < n
upto_below zero m = absurd (nowhere m)
upto_below (suc n) m = ⊎_elim (λ e. omega arith) (λ k. let h = upto_below n k in omega arith) (cases m)

-- No later element is less than an earlier one.
abbrev pub Ascending : {A : Type 0} (less : A → A → Bool) → List A → Type 0
Ascending less [] = Unit
Ascending {A} less (x ∷ l) = ((z : A) → Mem z l → less z x ≡ false) × Ascending less l

module _ {A : Type 0} (less : A → A → Bool) where
  pub inserted_in : (x : A) (l : List A) {z : A} → Mem z (x ∷ l) → Mem z (inserted less x l)
  unfolding inserted
  inserted_in x [] m = m
  inserted_in x (y ∷ l) {z} m = go (less y x) (cases m) (λ n. inserted_in x l n)
    where
      go : (t : Bool) → (z ≡ x) ⊎ Mem z (y ∷ l) → (Mem z (x ∷ l) → Mem z (inserted less x l)) → Mem z (elim t [ true ↦ y ∷ inserted less x l | false ↦ x ∷ y ∷ l ])
      go true (inl e) ih = there (ih (here e))
      go true (inr n) ih = ⊎_elim (λ e. here e) (λ k. there (ih (there k))) (cases n)
      go false (inl e) ih = here e
      go false (inr n) ih = there n

  pub inserted_from : (x : A) (l : List A) {z : A} → Mem z (inserted less x l) → (z ≡ x) ⊎ Mem z l
  unfolding inserted
  inserted_from x [] m = cases m
  inserted_from x (y ∷ l) {z} m = go (less y x) (λ n. inserted_from x l n) m
    where
      deeper : (z ≡ x) ⊎ Mem z l → (z ≡ x) ⊎ Mem z (y ∷ l)
      deeper (inl e) = inl e
      deeper (inr n) = inr (there n)

      go : (t : Bool) → (Mem z (inserted less x l) → (z ≡ x) ⊎ Mem z l) → Mem z (elim t [ true ↦ y ∷ inserted less x l | false ↦ x ∷ y ∷ l ]) → (z ≡ x) ⊎ Mem z (y ∷ l)
      go true ih n = ⊎_elim (λ e. inr (here e)) (λ k. deeper (ih k)) (cases n)
      go false ih n = cases n

  pub sorted_in : (l : List A) {z : A} → Mem z l → Mem z (sorted less l)
  unfolding sorted
  sorted_in [] m = m
  sorted_in (x ∷ l) m = inserted_in x (sorted less l) (⊎_elim (λ e. here e) (λ n. there (sorted_in l n)) (cases m))

  pub sorted_from_lem : (l : List A) {z : A} → Mem z (sorted less l) → Mem z l
  unfolding sorted
  sorted_from_lem [] m = m
  sorted_from_lem (x ∷ l) m = ⊎_elim (λ e. here e) (λ n. there (sorted_from_lem l n)) (inserted_from x (sorted less l) m)

  pub length_inserted : (x : A) (l : List A) → length (inserted less x l) ≡ suc (length l)
  unfolding inserted
  length_inserted x [] = refl
  length_inserted x (y ∷ l) = go (less y x) (length_inserted x l)
    where
      go : (t : Bool) → length (inserted less x l) ≡ suc (length l) → length {A = A} (elim t [ true ↦ y ∷ inserted less x l | false ↦ x ∷ y ∷ l ]) ≡ suc (suc (length l))
      go true ih = ap suc ih
      go false ih = refl

  pub length-sorted : (l : List A) → length (sorted less l) ≡ length l
  unfolding sorted
  length-sorted [] = refl
  length-sorted (x ∷ l) = length_inserted x (sorted less l) ∙ ap suc (length-sorted l)

  module _ (o : Order less) (alone : (x : A) → less x x ≡ false) where
    pub not_both : (x y : A) → less y x ≡ true → less x y ≡ false
    not_both x y h = go (less x y) refl
      where
        go : (t : Bool) → less x y ≡ t → t ≡ false
        go true e = clash (o.through y x y h e) (alone y)
        go false e = refl

    pub still_not : (x y z : A) → less y x ≡ false → less z y ≡ false → less z x ≡ false
    still_not x y z h k = go (less z x) refl
      where
        go : (t : Bool) → less z x ≡ t → t ≡ false
        go true e = clash (o.under z y x e h) k
        go false e = refl

    inserted_ascending : (x : A) (l : List A) → Ascending less l → Ascending less (inserted less x l)
    unfolding inserted
    inserted_ascending x [] a = ((λ z m. absurd (nowhere m)), tt)
    inserted_ascending x (y ∷ l) a = go (less y x) refl (inserted_ascending x l a.1)
      where
        go : (t : Bool) → less y x ≡ t → Ascending less (inserted less x l) → Ascending less (elim t [ true ↦ y ∷ inserted less x l | false ↦ x ∷ y ∷ l ])
        go true h ih = ((λ z m. ⊎_elim (λ e. subst (λ (w : A). less w y ≡ false) (sym e) (not_both x y h)) (λ n. a.0 z n) (inserted_from x l m)), ih)
        go false h ih = ((λ z m. ⊎_elim (λ e. subst (λ (w : A). less w x ≡ false) (sym e) h) (λ n. still_not x y z h (a.0 z n)) (cases m)), a)

    pub sorted_ascending : (l : List A) → Ascending less (sorted less l)
    unfolding sorted
    sorted_ascending [] = tt
    sorted_ascending (x ∷ l) = inserted_ascending x (sorted less l) (sorted_ascending l)

  pub ascending_at : (d : A) (l : List A) (i j : ℕ) → Ascending less l → i < j → j < length l → less (get_or l j d) (get_or l i d) ≡ false
  ascending_at d [] i j a h k = absurd (omega arith)
  ascending_at d (x ∷ l) i zero a h k = absurd (omega arith)
  ascending_at d (x ∷ l) zero (suc j) a h k = a.0 _ (at_mem d l j (omega arith))
  ascending_at d (x ∷ l) (suc i) (suc j) a h k = ascending_at d l i j a.1 (omega arith) (omega arith)

pub lex_alone : (x : List ℕ) → lex_less x x ≡ false
lex_alone = weak_alone lex_less row_weak
