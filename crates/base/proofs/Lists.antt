-- Laws of the words on lists: tests, membership, counting, sorting, distinct numbers.
use Prim.Native.Nat.{ℕ, suc, ◌+◌, ◌≤◌}
use native.Mathlib.Omega.{arith}
use mathlib.Core.Path.{◌≡◌, refl, sym, ap, ◌∙◌}
use mathlib.Core.Logic.{◌⊎◌, inl, inr}
use mathlib.Core.Bool.{Bool, true, false, ◌&&◌}
use mathlib.Core.List.Memᴰ
use mathlib.Core.List.{List, [], ◌∷◌, ◌++◌, map, reverse, reverse_aux, Memᴰ}
use lib.Dec.{eqb}
use lib.ListN.{length}
use borrow.Author.Tests.{eqb-true}
use Rattle.base.specs.Sort.{inserted, sorted}
use Rattle.base.proofs.Bools.{clash, and_left, and_right, or_left, or_right, neither}
use Rattle.base.proofs.SortLaws.{Order}
use Rattle.base.specs.Lists.{Found, none, at, any, keep}

pub same_two : (a b c d : ℕ) → (eqb a b && eqb c d) ≡ true → (a ≡ b) × (c ≡ d)
same_two a b c d h = (eqb-true a b (and_left (eqb a b) (eqb c d) h), eqb-true c d (and_right (eqb a b) (eqb c d) h))

pub same_three : (a b c d e f : ℕ) → (eqb a b && eqb c d && eqb e f) ≡ true → (a ≡ b) × (c ≡ d) × (e ≡ f)
same_three a b c d e f h =
    let r = same_two a b c d (and_left (eqb a b && eqb c d) (eqb e f) h) in (r.0, r.1, eqb-true e f (and_right (eqb a b && eqb c d) (eqb e f) h))

-- What a map gives comes from an element.
pub in_map : {A B : Type 0} (f : A → B) {y : B} (l : List A) → Memᴰ y (map f l) → (x : A) × Memᴰ x l × (y ≡ f x)
in_map f [] m = absurd (Memᴰ.not-nil m)
in_map {A} {B} f {y} (x ∷ l) m = go (Memᴰ.cases_cons m) (in_map f l)
  where
    go : (y ≡ f x) ⊎ Memᴰ y (map f l) → (Memᴰ y (map f l) → (z : A) × Memᴰ z l × (y ≡ f z)) → (z : A) × Memᴰ z (x ∷ l) × (y ≡ f z)
    go (inl e) ih = (x, Memᴰ.head refl, e)
    go (inr n) ih = let r = ih n in (r.0, Memᴰ.tail r.1, r.2)

pub to_map : {A B : Type 0} (f : A → B) {x : A} {l : List A} → Memᴰ x l → Memᴰ (f x) (map f l)
to_map f (Memᴰ.head e) = Memᴰ.head (ap f e)
to_map f (Memᴰ.tail m) = Memᴰ.tail (to_map f m)

-- What holds in both cases of a test, or of a search, holds of the choice.
pub by_test : {A : Type 0} (P : A → Type 0) (t : Bool) {x y : A} → (t ≡ true → P x) → (t ≡ false → P y) → P (elim t [ true ↦ x | false ↦ y ])
by_test P true p q = p refl
by_test P false p q = q refl

pub by_found : {A : Type 0} (P : A → Type 0) (f : Found) {x : A} {y : ℕ → A} → (f ≡ none → P x) → ((n : ℕ) → f ≡ at n → P (y n))
    → P (elim f [ none ↦ x | at n ↦ y n ])
by_found P none p q = p refl
by_found P (at n) p q = q n refl

module _ {A : Type 0} where
  pub keep_yes : (p : A → Bool) (x : A) (l : List A) → p x ≡ true → keep p (x ∷ l) ≡ x ∷ keep p l
  keep_yes p x l h = rw (h, keep)

  pub keep_no : (p : A → Bool) (x : A) (l : List A) → p x ≡ false → keep p (x ∷ l) ≡ keep p l
  keep_no p x l h = rw (h, keep)

  pub keep_append : (p : A → Bool) (l r : List A) → keep p (l ++ r) ≡ keep p l ++ keep p r
  keep_append p [] r = refl
  keep_append p (x ∷ l) r = go (p x) refl (keep_append p l r)
    where
      go : (t : Bool) → p x ≡ t → keep p (l ++ r) ≡ keep p l ++ keep p r → keep p (x ∷ l ++ r) ≡ keep p (x ∷ l) ++ keep p r
      go true e ih = rw (keep_yes p x (l ++ r) e, keep_yes p x l e, ih)
      go false e ih = rw (keep_no p x (l ++ r) e, keep_no p x l e, ih)

  pub keep_same : (p : A → Bool) (l : List A) → ((x : A) → Memᴰ x l → p x ≡ true) → keep p l ≡ l
  keep_same p [] h = refl
  keep_same p (x ∷ l) h = rw (keep_yes p x l (h x (Memᴰ.head refl)), keep_same p l (λ y m. h y (Memᴰ.tail m)))

  -- Membership and tests.
  pub none_of : (p : A → Bool) {x : A} {l : List A} → any p l ≡ false → Memᴰ x l → p x ≡ false
  none_of p {l = []} h m = elim m [ ]
  none_of p {l = y ∷ l} h (Memᴰ.head e) = rw e (or_left (p y) (any p l) h)
  none_of p {l = y ∷ l} h (Memᴰ.tail m) = none_of p (or_right (p y) (any p l) h) m

  pub none_at_all : (p : A → Bool) (l : List A) → ((x : A) → Memᴰ x l → p x ≡ false) → any p l ≡ false
  none_at_all p [] h = refl
  none_at_all p (y ∷ l) h = neither (p y) (any p l) (h y (Memᴰ.head refl)) (none_at_all p l (λ x m. h x (Memᴰ.tail m)))

  pub one_of : (p : A → Bool) (l : List A) → any p l ≡ true → (x : A) × Memᴰ x l × (p x ≡ true)
  one_of p [] h = clash h refl
  one_of p (y ∷ l) h = go (p y) refl (one_of p l)
    where
      go : (t : Bool) → p y ≡ t → (any p l ≡ true → (x : A) × Memᴰ x l × (p x ≡ true)) → (x : A) × Memᴰ x (y ∷ l) × (p x ≡ true)
      go true e ih = (y, Memᴰ.head refl, e)
      go false e ih = let r = ih (rw (e, any) at h) in (r.0, Memᴰ.tail r.1, r.2)

  pub in_keep : (p : A → Bool) {x : A} (l : List A) → Memᴰ x (keep p l) → Memᴰ x l × (p x ≡ true)
  in_keep p [] m = absurd (Memᴰ.not-nil m)
  in_keep p {x} (y ∷ l) m =
      by_test (λ r. Memᴰ x r → Memᴰ x (y ∷ l) × (p x ≡ true)) (p y) (λ e m. first e (in_keep p l) (Memᴰ.cases_cons m))
      (λ e m. later (in_keep p l m)) m
    where
      later : Memᴰ x l × (p x ≡ true) → Memᴰ x (y ∷ l) × (p x ≡ true)
      later r = (Memᴰ.tail r.0, r.1)

      first : p y ≡ true → (Memᴰ x (keep p l) → Memᴰ x l × (p x ≡ true)) → (x ≡ y) ⊎ Memᴰ x (keep p l) → Memᴰ x (y ∷ l) × (p x ≡ true)
      first e ih (inl d) = (Memᴰ.head d, rw d e)
      first e ih (inr m) = later (ih m)

  pub to_keep : (p : A → Bool) {x : A} {l : List A} → Memᴰ x l → p x ≡ true → Memᴰ x (keep p l)
  to_keep p {x} {l = []} m h = elim m [ ]
  to_keep p {x} {l = y ∷ l} (Memᴰ.head d) h = rw (keep_yes p y l (rw d at h)) (Memᴰ.head d)
  to_keep p {x} {l = y ∷ l} (Memᴰ.tail m) h = by_test (λ r. Memᴰ x r) (p y) (λ e. Memᴰ.tail (to_keep p m h)) (λ e. to_keep p m h)

  -- Counting.
  pub count_none : (p : A → Bool) (l : List A) → any p l ≡ false → length (keep p l) ≡ 0
  count_none p [] h = refl
  count_none p (y ∷ l) h = rw (keep_no p y l (or_left (p y) (any p l) h)) (count_none p l (or_right (p y) (any p l) h))

  pub none_counted : (p : A → Bool) (l : List A) → length (keep p l) ≡ 0 → any p l ≡ false
  none_counted p l h = none_at_all p l (λ x m. go x m (p x) refl)
    where
      filled : (x : A) (r : List A) → Memᴰ x r → length r ≡ 0 → ⊥
      filled x [] m e = Memᴰ.not-nil m
      filled x (y ∷ r) m e = omega arith

      go : (x : A) → Memᴰ x l → (t : Bool) → p x ≡ t → p x ≡ false
      go x m true e = absurd (filled x (keep p l) (to_keep p m e) h)
      go x m false e = e

  pub count_le : (p : A → Bool) (l : List A) → length (keep p l) ≤ length l
  count_le p [] = omega arith
  count_le p (x ∷ l) = let ih = count_le p l in by_test (λ r. length r ≤ suc (length l)) (p x) (λ e. omega arith) (λ e. omega arith)

  pub count_tail : (p : A → Bool) (x : A) (l : List A) → length (keep p l) ≤ length (keep p (x ∷ l))
  count_tail p x l = by_test (λ r. length (keep p l) ≤ length r) (p x) (λ e. omega arith) (λ e. omega arith)

  pub count_kept : (p q : A → Bool) (l : List A) → length (keep p (keep q l)) ≤ length (keep p l)
  count_kept p q [] = omega arith
  count_kept p q (x ∷ l) =
      by_test (λ r. length (keep p r) ≤ length (keep p (x ∷ l))) (q x) (λ e. go (p x) refl (count_kept p q l))
      (λ e. omega (arith, count_kept p q l, count_tail p x l))
    where
      go : (t : Bool) → p x ≡ t → length (keep p (keep q l)) ≤ length (keep p l) → length (keep p (x ∷ keep q l)) ≤ length (keep p (x ∷ l))
      go true f ih = rw (keep_yes p x (keep q l) f, keep_yes p x l f) (omega arith)
      go false f ih = rw (keep_no p x (keep q l) f, keep_no p x l f) ih

  -- Elements that pass one of two tests that no element passes both.
  pub count_apart : (p q : A → Bool) (l : List A) → ((x : A) → p x ≡ true → q x ≡ false) → length (keep p l) + length (keep q l) ≤ length l
  count_apart p q [] h = omega arith
  count_apart p q (x ∷ l) h = go (p x) (q x) refl refl (count_apart p q l h)
    where
      go : (s t : Bool) → p x ≡ s → q x ≡ t → length (keep p l) + length (keep q l) ≤ length l
          → length (keep p (x ∷ l)) + length (keep q (x ∷ l)) ≤ suc (length l)
      go true true e f ih = clash f (h x e)
      go true false e f ih = rw (keep_yes p x l e, keep_no q x l f) (omega arith)
      go false true e f ih = rw (keep_no p x l e, keep_yes q x l f) (omega arith)
      go false false e f ih = rw (keep_no p x l e, keep_no q x l f) (omega arith)

  pub count_weaker : (p q : A → Bool) (l : List A) → ((x : A) → p x ≡ true → q x ≡ true) → length (keep p l) ≤ length (keep q l)
  count_weaker p q [] h = omega arith
  count_weaker p q (x ∷ l) h = go (p x) refl (count_weaker p q l h)
    where
      go : (s : Bool) → p x ≡ s → length (keep p l) ≤ length (keep q l) → length (keep p (x ∷ l)) ≤ length (keep q (x ∷ l))
      go true e ih = rw (keep_yes p x l e, keep_yes q x l (h x e)) (omega arith)
      go false e ih = rw (keep_no p x l e) (omega (arith, count_tail q x l))

  -- What each element has to each one after it.
  abbrev pub Pairs : (A → A → Type 0) → List A → Type 0
  Pairs R [] = Unit {0}
  Pairs R (x ∷ l) = ((y : A) → Memᴰ y l → R x y) × Pairs R l

  -- Turning a list round.
  in_turned : {x : A} (l r : List A) → Memᴰ x (reverse_aux l r) → Memᴰ x l ⊎ Memᴰ x r
  in_turned [] r m = inr m
  in_turned {x} (y ∷ l) r m = go (in_turned l (y ∷ r) m)
    where
      more : (x ≡ y) ⊎ Memᴰ x r → Memᴰ x (y ∷ l) ⊎ Memᴰ x r
      more (inl e) = inl (Memᴰ.head e)
      more (inr n) = inr n

      go : Memᴰ x l ⊎ Memᴰ x (y ∷ r) → Memᴰ x (y ∷ l) ⊎ Memᴰ x r
      go (inl n) = inl (Memᴰ.tail n)
      go (inr n) = more (Memᴰ.cases_cons n)

  pub in_reverse : {x : A} (l : List A) → Memᴰ x (reverse l) → Memᴰ x l
  in_reverse {x} l m = go (in_turned l [] m)
    where
      go : Memᴰ x l ⊎ Memᴰ x [] → Memᴰ x l
      go (inl n) = n
      go (inr n) = absurd (Memᴰ.not-nil n)

  count_turned : (p : A → Bool) (l r : List A) → length (keep p (reverse_aux l r)) ≡ length (keep p l) + length (keep p r)
  count_turned p [] r = omega arith
  count_turned p (y ∷ l) r = go (p y) refl (count_turned p l (y ∷ r))
    where
      go : (s : Bool) → p y ≡ s → length (keep p (reverse_aux l (y ∷ r))) ≡ length (keep p l) + length (keep p (y ∷ r))
          → length (keep p (reverse_aux l (y ∷ r))) ≡ length (keep p (y ∷ l)) + length (keep p r)
      go true e ih = rw (keep_yes p y l e) (let h = rw (keep_yes p y r e) at ih in omega arith)
      go false e ih = rw (keep_no p y l e) (let h = rw (keep_no p y r e) at ih in omega arith)

  pub count_reverse : (p : A → Bool) (l : List A) → length (keep p (reverse l)) ≡ length (keep p l)
  count_reverse p l = let h = count_turned p l [] in omega arith

  turned_pairs : (R : A → A → Type 0) (l r : List A) → Pairs R l → Pairs (λ x y. R y x) r → ((x y : A) → Memᴰ x l → Memᴰ y r → R y x)
      → Pairs (λ x y. R y x) (reverse_aux l r)
  turned_pairs R [] r h k c = k
  turned_pairs R (z ∷ l) r h k c = turned_pairs R l (z ∷ r) h.1 ((λ y m. c z y (Memᴰ.head refl) m), k) (λ x y m n. cross x y m (Memᴰ.cases_cons n))
    where
      cross : (x y : A) → Memᴰ x l → (y ≡ z) ⊎ Memᴰ y r → R y x
      cross x y m (inl e) = rw e (h.0 x m)
      cross x y m (inr n) = c x y (Memᴰ.tail m) n

  pub pairs_reverse : (R : A → A → Type 0) (l : List A) → Pairs R l → Pairs (λ x y. R y x) (reverse l)
  pairs_reverse R l h = turned_pairs R l [] h tt (λ x y m n. absurd (Memᴰ.not-nil n))

  -- Sorting.
  module _ (less : A → A → Bool) where
    in_inserted : (x : A) {z : A} (l : List A) → Memᴰ z (inserted less x l) → Memᴰ z (x ∷ l)
    unfolding inserted
    in_inserted x [] m = m
    in_inserted x {z} (y ∷ l) m =
        by_test (λ r. Memᴰ z r → Memᴰ z (x ∷ y ∷ l)) (less y x) (λ e m. past (in_inserted x l) (Memᴰ.cases_cons m)) (λ e m. m) m
      where
        behind : (z ≡ x) ⊎ Memᴰ z l → Memᴰ z (x ∷ y ∷ l)
        behind (inl e) = Memᴰ.head e
        behind (inr m) = Memᴰ.tail (Memᴰ.tail m)

        past : (Memᴰ z (inserted less x l) → Memᴰ z (x ∷ l)) → (z ≡ y) ⊎ Memᴰ z (inserted less x l) → Memᴰ z (x ∷ y ∷ l)
        past ih (inl e) = Memᴰ.tail (Memᴰ.head e)
        past ih (inr m) = behind (Memᴰ.cases_cons (ih m))

    pub in_sorted : {z : A} (l : List A) → Memᴰ z (sorted less l) → Memᴰ z l
    unfolding sorted
    in_sorted [] m = m
    in_sorted {z} (x ∷ l) m = go (in_sorted l) (Memᴰ.cases_cons (in_inserted x (sorted less l) m))
      where
        go : (Memᴰ z (sorted less l) → Memᴰ z l) → (z ≡ x) ⊎ Memᴰ z (sorted less l) → Memᴰ z (x ∷ l)
        go ih (inl e) = Memᴰ.head e
        go ih (inr n) = Memᴰ.tail (ih n)

    count_inserted : (p : A → Bool) (x : A) (l : List A) → length (keep p (inserted less x l)) ≡ length (keep p (x ∷ l))
    unfolding inserted
    count_inserted p x [] = refl
    count_inserted p x (y ∷ l) =
        by_test (λ r. length (keep p r) ≡ length (keep p (x ∷ y ∷ l))) (less y x) (λ e. go (p x) (p y) refl refl (count_inserted p x l)) (λ e. refl)
      where
        go : (s t : Bool) → p x ≡ s → p y ≡ t → length (keep p (inserted less x l)) ≡ length (keep p (x ∷ l))
            → length (keep p (y ∷ inserted less x l)) ≡ length (keep p (x ∷ y ∷ l))
        go true true e f ih = rw (keep_yes p y (inserted less x l) f, keep_yes p x (y ∷ l) e, keep_yes p y l f, ih, keep_yes p x l e)
        go true false e f ih = rw (keep_no p y (inserted less x l) f, keep_yes p x (y ∷ l) e, keep_no p y l f, ih, keep_yes p x l e)
        go false true e f ih = rw (keep_yes p y (inserted less x l) f, keep_no p x (y ∷ l) e, keep_yes p y l f, ih, keep_no p x l e)
        go false false e f ih = rw (keep_no p y (inserted less x l) f, keep_no p x (y ∷ l) e, keep_no p y l f, ih, keep_no p x l e)

    pub count_sorted : (p : A → Bool) (l : List A) → length (keep p (sorted less l)) ≡ length (keep p l)
    unfolding sorted
    count_sorted p [] = refl
    count_sorted p (x ∷ l) = count_inserted p x (sorted less l) ∙ go (p x) refl (count_sorted p l)
      where
        go : (s : Bool) → p x ≡ s → length (keep p (sorted less l)) ≡ length (keep p l) → length (keep p (x ∷ sorted less l)) ≡ length (keep p (x ∷ l))
        go true e ih = rw (keep_yes p x (sorted less l) e, keep_yes p x l e, ih)
        go false e ih = rw (keep_no p x (sorted less l) e, keep_no p x l e, ih)

    pub length-sorted : (l : List A) → length (sorted less l) ≡ length l
    length-sorted l = ap length (sym (all (sorted less l))) ∙ (count_sorted (λ x. true) l ∙ ap length (all l))
      where
        all : (l : List A) → keep (λ x. true) l ≡ l
        all l = keep_same (λ x. true) l (λ x m. refl)

    -- A sorted list has no element before one in front of it.
    module _ (o : Order less) (strict : (x : A) → less x x ≡ false) where
      asym : (x y : A) → less y x ≡ true → less x y ≡ false
      asym x y h = go (less x y) refl
        where
          go : (t : Bool) → less x y ≡ t → less x y ≡ false
          go true e = clash (o.through y x y h e) (strict y)
          go false e = e

      under : (x y z : A) → less y x ≡ false → less z y ≡ false → less z x ≡ false
      under x y z h k = go (less z x) refl
        where
          go : (t : Bool) → less z x ≡ t → less z x ≡ false
          go true e = clash (o.under z y x e h) k
          go false e = e

      abbrev Rises : List A → Type 0
      Rises l = Pairs (λ x y. less y x ≡ false) l

      rises_inserted : (x : A) (l : List A) → Rises l → Rises (inserted less x l)
      unfolding inserted
      rises_inserted x [] r = ((λ y m. absurd (Memᴰ.not-nil m)), tt)
      rises_inserted x (y ∷ l) r =
          by_test (λ k. Rises k) (less y x) (λ e. ((λ z m. past e z (Memᴰ.cases_cons (in_inserted x l m))), rises_inserted x l r.1))
          (λ e. ((λ z m. front e z (Memᴰ.cases_cons m)), r))
        where
          past : less y x ≡ true → (z : A) → (z ≡ x) ⊎ Memᴰ z l → less z y ≡ false
          past e z (inl d) = rw d (asym x y e)
          past e z (inr m) = r.0 z m

          front : less y x ≡ false → (z : A) → (z ≡ y) ⊎ Memᴰ z l → less z x ≡ false
          front e z (inl d) = rw d e
          front e z (inr m) = under x y z e (r.0 z m)

      pub rises_sorted : (l : List A) → Rises (sorted less l)
      unfolding sorted
      rises_sorted [] = tt
      rises_sorted (x ∷ l) = rises_inserted x (sorted less l) (rises_sorted l)
