-- What holds of every element, or of one, and the insertion sort, which keeps both.
use mathlib.Core.Path.{◌≡◌, refl, ap, ◌∙◌}
use mathlib.Core.Bool.{Bool, true, false}
use mathlib.Core.Logic.{◌⊎◌, inl, inr, ⊎_elim}
use mathlib.Core.List.{List, [], ◌∷◌, ◌++◌, map}
use Prim.Native.Nat.{ℕ, zero, suc, ◌<◌}
use native.Mathlib.Omega.{arith}
use lib.ListN.{length, get_or}
use Rattle.base.specs.Sort.{inserted, sorted}
use Rattle.base.proofs.SortLaws.{inserted_past, inserted_here}

module _ {A : Type 0} (P : A → Type 0) where
  abbrev pub All : List A → Type 0
  All [] = Unit
  All (x ∷ xs) = P x × All xs

  abbrev pub Any : List A → Type 0
  Any [] = ⊥
  Any (x ∷ xs) = P x ⊎ Any xs

  pub all_of : (d : A) (xs : List A) → ((i : ℕ) → i < length xs → P (get_or xs i d)) → All xs
  all_of d [] f = tt
  all_of d (x ∷ xs) f = (f 0 (omega arith), all_of d xs (λ i h. f (suc i) (omega arith)))

  pub all_append : (xs ys : List A) → All xs → All ys → All (xs ++ ys)
  all_append [] ys a b = b
  all_append (x ∷ xs) ys a b = (a.0, all_append xs ys a.1 b)

  pub all_at : (d : A) (xs : List A) → All xs → (i : ℕ) → i < length xs → P (get_or xs i d)
  all_at d [] a i h = absurd (omega arith)
  all_at d (x ∷ xs) a zero h = a.0
  all_at d (x ∷ xs) a (suc i) h = all_at d xs a.1 i (omega arith)

module _ {A : Type 0} {P Q : A → Type 0} where
  pub all_map : ((x : A) → P x → Q x) → (xs : List A) → All P xs → All Q xs
  all_map f [] a = tt
  all_map f (x ∷ xs) a = (f x a.0, all_map f xs a.1)

  pub any-map : ((x : A) → P x → Q x) → (xs : List A) → Any P xs → Any Q xs
  any-map f [] h = h
  any-map f (x ∷ xs) h = ⊎_elim (λ p. inl (f x p)) (λ t. inr (any-map f xs t)) h

  -- the element of which P holds, with what holds of all
  pub any_with : {R : Type 0} → ((x : A) → P x → Q x → R) → (xs : List A) → Any P xs → All Q xs → R
  any_with f [] h a = absurd h
  any_with f (x ∷ xs) h a = ⊎_elim (λ p. f x p a.0) (λ t. any_with f xs t a.1) h

module _ {A : Type 0} {P Q R : A → Type 0} where
  pub all_map₂ : ((x : A) → P x → Q x → R x) → (xs : List A) → All P xs → All Q xs → All R xs
  all_map₂ f [] a b = tt
  all_map₂ f (x ∷ xs) a b = (f x a.0 b.0, all_map₂ f xs a.1 b.1)

  pub any_map₂ : ((x : A) → P x → Q x → R x) → (xs : List A) → Any P xs → All Q xs → Any R xs
  any_map₂ f [] h b = h
  any_map₂ f (x ∷ xs) h b = ⊎_elim (λ p. inl (f x p b.0)) (λ t. inr (any_map₂ f xs t b.1)) h

module _ {A B : Type 0} (f : A → B) (P : B → Type 0) where
  pub all_mapped : (xs : List A) → All P (map f xs) → All (λ x. P (f x)) xs
  all_mapped [] a = tt
  all_mapped (x ∷ xs) a = (a.0, all_mapped xs a.1)

  pub any_mapped : (xs : List A) → Any P (map f xs) → Any (λ x. P (f x)) xs
  any_mapped [] h = h
  any_mapped (x ∷ xs) h = ⊎_elim (λ p. inl p) (λ t. inr (any_mapped xs t)) h

module _ {A : Type 0} (less : A → A → Bool) (P : A → Type 0) where
  pub all_inserted : (x : A) (ys : List A) → P x → All P ys → All P (inserted less x ys)
  unfolding inserted
  all_inserted x [] p a = (p, tt)
  all_inserted x (y ∷ ys) p a = go (less y x) refl (all_inserted x ys p a.1)
    where
      go : (b : Bool) → less y x ≡ b → All P (inserted less x ys) → All P (inserted less x (y ∷ ys))
      go true h ih = rw (inserted_past less x y ys h) (a.0, ih)
      go false h ih = rw (inserted_here less x y ys h) (p, a)

  pub all_sorted : (xs : List A) → All P xs → All P (sorted less xs)
  unfolding sorted
  all_sorted [] a = tt
  all_sorted (x ∷ xs) a = all_inserted x (sorted less xs) a.0 (all_sorted xs a.1)

  pub any_inserted : (x : A) (ys : List A) → P x ⊎ Any P ys → Any P (inserted less x ys)
  unfolding inserted
  any_inserted x [] h = h
  any_inserted x (y ∷ ys) h = go (less y x) refl (any_inserted x ys)
    where
      go : (b : Bool) → less y x ≡ b → (P x ⊎ Any P ys → Any P (inserted less x ys)) → Any P (inserted less x (y ∷ ys))
      go true e ih = rw (inserted_past less x y ys e) (⊎_elim (λ p. inr (ih (inl p))) (⊎_elim (λ p. inl p) (λ t. inr (ih (inr t)))) h)
      go false e ih = rw (inserted_here less x y ys e) h

  pub any_sorted : (xs : List A) → Any P xs → Any P (sorted less xs)
  unfolding sorted
  any_sorted [] h = h
  any_sorted (x ∷ xs) h = any_inserted x (sorted less xs) (⊎_elim (λ p. inl p) (λ t. inr (any_sorted xs t)) h)

-- a sort of keys is the keys of the sort, where the keys compare as what they are keys of
module _ {A B : Type 0} (lessA : A → A → Bool) (lessB : B → B → Bool) (key : A → B) where
  abbrev pub Agrees : A → A → Type 0
  Agrees x y = lessB (key y) (key x) ≡ lessA y x

  pub inserted_keys : (x : A) (ys : List A) → All (Agrees x) ys → inserted lessB (key x) (map key ys) ≡ map key (inserted lessA x ys)
  unfolding inserted
  inserted_keys x [] a = refl
  inserted_keys x (y ∷ ys) a = go (lessA y x) refl (inserted_keys x ys a.1)
    where
      go : (b : Bool) → lessA y x ≡ b → inserted lessB (key x) (map key ys) ≡ map key (inserted lessA x ys)
          → inserted lessB (key x) (map key (y ∷ ys)) ≡ map key (inserted lessA x (y ∷ ys))
      go true h ih = rw (inserted_past lessA x y ys h) (inserted_past lessB (key x) (key y) (map key ys) (a.0 ∙ h) ∙ ap {B = List B} (λ r. key y ∷ r) ih)
      go false h ih = rw (inserted_here lessA x y ys h) (inserted_here lessB (key x) (key y) (map key ys) (a.0 ∙ h))
