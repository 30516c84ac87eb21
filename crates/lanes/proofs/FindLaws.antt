-- One law for every loop that searches from the front: what is passed, and where it stops.
use mathlib.Core.Path.{◌≡◌, refl, sym, ◌∙◌}
use mathlib.Core.Bool.{Bool, true, false}
use mathlib.Core.List.{List, [], ◌∷◌}
use Prim.Native.Nat.{ℕ, suc, ◌+◌, ◌≤◌, ◌<◌}
use native.Mathlib.Numerals.{add-one}
use native.Mathlib.Omega.{arith}
use lib.ListN.{length, get_or, drop}
use lib.Seq.{drop-cons}
use mathlib.Core.List.{map}
use borrow.Author.Tests.{ltb-true, ltb-false}
use Rattle.base.proofs.Bools.{never}
use Rattle.std.specs.Prelude.{Some, None, nat_lt}
use Rattle.std.specs.List.{position, position_or_len}
use Rattle.lanes.specs.Lanes.{first_that}

module _ {A : Type 0} (p : A → Bool) where
  pub first_here : (x : A) (xs : List A) → p x ≡ true → first_that p (x ∷ xs) ≡ 0
  unfolding first_that
  first_here x xs h = rw (h, first_that)

  pub first_past : (x : A) (xs : List A) → p x ≡ false → first_that p (x ∷ xs) ≡ suc (first_that p xs)
  unfolding first_that
  first_past x xs h = rw (h, first_that)

  -- none of the first i passes
  abbrev pub Passed : List A → ℕ → Type 0
  Passed xs i = first_that p xs ≡ i + first_that p (drop i xs)

  pub passed_none : (xs : List A) → Passed xs 0
  passed_none xs = omega arith

  module _ (xs : List A) (i : ℕ) (so_far : Passed xs i) where
    pub passed_more : (d : A) → i < length xs → p (get_or xs i d) ≡ false → Passed xs (i + 1)
    passed_more d h f =
        let e : first_that p (drop i xs) ≡ suc (first_that p (drop (i + 1) xs)) = rw (add-one i, drop-cons xs i d h) (first_past (get_or xs i d) (drop (suc i) xs) f) in
        omega arith

  pub first_within : (xs : List A) → first_that p xs ≤ length xs
  first_within [] = unfold first_that in omega arith
  first_within (x ∷ xs) = go (p x) refl (first_within xs)
    where
      go : (b : Bool) → p x ≡ b → first_that p xs ≤ length xs → first_that p (x ∷ xs) ≤ length (x ∷ xs)
      go true h ih = rw (first_here x xs h) (omega arith)
      go false h ih = rw (first_past x xs h) (omega arith)

-- the library's search in a list of what the elements are made from
module _ {A B : Type 0} (p : B → Bool) (f : A → B) where
  first_position : (xs : List A) → first_that p (map f xs) ≡ position_or_len (λ x. p (f x)) xs
  unfolding first_that
  first_position [] = refl
  first_position (x ∷ xs) = go (p (f x)) refl (first_position xs)
    where
      go : (b : Bool) → p (f x) ≡ b → first_that p (map f xs) ≡ position_or_len (λ y. p (f y)) xs → first_that p (map f (x ∷ xs)) ≡ position_or_len (λ y. p (f y)) (x ∷ xs)
      go true h ih = rw (h, first_that) refl
      go false h ih = rw (h, first_that) (omega (arith, ih))

  pub position_some : (xs : List A) (i : ℕ) → position (λ x. p (f x)) xs ≡ Some i → (i ≡ first_that p (map f xs)) × (i < length xs)
  position_some xs i e = go (nat_lt (position_or_len (λ x. p (f x)) xs) (length xs)) refl
    where
      go : (b : Bool) → nat_lt (position_or_len (λ x. p (f x)) xs) (length xs) ≡ b → (i ≡ first_that p (map f xs)) × (i < length xs)
      go true t =
          let some : Some (position_or_len (λ x. p (f x)) xs) ≡ Some i = rw t at e in
          let at : position_or_len (λ x. p (f x)) xs ≡ i = cc in
          (sym at ∙ sym (first_position xs), omega (arith, ltb-true _ _ t, at))
      go false t = let some : None ≡ Some i = rw t at e in never cc

  pub position_none : (xs : List A) → position (λ x. p (f x)) xs ≡ None → length xs ≤ first_that p (map f xs)
  position_none xs e = go (nat_lt (position_or_len (λ x. p (f x)) xs) (length xs)) refl
    where
      go : (b : Bool) → nat_lt (position_or_len (λ x. p (f x)) xs) (length xs) ≡ b → length xs ≤ first_that p (map f xs)
      go true t = let some : Some (position_or_len (λ x. p (f x)) xs) ≡ None = rw t at e in never cc
      go false t = omega (arith, ltb-false _ _ t, first_position xs)
