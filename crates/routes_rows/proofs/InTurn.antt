-- Items taken in the order of keys, a row's state begun anew with each row: where an item's turn comes, the state is what the items before it with its key, taken by
-- their numbers, have made of it.
use Prim.Native.Nat.{ℕ, zero, suc, ◌≤◌, ◌<◌}
use native.Mathlib.Omega.{arith}
use mathlib.Core.Path.{◌≡◌, refl, ap, sym, ◌∙◌}
use mathlib.Core.Bool.{Bool, true, false, not}
use mathlib.Core.List.{List}
use lib.Dec.{eqb}
use borrow.Author.Tests.{eqb-true, eqb-false, eq-eqb, ne_eqb}
use Rattle.base.specs.Runs.{Ordered}
use Rattle.routes_rows.specs.Booking.{key_of, order_at, begins}

module _ {S : Type 0} (items : List (List ℕ)) (nothing : S) (step : ℕ → S → S) where
  -- The state at the p-th item's turn, from the state after those before it.
  abbrev pub anew : Bool → S → S
  anew true s = nothing
  anew false s = s

  abbrev pub after : ℕ → S
  after zero = nothing
  after (suc p) = step (order_at items p) (anew (begins items p) (after p))

  -- The state of a key's row after the items before i.
  abbrev pub step_if : Bool → ℕ → S → S
  step_if true i s = step i s
  step_if false i s = s

  abbrev pub among : ℕ → ℕ → S
  among key zero = nothing
  among key (suc i) = step_if (eqb (key_of items i) key) i (among key i)

  -- Items of other rows do not bear on it.
  pub passed_over : (key i : ℕ) → (key_of items i ≡ key → ⊥) → among key (suc i) ≡ among key i
  passed_over key i other = ap (λ t. step_if t i (among key i)) (ne_eqb (key_of items i) key other)

  pub all_passed : (key a i : ℕ) → a ≤ i → ((j : ℕ) → a ≤ j → j < i → key_of items j ≡ key → ⊥) → among key i ≡ among key a
  all_passed key a zero h other = ap (among key) (let z : zero ≡ a = omega arith in z)
  all_passed key a (suc i) h other = go (eqb a (suc i)) refl (λ l. all_passed key a i l (λ j s t. other j s (omega arith)))
    where
      go : (t : Bool) → eqb a (suc i) ≡ t → (a ≤ i → among key i ≡ among key a) → among key (suc i) ≡ among key a
      go true e ih = ap (among key) (sym (eqb-true a (suc i) e))
      go false e ih = let l : a ≤ i = omega (arith, eqb-false a (suc i) e) in passed_over key i (other i l (omega arith)) ∙ ih l

  module _ (keys n count : ℕ) (o : Ordered (key_of items) (order_at items) keys n count) where
    pub at_its_turn : (p : ℕ) → p < count → anew (begins items p) (after p) ≡ among (key_of items (order_at items p)) (order_at items p)
    at_its_turn zero h = sym (all_passed (key_of items (order_at items 0)) 0 (order_at items 0) (omega arith) (λ j s l. o.first h j l))
    at_its_turn (suc p) h = go (eqb (key_of items a) (key_of items i)) refl (at_its_turn p (omega arith))
      where
        a : ℕ
        a = order_at items p

        i : ℕ
        i = order_at items (suc p)

        go : (t : Bool) → eqb (key_of items a) (key_of items i) ≡ t → anew (begins items p) (after p) ≡ among (key_of items a) a
            → anew (not t) (after (suc p)) ≡ among (key_of items i) i
        go false e ih = sym (all_passed (key_of items i) 0 i (omega arith) (λ j s l. o.begins p h (eqb-false (key_of items a) (key_of items i) e) j l))
        go true e ih =
            let same : key_of items a ≡ key_of items i = eqb-true (key_of items a) (key_of items i) e in
            ap (step a) ih
            ∙ (ap (λ t. step_if t a (among (key_of items a) a)) (sym (eq-eqb (key_of items a) (key_of items a) refl))
            ∙ (sym (all_passed (key_of items a) (suc a) i (let l = o.next p h same in omega arith) (λ j s l. o.between p h same j (omega arith) l))
            ∙ ap (λ k. among k i) same))
