-- The few words on lists and numbers that the rules are written in. A list that a loop builds holds its newest element first.
use Rattle.std.specs.Prelude.{ℕ, zero, suc, min, max, Bool, true, false, ◌||◌, List, [], ◌∷◌}

-- A number that may not be there: an index, a level, a lane.
pub data Found : Type 0 where
  none : Found
  at : ℕ → Found

abbrev pub found : Found → Bool
found none = false
found (at n) = true

-- The first of two that is there.
abbrev pub or_else : Found → Found → Found
or_else none f = f
or_else (at n) f = at n

-- The numbers below n, the greatest first.
abbrev pub upto : ℕ → List ℕ
upto zero = []
upto (suc n) = n ∷ upto n

-- The greatest number below n that passes the test.
abbrev pub newest : (ℕ → Bool) → ℕ → Found
newest p zero = none
newest p (suc n) = elim (p n) [ true ↦ at n | false ↦ newest p n ]

-- The least number below n that passes the test.
abbrev pub oldest : (ℕ → Bool) → ℕ → Found
oldest p zero = none
oldest p (suc n) = elim (oldest p n) [ at k ↦ at k | none ↦ elim (p n) [ true ↦ at n | false ↦ none ] ]

module _ {ℓ} {A : Type ℓ} where
  -- Whether an element passes the test.
  abbrev pub any : (A → Bool) → List A → Bool
  any p [] = false
  any p (x ∷ l) = p x || any p l

  -- The elements that pass the test, in their order.
  abbrev pub keep : (A → Bool) → List A → List A
  keep p [] = []
  keep p (x ∷ l) = elim (p x) [ true ↦ x ∷ keep p l | false ↦ keep p l ]

  -- A loop over a list, from its oldest element, the last, to its newest.
  abbrev pub fold {κ} : {S : Type κ} → (S → A → S) → S → List A → S
  fold step s [] = s
  fold step s (x ∷ l) = step (fold step s l) x

-- The least and the greatest of a list, and d of the empty one.
abbrev pub least : ℕ → List ℕ → ℕ
least d [] = d
least d (x ∷ l) = min x (least x l)

abbrev pub greatest : ℕ → List ℕ → ℕ
greatest d [] = d
greatest d (x ∷ l) = max x (greatest x l)
