-- Where the page of a tap ends: at the first tap from it on that is of another page.
use Rattle.std.proofs.Common.{◌≡◌, ℕ, ◌+◌, ◌-◌, ◌<◌, ◌≤◌, Bool, true, false, not, Some, None, nat_eq, nat_lt, List, [], length, get_or, take, drop, sym, refl, ap, ◌∙◌, subst, arith, length-take, length-drop, ltb-true, ltb-false, eq-eqb, eqb-true}
use Rattle.std.proofs.lemmas.List.{get_or-take, get_or-drop}
use Rattle.std.proofs.lemmas.List.Sums.{fails_before_first, passes_at_first}
use Rattle.std.specs.List.{position, position_or_len}
use Rattle.base.proofs.Bools.{never, clash}
use Rattle.board.specs.Board.{field}
use Rattle.routes_levels.specs.Pages.{OnePage}

-- What the library's search tells.
module _ {A : Type 0} (p : A → Bool) (xs : List A) where
  pub position_found : (n : ℕ) → Some n ≡ position p xs → (n ≡ position_or_len p xs) × (n < length xs)
  position_found n e = go (nat_lt (position_or_len p xs) (length xs)) refl
    where
      go : (b : Bool) → nat_lt (position_or_len p xs) (length xs) ≡ b → (n ≡ position_or_len p xs) × (n < length xs)
      go true t =
          let some : Some n ≡ Some (position_or_len p xs) = rw t at e in
          let at : n ≡ position_or_len p xs = cc in
          (at, omega (arith, ltb-true _ _ t, at))
      go false t = let some : Some n ≡ None = rw t at e in never cc

  pub position_past : None ≡ position p xs → length xs ≤ position_or_len p xs
  position_past e = go (nat_lt (position_or_len p xs) (length xs)) refl
    where
      go : (b : Bool) → nat_lt (position_or_len p xs) (length xs) ≡ b → length xs ≤ position_or_len p xs
      go true t = let some : None ≡ Some (position_or_len p xs) = rw t at e in never cc
      go false t = omega (arith, ltb-false _ _ t)

-- The taps from the a-th up to the e-th stand in the slice of them.
pub tap_at : (laid : List (List ℕ)) (a e i : ℕ) → i < length (take (e - a) (drop a laid)) → get_or (take (e - a) (drop a laid)) i [] ≡ get_or laid (a + i) []
tap_at laid a e i h = get_or-take (e - a) (drop a laid) i [] (omega (arith, h, length-take (e - a) (drop a laid))) ∙ get_or-drop a laid i []

module _ (laid : List (List ℕ)) (a : ℕ) (here : a < length laid) where
  abbrev rest : List (List ℕ)
  rest = take (length laid - a) (drop a laid)

  long : length rest ≡ length laid - a
  long = omega (arith, length-take (length laid - a) (drop a laid), length-drop a laid)

  abbrev other : List ℕ → Bool
  other tap = not (nat_eq (get_or tap 0 0) (field laid a 0))

  before : (i : ℕ) → i < length rest → i < position_or_len other rest → field laid (a + i) 0 ≡ field laid a 0
  before i h l =
      let passed : other (get_or laid (a + i) []) ≡ false = ap other (sym (tap_at laid a (length laid) i h)) ∙ fails_before_first other rest i [] l in
      go (nat_eq (field laid (a + i) 0) (field laid a 0)) refl passed
    where
      go : (b : Bool) → nat_eq (field laid (a + i) 0) (field laid a 0) ≡ b → not b ≡ false → field laid (a + i) 0 ≡ field laid a 0
      go true t f = eqb-true _ _ t
      go false t f = clash refl f

  same_up_to : (n : ℕ) → n ≤ length rest → n ≤ position_or_len other rest → OnePage laid a (a + n)
  same_up_to n h l = record {
    same = λ i from below. let k : a + (i - a) ≡ i = omega arith in
        ap (λ j. field laid j 0) (sym k) ∙ before (i - a) (omega arith) (omega arith);
  }

  pub page_found : (n : ℕ) → Some n ≡ position other rest → (a < a + n) × (a + n ≤ length laid) × OnePage laid a (a + n) × (a + n < length laid → field laid (a + n) 0 ≡ field laid a 0 → ⊥)
  page_found n e =
      let f = position_found other rest n e in
      let there : other (get_or rest n []) ≡ true = ap (λ m. other (get_or rest m [])) f.0 ∙ passes_at_first other rest [] (omega (arith, f.0, f.1)) in
      let away : other (get_or laid (a + n) []) ≡ true = ap other (sym (tap_at laid a (length laid) n f.1)) ∙ there in
      let moved : field laid (a + n) 0 ≡ field laid a 0 → ⊥ = λ z. clash away (ap not (eq-eqb _ _ z)) in
      let some : n ≡ 0 → ⊥ = λ z. let first : a + n ≡ a = omega arith in moved (ap (λ j. field laid j 0) first) in
      (omega (arith, some), omega (arith, f.1, long), same_up_to n (omega (arith, f.1)) (omega (arith, f.0)), λ below. moved)

  pub page_whole : None ≡ position other rest → (a < length laid) × (length laid ≤ length laid) × OnePage laid a (length laid) × (length laid < length laid → field laid (length laid) 0 ≡ field laid a 0 → ⊥)
  page_whole e =
      let all : a + length rest ≡ length laid = omega (arith, long) in
      (here, omega arith, subst (OnePage laid a) all (same_up_to (length rest) (omega arith) (position_past other rest e)), λ below z. omega arith)
