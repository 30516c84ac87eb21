-- The levels of a span gone through upward or downward: the lowest that passes a test, and the least loaded. Assumes nothing.
use Rattle.std.proofs.Common.{◌≡◌, ℕ, zero, suc, ◌+◌, ◌-◌, ◌*◌, ◌≤◌, ◌<◌, Bool, true, false, ◌&&◌, eqb, ltb, leb, ltb-true, List, get_or, Option, None, Some, refl, sym, ap, ap₂, ◌∙◌, subst, arith, le-leb}
use Rattle.std.proofs.lemmas.Bool.{lt-leb}
use Rattle.sheet.specs.Table.{MISSING}
use Rattle.base.specs.Lists.{Found, none, at}
use Rattle.base.proofs.Bools.{never, pick_true, pick_false}
use Rattle.routes.specs.Levels.{lowest, lighter, lightest}
use Rattle.routes_rows.specs.Blocked.{count_in, level_no}
use Rattle.routes_rows.specs.Notes.{load_no}
use Rattle.board.specs.Index.{found_of}
use Rattle.routes_rows.specs.Entries.{LEVELS_END, level_in, TellsClear, TellsLoads}
use Rattle.routes_rows.specs.declared.book.Cell.{Cell}

at_same : (a l : ℕ) → at a ≡ at l → a ≡ l
at_same a l e = cc

-- What a level told says was found.
pub found_at : (f : Found) (l : ℕ) → Some l ≡ found_of f → f ≡ at l
found_at none l e = never cc
found_at (at y) l e = ap at (cc)

pub found_none : (f : Found) → None ≡ found_of f → f ≡ none
found_none none e = refl
found_none (at y) e = never cc

-- A level that an answer tells is one that a corner can stand at.
pub level_low : (a l : ℕ) → found_of (level_in a) ≡ Some l → l < LEVELS_END
level_low a l e = go (ltb a LEVELS_END) refl (found_at (level_in a) l (sym e))
  where
    go : (t : Bool) → ltb a LEVELS_END ≡ t → level_in a ≡ at l → l < LEVELS_END
    go true q is = let low = ltb-true a LEVELS_END q in let same : at a ≡ at l = sym (pick_true (ltb a LEVELS_END) (at a) none q) ∙ is in omega (arith, low, at_same a l same)
    go false q is = let z : none ≡ at l = sym (pick_false (ltb a LEVELS_END) (at a) none q) ∙ is in never cc

-- What the code asks of a level, by its end and its load.
pub open_at : (span : Cell) (clear : ℕ → Bool) (load : ℕ → ℕ) (notes : List ℕ) (k : ℕ) {r : Bool} → TellsClear span clear notes → TellsLoads span load notes → k < count_in span
    → r ≡ (eqb (load_no notes k) 0 && leb (get_or notes k 0) (level_no span k)) → r ≡ (eqb (load (level_no span k)) 0 && clear (level_no span k))
open_at span clear load notes k h g low is = is ∙ ap₂ (λ s t. eqb s 0 && t) (g k low).0 (h k low)

-- The first level that passes is the lowest; where none passes there is none.
pub lowest_first : (free : ℕ → Bool) (x n k : ℕ) → k < n → ((j : ℕ) → j < k → free (x + 2 * j) ≡ false) → free (x + 2 * k) ≡ true → lowest free x n ≡ at (x + 2 * k)
lowest_first free x zero k low before here = absurd (omega (arith, low))
lowest_first free x (suc n) zero low before here =
    let z : x + 2 * 0 ≡ x = omega arith in
    pick_true (free x) (at x) (lowest free (x + 2) n) (subst (λ (l : ℕ). free l ≡ true) z here) ∙ ap at (sym z)
lowest_first free x (suc n) (suc k) low before here =
    let z : x + 2 * 0 ≡ x = omega arith in
    let next : x + 2 * suc k ≡ x + 2 + 2 * k = omega arith in
    pick_false (free x) (at x) (lowest free (x + 2) n) (subst (λ (l : ℕ). free l ≡ false) z (before 0 (omega arith)))
    ∙ lowest_first free (x + 2) n k (omega (arith, low))
    (λ j b. let e : x + 2 * suc j ≡ x + 2 + 2 * j = omega arith in subst (λ (l : ℕ). free l ≡ false) e (before (suc j) (omega (arith, b))))
    (subst (λ (l : ℕ). free l ≡ true) next here)
    ∙ ap at (sym next)

pub lowest_closed : (free : ℕ → Bool) (x n : ℕ) → ((k : ℕ) → k < n → free (x + 2 * k) ≡ false) → lowest free x n ≡ none
lowest_closed free x zero h = refl
lowest_closed free x (suc n) h =
    let z : x + 2 * 0 ≡ x = omega arith in
    let here : free x ≡ false = subst (λ (l : ℕ). free l ≡ false) z (h 0 (omega arith)) in
    pick_false (free x) (at x) (lowest free (x + 2) n) here
    ∙ lowest_closed free (x + 2) n (λ k low. let z : x + 2 * suc k ≡ x + 2 + 2 * k = omega arith in subst (λ (l : ℕ). free l ≡ false) z (h (suc k) (omega (arith, low))))

pub lightest_closed : (ok : ℕ → Bool) (load : ℕ → ℕ) (x n : ℕ) → ((k : ℕ) → k < n → ok (x + 2 * k) ≡ false) → lightest ok load x n ≡ none
lightest_closed ok load x zero h = refl
lightest_closed ok load x (suc n) h =
    let z : x + 2 * 0 ≡ x = omega arith in
    let here : ok x ≡ false = subst (λ (l : ℕ). ok l ≡ false) z (h 0 (omega arith)) in
    pick_false (ok x) (lighter load x (lightest ok load (x + 2) n)) (lightest ok load (x + 2) n) here
    ∙ lightest_closed ok load (x + 2) n (λ k low. let z : x + 2 * suc k ≡ x + 2 + 2 * k = omega arith in subst (λ (l : ℕ). ok l ≡ false) z (h (suc k) (omega (arith, low))))

-- The load of the best level: above every load where there is none.
abbrev pub weight : (ℕ → ℕ) → Found → ℕ
weight load none = MISSING
weight load (at x) = load x

lighter_taken : (load : ℕ → ℕ) (x : ℕ) (f : Found) → load x ≤ weight load f → lighter load x f ≡ at x
lighter_taken load x none h = refl
lighter_taken load x (at y) h = pick_true (leb (load x) (load y)) _ _ (le-leb (load x) (load y) h)

lighter_left : (load : ℕ → ℕ) (x : ℕ) (f : Found) → load x ≤ MISSING → weight load f < load x → lighter load x f ≡ f
lighter_left load x none few h = absurd (omega arith)
lighter_left load x (at y) few h = pick_false (leb (load x) (load y)) _ _ (lt-leb (load x) (load y) h)

-- The best of the levels from the k-th on, of so many, and its load.
pub record Best (ok : ℕ → Bool) (load : ℕ → ℕ) (x count k : ℕ) (best : Option ℕ) (least : ℕ) : Type 0 where
  pub level : best ≡ found_of (lightest ok load (x + 2 * k) (count - k))
  pub lightly : least ≡ weight load (lightest ok load (x + 2 * k) (count - k))

pub best_all : {ok : ℕ → Bool} {load : ℕ → ℕ} {x count : ℕ} {best : Option ℕ} {least : ℕ} → Best ok load x count 0 best least → best ≡ found_of (lightest ok load x count)
best_all {ok = ok} {load = load} {x = x} {count = count} h =
    let z : x + 2 * 0 ≡ x = omega arith in
    let all : count - 0 ≡ count = omega arith in
    h.level ∙ ap₂ (λ (l n : ℕ). found_of (lightest ok load l n)) z all

module _ {ok : ℕ → Bool} {load : ℕ → ℕ} {x count k : ℕ} {best : Option ℕ} {least : ℕ} (h : Best ok load x count k best least) (some : 0 < k) (in_reach : k ≤ count) where
  abbrev level : ℕ
  level = x + 2 * (k - 1)

  abbrev before : Found
  before = lightest ok load (x + 2 * k) (count - k)

  unrolled : lightest ok load level (count - (k - 1)) ≡ elim (ok level) [ true ↦ lighter load level before | false ↦ before ]
  unrolled =
      let more : count - (k - 1) ≡ suc (count - k) = omega arith in
      let next : level + 2 ≡ x + 2 * k = omega arith in
      ap (lightest ok load level) more
      ∙ (λ w. elim (ok level) [ true ↦ lighter load level (lightest ok load (next w) (count - k)) | false ↦ lightest ok load (next w) (count - k) ])

  kept : lightest ok load level (count - (k - 1)) ≡ before → Best ok load x count (k - 1) best least
  kept e = record { level = h.level ∙ ap found_of (sym e); lightly = h.lightly ∙ ap (weight load) (sym e) }

  pub best_passed : ok level ≡ false → Best ok load x count (k - 1) best least
  best_passed t = kept (unrolled ∙ pick_false (ok level) _ _ t)

  module _ (t : ok level ≡ true) {here : ℕ} (is : here ≡ load level) where
    pub best_heavier : load level ≤ MISSING → least < here → Best ok load x count (k - 1) best least
    best_heavier few l =
        let e = h.lightly in
        let l' : weight load before < load level = omega (arith, l, is, e) in
        kept (unrolled ∙ pick_true (ok level) _ _ t ∙ lighter_left load level before few l')

    pub best_lighter : here ≤ least → Best ok load x count (k - 1) (Some level) here
    best_lighter l =
        let e = h.lightly in
        let l' : load level ≤ weight load before = omega (arith, l, is, e) in
        let this : lightest ok load level (count - (k - 1)) ≡ at level = unrolled ∙ pick_true (ok level) _ _ t ∙ lighter_taken load level before l' in
        record { level = sym (ap found_of this); lightly = is ∙ sym (ap (weight load) this) }
