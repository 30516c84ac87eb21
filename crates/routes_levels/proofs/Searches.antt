-- The searches over levels, whatever test and load they go by.
use Rattle.std.proofs.Common.{None, Option, Some}
use Prim.Native.Nat.{ℕ, suc, ◌+◌, ◌-◌, ◌*◌, ◌≤◌, ◌<◌}
use mathlib.Core.Path.{◌≡◌, refl, ap, sym, ◌∙◌}
use mathlib.Core.Bool.{Bool, true, false}
use native.Mathlib.Omega.{arith}
use lib.Dec.{leb}
use borrow.Author.Tests.{le-leb, lt-leb}
use Rattle.sheet.specs.Table.{MISSING}
use Rattle.base.specs.Lists.{Found, none, at}
use Rattle.base.proofs.Bools.{never, pick_true, pick_false}
use Rattle.routes.specs.Levels.{STAGGER_STEP, lighter, lightest}
use Rattle.board.specs.Index.{found_of}
pub use Rattle.routes_levels.specs.Search.{least_of, best_from, Best}

lighter_taken : (load : ℕ → ℕ) (x : ℕ) (f : Found) → load x ≤ least_of load f → lighter load x f ≡ at x
lighter_taken load x none h = refl
lighter_taken load x (at y) h = pick_true (leb (load x) (load y)) _ _ (le-leb (load x) (load y) h)

lighter_left : (load : ℕ → ℕ) (x : ℕ) (f : Found) → load x ≤ MISSING → least_of load f < load x → lighter load x f ≡ f
lighter_left load x none few h = absurd (omega arith)
lighter_left load x (at y) few h = pick_false (leb (load x) (load y)) _ _ (lt-leb (load x) (load y) h)

module _ (ok : ℕ → Bool) (load : ℕ → ℕ) (base count k : ℕ) (best : Option ℕ) (least : ℕ) (h : Best ok load base count k best least) (some : 0 < k) (in_reach : k ≤ count) where
  abbrev x : ℕ
  x = base + STAGGER_STEP * (k - 1)

  abbrev before : Found
  before = best_from ok load base count k

  unrolled : best_from ok load base count (k - 1) ≡ elim (ok x) [ true ↦ lighter load x before | false ↦ before ]
  unfolding best_from
  unrolled =
      let more : count - (k - 1) ≡ suc (count - k) = omega arith in
      let next : x + STAGGER_STEP ≡ base + STAGGER_STEP * k = omega arith in
      ap (lightest ok load x) more
      ∙ (λ w. elim (ok x) [ true ↦ lighter load x (lightest ok load (next w) (count - k)) | false ↦ lightest ok load (next w) (count - k) ])

  kept : best_from ok load base count (k - 1) ≡ before → Best ok load base count (k - 1) best least
  kept e = record { level = h.level ∙ ap found_of (sym e); lightly = h.lightly ∙ ap (least_of load) (sym e) }

  pub best_passed : ok x ≡ false → Best ok load base count (k - 1) best least
  best_passed t = kept (unrolled ∙ pick_false (ok x) _ _ t)

  module _ (t : ok x ≡ true) (here : ℕ) (is : here ≡ load x) where
    pub best_heavier : here ≤ MISSING → least < here → Best ok load base count (k - 1) best least
    best_heavier few l =
        let e = h.lightly in
        let few' : load x ≤ MISSING = omega arith in
        let l' : least_of load before < load x = omega arith in
        kept (unrolled ∙ pick_true (ok x) _ _ t ∙ lighter_left load x before few' l')

    pub best_lighter : here ≤ least → Best ok load base count (k - 1) (Some x) here
    best_lighter l =
        let e = h.lightly in
        let l' : load x ≤ least_of load before = omega arith in
        let this : best_from ok load base count (k - 1) ≡ at x = unrolled ∙ pick_true (ok x) _ _ t ∙ lighter_taken load x before l' in
        record { level = sym (ap found_of this); lightly = is ∙ sym (ap (least_of load) this) }

pub best_start : (ok : ℕ → Bool) (load : ℕ → ℕ) (base count k : ℕ) → k ≡ count → Best ok load base count k None MISSING
unfolding best_from
best_start ok load base count k e =
    let z : count - k ≡ 0 = omega arith in
    let f : best_from ok load base count k ≡ none = ap (lightest ok load (base + STAGGER_STEP * k)) z in
    record { level = sym (ap found_of f); lightly = sym (ap (least_of load) f) }

pub best_all : (ok : ℕ → Bool) (load : ℕ → ℕ) (base count k : ℕ) (best : Option ℕ) (least : ℕ) → Best ok load base count k best least → k ≤ 0
    → best ≡ found_of (lightest ok load base count)
unfolding best_from
best_all ok load base count k best least h l =
    let from : base + STAGGER_STEP * k ≡ base = omega arith in
    let all : count - k ≡ count = omega arith in
    h.level ∙ (λ w. found_of (lightest ok load (from w) (all w)))

-- What an answer says was found.
pub found_at : (f : Found) (l : ℕ) → Some l ≡ found_of f → f ≡ at l
found_at none l e = never cc
found_at (at y) l e = ap at (cc)

pub found_none : (f : Found) → None ≡ found_of f → f ≡ none
found_none none e = refl
found_none (at y) e = never cc
