-- Levels found lie below the top, and depend only on what is said of those levels.
use Prim.Native.Nat.{ℕ, zero, suc, ◌+◌, ◌*◌, ◌≤◌}
use native.Mathlib.Omega.{arith}
use mathlib.Core.Path.{◌≡◌, refl}
use mathlib.Core.Bool.{Bool, true, false}
use lib.Dec.{leb}
use Rattle.base.specs.Lists.{Found, none, at}
use Rattle.routes.specs.Levels.{STAGGER_STEP, levels_in, lowest, lighter, lightest}

-- A level that is found has room below the top.
abbrev pub Within : ℕ → Found → Type 0
Within top none = Unit {0}
Within top (at l) = l + STAGGER_STEP ≤ top

pub levels_fit : (x top : ℕ) → x ≤ top → x + STAGGER_STEP * levels_in x top ≤ top
levels_fit x top h = omega arith

pub lowest_within : (free : ℕ → Bool) (top x n : ℕ) → x + STAGGER_STEP * n ≤ top → Within top (lowest free x n)
lowest_within free top x zero h = tt
lowest_within free top x (suc n) h = go (free x) (lowest_within free top (x + STAGGER_STEP) n (omega arith))
  where
    go : (t : Bool) → Within top (lowest free (x + STAGGER_STEP) n) → Within top (elim t [ true ↦ at x | false ↦ lowest free (x + STAGGER_STEP) n ])
    go true ih = omega arith
    go false ih = ih

lighter_within : (load : ℕ → ℕ) (top x : ℕ) (f : Found) → x + STAGGER_STEP ≤ top → Within top f → Within top (lighter load x f)
lighter_within load top x none h w = h
lighter_within load top x (at l) h w = go (leb (load x) (load l))
  where
    go : (t : Bool) → Within top (elim t [ true ↦ at x | false ↦ at l ])
    go true = h
    go false = w

pub lightest_within : (ok : ℕ → Bool) (load : ℕ → ℕ) (top x n : ℕ) → x + STAGGER_STEP * n ≤ top → Within top (lightest ok load x n)
lightest_within ok load top x zero h = tt
lightest_within ok load top x (suc n) h = go (ok x) (lightest_within ok load top (x + STAGGER_STEP) n (omega arith))
  where
    rest : Found
    rest = lightest ok load (x + STAGGER_STEP) n

    go : (t : Bool) → Within top (lightest ok load (x + STAGGER_STEP) n)
        → Within top (elim t [ true ↦ lighter load x (lightest ok load (x + STAGGER_STEP) n) | false ↦ lightest ok load (x + STAGGER_STEP) n ])
    go true ih = lighter_within load top x rest (omega arith) ih
    go false ih = ih

-- Tests that agree on levels below a top find the same.
pub lowest_same : (free free' : ℕ → Bool) (top : ℕ) → ((l : ℕ) → l + STAGGER_STEP ≤ top → free l ≡ free' l) → (x n : ℕ) → x + STAGGER_STEP * n ≤ top → lowest free x n ≡ lowest free' x n
lowest_same free free' top same x zero h = refl
lowest_same free free' top same x (suc n) h =
    let rest = lowest_same free free' top same (x + STAGGER_STEP) n (omega arith) in
    let here : free x ≡ free' x = same x (omega arith) in
    λ i. elim (here i) as (λ _. Found) [ true ↦ at x | false ↦ rest i ]

pub lightest_same : (ok ok' : ℕ → Bool) (load : ℕ → ℕ) (top : ℕ) → ((l : ℕ) → l + STAGGER_STEP ≤ top → ok l ≡ ok' l) → (x n : ℕ) → x + STAGGER_STEP * n ≤ top
    → lightest ok load x n ≡ lightest ok' load x n
lightest_same ok ok' load top same x zero h = refl
lightest_same ok ok' load top same x (suc n) h =
    let rest = lightest_same ok ok' load top same (x + STAGGER_STEP) n (omega arith) in
    let here : ok x ≡ ok' x = same x (omega arith) in
    λ i. elim (here i) as (λ _. Found) [ true ↦ lighter load x (rest i) | false ↦ rest i ]
