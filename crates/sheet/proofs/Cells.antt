-- What a field holds: the tests of the code are those of the rules.
use Rattle.std.proofs.Common.{◌≡◌, ℕ, ◌+◌, ◌-◌, ◌<◌, ◌≤◌, Bool, true, false, ◌&&◌, leb, List, length, get_or, sym, refl, ap, ◌∙◌, arith, get_or-set_same, ne_eqb, le-leb, leb-true}
use Rattle.std.specs.Prelude.{Option, Some, Result, Ok, Err}
use Rattle.sheet.specs.declared.number.Scanned.{Scanned}
use borrow.Author.Tests.{lt-leb}
use Rattle.sheet.specs.declared.line.CellFault.{CellFault}
use Rattle.sheet.specs.declared.line.CellFault.TheVariants.{OutOfRange, Malformed}
use Rattle.sheet.specs.declared.table.Column.{Column}
use Rattle.sheet.specs.Number.{Number, bad, missing, plus, minus}
use Rattle.sheet.specs.Walk.{number_in, is_gone, is_malformed, row_after}
use Rattle.sheet.specs.Table.{MISSING, SECTIONS, letters}
use Rattle.sheet.specs.Record.{allowed, within, present, is_missing, cell_of, place_of}
use Rattle.base.proofs.Bools.{and_right, clash}

module _ (low high v : ℕ) where
  pub within_holds : low ≤ v → v ≤ high → Ok v ≡ within low high true v
  unfolding within
  within_holds l h = rw (le-leb low v l, le-leb v high h, within)

  pub within_low : v < low → Err OutOfRange ≡ within low high true v
  unfolding within
  within_low h = rw (lt-leb low v h, within)

  pub within_high : high < v → Err OutOfRange ≡ within low high true v
  unfolding within
  within_high h = rw (lt-leb v high h, within) (go (leb low v))
    where
      go : (b : Bool) → Err OutOfRange ≡ elim (b && false) as (λ _. Result ℕ CellFault) [ true ↦ Ok v | false ↦ Err OutOfRange ]
      go true = refl
      go false = refl

-- a number taken away from the origin
module _ (low high origin v : ℕ) where
  pub within_less : (held : ℕ) → v ≤ origin → held ≡ origin - v → within low high true held ≡ within low high (leb v origin) (origin - v)
  within_less held h e = rw (e, le-leb v origin h)

  pub within_under : origin < v → Err OutOfRange ≡ within low high (leb v origin) (origin - v)
  unfolding within
  within_under h = rw (lt-leb v origin h, within)

module _ (c : Column) (before : Bool) where
  pub cell_allowed : (n : Number) → allowed c.gap before (is_missing n) ≡ true → present c n ≡ cell_of c before n
  unfolding cell_of
  cell_allowed n e = rw (e, cell_of)

  pub cell_not : (n : Number) → allowed c.gap before (is_missing n) ≡ false → Err Malformed ≡ cell_of c before n
  unfolding cell_of
  cell_not n e = rw (e, cell_of)

  pub cell_bad : Err Malformed ≡ cell_of c before bad
  unfolding cell_of present
  cell_bad = go (allowed c.gap before false)
    where
      go : (b : Bool) → Err Malformed ≡ elim b as (λ _. Result ℕ CellFault) [ true ↦ Err Malformed | false ↦ Err Malformed ]
      go true = refl
      go false = refl

-- the same as the code asks it, of what was scanned
module _ (c : Column) (before : Bool) (n : Option Scanned) (x m : Scanned) (some : n ≡ Some x) (is : x ≡ m) where
  pub cell_standing : true ≡ allowed c.gap before (is_missing (number_in (Some m))) → present c (number_in (Some m)) ≡ cell_of c before (number_in n)
  cell_standing a = rw (some, is) (cell_allowed c before (number_in (Some m)) (sym a))

  pub cell_fallen : false ≡ allowed c.gap before (is_missing (number_in (Some m))) → Err Malformed ≡ cell_of c before (number_in n)
  cell_fallen a = rw (some, is) (cell_not c before (number_in (Some m)) (sym a))

-- A field that is not malformed leaves in its row whether it is missing: no number in range stands for a missing one, and one out of range leaves the zero.
module _ (c : Column) (before : Bool) (under : c.high < MISSING) (r : List ℕ) (k : ℕ) (inside : k < length r) (blank : get_or r k 0 ≡ 0) where
  abbrev gone_in : Result ℕ CellFault → Bool
  gone_in held = is_gone (get_or (row_after held r k) k 0)

  within_there : (fits : Bool) (v : ℕ) → gone_in (within c.low c.high fits v) ≡ false
  unfolding within
  within_there fits v = go (fits && leb c.low v && leb v c.high) refl
    where
      go : (x : Bool) → (fits && leb c.low v && leb v c.high) ≡ x → gone_in (within c.low c.high fits v) ≡ false
      go true e =
          let h : v ≤ c.high = leb-true v c.high (and_right (fits && leb c.low v) (leb v c.high) e) in
          rw (e, within) (rw (get_or-set_same r k v 0 inside) (ne_eqb v MISSING (λ (q : v ≡ MISSING). omega (arith, under))))
      go false e = rw (e, within) (rw blank)

  not_malformed : {x : Result ℕ CellFault} → Err Malformed ≡ x → is_malformed x ≡ false → ⊥
  not_malformed e m = clash (ap is_malformed (sym e)) m

  left_there : (n : Number) (a : Bool) → allowed c.gap before (is_missing n) ≡ a → is_malformed (cell_of c before n) ≡ false → gone_in (cell_of c before n) ≡ is_missing n
  unfolding present
  left_there n false e m = absurd (not_malformed (cell_not c before n e) m)
  left_there bad true e m = absurd (not_malformed (cell_allowed c before bad e) m)
  left_there missing true e m = ap gone_in (sym (cell_allowed c before missing e)) ∙ rw (get_or-set_same r k MISSING 0 inside)
  left_there (plus v) true e m = ap gone_in (sym (cell_allowed c before (plus v) e)) ∙ within_there true (c.origin + v)
  left_there (minus v) true e m = ap gone_in (sym (cell_allowed c before (minus v) e)) ∙ within_there (leb v c.origin) (c.origin - v)

  pub gone_after : (n : Number) (held : Result ℕ CellFault) → held ≡ cell_of c before n → is_malformed held ≡ false → gone_in held ≡ is_missing n
  gone_after n held e m = ap gone_in e ∙ left_there n (allowed c.gap before (is_missing n)) refl (ap is_malformed (sym e) ∙ m)

-- a letter that is none of the six
pub no_section : (b : ℕ) → (b ≡ 80 → ⊥) → (b ≡ 78 → ⊥) → (b ≡ 67 → ⊥) → (b ≡ 70 → ⊥) → (b ≡ 88 → ⊥) → (b ≡ 87 → ⊥)
    → place_of b letters 0 ≡ SECTIONS
unfolding place_of
no_section b p n c f x w =
    rw (ne_eqb b 80 p, place_of)
    (rw (ne_eqb b 78 n, place_of)
    (rw (ne_eqb b 67 c, place_of) (rw (ne_eqb b 70 f, place_of) (rw (ne_eqb b 88 x, place_of) (rw (ne_eqb b 87 w, place_of))))))
