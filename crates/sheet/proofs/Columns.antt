-- The tables of the sections.
use Rattle.std.proofs.Common.{◌≡◌, ℕ, zero, suc, ◌-◌, ◌<◌, ◌≤◌, Bool, true, false, ◌&&◌, ltb, List, [], ◌∷◌, length, get_or, drop, refl, arith, drop_of_length-le, drop-cons, ltb-false, ltb-true}
use Rattle.sheet.specs.declared.table.Column.{Column}
use Rattle.sheet.specs.Table.{MISSING, SECTIONS, columns_of, id}
use Rattle.sheet.specs.Walk.{separator_at}
use Rattle.base.proofs.Bools.{and_left, and_right}
use Rattle.sheet.proofs.Fields.{sep_before}

-- each column's range ends below what stands for a missing number: a test that is computed over a table

pub sound : List Column → Bool
sound [] = true
sound (c ∷ l) = ltb c.high MISSING && sound l

-- what the sections' tables have in common
pub record Spread (s : ℕ) : Type 0 where
  pub some : 0 < length (columns_of s)
  pub few : length (columns_of s) ≤ 15
  pub fine : sound (columns_of s) ≡ true

pub spread : (s : ℕ) → s < SECTIONS → Spread s
unfolding sound
spread zero h = record { some = omega arith; few = omega arith; fine = refl }
spread (suc zero) h = record { some = omega arith; few = omega arith; fine = refl }
spread (suc (suc zero)) h = record { some = omega arith; few = omega arith; fine = refl }
spread (suc (suc (suc zero))) h = record { some = omega arith; few = omega arith; fine = refl }
spread (suc (suc (suc (suc zero)))) h = record { some = omega arith; few = omega arith; fine = refl }
spread (suc (suc (suc (suc (suc zero))))) h = record { some = omega arith; few = omega arith; fine = refl }
spread (suc (suc (suc (suc (suc (suc s)))))) h = absurd (omega arith)

-- The columns of a section.

-- the byte after a field, by what columns are left
pub separator_is : (l : List Column) (i : ℕ) → separator_at i (length l - 1) ≡ sep_before (drop (suc i) l)
separator_is l i = go (ltb i (length l - 1)) refl
  where
    go : (b : Bool) → ltb i (length l - 1) ≡ b → separator_at i (length l - 1) ≡ sep_before (drop (suc i) l)
    go true e =
        let m : suc i < length l = omega (arith, ltb-true i (length l - 1) e) in
        rw (e, drop-cons l (suc i) id m)
    go false e =
        let m : length l ≤ suc i = omega (arith, ltb-false i (length l - 1) e) in
        rw (e, drop_of_length-le l {i = suc i} m)

-- no number in a column's range stands for a missing one
sound_at : (l : List Column) → sound l ≡ true → (i : ℕ) → i < length l → (get_or l i id).high < MISSING
unfolding sound
sound_at [] t i h = absurd (omega arith)
sound_at (c ∷ l) t zero h = ltb-true c.high MISSING (and_left (ltb c.high MISSING) (sound l) t)
sound_at (c ∷ l) t (suc i) h = sound_at l (and_right (ltb c.high MISSING) (sound l) t) i (omega arith)

pub sound_column : (s i : ℕ) → s < SECTIONS → i < length (columns_of s) → (get_or (columns_of s) i id).high < MISSING
sound_column s i k h = sound_at (columns_of s) (spread s k).fine i h
