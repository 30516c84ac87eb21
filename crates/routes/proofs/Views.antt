-- Lists sorted by the rows that hold them, and lists written over a table.
use Rattle.std.proofs.Common.{◌≡◌, ℕ, zero, suc, ◌<◌, ◌≤◌, Bool, true, false, List, [], ◌∷◌, ◌++◌, map, reverse, length, get_or, take, sym, refl, ap, ◌∙◌, arith, length-set, take-suc-set, ext_get_or}
use mathlib.Core.List.{reverse-cons}
use Rattle.base.specs.Sort.{sorted, inserted, lex_less, sorted_rows}
use Rattle.board.specs.Groups.{Tap}
use Rattle.board.specs.Tables.{tap_in, tap_row}
use Rattle.base.proofs.Views.{map_snoc}
use Rattle.routes.specs.Stops.{tap_before}
use Rattle.routes.specs.Tables.{written_over}

-- Sorting by a key that a map keeps is sorting the mapped list.
module _ {A B : Type 0} (less : A → A → Bool) (less' : B → B → Bool) (f : A → B) (same : (x y : A) → less' (f x) (f y) ≡ less x y) where
  pub inserted-map : (x : A) (l : List A) → map f (inserted less x l) ≡ inserted less' (f x) (map f l)
  unfolding inserted
  inserted-map x [] = refl
  inserted-map x (y ∷ l) = go (less y x) (less' (f y) (f x)) (same y x) (inserted-map x l)
    where
      go : (t u : Bool) → u ≡ t → map f (inserted less x l) ≡ inserted less' (f x) (map f l)
          → map f (elim t [ true ↦ y ∷ inserted less x l | false ↦ x ∷ y ∷ l ])
          ≡ elim u [ true ↦ f y ∷ inserted less' (f x) (map f l) | false ↦ f x ∷ f y ∷ map f l ]
      go true u e r = rw e (ap {B = List B} (λ z. f y ∷ z) r)
      go false u e r = rw e

  pub sorted-map : (l : List A) → map f (sorted less l) ≡ sorted less' (map f l)
  unfolding sorted
  sorted-map [] = refl
  sorted-map (x ∷ l) = inserted-map x (sorted less l) ∙ ap (inserted less' (f x)) (sorted-map l)

pub taps_sorted : (l : List Tap) → map tap_row (sorted tap_before l) ≡ sorted_rows (map tap_row l)
unfolding sorted_rows
taps_sorted l = sorted-map tap_before lex_less tap_row (λ x y. refl) l

pub taps_read : (l : List Tap) → map tap_in (map tap_row l) ≡ l
taps_read [] = refl
taps_read (t ∷ l) = ap {B = List Tap} (λ r. t ∷ r) (taps_read l)

-- A row of eight numbers is the row of the tap that it holds.
pub tap_row_lem : (r : List ℕ) → length r ≡ 8 → tap_row (tap_in r) ≡ r
tap_row_lem r h = ext_get_or 0 (tap_row (tap_in r)) r (sym h) (λ i l. at i l)
  where
    at : (i : ℕ) → i < 8 → get_or (tap_row (tap_in r)) i 0 ≡ get_or r i 0
    at zero l = refl
    at (suc zero) l = refl
    at (suc (suc zero)) l = refl
    at (suc (suc (suc zero))) l = refl
    at (suc (suc (suc (suc zero)))) l = refl
    at (suc (suc (suc (suc (suc zero))))) l = refl
    at (suc (suc (suc (suc (suc (suc zero)))))) l = refl
    at (suc (suc (suc (suc (suc (suc (suc zero))))))) l = refl
    at (suc (suc (suc (suc (suc (suc (suc (suc i)))))))) l = absurd (omega arith)

-- The rows of a list that was written over a table.
pub rows_written : {A : Type 0} (row : A → List ℕ) (l : List A) (old : List (List ℕ)) → length l ≤ length old
    → (take (length l) (written_over row l old) ≡ map row (reverse l)) × (length (written_over row l old) ≡ length old)
rows_written row [] old h = (refl, refl)
rows_written row (x ∷ l) old h =
    let rec = rows_written row l old (omega arith) in
    let inside : length l < length (written_over row l old) = rw rec.1 h in (
      take-suc-set (written_over row l old) (length l) (row x) inside
          ∙ ap (λ k. k ++ (row x ∷ [])) rec.0 ∙ sym (map_snoc row (reverse l) x) ∙ ap (map row) (sym (reverse-cons x l)),
      length-set (written_over row l old) (length l) (row x) ∙ rec.1,
    )
