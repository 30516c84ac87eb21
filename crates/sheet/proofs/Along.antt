-- A walk along an accepted sheet, line by line: `row_at` gives the row of the line at hand, and the place where the next line starts.
use Rattle.std.proofs.Common.{◌≡◌, ℕ, suc, ◌+◌, ◌<◌, ◌≤◌, max, Bool, true, false, ltb, List, [], ◌∷◌, map, length, get_or, drop, refl, ap, ◌∙◌, add-one, arith, drop-cons, ltb-false, ltb-true, le-ltb, lt-ltb}
use lib.ListN.{length-map}
use Rattle.sheet.specs.declared.Counts.{Counts}
use Rattle.sheet.specs.Record.{row}
use Rattle.sheet.specs.Reading.{rows_from}
use Rattle.sheet.specs.Answer.{row_at, AtLine, AtRow, row_from}
use Rattle.sheet.specs.Walk.{all_read}
use Rattle.base.proofs.Bools.{pick_true, pick_false}
use Rattle.sheet.proofs.Accepted.{Accepted}
use Rattle.sheet.proofs.Walks.{walk_from}

rows_read : (l : List (List ℕ)) → all_read (map (row true) l) ≡ true
unfolding all_read
rows_read [] = refl
rows_read (r ∷ l) = rows_read l

module _ (most : Counts) (text : List ℕ) (l : List (List ℕ)) (a : Accepted most text l) (k at : ℕ) (w : AtLine text k at) (h : k < length l) where
  step : (drop k (rows_from text) ≡ (row_at text at).row ∷ drop (suc k) (rows_from text)) × AtLine text (k + 1) (row_at text at).next × (at < (row_at text at).next)
  step = walk_from w (rw a.lines (rows_read l)) (omega (arith, ap length a.lines, length-map l (row true)))

  pub row_at_row : (row_at text at).row ≡ get_or l k []
  row_at_row =
      let here : drop k l ≡ (row_at text at).row ∷ drop (suc k) l = rw a.whole at step.0 in
      let there : drop k l ≡ get_or l k [] ∷ drop (suc k) l = drop-cons l k [] h in
      cc

  pub row_at_next : AtLine text (suc k) (row_at text at).next
  row_at_next = rw add-one at step.1

-- The same where rows are lent for the first lines.

module _ (text : List ℕ) (lent : List (List ℕ)) (k at : ℕ) where
  pub row_from_rows : k < length lent → row_from text lent k at ≡ record { row = get_or lent k []; next = at }
  unfolding row_from
  row_from_rows h = pick_true (ltb k (length lent)) _ _ (lt-ltb k (length lent) h)

  pub row_from_text : length lent ≤ k → row_from text lent k at ≡ row_at text at
  unfolding row_from
  row_from_text h = pick_false (ltb k (length lent)) _ _ (le-ltb k (length lent) h)

module _ (most : Counts) (text : List ℕ) (l lent : List (List ℕ)) (a : Accepted most text l) (k at : ℕ) (w : AtRow text lent k at) (h : k < length l) where
  rows_step : ((row_from text lent k at).row ≡ get_or l k []) × AtRow text lent (suc k) (row_from text lent k at).next
  rows_step = go (ltb k (length lent)) refl
    where
      go : (b : Bool) → ltb k (length lent) ≡ b → ((row_from text lent k at).row ≡ get_or l k []) × AtRow text lent (suc k) (row_from text lent k at).next
      go true q =
          let inside : k < length lent = ltb-true k (length lent) q in
          let same : max k (length lent) ≡ max (suc k) (length lent) = omega arith in
          rw (row_from_rows text lent k at inside)
          (w.held k (omega (arith, ap length a.whole)) inside ∙ ap (λ (m : List (List ℕ)). get_or m k []) a.whole, record { held = w.held; line = rw same at w.line })
      go false q =
          let full : length lent ≤ k = ltb-false k (length lent) q in
          let here : max k (length lent) ≡ k = omega arith in
          let next : max (suc k) (length lent) ≡ suc k = omega arith in
          let line : AtLine text k at = rw here at w.line in
          rw (row_from_text text lent k at full)
          (row_at_row most text l a k at line h, record { held = w.held; line = rw next (row_at_next most text l a k at line h) })

  pub row_of_row : (row_from text lent k at).row ≡ get_or l k []
  row_of_row = rows_step.0

  pub row_of_next : AtRow text lent (suc k) (row_from text lent k at).next
  row_of_next = rows_step.1
