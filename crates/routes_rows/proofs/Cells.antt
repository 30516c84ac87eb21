-- The first cells of a slice, newest first: what a walk of the slice and a store to it do to them. Assumes nothing.
use mathlib.Core.Path.{◌≡◌, refl, sym, ◌∙◌, ap, ap₂}
use Prim.Native.Nat.{ℕ, zero, suc, ◌+◌, ◌-◌, ◌<◌, ◌≤◌}
use native.Mathlib.Nat.{add-zero, add-suc}
use native.Mathlib.Omega.{arith}
use native.Mathlib.Numerals.{add-one}
use mathlib.Core.Bool.{Bool, true, false, not, ◌||◌, or_assoc}
use mathlib.Core.List.{List, ◌∷◌}
use lib.ListN.{length, get_or, set, take, drop, length-drop}
use lib.Seq.{length-take-le, get_or-take, get_or-drop, get_or-set_same, get_or-set_other}
use Rattle.board.specs.Rows
use Rattle.board.specs.Rows.{cells_overlap}
use Rattle.routes_rows.specs.Booking.{cell_of, any_overlaps, clear_of, no_cell, first_cells, book, count_after}
use Rattle.routes_rows.specs.declared.book.Cell.{Cell}

-- ---- the first of several cells are those of the slice they stand in
pub first_taken : (cells : List Cell) (most n : ℕ) → n ≤ most → first_cells (take most cells) n ≡ first_cells cells n
first_taken cells most zero h = refl
first_taken cells most (suc n) h = ap₂ (λ (c : Cell) (l : List Rows.Cell). cell_of c ∷ l) (get_or-take most cells n no_cell (omega arith)) (first_taken cells most n (omega arith))

pub all_taken : (cells : List Cell) (n : ℕ) → n ≤ length cells → first_cells (take n cells) (length (take n cells)) ≡ first_cells cells n
all_taken cells n h = let e : length (take n cells) ≡ n = length-take-le n cells h in ap (first_cells (take n cells)) e ∙ first_taken cells n n (omega arith)

-- ---- of two parts of a slice, what overlaps a cell in either
split_at : (cells : List Cell) (from n : ℕ) (c : Rows.Cell) → any_overlaps (first_cells cells (from + n)) c ≡ any_overlaps (first_cells (drop from cells) n) c || any_overlaps (first_cells cells from) c
split_at cells from zero c = rw (add-zero from) refl
split_at cells from (suc n) c =
    let d : Rows.Cell = cell_of (get_or cells (from + n) no_cell) in
    rw (add-suc from n, get_or-drop from cells n no_cell) (ap (λ (t : Bool). cells_overlap d c || t) (split_at cells from n c) ∙ sym (or_assoc (cells_overlap d c) (any_overlaps (first_cells (drop from cells) n) c) (any_overlaps (first_cells cells from) c)))

-- the cells from a place on, so many of them, and those before it
clear_split : (cells : List Cell) (from n : ℕ) (c : Rows.Cell) → from + n ≤ length cells
    → clear_of (first_cells cells (from + n)) c ≡ not (any_overlaps (first_cells (take n (drop from cells)) (length (take n (drop from cells)))) c || any_overlaps (first_cells cells from) c)
clear_split cells from n c h =
    let room : n ≤ length (drop from cells) = let e = length-drop from cells in omega (arith, h, e) in
    ap not (split_at cells from n c) ∙ ap (λ (l : List Rows.Cell). not (any_overlaps l c || any_overlaps (first_cells cells from) c)) (sym (all_taken (drop from cells) n room))

module _ (cells : List Cell) (from to : ℕ) (c : Rows.Cell) (up : from ≤ to) (h : to ≤ length cells) where
  abbrev part : List Cell
  part = take (to - from) (drop from cells)

  split : clear_of (first_cells cells to) c ≡ not (any_overlaps (first_cells part (length part)) c || any_overlaps (first_cells cells from) c)
  split = let e : from + (to - from) ≡ to = omega arith in ap (λ (n : ℕ). clear_of (first_cells cells n) c) (sym e) ∙ clear_split cells from (to - from) c (omega arith)

  pub passes : any_overlaps (first_cells part (length part)) c ≡ false → clear_of (first_cells cells to) c ≡ clear_of (first_cells cells from) c
  passes e = split ∙ ap (λ (t : Bool). not (t || any_overlaps (first_cells cells from) c)) e

  pub meets : any_overlaps (first_cells part (length part)) c ≡ true → clear_of (first_cells cells to) c ≡ false
  meets e = split ∙ ap (λ (t : Bool). not (t || any_overlaps (first_cells cells from) c)) e

-- ---- a store behind the first n leaves them
pub below : (cells : List Cell) (n j : ℕ) (c : Cell) → n ≤ j → first_cells (set cells j c) n ≡ first_cells cells n
below cells zero j c h = refl
below cells (suc n) j c h = rw (get_or-set_other cells j n c no_cell (λ e. omega (arith, e)), below cells n j c (omega arith)) refl

pub appended : (cells : List Cell) (n : ℕ) (c : Cell) → n < length cells → first_cells (set cells n c) (n + 1) ≡ cell_of c ∷ first_cells cells n
appended cells n c h = rw (add-one n, get_or-set_same cells n c no_cell h, below cells n n c (omega arith)) refl

-- ---- what `append` says: a cell stored behind the first n, where it is to be
pub record Stored (yes : Bool) (n : ℕ) (c : Cell) (cells cells' : List Cell) : Type 0 where
  pub same : length cells' ≡ length cells
  pub added : first_cells cells' (count_after yes n) ≡ book yes (cell_of c) (first_cells cells n)
  pub left : yes ≡ false → cells' ≡ cells
