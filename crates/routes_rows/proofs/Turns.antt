-- What is known after so many items: the cells of the row at hand stand first in the slice, and the flags are those of the definition. One turn of the loop keeps it. Assumes nothing.
use mathlib.Core.Path.{◌≡◌, refl, sym, ◌∙◌, ap}
use Prim.Native.Nat.{ℕ, suc, ◌+◌, ◌<◌, ◌≤◌}
use native.Mathlib.Omega.{arith}
use native.Mathlib.Nat.{add-zero}
use native.Mathlib.Numerals.{add-one}
use mathlib.Core.Bool.{Bool, true, false, ◌||◌}
use mathlib.Core.List.{List}
use lib.Dec.{ltb}
use mir.Val.{bool_byte}
use lib.ListN.{length, set, take, length-set}
use Rattle.board.specs.Rows
use Rattle.board.specs.Tables.{flag}
use Rattle.routes_rows.specs.Booking.{cell_of, item_cell, order_at, clear_of, begins, on_row, book, booked_after, taken_at, flags_after, first_cells, unless, count_after}
use Rattle.routes_rows.specs.declared.book.Cell.{Cell}
use Rattle.routes_rows.proofs.Cells.{Stored, all_taken}

-- after p items, n cells stand on the row at hand
pub record Booked (items : List (List ℕ)) (bricks : ℕ) (flags₀ : List ℕ) (p n : ℕ) (cells : List Cell) (flags : List ℕ) : Type 0 where
  pub few : n ≤ p
  pub room : length cells ≡ 20480
  pub long : length flags ≡ length flags₀
  pub there : first_cells cells n ≡ booked_after items bricks p
  pub told : flags ≡ flags_after items bricks p flags₀

pub started : (items : List (List ℕ)) (bricks : ℕ) (flags : List ℕ) (cells : List Cell) → length cells ≡ 20480 → Booked items bricks flags 0 0 cells flags
unfolding booked_after flags_after
started items bricks flags cells e = record { few = omega arith; room = e; long = refl; there = refl; told = refl }

-- what the calls of a turn say, of how many cells stand before the item, how many of them it is held to, its cell, whether it is booked, and what is then left behind
pub record Turn (items : List (List ℕ)) (bricks p n : ℕ) (cells : List Cell) (flags : List ℕ) (before tested : ℕ) (c : Cell) (t : Bool) (cells' : List Cell) (flags' : List ℕ) (n' : ℕ) : Type 0 where
  pub stood : before ≡ unless (begins items p) n
  pub held : tested ≡ unless (ltb (order_at items p) bricks) before
  pub is : cell_of c ≡ item_cell items (order_at items p)
  pub clear : t ≡ clear_of (first_cells cells tested) (cell_of c)
  pub stores : Stored t before c cells cells'
  pub noted : flags' ≡ set flags (order_at items p) (flag t)
  pub counted : n' ≡ count_after t before

row_at : (cells : List Cell) (n : ℕ) (t : Bool) → first_cells cells (unless t n) ≡ on_row t (first_cells cells n)
row_at cells n true = refl
row_at cells n false = refl

test_at_lem : (cells : List Cell) (n : ℕ) (c : Rows.Cell) (t : Bool) → clear_of (first_cells cells (unless t n)) c ≡ (t || clear_of (first_cells cells n) c)
test_at_lem cells n c true = refl
test_at_lem cells n c false = refl

fewer : (n : ℕ) (t : Bool) → unless t n ≤ n
fewer n true = omega arith
fewer n false = omega arith

one_more : (n : ℕ) (t : Bool) → count_after t n ≤ n + 1
one_more n true = omega arith
one_more n false = omega arith

-- so few cells stand before an item that there is room for one more
fits : (n before p : ℕ) (t : Bool) → n ≤ p → before ≡ unless t n → before ≤ p
fits n before p t h e = let l : unless t n ≤ n = fewer n t in omega (arith, l, e)

module _ {items : List (List ℕ)} {bricks p n : ℕ} {flags₀ : List ℕ} {cells : List Cell} {flags : List ℕ} {before tested : ℕ} {c : Cell} {t : Bool} {cells' : List Cell} {flags' : List ℕ} {n' : ℕ} where
  same_row : Booked items bricks flags₀ p n cells flags → Turn items bricks p n cells flags before tested c t cells' flags' n' → first_cells cells before ≡ on_row (begins items p) (booked_after items bricks p)
  same_row b u = ap (first_cells cells) u.stood ∙ row_at cells n (begins items p) ∙ ap (on_row (begins items p)) b.there

  same_answer : Booked items bricks flags₀ p n cells flags → Turn items bricks p n cells flags before tested c t cells' flags' n' → t ≡ taken_at items bricks p
  same_answer b u =
      u.clear ∙ ap (λ (k : ℕ). clear_of (first_cells cells k) (cell_of c)) u.held ∙ test_at_lem cells before (cell_of c) (ltb (order_at items p) bricks)
      ∙ ap (λ (l : List Rows.Cell). ltb (order_at items p) bricks || clear_of l (cell_of c)) (same_row b u) ∙ ap (λ (d : Rows.Cell). ltb (order_at items p) bricks || clear_of (on_row (begins items p) (booked_after items bricks p)) d) u.is

  next_cells : Booked items bricks flags₀ p n cells flags → Turn items bricks p n cells flags before tested c t cells' flags' n' → first_cells cells' n' ≡ booked_after items bricks (suc p)
  unfolding booked_after
  next_cells b u =
      ap (first_cells cells') u.counted ∙ u.stores.added ∙ ap (book t (cell_of c)) (same_row b u) ∙ ap (λ (d : Rows.Cell). book t d (on_row (begins items p) (booked_after items bricks p))) u.is
      ∙ ap (λ (s : Bool). book s (item_cell items (order_at items p)) (on_row (begins items p) (booked_after items bricks p))) (same_answer b u)

  next_flags : Booked items bricks flags₀ p n cells flags → Turn items bricks p n cells flags before tested c t cells' flags' n' → flags' ≡ flags_after items bricks (suc p) flags₀
  unfolding flags_after
  next_flags b u = u.noted ∙ ap (λ (l : List ℕ). set l (order_at items p) (flag t)) b.told ∙ ap (λ (s : Bool). set (flags_after items bricks p flags₀) (order_at items p) (flag s)) (same_answer b u)

  pub turned : Booked items bricks flags₀ p n cells flags → Turn items bricks p n cells flags before tested c t cells' flags' n' → Booked items bricks flags₀ (p + 1) n' cells' flags'
  turned b u = record {
    few = let l : before ≤ p = fits n before p (begins items p) b.few u.stood in let k : count_after t before ≤ before + 1 = one_more before t in let e : n' ≡ count_after t before = u.counted in omega (arith, l, k, e);
    room = u.stores.same ∙ b.room;
    long = ap length u.noted ∙ length-set flags (order_at items p) (flag t) ∙ b.long;
    there = next_cells b u ∙ ap (booked_after items bricks) (sym (add-one p));
    told = next_flags b u ∙ ap (λ (k : ℕ). flags_after items bricks k flags₀) (sym (add-one p));
  }

-- a flag as the byte that the code makes of it
pub flag_byte : (t : Bool) → bool_byte t ≡ flag t
flag_byte true = refl
flag_byte false = refl

pub byte_counted : (t : Bool) (n : ℕ) → n + bool_byte t ≡ count_after t n
byte_counted true n = refl
byte_counted false n = add-zero n

-- the cells that stand before an item, and those that it is held to, are in the slice
module _ {items : List (List ℕ)} {bricks p n : ℕ} {flags₀ : List ℕ} {cells : List Cell} {flags : List ℕ} (b : Booked items bricks flags₀ p n cells flags) (low : p < 20480) {before : ℕ} (stood : before ≡ unless (begins items p) n) where
  pub room_for : before < length cells
  room_for = let l : before ≤ p = fits n before p (begins items p) b.few stood in let e = b.room in omega (arith, l, e)

  pub tested_cells : {tested : ℕ} (t : Bool) → tested ≡ unless t before → first_cells (take tested cells) (length (take tested cells)) ≡ first_cells cells tested
  tested_cells {tested = tested} t e = let l : unless t before ≤ before = fewer before t in let r = room_for in all_taken cells tested (omega (arith, l, r, e))
