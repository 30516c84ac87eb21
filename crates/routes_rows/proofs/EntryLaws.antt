-- What a row tells, read back from the item whose turn it is: cells that block. Assumes nothing.
use Prim.Native.Nat.{ℕ, zero, suc, ◌-◌, ◌≤◌, ◌<◌}
use mathlib.Core.Path.{◌≡◌, refl, ap, ap₂, sym, ◌∙◌}
use mathlib.Core.Bool.{Bool, true, false, not, ◌&&◌, ◌||◌}
use mathlib.Core.List.{List, [], ◌∷◌}
use native.Mathlib.Omega.{arith}
use native.Mathlib.Numerals.{add-one}
use lib.Dec.{eqb, ltb}
use lib.ListN.{length, get_or, set}
use lib.Seq.{get_or-set_other}
use borrow.Author.Tests.{eqb-true, ne_eqb, ltb-false}
use Rattle.sheet.specs.Table.{MISSING}
use Rattle.base.specs.Lists.{keep}
use Rattle.base.proofs.Bools.{false_first, neither, clash}
use Rattle.board.specs.Rows
use Rattle.board.specs.Rows.{cells_overlap}
use Rattle.routes_rows.specs.Booking.{cell_of, key_of, order_at, begins, count_after}
use Rattle.routes_rows.specs.Blocked.{count_in, corner_cell, blocked, Blocks, cell_meets}
use Rattle.routes_rows.specs.Notes.{AllPlain}
use Rattle.routes_rows.specs.Turning.{Entry, load_at, of_class, entries_on}
use Rattle.routes_rows.specs.Entries.{level_in, cell_entry, corner_entry, entry_at, seen, row_before, follows_row, entries_meet, RowFits}
use Rattle.routes_rows.specs.declared.book.Cell.{Cell}
use Rattle.routes_rows.proofs.Blocking.{or_no, or_both}

-- ---- the whole row blocks, entry by entry: what is blocked so far, with the entries that are left, is what all block
pub record Barring (span : Cell) (booked : List Entry) (ends : List ℕ) (left : List Entry) (ends' : List ℕ) : Type 0 where
  pub long : length ends' ≡ length ends
  pub same : (j : ℕ) → j < count_in span → blocked span ends j || entries_meet booked span j ≡ blocked span ends' j || entries_meet left span j
  pub rest : (j : ℕ) → count_in span ≤ j → get_or ends' j 0 ≡ get_or ends j 0

module _ {span : Cell} {booked : List Entry} {ends : List ℕ} where
  pub barring_next : {e : Entry} {all left : List Entry} {cell : Cell} {ends' ends'' : List ℕ} → all ≡ e ∷ left → cell_of cell ≡ e.cell → Barring span booked ends all ends' → Blocks span (cell_meets cell span) ends' ends'' → Barring span booked ends left ends''
  barring_next {e} {all} {left} {cell} {ends'} {ends''} is same b h =
      record {
        long = h.long ∙ b.long;
        same = λ j low.
            b.same j low ∙ ap (λ (l : List Entry). blocked span ends' j || entries_meet l span j) is ∙ ap (λ (d : Rows.Cell). blocked span ends' j || (cells_overlap d (corner_cell span j) || entries_meet left span j)) (sym same)
            ∙ sym (or_both (blocked span ends' j) (cell_meets cell span j) (entries_meet left span j)) ∙ sym (ap (λ t. t || entries_meet left span j) (h.more j low));
        rest = λ j high. h.rest j high ∙ b.rest j high;
      }

  pub barring_end : {left : List Entry} {ends' : List ℕ} → left ≡ [] → Barring span booked ends left ends' → Blocks span (entries_meet booked span) ends ends'
  barring_end {left} {ends'} is b =
      record { long = b.long; more = λ j low. sym (b.same j low ∙ ap (λ (l : List Entry). blocked span ends' j || entries_meet l span j) is ∙ or_no (blocked span ends' j)); rest = b.rest }

-- ---- entries that are no corners
pub plain_class : (l : List Entry) (class : ℕ) → (class ≡ MISSING → ⊥) → AllPlain l → of_class l class ≡ false
plain_class [] class has a = refl
plain_class (e ∷ l) class has a = neither _ _ (ne_eqb e.class class (λ q. has (sym q ∙ a.0.1))) (plain_class l class has a.1)

pub load_more : (e : Entry) (l : List Entry) (sink level : ℕ) → load_at (e ∷ l) sink level ≡ count_after (eqb e.sink sink && eqb e.cell.x0 level) (load_at l sink level)
load_more e l sink level = go (eqb e.sink sink && eqb e.cell.x0 level)
  where
    K : List Entry
    K = keep (λ x. eqb x.sink sink && eqb x.cell.x0 level) l

    go : (t : Bool) → length {A = Entry} (elim t [ true ↦ e ∷ K | false ↦ K ]) ≡ count_after t (length K)
    go true = sym (add-one (length K))
    go false = refl

pub plain_load : (l : List Entry) (sink level : ℕ) → (sink ≡ MISSING → ⊥) → AllPlain l → load_at l sink level ≡ 0
plain_load [] sink level has a = refl
plain_load (e ∷ l) sink level has a =
    load_more e l sink level ∙ ap (λ t. count_after t (load_at l sink level)) (false_first _ (eqb e.cell.x0 level) (ne_eqb e.sink sink (λ q. has (sym q ∙ a.0.0)))) ∙ plain_load l sink level has a.1

-- ---- the item before the k-th
pub follows_at : (items : List (List ℕ)) (k key : ℕ) → (k ≡ 0 → ⊥) → follows_row items k key ≡ eqb (key_of items (order_at items (k - 1))) key
follows_at items zero key h = absurd (h refl)
follows_at items (suc k) key h = let e : k ≡ suc k - 1 = omega arith in ap (λ (i : ℕ). eqb (key_of items (order_at items i)) key) e

pub follows_some : (items : List (List ℕ)) (k key : ℕ) → follows_row items k key ≡ true → 0 < k
follows_some items zero key t = clash t refl
follows_some items (suc k) key t = omega arith

-- ---- a row read back from its p-th item, as far as the k-th
pub record Back (items : List (List ℕ)) (p key k : ℕ) : Type 0 where
  pub low : k ≤ p
  pub same : key_of items (order_at items k) ≡ key

begins_is : (items : List (List ℕ)) (k key : ℕ) → key_of items (order_at items k) ≡ key → begins items k ≡ not (follows_row items k key)
begins_is items zero key e = refl
begins_is items (suc k) key e = ap (λ (x : ℕ). not (eqb (key_of items (order_at items k)) x)) e

module _ {items : List (List ℕ)} {p key k : ℕ} (b : Back items p key k) where
  pub back_next : follows_row items k key ≡ true → Back items p key (k - 1)
  back_next t =
      let low = b.low in
      let some = follows_some items k key t in
      record { low = omega (arith, low); same = eqb-true (key_of items (order_at items (k - 1))) key (sym (follows_at items k key (λ z. omega (arith, z, some))) ∙ t) }

  module _ (first : ℕ) (answers : List ℕ) where
    pub row_more : follows_row items k key ≡ true → row_before items first answers k ≡ entry_at items first answers (k - 1) ∷ row_before items first answers (k - 1)
    row_more t = go k refl (begins_is items k key b.same ∙ ap not t) (follows_some items k key t)
      where
        go : (j : ℕ) → j ≡ k → begins items k ≡ false → 0 < k → row_before items first answers k ≡ entry_at items first answers (k - 1) ∷ row_before items first answers (k - 1)
        go zero e f h = absurd (omega (arith, e, h))
        go (suc j) e f h =
            let d : j ≡ k - 1 = omega (arith, e) in
            ap (λ (i : ℕ). row_before items first answers i) (sym e) ∙ ap (λ (t : Bool). entries_on t (seen items first answers (suc j))) (ap (begins items) e ∙ f) ∙ ap (λ (i : ℕ). entry_at items first answers i ∷ row_before items first answers i) d

    pub row_ends : follows_row items k key ≡ false → row_before items first answers k ≡ []
    row_ends t = ap (λ (s : Bool). entries_on s (seen items first answers k)) (begins_is items k key b.same ∙ ap not t)

pub row_less : {items : List (List ℕ)} {first p : ℕ} {answers : List ℕ} (k : ℕ) → k ≤ p → RowFits items p first answers → RowFits items k first answers
row_less k low fit =
    record {
      inside = let h = fit.inside in omega (arith, h, low);
      countable = let h = fit.countable in omega (arith, h, low);
      ordered = λ q h. fit.ordered q (omega (arith, h, low));
      asks = λ q h. fit.asks q (omega (arith, h, low));
      there = λ q h. fit.there q (omega (arith, h, low));
      few = λ q h. fit.few q (omega (arith, h, low));
      rising = λ q h. fit.rising q (omega (arith, h, low));
    }

-- ---- a later answer of the row leaves what is booked before it
pub row_kept : (items : List (List ℕ)) (first : ℕ) (answers : List ℕ) (p : ℕ) → RowFits items p first answers → (i v k : ℕ) → first ≤ i → k ≤ p → order_at items k ≤ i → row_before items first (set answers (i - first) v) k ≡ row_before items first answers k
row_kept items first answers p fit i v zero later h low = refl
row_kept items first answers p fit i v (suc k) later h low = go (begins items (suc k)) refl (row_kept items first answers p fit i v k later (omega (arith, h)))
  where
    A : List ℕ
    A = set answers (i - first) v

    entry : order_at items k < i → (t : Bool) → ltb (order_at items k) first ≡ t
        → ◌≡◌ {A = Entry} (elim t [ true ↦ cell_entry items (order_at items k) | false ↦ corner_entry items (order_at items k) (level_in (get_or A (order_at items k - first) 0)) ])
        (elim t [ true ↦ cell_entry items (order_at items k) | false ↦ corner_entry items (order_at items k) (level_in (get_or answers (order_at items k - first) 0)) ])
    entry l true t = refl
    entry l false t =
        let b : first ≤ order_at items k = ltb-false (order_at items k) first t in
        ap (λ (x : ℕ). corner_entry items (order_at items k) (level_in x)) (get_or-set_other answers (i - first) (order_at items k - first) v 0 (λ z. omega (arith, z, l, b, later)))

    go : (t : Bool) → begins items (suc k) ≡ t → (order_at items k ≤ i → row_before items first A k ≡ row_before items first answers k)
        → entries_on t (entry_at items first A k ∷ row_before items first A k) ≡ entries_on t (entry_at items first answers k ∷ row_before items first answers k)
    go true t ih = refl
    go false t ih =
        let r : order_at items k < order_at items (suc k) = fit.rising k h t in
        let l : order_at items k < i = omega (arith, r, low) in
        ap₂ (λ (x : Entry) (l : List Entry). x ∷ l) (entry l (ltb (order_at items k) first) refl) (ih (omega (arith, l)))
