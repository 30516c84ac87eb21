-- Laws of the items as they are filled in: a row of numbers is a brick's item or a candidate's, and stays so.
use Prim.Native.Nat.{ℕ, ◌+◌, ◌*◌, ◌≤◌, ◌<◌}
use native.Mathlib.Omega.{arith}
use mathlib.Core.Path.{◌≡◌, refl, ap, sym, subst, ◌∙◌}
use Rattle.std.proofs.Common.{Some, None}
use Rattle.std.specs.Bool.{then_some}
use mathlib.Core.Bool.{Bool, true, false, not, ◌||◌}
use mathlib.Core.List.{List, []}
use lib.Dec.{eqb}
use lib.ListN.{length, get_or}
use borrow.Author.Tests.{eq-eqb, ne_eqb}
use Rattle.sheet.specs.Table.{MISSING}
use Rattle.base.specs.Runs.{SameButOrder}
use Rattle.board.specs.Board.{field, given}
use Rattle.board.specs.Rows
use Rattle.board.specs.Rows.{brick_cell, rerouter_cell}
use Rattle.board.specs.Tables.{nodes_alone}
use Rattle.routes_taps.specs.Asking.{Candidate, source_item, gate_side_item}
use Rattle.routes_beside.specs.Beside.{rows_before, key_at, Bases, cell_in, ItemIs, BrickIs, Items, BrickInRange, AskedInRange, BricksAskable}
use Rattle.base.proofs.Bools.{never}
use Rattle.routes_beside.specs.declared.items.Spot.{Spot}
use Rattle.routes_beside.proofs.Keys.{key_below}

module _ (last : ℕ) (t : Bool) (c : Rows.Cell) (key : ℕ) (r : List ℕ) where
  pub item_there : t ≡ true → (cell_in r ≡ c) × (get_or r 6 0 ≡ key) → ItemIs last t c key r
  item_there e it = record { cell = λ y. it.0; keyed = λ y. it.1; absent = λ n. let z : ◌≡◌ {A = ℕ} 0 1 = cc in absurd (omega arith) }

  pub item_absent : t ≡ false → get_or r 6 0 ≡ last → ItemIs last t c key r
  item_absent e it =
      record { cell = λ y. let z : ◌≡◌ {A = ℕ} 0 1 = cc in absurd (omega arith); keyed = λ y. let z : ◌≡◌ {A = ℕ} 0 1 = cc in absurd (omega arith); absent = λ n. it }

  -- Column 7 is no part of an item.
  pub same_item : (r' : List ℕ) → ((k : ℕ) → k < 7 → get_or r' k 0 ≡ get_or r k 0) → ItemIs last t c key r → ItemIs last t c key r'
  same_item r' same it =
      record {
        cell = λ y. (λ w. record { x0 = same 0 (omega arith) w; x1 = same 1 (omega arith) w; y0 = same 2 (omega arith) w; y1 = same 3 (omega arith) w }) ∙ it.cell y;
        keyed = λ y. same 6 (omega arith) ∙ it.keyed y;
        absent = λ n. same 6 (omega arith) ∙ it.absent n;
      }

pub same_items : (nodes facts laid asked : List (List ℕ)) (n : ℕ) (items items' : List (List ℕ)) → SameButOrder items items' → Items nodes facts laid asked n items → Items nodes facts laid asked n items'
same_items nodes facts laid asked n items items' s held =
    record {
      bricks = λ i h. same_item _ _ _ _ (get_or items i []) (get_or items' i []) (s.same i) (held.bricks i h);
      taps = λ k h. (
        same_item _ _ _ _ (get_or items (source_item (length nodes) k) []) (get_or items' (source_item (length nodes) k) []) (s.same (source_item (length nodes) k)) (held.taps k h).0,
        same_item _ _ _ _ (get_or items (gate_side_item (length nodes) k) []) (get_or items' (gate_side_item (length nodes) k) []) (s.same (gate_side_item (length nodes) k)) (held.taps k h).1,
      );
    }

pub missing : (v : ℕ) → v ≡ MISSING → given v ≡ false
missing v e = ap not (eq-eqb v MISSING e)

-- A brick that has a row.
module _ (nodes facts : List (List ℕ)) (bases : List ℕ) (i : ℕ) (ok : BricksAskable nodes facts) (has : Bases nodes bases) (h : i < length nodes) (there : field nodes i 10 ≡ MISSING → ⊥) where
  row_given : given (field nodes i 10) ≡ true
  row_given = ap not (ne_eqb (field nodes i 10) MISSING there)

  range : BrickInRange nodes facts i
  range = ok.in_range i h row_given

  first : get_or bases (field nodes i 10) 0 ≡ rows_before nodes (field nodes i 10)
  first = has.first (field nodes i 10) range.page

  pub brick_key : (field nodes i 10 < length bases) × (get_or bases (field nodes i 10) 0 + field facts i 0 ≤ 4096)
  brick_key =
      let f = first in
      let few = ok.few in
      let k = key_below nodes (field nodes i 10) (field facts i 0) range.row in
      let p = range.page in
      let l = has.long in
      (omega arith, omega arith)

  abbrev pub brick_as : Bool → Rows.Cell
  brick_as t =
      record {
        x0 = field nodes i 8;
        x1 = field nodes i 8 + 2 * elim t [ true ↦ field nodes i 6 | false ↦ field nodes i 5 ];
        y0 = field nodes i 9;
        y1 = field nodes i 9 + 2 * elim t [ true ↦ field nodes i 5 | false ↦ field nodes i 6 ];
      }

  module _ (t : Bool) (e : eqb (field nodes i 7) 1 || eqb (field nodes i 7) 3 ≡ t) where
    brick_as_lem : brick_cell (nodes_alone nodes) i ≡ brick_as t
    unfolding brick_cell
    brick_as_lem = ap brick_as e

    pub brick_ends : ((brick_as t).x1 < 4294967296) × ((brick_as t).y1 < 4294967296)
    brick_ends = (subst (λ (c : Rows.Cell). c.x1 < 4294967296) brick_as_lem range.end_x, subst (λ (c : Rows.Cell). c.y1 < 4294967296) brick_as_lem range.end_y)

    pub brick_is : (r : List ℕ) → (cell_in r ≡ brick_as t) × (get_or r 6 0 ≡ get_or bases (field nodes i 10) 0 + field facts i 0) → BrickIs nodes facts i r
    brick_is r it =
        item_there (length nodes) (given (field nodes i 10)) (brick_cell (nodes_alone nodes) i) (key_at nodes (field nodes i 10) (field facts i 0)) r row_given
        (it.0 ∙ sym brick_as_lem, it.1 ∙ ap (λ v. v + field facts i 0) first)

module _ (nodes : List (List ℕ)) (bases : List ℕ) (has : Bases nodes bases) (few : length nodes ≤ 4096) (c : Candidate) where
  pub asked_room : AskedInRange nodes c → (c.page < length bases) × (get_or bases c.page 0 + c.row ≤ 4096) × (c.x < 4294967290) × (c.y < 4294967290)
  asked_room range =
      let f = has.first c.page range.page in
      let k = key_below nodes c.page c.row range.row in
      let p = range.page in
      let l = has.long in
      (omega arith, omega arith, range.x, range.y)

-- A spot that is asked for, by a test.
pub spot_there : (t : Bool) (s z : Spot) → Some z ≡ then_some t s → (t ≡ true) × (z ≡ s)
spot_there true s z e = (refl, cc)
spot_there false s z e = never cc

pub spot_gone : (t : Bool) (s : Spot) → None ≡ then_some t s → t ≡ false
spot_gone true s e = never cc
spot_gone false s e = refl

abbrev pub SpotFits : List ℕ → Spot → Type 0
SpotFits bases s = (s.page < length bases) × (get_or bases s.page 0 + s.row ≤ 4096) × (s.x < 4294967290) × (s.y < 4294967290)

pub spot_fits : (bases : List ℕ) (t : Bool) (s z : Spot) → Some z ≡ then_some t s → (t ≡ true → SpotFits bases s) → SpotFits bases z
spot_fits bases t s z e room = let h = spot_there t s z e in subst (SpotFits bases) (sym h.1) (room h.0)
