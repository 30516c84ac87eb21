-- Deliveries counted by the rows of the bus wires.
use Rattle.std.proofs.Common.{◌≡◌, ℕ, suc, ◌+◌, Bool, true, false, not, eqb, List, [], ◌∷◌, ◌++◌, map, reverse, length, get_or, count_by, cond, refl, ap, ◌∙◌, arith, ne_eqb}
use Rattle.std.proofs.lemmas.List.Sums.{sum_by_push}
use mathlib.Core.List.{Memᴰ, reverse-cons}
use Rattle.sheet.specs.Table.{MISSING}
use Rattle.base.specs.Lists.{keep}
use Rattle.base.proofs.Lists.{keep_yes, keep_no}
use Rattle.base.proofs.Views.{map_snoc}
use Rattle.routes.specs.Bus.{BusWire, End, port, rerouter, Carries, onward, delivery}
use Rattle.routes.specs.Buffers.{end_row, carries_row, wire_row}
use Rattle.routes.specs.Plan.{is_delivery}
use Rattle.routes.proofs.Rows.{CarriesFit, WireFits}
use Rattle.routes_plan_sheet.specs.Held.{names_wire}
use Rattle.board.proofs.Reach.{All}

-- The rows that name a wire are those of the deliveries.
past_end : (e : End) (l : List ℕ) (i : ℕ) → get_or (end_row e ++ l) (suc (suc i)) 0 ≡ get_or l i 0
past_end (port n p) l i = refl
past_end (rerouter k) l i = refl

names_wire_lem : (w : BusWire) → WireFits w → names_wire (wire_row w) ≡ is_delivery w
names_wire_lem w f =
    ap (λ v. not (eqb v MISSING)) (past_end w.source (end_row w.target ++ carries_row w.carries) 2 ∙ past_end w.target (carries_row w.carries) 0)
    ∙ go w.carries f.carries
  where
    go : (c : Carries) → CarriesFit c → not (eqb (get_or (carries_row c) 0 0) MISSING) ≡ elim c as (λ _. Bool) [ onward ↦ false | delivery k d ↦ true ]
    go onward h = refl
    go (delivery k d) h = ap not (ne_eqb k MISSING (λ e. omega (arith, h.0)))

-- As the library counts them, among the rows from the oldest to the newest.
pub deliveries_counted : (l : List BusWire) → All WireFits l → count_by names_wire (map wire_row (reverse l)) ≡ length (keep is_delivery l)
deliveries_counted [] f = refl
deliveries_counted (w ∷ l) f =
    ap (λ rows. count_by names_wire rows) (ap (map wire_row) (reverse-cons w l) ∙ map_snoc wire_row (reverse l) w)
    ∙ (sum_by_push (λ row. cond (names_wire row) 1 0) (map wire_row (reverse l)) (wire_row w)
    ∙ go (is_delivery w) refl (deliveries_counted l (λ v m. f v (Memᴰ.tail m))))
  where
    go : (t : Bool) → is_delivery w ≡ t → count_by names_wire (map wire_row (reverse l)) ≡ length (keep is_delivery l)
        → count_by names_wire (map wire_row (reverse l)) + cond (names_wire (wire_row w)) 1 0 ≡ length (keep is_delivery (w ∷ l))
    go true e ih = rw (names_wire_lem w (f w (Memᴰ.head refl)) ∙ e, keep_yes is_delivery w l e) (omega (arith, ih))
    go false e ih = rw (names_wire_lem w (f w (Memᴰ.head refl)) ∙ e, keep_no is_delivery w l e) (omega (arith, ih))
