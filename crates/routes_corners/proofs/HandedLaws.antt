-- The bus that buffers hold: its rows are the buffers' rows, and its suppressed ports are those handed in.
use Rattle.std.proofs.Common.{◌≡◌, ℕ, zero, suc, ◌<◌, ◌≤◌, Bool, true, false, ◌&&◌, ◌||◌, eqb, ltb, List, [], ◌∷◌, length, get_or, set, sym, refl, ap, ◌∙◌, arith, get_or-set_other, get_or-set_same, eqb-true}
use Rattle.board.specs.Board.{Board}
use Rattle.base.specs.Lists.{any}
use Rattle.base.specs.Views.{view}
use Rattle.base.proofs.Bools.{and_left, and_right}
use Rattle.base.proofs.Views.{length-view}
use Rattle.routes.specs.Bus.{Rerouter, Port, insert_port, same_port, port_of, muted}
use Rattle.routes.specs.Buffers.{rerouter_row, wire_row, inward, rerouter_in, wire_in, port_in, Rows}
use Rattle.routes.proofs.Rows.{rerouter_row_lem, wire_row_lem, written_own}
use Rattle.routes.specs.declared.bus.BusCounts.{BusCounts}
use Rattle.routes_corners.specs.Handed.{ports_in, bus_in, Mutes, Fits, CellRows, Handed}

inward_fits : (c : ℕ) → inward c < 4294967296
inward_fits c = omega arith

cells_own : (table : List (List ℕ)) (n : ℕ) → Rows 11 table n → CellRows (view rerouter_in table n) table
cells_own table zero rows = tt
cells_own table (suc n) rows = (
  ap (λ i. get_or table i []) (length-view rerouter_in table n) ∙ sym (rerouter_row_lem (get_or table n []) (rows n (omega arith))),
  record { x_fits = inward_fits (get_or (get_or table n []) 0 0); y_fits = inward_fits (get_or (get_or table n []) 1 0) },
  cells_own table n (λ i h. rows i (omega arith)),
)

-- One rerouter more: its row is written behind those that there are.
cells_kept : (l : List Rerouter) (table : List (List ℕ)) (n : ℕ) (row : List ℕ) → length l ≤ n → CellRows l table → CellRows l (set table n row)
cells_kept [] table n row h rows = tt
cells_kept (k ∷ l) table n row h rows = (get_or-set_other table n (length l) row [] (λ z. omega arith) ∙ rows.0, rows.1, cells_kept l table n row (omega arith) rows.2)

pub cells_more : (l : List Rerouter) (table : List (List ℕ)) (k : Rerouter) → length l < length table → Fits k → CellRows l table → CellRows (k ∷ l) (set table (length l) (rerouter_row k))
cells_more l table k room fits rows = (get_or-set_same table (length l) (rerouter_row k) [] room, fits, cells_kept l table (length l) (rerouter_row k) (omega arith) rows)

-- A port put in is there, and others are there as before.
or_swap : (s t r : Bool) → s || (t || r) ≡ t || (s || r)
or_swap true true r = refl
or_swap true false r = refl
or_swap false t r = refl

or_twice : (t r : Bool) → t || r ≡ t || (t || r)
or_twice true r = refl
or_twice false r = refl

port_in_lem : (s p : Port) (l : List Port) → any (same_port s) (insert_port p l) ≡ same_port s p || any (same_port s) l
port_in_lem s p [] = refl
port_in_lem s p (q ∷ l) =
    go (ltb p.node q.node || (eqb p.node q.node && ltb p.port q.port)) (same_port p q) refl (port_in_lem s p l)
  where
    same : same_port p q ≡ true → same_port s p ≡ same_port s q
    same e =
        let nodes : p.node ≡ q.node = eqb-true p.node q.node (and_left (eqb p.node q.node) (eqb p.port q.port) e) in
        let ports : p.port ≡ q.port = eqb-true p.port q.port (and_right (eqb p.node q.node) (eqb p.port q.port) e) in
        λ i. eqb s.node (nodes i) && eqb s.port (ports i)

    go : (less equal : Bool) → same_port p q ≡ equal → any (same_port s) (insert_port p l) ≡ same_port s p || any (same_port s) l
        → any (same_port s) (elim less as (λ _. List Port) [ true ↦ p ∷ q ∷ l | false ↦ elim equal as (λ _. List Port) [ true ↦ q ∷ l | false ↦ q ∷ insert_port p l ] ])
        ≡ same_port s p || (same_port s q || any (same_port s) l)
    go true equal e below = refl
    go false true e below = or_twice (same_port s q) (any (same_port s) l) ∙ ap (λ t. t || (same_port s q || any (same_port s) l)) (sym (same e))
    go false false e below = ap (λ t. same_port s q || t) below ∙ or_swap (same_port s q) (same_port s p) (any (same_port s) l)

-- A port is among those inserted exactly where it is among those handed in.
ports_own : (s : Port) (rows : List (List ℕ)) (n : ℕ) → any (same_port s) (ports_in rows n) ≡ any (same_port s) (view port_in rows n)
unfolding ports_in
ports_own s rows zero = refl
ports_own s rows (suc n) = port_in_lem s (port_in (get_or rows n [])) (ports_in rows n) ∙ ap (λ t. same_port s (port_in (get_or rows n [])) || t) (ports_own s rows n)

-- The buffers hold the bus that is read off them.
pub handed_in : (rerouters bus_wires ports : List (List ℕ)) (held : BusCounts)
    → held.rerouters ≤ length rerouters → held.bus_wires ≤ length bus_wires → Rows 11 rerouters held.rerouters → Rows 6 bus_wires held.bus_wires
    → Handed (bus_in rerouters bus_wires ports held) rerouters bus_wires rerouters bus_wires (record { rerouters = held.rerouters; wires = held.bus_wires })
unfolding bus_in
handed_in rerouters bus_wires ports held hn hk tens sixes =
    let n = held.rerouters in
    let k = held.bus_wires in
    record {
      held =
          record {
            rerouter_rows = sym (written_own rerouter_row rerouter_in rerouters n hn (λ i h. rerouter_row_lem (get_or rerouters i []) (tens i h)));
            wire_rows = sym (written_own wire_row wire_in bus_wires k hk (λ i h. wire_row_lem (get_or bus_wires i []) (sixes i h)));
            rerouter_count = sym (length-view rerouter_in rerouters n);
            wire_count = sym (length-view wire_in bus_wires k);
          };
      rows = cells_own rerouters n tens;
    }

pub mutes_in : (b : Board) (rerouters bus_wires ports : List (List ℕ)) (held : BusCounts) → Mutes b (bus_in rerouters bus_wires ports held) ports held.ports
unfolding bus_in muted
mutes_in b rerouters bus_wires ports held = λ w h. ports_own (port_of b w) ports held.ports
