-- Bus wires read back from the rows that they were written to.
use Prim.Native.Nat.{ℕ, zero, suc, ◌+◌, ◌-◌, ◌≤◌, ◌<◌}
use native.Mathlib.Omega.{arith}
use mathlib.Core.Path.{◌≡◌, refl, sym, ap, ◌∙◌}
use mathlib.Core.List.{List, [], ◌∷◌, ◌++◌, map}
use lib.ListN.{length, get_or, set, length-append, length-map}
use lib.Seq.{get_or-set_same, get_or-set_other, take_at}
use Rattle.sheet.specs.Table.{MISSING}
use Rattle.base.proofs.Every.{All}
use Rattle.board.specs.Board.{Board, target_port}
use Rattle.board.specs.Accepted.{Accepted}
use Rattle.routes.specs.Bus.{Bus, BusWire, End, port, rerouter, Carries, onward, delivery, Port}
use Rattle.routes.specs.Buffers.{end_row, carries_row, wire_row, port_row, end_in, carries_in, wire_in, port_in, ports_held}
use Rattle.routes.specs.Tables.{written_over}
use Rattle.routes.proofs.Views.{rows_written}
use Rattle.routes.proofs.Rows.{port_there, wire_named, ports_back}
use Rattle.routes_ports.specs.Ports.{sent_to, targets, suppress, ports_set, Ported}
use Rattle.routes_ports.specs.Settling.{wires_from, ports_over, settled}

-- A delivery's wire and target port are told from missing ones.
abbrev pub told : Carries → End → Type 0
told onward e = Unit {0}
told (delivery k d) (port n p) = (k < MISSING) × (p < MISSING)
told (delivery k d) (rerouter n) = k < MISSING

abbrev pub Legible : BusWire → Type 0
Legible w = told w.carries w.target

-- A delivery of a board's wire is legible.
pub deliverable : {b : Board} → Accepted b → (w : ℕ) → w < length b.wires → (w < MISSING) × (target_port b w < MISSING)
deliverable a w h = (omega (arith, a.few_wires), omega (arith, (a.target w).1))

-- The last four numbers of a row, read.
abbrev last_four : List ℕ → List Port → List Port
last_four r l = sent_to (carries_in (get_or r 2 0) (get_or r 3 0)) (end_in (get_or r 0 0) (get_or r 1 0)) l

wire_read : (w : BusWire) (l : List Port) → Legible w → sent_to (wire_in (wire_row w)).carries (wire_in (wire_row w)).target l ≡ sent_to w.carries w.target l
wire_read w l h = behind w.source (end_row w.target ++ carries_row w.carries) ∙ go w.target w.carries h
  where
    behind : (e : End) (r : List ℕ) → last_four (get_or (end_row e ++ r) 2 0 ∷ get_or (end_row e ++ r) 3 0 ∷ get_or (end_row e ++ r) 4 0 ∷ get_or (end_row e ++ r) 5 0 ∷ []) l ≡ last_four r l
    behind (port n p) r = refl
    behind (rerouter n) r = refl

    go : (e : End) (c : Carries) → told c e → last_four (end_row e ++ carries_row c) l ≡ sent_to c e l
    go (port n p) onward h = refl
    go (rerouter n) onward h = refl
    go (port n p) (delivery k d) h = λ z. sent_to (wire_named k d h.0 z) (port_there n p h.1 z) l
    go (rerouter n) (delivery k d) h = λ z. sent_to (wire_named k d h z) (rerouter n) l

-- A store behind the rows read leaves them.
wires_set : (table : List (List ℕ)) (i : ℕ) (row : List ℕ) (from n : ℕ) → from + n ≤ i → wires_from (set table i row) from n ≡ wires_from table from n
wires_set table i row from zero h = refl
wires_set table i row from (suc n) h =
    let here : get_or (set table i row) (from + n) [] ≡ get_or table (from + n) [] = get_or-set_other table i (from + n) row [] (λ e. omega arith) in
    let below : wires_from (set table i row) from n ≡ wires_from table from n = wires_set table i row from n (omega arith) in
    λ z. wire_in (here z) ∷ below z

pub targets_read : (new old : List BusWire) (table : List (List ℕ)) → length (new ++ old) ≤ length table → All Legible new
    → targets (wires_from (written_over wire_row (new ++ old) table) (length old) (length new)) ≡ targets new
targets_read [] old table h a = refl
targets_read (w ∷ new) old table h a =
    let place : length old + length new ≡ length (new ++ old) = omega (arith, length-append new old) in
    let inside : length (new ++ old) < length (written_over wire_row (new ++ old) table) = omega (arith, (rows_written wire_row (new ++ old) table (omega arith)).1) in
    let here : get_or (set (written_over wire_row (new ++ old) table) (length (new ++ old)) (wire_row w)) (length old + length new) [] ≡ wire_row w
    = rw place (get_or-set_same (written_over wire_row (new ++ old) table) (length (new ++ old)) (wire_row w) [] inside) in
    let below : wires_from (set (written_over wire_row (new ++ old) table) (length (new ++ old)) (wire_row w)) (length old) (length new)
    ≡ wires_from (written_over wire_row (new ++ old) table) (length old) (length new)
    = wires_set (written_over wire_row (new ++ old) table) (length (new ++ old)) (wire_row w) (length old) (length new) (omega arith) in
    (λ z. targets (wire_in (here z) ∷ below z))
    ∙ (wire_read w (targets (wires_from (written_over wire_row (new ++ old) table) (length old) (length new))) a.0
    ∙ ap (sent_to w.carries w.target) (targets_read new old table (omega arith) a.1))

-- Ports written over a table are those handed in.
pub handed_over : (l : List Port) (table : List (List ℕ)) → ports_held (ports_over l table) (length l) ≡ l
handed_over l table = ap (map port_in) (take_at (map port_row l) _ (length l) (length-map l port_row)) ∙ ports_back l

-- What `settle_ports` reads and leaves where the table of bus wires holds a later bus, and the ports handed in are the earlier one's.
module _ {start later : Bus} (p : Ported start later) (legible : All Legible p.new) (wires old : List (List ℕ))
    (held : wires ≡ written_over wire_row later.wires old) (room : length later.wires ≤ length old) where
  grown : length later.wires ≡ length p.new + length start.wires
  grown = ap length p.wires ∙ length-append p.new start.wires

  pub from_start : length start.wires ≤ length later.wires
  from_start = omega (arith, grown)

  pub all_written : length later.wires ≤ length wires
  all_written = omega (arith, ap length held, (rows_written wire_row later.wires old room).1)

  pub targets_held : targets (wires_from wires (length start.wires) (length later.wires - length start.wires)) ≡ targets p.new
  targets_held =
      let many : length later.wires - length start.wires ≡ length p.new = omega (arith, grown) in
      let table : wires ≡ written_over wire_row (p.new ++ start.wires) old = held ∙ ap (λ l. written_over wire_row l old) p.wires in
      let fit : length (p.new ++ start.wires) ≤ length old = omega (arith, grown, length-append p.new start.wires) in
      (λ z. targets (wires_from (table z) (length start.wires) (many z))) ∙ targets_read p.new start.wires old fit legible

  pub settled_held : (ports : List (List ℕ)) (u : ℕ) → ports_set (ports_held ports u) ≡ start.ports
      → settled wires (length start.wires) (length later.wires) ports u ≡ later.ports
  settled_held ports u h = (λ z. suppress (h z) (targets_held z)) ∙ sym p.ports
