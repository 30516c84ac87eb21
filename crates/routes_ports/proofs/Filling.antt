-- Laws of the loops: entries written from the front of a table, one store a turn.
use Prim.Native.Nat.{ℕ, zero, suc, ◌+◌, ◌-◌, ◌≤◌, ◌<◌}
use native.Mathlib.Omega.{arith}
use native.Mathlib.Numerals.{add-one}
use mathlib.Core.Path.{◌≡◌, refl, sym, ap, ◌∙◌}
use mathlib.Core.Bool.{Bool, true, false, not, ◌&&◌}
use mathlib.Core.List.{List, [], ◌∷◌, ◌++◌, map, map-id, map-append, append-nil, append_assoc}
use lib.Dec.{eqb}
use lib.ListN.{length, get_or, take, drop, set, length-set, length-drop, length-map, take-append-drop, drop_of_length-le}
use Rattle.std.proofs.lemmas.List.{length_push, get_or_push, take-append-le}
use lib.Seq.{take-append_seam, take-length, take-suc-set, drop-set-lt, drop-drop, length-take-le, get_or-take, get_or-drop}
use Rattle.sheet.specs.Table.{MISSING}
use Rattle.base.proofs.Bools.{clash}
use Rattle.base.specs.Views.{view}
use Rattle.routes.specs.Bus.{BusWire, port, rerouter, onward, delivery, Port}
use Rattle.routes.specs.Buffers.{port_row, wire_in, port_in, ports_held}
use Rattle.routes_ports.specs.Ports.{sent_to, targets, ports_set, ports_with}
use Rattle.routes_ports.specs.Settling.{delivers_in, wires_from, key_port, unique, ports_over, settled, Settleable, Settled}

-- n entries are written over `old`, which are read as the first of `front`, and `rest` is still to be.
pub record Filled {A B : Type 0} (read : A → B) (front : List B) (old now : List A) (n : ℕ) (rest : List B) : Type 0 where
  pub fits : length front ≤ length old
  pub long : length now ≡ length old
  pub count : n + length rest ≡ length front
  pub rows : front ≡ map read (take n now) ++ rest
  pub kept : drop n now ≡ drop n old

module _ {A B : Type 0} (read : A → B) where
  pub filled_none : (front : List B) (old : List A) → length front ≤ length old → Filled read front old old 0 front
  filled_none front old h = record { fits = h; long = refl; count = omega arith; rows = refl; kept = refl }

module _ {A B : Type 0} {read : A → B} {front : List B} {old now : List A} {n : ℕ} {rest : List B} (f : Filled read front old now n rest) where
  pub filled_room : (x : B) (more : List B) → rest ≡ x ∷ more → n < length now
  filled_room x more e = let l = ap length e in omega (arith, f.fits, f.long, f.count)

  pub filled_more : (x : A) (more : List B) (k : ℕ) → rest ≡ read x ∷ more → k ≡ n + 1 → Filled read front old (set now n x) k more
  filled_more x more k e d =
      let room : n < length now = filled_room (read x) more e in
      let l = ap length e in
      let next : k ≡ suc n = d ∙ add-one n in
      let written : map read (take (suc n) (set now n x)) ≡ map read (take n now) ++ (read x ∷ [])
      = ap (map read) (take-suc-set now n x room) ∙ map-append read (take n now) (x ∷ []) in
      rw next
      (record {
        fits = f.fits;
        long = length-set now n x ∙ f.long;
        count = omega (arith, f.count);
        rows = f.rows ∙ (ap (λ r. map read (take n now) ++ r) e ∙ (sym (append_assoc (map read (take n now)) (read x ∷ []) more) ∙ ap (λ r. r ++ more) (sym written)));
        kept = drop-set-lt (suc n) now n x (omega arith) ∙ further;
      })
    where
      further : drop (suc n) now ≡ drop (suc n) old
      further = rw (← (add-one n)) (sym (drop-drop 1 n now) ∙ (ap (drop 1) f.kept ∙ drop-drop 1 n old))

  pub filled_same : (more : List B) → rest ≡ more → Filled read front old now n more
  filled_same more e = rw (← e) f

  module _ (e : rest ≡ []) where
    pub filled_count : n ≡ length front
    filled_count = let l = ap length e in omega (arith, f.count)

    pub filled_front : map read (take n now) ≡ front
    filled_front = sym (f.rows ∙ (ap (λ r. map read (take n now) ++ r) e ∙ append-nil (map read (take n now))))

-- A row read as a bus wire: its target comes in front where it is a delivery to a port.
module _ (r : List ℕ) (ws : List BusWire) where
  abbrev chosen : Bool → Bool → List Port
  chosen p c =
      sent_to (elim c [ true ↦ onward | false ↦ delivery (get_or r 4 0) (get_or r 5 0) ])
      (elim p [ true ↦ rerouter (get_or r 2 0) | false ↦ port (get_or r 2 0) (get_or r 3 0) ]) (targets ws)

  row_sent : delivers_in r ≡ true → targets (wire_in r ∷ ws) ≡ record { node = get_or r 2 0; port = get_or r 3 0 } ∷ targets ws
  row_sent h = go (eqb (get_or r 3 0) MISSING) (eqb (get_or r 4 0) MISSING && eqb (get_or r 5 0) MISSING) h
    where
      go : (p c : Bool) → (not p && not c) ≡ true → chosen p c ≡ record { node = get_or r 2 0; port = get_or r 3 0 } ∷ targets ws
      go false false h = refl
      go false true h = clash h refl
      go true c h = clash h refl

  row_kept : delivers_in r ≡ false → targets (wire_in r ∷ ws) ≡ targets ws
  row_kept h = go (eqb (get_or r 3 0) MISSING) (eqb (get_or r 4 0) MISSING && eqb (get_or r 5 0) MISSING) h
    where
      go : (p c : Bool) → (not p && not c) ≡ false → chosen p c ≡ targets ws
      go false false h = clash refl h
      go false true h = refl
      go true false h = refl
      go true true h = refl

-- The targets of the bus wires that are left, row by row.
module _ (table : List (List ℕ)) where
  abbrev pub sent_below : ℕ → List Port
  sent_below left = targets (view wire_in table left)

-- What is left of the bus wires, walked from the newest on: the first of them, whose keys are still to come.
pub record SentLeft (table : List (List ℕ)) (old now : List ℕ) (n : ℕ) (rest : List (List ℕ)) : Type 0 where
  pub first : rest ≡ take (length rest) table
  pub filled : Filled key_port (sent_below table (length table)) old now n (sent_below table (length rest))

pub sent_start : (table rest : List (List ℕ)) (old : List ℕ) → rest ≡ table → length (sent_below table (length table)) ≤ length old → SentLeft table old old 0 rest
sent_start table rest old e h = rw e (record { first = sym (take-length table); filled = filled_none key_port (sent_below table (length table)) old h })

module _ {table : List (List ℕ)} (new : List (List ℕ)) (wire : List ℕ) {old now : List ℕ} {n : ℕ} (s : SentLeft table old now n (new ++ (wire ∷ []))) where
  more : length (new ++ (wire ∷ [])) ≡ length new + 1
  more = length_push new wire

  last : get_or table (length new) [] ≡ wire
  last =
      sym (get_or-take (length (new ++ (wire ∷ []))) table (length new) [] (omega (arith, more))) ∙ ap (λ (l : List (List ℕ)). get_or l (length new) []) (sym s.first)
      ∙ get_or_push new wire [] (length new) refl

  front : new ≡ take (length new) table
  front =
      sym (take-append_seam new (wire ∷ [])) ∙ ap (take (length new)) s.first
      ∙ sym (take-append-le (length new) (take (length (new ++ (wire ∷ []))) table) (drop (length (new ++ (wire ∷ []))) table) (omega (arith, ap length s.first, more)))
      ∙ ap (take (length new)) (take-append-drop (length (new ++ (wire ∷ []))) table)

  here : sent_below table (length (new ++ (wire ∷ []))) ≡ targets (wire_in wire ∷ view wire_in table (length new))
  here = ap (sent_below table) (more ∙ add-one (length new)) ∙ ap (λ (r : List ℕ). targets (wire_in r ∷ view wire_in table (length new))) last

  pub sent_pass : delivers_in wire ≡ false → SentLeft table old now n new
  sent_pass d = record { first = front; filled = filled_same s.filled _ (here ∙ row_kept wire (view wire_in table (length new)) d) }

  module _ (d : delivers_in wire ≡ true) (key : ℕ) (e : key_port key ≡ port_in (get_or wire 2 0 ∷ get_or wire 3 0 ∷ [])) where
    comes : sent_below table (length (new ++ (wire ∷ []))) ≡ key_port key ∷ sent_below table (length new)
    comes = here ∙ row_sent wire (view wire_in table (length new)) d ∙ ap {B = List Port} (λ p. p ∷ sent_below table (length new)) (sym e)

    pub sent_room : n < length now
    sent_room = filled_room s.filled _ _ comes

    pub sent_more : SentLeft table old (set now n key) (n + 1) new
    sent_more = record { first = front; filled = filled_more s.filled key _ _ comes refl }

-- The bus wires of a part of the table.
part_below : (table : List (List ℕ)) (from n k : ℕ) → k ≤ n → view wire_in (take n (drop from table)) k ≡ wires_from table from k
part_below table from n zero h = refl
part_below table from n (suc k) h =
    let row : get_or (take n (drop from table)) k [] ≡ get_or table (from + k) [] = get_or-take n (drop from table) k [] (omega arith) ∙ get_or-drop from table k [] in
    let below = part_below table from n k (omega arith) in λ w. wire_in (row w) ∷ below w

-- A slice of bus wires, all of it.
all_below : (table : List (List ℕ)) (n : ℕ) → view wire_in table n ≡ wires_from table 0 n
all_below table zero = refl
all_below table (suc n) = let below = all_below table n in let place : n ≡ 0 + n = omega arith in λ w. wire_in (get_or table (place w) []) ∷ below w

pub wires_all : (table : List (List ℕ)) → view wire_in table (length table) ≡ wires_from table 0 (length table - 0)
wires_all table = let e : length table ≡ length table - 0 = omega arith in all_below table (length table) ∙ ap (wires_from table 0) e

-- The wires of a part of a table, and of its front.
pub part_wires : (table : List (List ℕ)) (from to : ℕ) → from ≤ to → to ≤ length table
    → wires_from (take (to - from) (drop from table)) 0 (length (take (to - from) (drop from table)) - 0) ≡ wires_from table from (to - from)
part_wires table from to h k =
    let n : ℕ = to - from in
    let long : length (take n (drop from table)) ≡ n = length-take-le n (drop from table) (omega (arith, length-drop from table, h, k)) in
    sym (wires_all (take n (drop from table))) ∙ ap (view wire_in (take n (drop from table))) long ∙ part_below table from n n (omega arith)

-- What is asked and told of a slice is asked and told of its part of the table.
module _ {table slice : List (List ℕ)} {from to : ℕ} (same : wires_from slice 0 (length slice - 0) ≡ wires_from table from (to - from)) {ports : List (List ℕ)} {u : ℕ} where
  pub settleable_slice : Settleable table from to ports u → Settleable slice 0 (length slice) ports u
  settleable_slice s =
      let is : settled slice 0 (length slice) ports u ≡ settled table from to ports u = ap (ports_with (ports_set (ports_held ports u))) same in
      record {
        rising = omega arith;
        written = omega arith;
        given = s.given;
        few = omega (arith, s.few, ap length (ap targets same));
        fits = omega (arith, s.fits, ap length is);
      }

  pub settled_slice : {after : List (List ℕ)} {r : ℕ} → Settled slice 0 (length slice) ports u after r → Settled table from to ports u after r
  settled_slice s =
      let is : settled slice 0 (length slice) ports u ≡ settled table from to ports u = ap (ports_with (ports_set (ports_held ports u))) same in
      record { count = s.count ∙ ap length is; rows = s.rows ∙ ap (λ l. ports_over l ports) is }

-- The keys in order, each port once.
module _ (keys : List ℕ) where
  abbrev pub once_from : ℕ → List (List ℕ)
  once_from i = map port_row (unique (map key_port (drop i keys)))

  pub once_done : (i : ℕ) → length keys ≤ i → once_from i ≡ []
  once_done i h = ap (λ r. map port_row (unique (map key_port r))) (drop_of_length-le keys h)

-- Rows of ports written over a table.
pub filled_ports : {old now : List (List ℕ)} {n : ℕ} {rest : List (List ℕ)} (l : List Port) → Filled (λ (r : List ℕ). r) (map port_row l) old now n rest → rest ≡ []
    → (n ≡ length l) × (now ≡ ports_over l old)
filled_ports {old} {now} {n} l f e =
    let count : n ≡ length l = filled_count f e ∙ length-map l port_row in (
      count,
      sym (take-append-drop n now) ∙ (ap (λ r. r ++ drop n now) (sym (map-id (take n now)) ∙ filled_front f e) ∙ (ap (λ r. map port_row l ++ r) f.kept ∙ ap (λ k. map port_row l ++ drop k old) count)),
    )
