-- What a caller of `settle_ports` supplies: there are no more deliveries and ports than wires, since no wire is delivered twice.
use Prim.Native.Nat.{ℕ, zero, suc, ◌+◌, ◌≤◌, ◌<◌}
use native.Mathlib.Omega.{arith}
use native.Mathlib.Decide.{dec_lt}
use mathlib.Core.Path.{◌≡◌, refl, sym, ap, ◌∙◌, subst}
use mathlib.Core.Bool.{true, false, ◌||◌}
use mathlib.Core.List.Memᴰ
use mathlib.Core.List.{List, [], ◌∷◌, ◌++◌, Memᴰ}
use mathlib.Core.Logic.{◌⊎◌, inl, inr}
use lib.Dec.{eqb}
use borrow.Author.Tests.{ne_eqb, eqb-false}
use lib.ListN.{length, take, length-append, length-map}
use lib.Seq.{length-take-le}
use Rattle.base.proofs.Every.{All}
use Rattle.base.specs.Lists.{any, keep, upto}
use Rattle.board.specs.Accepted.{Accepted}
use Rattle.board.specs.Board.{Board}
use Rattle.board.specs.Demands.{PageLanes}
use Rattle.base.proofs.Bools.{or_left, or_right, neither}
use Rattle.base.proofs.Lists.{by_test, none_counted}
use Rattle.routes.specs.Bus.{Bus, BusWire, End, port, rerouter, Carries, onward, delivery, Port, insert_port, same_port}
use Rattle.routes.specs.Buffers.{wire_row, port_in, ports_held}
use Rattle.routes.specs.Tables.{written_over}
use Rattle.routes.specs.Corners.{turnable, corners}
use Rattle.routes.specs.Plan.{is_delivery, deliveries}
use Rattle.routes.specs.Demand3.{names, times_delivered, distinct}
use Rattle.routes.proofs.Made.{Made, nothing, placing, serving}
use Rattle.routes.proofs.Distinct.{distinct_new, distinct_le}
use Rattle.routes_ports.specs.Ports.{sent_to, targets, suppress, ports_set, ports_with, Ported}
use Rattle.routes_ports.specs.Settling.{port_less, settled, Settleable}
use Rattle.routes_ports.proofs.SetLaws.{suppress-append, set-again}
use Rattle.routes_ports.proofs.Reading.{Legible, deliverable, from_start, all_written, targets_held, settled_held}
use Rattle.routes_ports.proofs.Laid.{Cornered, cornered, corner_targets, corner_ports}

insert_length : (p : Port) (l : List Port) → length (insert_port p l) ≤ suc (length l)
insert_length p [] = omega arith
insert_length p (q ∷ l) =
    let ih = insert_length p l in by_test P (port_less p q) (λ e. omega arith) (λ e. by_test P (same_port p q) (λ f. omega arith) (λ f. omega arith))
  where
    P : List Port → Type 0
    P r = length r ≤ suc (suc (length l))

pub set-length : (l : List Port) → length (ports_set l) ≤ length l
set-length [] = omega arith
set-length (p ∷ l) = omega (arith, set-length l, insert_length p (ports_set l))

pub targets-append : (new old : List BusWire) → targets (new ++ old) ≡ targets new ++ targets old
targets-append [] old = refl
targets-append (w ∷ new) old = go w.carries w.target (targets-append new old)
  where
    go : (c : Carries) (e : End) → targets (new ++ old) ≡ targets new ++ targets old → sent_to c e (targets (new ++ old)) ≡ sent_to c e (targets new) ++ targets old
    go onward e ih = ih
    go (delivery k d) (port n p) ih = ap {B = List Port} (λ r. record { node = n; port = p } ∷ r) ih
    go (delivery k d) (rerouter n) ih = ih

targets_count : (ws : List BusWire) → length (targets ws) ≤ length (keep is_delivery ws)
targets_count [] = omega arith
targets_count (w ∷ ws) = go w.carries w.target (targets_count ws)
  where
    kept : Carries → List BusWire
    kept c = elim (is_delivery (record { source = w.source; target = w.target; carries = c })) [ true ↦ w ∷ keep is_delivery ws | false ↦ keep is_delivery ws ]

    go : (c : Carries) (e : End) → length (targets ws) ≤ length (keep is_delivery ws) → length (sent_to c e (targets ws)) ≤ length (kept c)
    go onward e ih = ih
    go (delivery k d) (port n p) ih = omega arith
    go (delivery k d) (rerouter n) ih = omega arith

-- The wires that deliveries name.
abbrev named : List BusWire → List ℕ
named [] = []
named (w ∷ ws) = elim w.carries [ onward ↦ named ws | delivery k d ↦ k ∷ named ws ]

not_named : (w : ℕ) (ws : List BusWire) → any (names w) ws ≡ false → any (eqb w) (named ws) ≡ false
not_named w [] h = refl
not_named w (v ∷ ws) h = go v.carries h (not_named w ws)
  where
    go : (c : Carries) → (elim c [ onward ↦ false | delivery j d ↦ eqb j w ] || any (names w) ws) ≡ false → (any (names w) ws ≡ false → any (eqb w) (named ws) ≡ false)
        → any (eqb w) (elim c [ onward ↦ named ws | delivery k d ↦ k ∷ named ws ]) ≡ false
    go onward h ih = ih h
    go (delivery j d) h ih =
        neither (eqb w j) (any (eqb w) (named ws)) (ne_eqb w j (λ e. eqb-false j w (or_left (eqb j w) (any (names w) ws) h) (sym e)))
        (ih (or_right (eqb j w) (any (names w) ws) h))

distinct_short : (l : List ℕ) → length (distinct l) ≤ length l
unfolding distinct
distinct_short [] = omega arith
distinct_short (x ∷ l) = let ih = distinct_short l in by_test (λ r. length r ≤ suc (length l)) (any (eqb x) l) {x = distinct l} {y = x ∷ distinct l} (λ e. omega arith) (λ e. omega arith)

upto-length : (n : ℕ) → length (upto n) ≡ n
upto-length zero = refl
upto-length (suc n) = ap suc (upto-length n)

in_upto : (n w : ℕ) → w < n → Memᴰ w (upto n)
in_upto zero w h = absurd (omega arith)
in_upto (suc n) w h = go (dec_lt w n) (in_upto n w)
  where
    go : Dec (w < n) → (w < n → Memᴰ w (upto n)) → Memᴰ w (n ∷ upto n)
    go (yes l) ih = Memᴰ.tail (ih l)
    go (no f) ih = let e : w ≡ n = omega arith in Memᴰ.head e

module _ (b : Board) (ps : List PageLanes) where
  named_count : {bus : Bus} → Made b ps bus → length (distinct (named bus.wires)) ≡ deliveries bus
  unfolding distinct deliveries times_delivered
  named_count nothing = refl
  named_count (placing m f k l s) = named_count m
  named_count (serving {bus} m f w s) =
      ap length (distinct_new w (named bus.wires) (not_named w bus.wires (none_counted (names w) bus.wires s.fresh))) ∙ ap suc (named_count m)

  named_below : {bus : Bus} → Made b ps bus → (x : ℕ) → Memᴰ x (named bus.wires) → x < length b.wires
  named_below nothing x h = absurd (Memᴰ.not-nil h)
  named_below (placing m f k l s) x h = named_below m x h
  named_below (serving {bus} m f w s) x h = go (Memᴰ.cases_cons h) (λ i. named_below m x i)
    where
      go : (x ≡ w) ⊎ Memᴰ x (named bus.wires) → (Memᴰ x (named bus.wires) → x < length b.wires) → x < length b.wires
      go (inl e) ih = rw e s.on_board
      go (inr i) ih = ih i

  -- No more deliveries than wires.
  pub deliveries_few : {bus : Bus} → Made b ps bus → deliveries bus ≤ length b.wires
  deliveries_few {bus} m =
      omega (
        arith,
        named_count m,
        upto-length (length b.wires),
        distinct_short (upto (length b.wires)),
        distinct_le (upto (length b.wires)) (named bus.wires) (λ x h. in_upto (length b.wires) x (named_below m x h)),
      )

  pub targets_few : {bus : Bus} → Made b ps bus → length (targets bus.wires) ≤ length b.wires
  unfolding deliveries
  targets_few {bus} m = omega (arith, deliveries_few m, targets_count bus.wires)

  -- The bus wires of a plan are legible.
  pub made_legible : Accepted b → {bus : Bus} → Made b ps bus → All Legible bus.wires
  made_legible r nothing = tt
  made_legible r (placing m f k l s) = (tt, made_legible r m)
  made_legible r (serving m f w s) = (deliverable r w s.on_board, made_legible r m)

front_all : (new old : List BusWire) → All Legible (new ++ old) → All Legible new
front_all [] old a = tt
front_all (w ∷ new) old a = (a.0, front_all new old a.1)

-- A plan's earlier bus, its ports handed in, and its later bus, held in the table of bus wires: with room for as many ports as wires the ports can
-- be settled, and are the later bus's. The earlier bus may be the empty one, with no ports.
module _ (b : Board) (ps : List PageLanes) (accepted : Accepted b) {start later : Bus} (p : Ported start later) (own : start.ports ≡ ports_with [] start.wires)
    (made : Made b ps later) (wires old : List (List ℕ)) (held : wires ≡ written_over wire_row later.wires old) (room : length later.wires ≤ length old)
    (ports : List (List ℕ)) (u : ℕ) (few : u ≤ length ports) (given : ports_held ports u ≡ start.ports) where
  legible : All Legible p.new
  legible = front_all p.new start.wires (subst (All Legible) p.wires (made_legible b ps accepted made))

  pub settled_plan : settled wires (length start.wires) (length later.wires) ports u ≡ later.ports
  settled_plan = settled_held p legible wires old held room ports u (ap ports_set (given ∙ own) ∙ (set-again (targets start.wires) ∙ sym own))

  -- The later bus's ports are those of all its deliveries.
  later_own : later.ports ≡ ports_set (targets later.wires)
  later_own =
      p.ports
      ∙ (ap (λ l. suppress l (targets p.new)) own
      ∙ (sym (suppress-append [] (targets start.wires) (targets p.new))
      ∙ ap ports_set (sym (targets-append p.new start.wires) ∙ ap targets (sym p.wires))))

  handed_few : length (targets p.new) + u ≤ length b.wires
  handed_few =
      let many : u ≡ length start.ports = sym (length-map (take u ports) port_in ∙ length-take-le u ports few) ∙ ap length given in
      omega (
        arith,
        targets_few b ps made,
        ap length own,
        set-length (targets start.wires),
        ap length (ap targets p.wires ∙ targets-append p.new start.wires),
        length-append (targets p.new) (targets start.wires),
      )

  pub settleable : length b.wires ≤ length ports → Settleable wires (length start.wires) (length later.wires) ports u
  settleable l =
      let read = ap length (targets_held p legible wires old held room) in
      record {
        rising = from_start p legible wires old held room;
        written = all_written p legible wires old held room;
        given = few;
        few = omega (arith, handed_few, accepted.few_wires);
        fits = omega (arith, ap length settled_plan, ap length later_own, set-length (targets later.wires), targets_few b ps made);
      }

-- The corner pass from any bus, its ports handed in in any order: with room for those and for one more a wire that passes the pass's tests, no more than wires.
module _ (b : Board) (accepted : Accepted b) (start : Bus) (wires old : List (List ℕ)) (held : wires ≡ written_over wire_row (corners b start).wires old)
    (room : length (corners b start).wires ≤ length old) (ports : List (List ℕ)) (u : ℕ) (few : u ≤ length ports) (given : ports_set (ports_held ports u) ≡ start.ports) where
  turned : Cornered b start (corners b start)
  turned = cornered b start

  pub settled_corners : settled wires (length start.wires) (length (corners b start).wires) ports u ≡ (corners b start).ports
  settled_corners = settled_held turned.ported (turned.legible accepted) wires old held room ports u given

  pub settleable_corners : turnable b start + u ≤ length b.wires → turnable b start + u ≤ length ports
      → Settleable wires (length start.wires) (length (corners b start).wires) ports u
  unfolding turned
  settleable_corners h l =
      let read = ap length (targets_held turned.ported (turned.legible accepted) wires old held room) in
      let more : length (targets turned.ported.new) ≤ turnable b start = corner_targets b start in
      let many : length (ports_held ports u) ≡ u = length-map (take u ports) port_in ∙ length-take-le u ports few in
      record {
        rising = from_start turned.ported (turned.legible accepted) wires old held room;
        written = all_written turned.ported (turned.legible accepted) wires old held room;
        given = few;
        few = omega (arith, accepted.few_wires);
        fits = omega (arith, ap length settled_corners, corner_ports b start, ap length given, set-length (ports_held ports u));
      }
