-- The suppressed ports of a plan are those of its own bus wires: `place` and `deliver` keep it, and so do the emission and the corner pass.
use Prim.Native.Nat.{ℕ, ◌+◌, ◌*◌, ◌<◌, ◌≤◌}
use native.Mathlib.Omega.{arith}
use mathlib.Core.Path.{◌≡◌, refl, sym, ap}
use mathlib.Core.Bool.{Bool, true, false, ◌&&◌}
use mathlib.Core.List.{List, [], ◌∷◌, append-nil}
use lib.ListN.{length, length-append}
use Rattle.base.proofs.Every.{All}
use Rattle.base.specs.Lists.{fold, upto}
use Rattle.board.specs.Accepted.{Accepted}
use Rattle.board.specs.Board.{Board, placed, x_of}
use Rattle.board.specs.Groups.{Tap, taps_of, source_row}
use Rattle.board.specs.Demands.{PageLanes}
use Rattle.base.proofs.Lists.{by_test, by_found}
use Rattle.routes.specs.Stops.{new_group, new_row, new_column}
use Rattle.routes.specs.Levels.{Level, dropped, shared, own, Stop, lane_for}
use Rattle.routes.specs.Bus.{Bus, BusWire, Rerouter, Feed, empty_bus, place, deliver, port_feed, placed_feed, insert_port, port_of}
use Rattle.routes.specs.Rerouters.{Emission, source, column_free, clear_for, source_rerouter, head_rerouter, link_rerouter, tap_rerouter, gate_side_rerouter, level_here, stops_before, with_source, start_group, with_link, start_row, with_gate_side, serve, emit_tap, emit}
use Rattle.routes.specs.Corners.{turns, turnable, corner_rerouter, turn_wire, corners}
use Rattle.routes.specs.Plan.{bus_of, finished}
use Rattle.routes.proofs.Made.{onward_wire, delivery_wire}
use Rattle.routes.proofs.Turned.{with_turn, turn_wires, turned}
use Rattle.routes.proofs.Room.{corner_room}
use Rattle.routes_ports.specs.Ports.{targets, ports_with, Ported, OwnPorts}
use Rattle.routes_ports.proofs.Reading.{Legible, deliverable}

-- What holds of the empty bus, and goes on to hold where a rerouter is placed and where a wire is delivered, holds of every plan.
module _ (b : Board) (Q : Bus → Type 0) (placing : (bus : Bus) (f : Feed) (k : Rerouter) → Q bus → Q (place bus f k))
    (serving : (bus : Bus) (f : Feed) (w : ℕ) → Q bus → Q (deliver b bus f w)) where
  abbrev Holds : Emission → Type 0
  Holds e = Q e.bus

  pub corners_keep : (bus : Bus) → Q bus → Q (corners b bus)
  corners_keep bus q =
      turned b (λ n r. Q r) (λ n r q. q)
      (λ n s t level r h e q. serving _ (placed_feed r (port_feed b n)) n (placing r (port_feed b n) (corner_rerouter b s t level) q)) bus q

  module _ (ts : List Tap) (ps : List PageLanes) (stops : List Stop) where
    source_keeps : (e : Emission) (t : Tap) → Holds e → Holds (with_source b ts ps e t)
    unfolding with_source
    source_keeps e t q =
        by_found Holds (source_row b t.group t.page) (λ f. q)
        (λ r f. by_test Holds (clear_for b ts ps e.bus (source_rerouter b ts ps t r)) (λ h. placing _ e.upstream (source_rerouter b ts ps t r) q) (λ h. q))

    group_keeps : (e : Emission) (t : Tap) → Holds e → Holds (start_group b ts ps stops e t)
    unfolding start_group
    group_keeps e t q =
        by_test Holds (placed b (source b ts ps t) && column_free stops e.bus t.page (lane_for ps t) (x_of b (source b ts ps t)))
        (λ h. placing _ (with_source b ts ps begun t).upstream (head_rerouter b ts ps t) (source_keeps begun t q)) (λ h. q)
      where
        begun : Emission
        begun = record { bus = e.bus; upstream = port_feed b t.group; stop_tap = e.stop_tap; row_end = e.row_end }

    row_keeps : (e : Emission) (t : Tap) (level : Level) → Holds e → Holds (start_row b ts ps stops e t level)
    unfolding start_row with_link
    row_keeps e t dropped q = q
    row_keeps e t (shared x) q = q
    row_keeps e t (own x) q =
        placing _ (with_link b ts ps stops e t x).upstream (tap_rerouter b ts ps t x)
        (by_test Holds (column_free stops e.bus t.page (lane_for ps t) (x + 2)) (λ h. placing _ e.upstream (link_rerouter b ts ps t x) q) (λ h. q))

    serve_keeps : (e : Emission) (t : Tap) (fresh : Bool) (x : ℕ) → Holds e → Holds (serve b ts ps e t fresh x)
    unfolding serve with_gate_side
    serve_keeps e t fresh x q =
        serving _ _ _
        (by_test Holds fresh (λ h. by_test Holds (clear_for b ts ps e.bus (gate_side_rerouter b ts ps t x)) (λ c. placing _ e.row_end (gate_side_rerouter b ts ps t x) q) (λ c. q)) (λ h. q))

    tap_keeps : (e : Emission) (l : List Tap) (t : Tap) (level : Level) → Holds e → Holds (emit_tap b ts ps stops e l t level)
    unfolding emit_tap
    tap_keeps e l t level q = end level _ (by_test Holds (new_row l t) (λ h. row_keeps _ t level begun) (λ h. begun))
      where
        begun : Holds (elim (new_group l t) [ true ↦ start_group b ts ps stops e t | false ↦ e ])
        begun = by_test Holds (new_group l t) (λ h. group_keeps e t q) (λ h. q)

        end : (level : Level) (r : Emission) → Holds r
            → Holds (elim level [ dropped ↦ r | shared x ↦ serve b ts ps r t (new_column l t) x | own x ↦ serve b ts ps r t (new_column l t) x ])
        end dropped r p = p
        end (shared x) r p = serve_keeps r t (new_column l t) x p
        end (own x) r p = serve_keeps r t (new_column l t) x p

    pub emit_keeps : Q empty_bus → (l : List Tap) (sofar : List Stop) → Holds (emit b ts ps stops l sofar)
    unfolding emit
    emit_keeps q [] sofar = q
    emit_keeps q (t ∷ l) sofar = tap_keeps _ l t (level_here sofar) (emit_keeps q l (stops_before (new_row l t) sofar))

  pub bus_keeps : Q empty_bus → (ps : List PageLanes) → Q (bus_of b ps)
  unfolding bus_of
  bus_keeps q ps = emit_keeps (taps_of b) ps _ q _ _

  pub plan_keeps : Q empty_bus → (ps : List PageLanes) → Q (finished b ps)
  unfolding finished
  plan_keeps q ps = corners_keep (bus_of b ps) (bus_keeps q ps)

module _ (b : Board) where
  -- The bus wires of a plan have all its ports.
  abbrev Own : Bus → Type 0
  Own bus = bus.ports ≡ ports_with [] bus.wires

  own_deliver : (bus : Bus) (f : Feed) (w : ℕ) → Own bus → Own (deliver b bus f w)
  own_deliver bus f w q = ap (insert_port (port_of b w)) q

  pub plan_ports : (ps : List PageLanes) → OwnPorts b ps
  plan_ports ps =
      record { laid = bus_keeps b Own (λ bus f k q. q) own_deliver refl ps; turned = plan_keeps b Own (λ bus f k q. q) own_deliver refl ps }

  -- A corner adds two bus wires, one of them a delivery: what the pass adds to any bus has the ports that it adds.
  pub record Cornered (bus later : Bus) : Type 0 where
    pub ported : Ported bus later
    pub even : length ported.new ≡ 2 * length (targets ported.new)
    pub legible : Accepted b → All Legible ported.new

  none_cornered : (bus : Bus) → Cornered bus bus
  none_cornered bus = record { ported = record { new = []; wires = refl; ports = refl }; even = refl; legible = λ r. tt }

  one_cornered : {start : Bus} (n s t level : ℕ) (bus : Bus) → n < length b.wires → turns b bus n ≡ true → Cornered start bus
      → Cornered start (with_turn b bus n s t level)
  one_cornered n s t level bus h e c =
      let f : Feed = port_feed b n in
      record {
        ported =
            record {
              new = delivery_wire b (placed_feed bus f) n ∷ onward_wire bus f ∷ c.ported.new;
              wires = ap {B = List BusWire} (λ r. delivery_wire b (placed_feed bus f) n ∷ onward_wire bus f ∷ r) c.ported.wires;
              ports = ap (insert_port (port_of b n)) c.ported.ports;
            };
        even = let q = c.even in omega arith;
        legible = λ r. (deliverable r n h, (tt, c.legible r));
      }

  -- After n wires, and after all.
  pub turns_cornered : (bus : Bus) (n : ℕ) → n ≤ length b.wires → Cornered bus (fold (turn_wire b) (record { bus = bus; taken = [] }) (upto n)).bus
  turns_cornered bus n h = turn_wires b (λ n r. Cornered bus r) (λ n r q. q) one_cornered (record { bus = bus; taken = [] }) n h (none_cornered bus)

  pub cornered : (bus : Bus) → Cornered bus (corners b bus)
  unfolding corners
  cornered bus = turns_cornered bus (length b.wires) (omega arith)

  -- It delivers no more wires, and suppresses no more ports, than pass its tests at the start.
  pub corner_targets : (bus : Bus) → length (targets (cornered bus).ported.new) ≤ turnable b bus
  unfolding turnable corners
  corner_targets bus =
      let c = cornered bus in
      omega
      (arith, c.even, (corner_room b bus (length b.wires) (omega arith)).wires, ap length c.ported.wires, length-append c.ported.new bus.wires)

  pub corner_ports : (bus : Bus) → length (corners b bus).ports ≤ length bus.ports + turnable b bus
  unfolding turnable corners
  corner_ports bus = (corner_room b bus (length b.wires) (omega arith)).ports

-- A bus whose bus wires have all its ports, as one that nothing came before.
pub own_ported : {bus : Bus} → bus.ports ≡ ports_with [] bus.wires → Ported empty_bus bus
own_ported {bus} q = record { new = bus.wires; wires = sym (append-nil bus.wires); ports = q }
