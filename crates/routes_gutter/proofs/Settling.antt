-- The ports of lanes that are laid: they can be settled from nothing, and are the bus's.
use Prim.Native.Nat.{ℕ, ◌-◌, ◌≤◌}
use native.Mathlib.Omega.{arith}
use mathlib.Core.Path.{◌≡◌, refl, sym, ap, ◌∙◌, subst}
use mathlib.Core.List.{List}
use lib.ListN.{length, take}
use Rattle.board.specs.Board.{Board}
use Rattle.board.specs.Accepted.{Accepted}
use Rattle.board.specs.Demands.{PageLanes, planned, plan_lanes}
use Rattle.routes.specs.Bus.{empty_bus}
use Rattle.routes.specs.Plan.{bus_of}
use Rattle.routes.specs.Holding.{BusHeld}
use Rattle.routes.specs.declared.bus.BusCount.{BusCount}
use Rattle.routes.proofs.Made.{Made}
use Rattle.routes.proofs.Walk.{bus_kept}
use Rattle.routes.proofs.Room.{room_to_turn}
use Rattle.routes_ports.specs.Ports.{Ported}
use Rattle.routes_ports.specs.Settling.{wires_from, ports_over, settled, Settleable, Settled}
use Rattle.routes_ports.proofs.Filling.{part_wires, settleable_slice, settled_slice}
use Rattle.routes_ports.proofs.Laid.{plan_ports, own_ported}
use Rattle.routes_ports.proofs.Calling.{settleable, settled_plan}
use Rattle.routes_gutter.specs.Bus.{RowsReady, BusStands}

module _ {b : Board} {ps : List PageLanes} {pages nodes wires facts taps groups laid stops marks rerouters bus_wires : List (List ℕ)}
    (ready : RowsReady b ps pages nodes wires facts taps groups laid stops marks rerouters bus_wires) where
  accepted : Accepted b
  accepted = ready.ready.accepted

  plan : plan_lanes b ≡ planned ps
  plan = ready.ready.plan

  made : Made b ps (bus_of b ps)
  made = (bus_kept b ps plan accepted).made

  ported : Ported empty_bus (bus_of b ps)
  ported = own_ported (plan_ports b ps).laid

  module _ {rerouters' busWires' : List (List ℕ)} {count : BusCount} (held : BusHeld (bus_of b ps) rerouters bus_wires rerouters' busWires' count) (ports : List (List ℕ)) where
    room : length (bus_of b ps).wires ≤ length bus_wires
    room = let r = (room_to_turn b ps plan accepted).wires in let f = ready.ready.bus_room.1 in omega (arith, ap length ready.ready.wires_are)

    pub given : length b.wires ≤ length ports → Settleable busWires' 0 count.wires ports 0
    given l =
        subst (λ (n : ℕ). Settleable busWires' 0 n ports 0) (sym held.wire_count)
        (settleable b ps accepted ported refl made busWires' bus_wires held.wire_rows room ports 0 (omega arith) refl l)

    front : count.wires ≤ length busWires' → wires_from (take count.wires busWires') 0 (length (take count.wires busWires') - 0) ≡ wires_from busWires' 0 (count.wires - 0)
    front h =
        let none : count.wires - 0 ≡ count.wires = omega arith in
        subst (λ (k : ℕ). wires_from (take k busWires') 0 (length (take k busWires') - 0) ≡ wires_from busWires' 0 (count.wires - 0)) none (part_wires busWires' 0 count.wires (omega arith) h)

    pub suppressible : length b.wires ≤ length ports → Settleable (take count.wires busWires') 0 (length (take count.wires busWires')) ports 0
    suppressible l = settleable_slice (front (given l).written) (given l)

    suppressed : settled busWires' 0 count.wires ports 0 ≡ (bus_of b ps).ports
    suppressed =
        ap (λ (n : ℕ). settled busWires' 0 n ports 0) held.wire_count
        ∙ settled_plan b ps accepted ported refl made busWires' bus_wires held.wire_rows room ports 0 (omega arith) refl

    pub stands : length b.wires ≤ length ports → (after : List (List ℕ)) (u : ℕ) → Settled (take count.wires busWires') 0 (length (take count.wires busWires')) ports 0 after u
        → BusStands (bus_of b ps) rerouters bus_wires ports rerouters' busWires' after (record { rerouters = count.rerouters; bus_wires = count.wires; ports = u })
    stands l after u told =
        let s : Settled busWires' 0 count.wires ports 0 after u = settled_slice (front (given l).written) told in
        record {
          rerouters_are = held.rerouter_rows;
          wires_are = held.wire_rows;
          ports_are = s.rows ∙ ap (λ l. ports_over l ports) suppressed;
          rerouter_count = held.rerouter_count;
          wires = held.wire_count;
          suppressed = s.count ∙ ap length suppressed;
        }
