-- The rows of a plan, read back from the buffers, are the plan: of the bus that `lay_bus` leaves, and of the finished one.
use Prim.Native.Nat.{ℕ, ◌*◌, ◌≤◌}
use native.Mathlib.Omega.{arith}
use mathlib.Core.Path.{◌≡◌, refl, sym, ap, ◌∙◌, subst}
use mathlib.Core.List.{List, [], Memᴰ}
use lib.ListN.{length}
use Rattle.board.specs.Board.{Board}
use Rattle.board.specs.Accepted.{Accepted}
use Rattle.board.specs.Demands.{PageLanes, planned, plan_lanes}
use Rattle.routes.specs.Bus.{Bus, Rerouter, BusWire}
use Rattle.routes.specs.Buffers.{rerouter_row, wire_row, rerouter_in, wire_in, bus_held}
use Rattle.routes.specs.Tables.{written_over}
use Rattle.routes.specs.Plan.{bus_of, finished}
use Rattle.routes.specs.Demand3.{Demand3, Deepening}
use Rattle.routes.proofs.Demand3.{demand3, deepening}
use Rattle.routes.specs.Route.{Room}
use Rattle.routes.proofs.Room.{room_finished}
use Rattle.routes.proofs.Rows.{RerouterFits, WireFits, rerouter_back, wire_back, view-written}
use Rattle.routes_corners.specs.Handed.{bus_in, ports_in}
use Rattle.routes_ports.specs.Ports.{ports_with}
use Rattle.routes_ports.specs.Settling.{ports_over}
use Rattle.routes_ports.proofs.Reading.{handed_over}
use Rattle.routes_ports.proofs.Laid.{cornered, plan_ports}
use Rattle.routes_plan_sheet.proofs.InRange.{PlanInRange}
use Rattle.routes_plan_sheet.proofs.PlanRange.{plan_in_range}
use Rattle.routes_plan_sheet.proofs.PlanWritten.{rerouter_fits, wire_fits}
use Rattle.routes_promise.specs.Promise.{Promised}
use Rattle.routes_calls.proofs.Finishing.{length-written, ports_length, corners_longer, among_all, laid_few, laid_given}
use Rattle.routes_calls.proofs.MiniLaws.{ports_in_lem}

module _ (b : Board) (accepted : Accepted b) (ps : List PageLanes) (plan : plan_lanes b ≡ planned ps) where
  abbrev laid : Bus
  laid = bus_of b ps

  abbrev done : Bus
  done = finished b ps

  in_range : PlanInRange b done
  in_range = plan_in_range b accepted ps plan

  done_rerouters : (k : Rerouter) → Memᴰ k done.rerouters → RerouterFits k
  done_rerouters k m = rerouter_fits k (in_range.ranges.rerouters k m)

  done_wires : (w : BusWire) → Memᴰ w done.wires → WireFits w
  done_wires w m =
      let few = in_range.few_on_board in
      let many = in_range.few_rerouters in
      wire_fits (length b.wires) (length done.rerouters) (omega arith) (omega arith) w (in_range.ranges.wires w m)

  -- The corner pass only adds to the lanes' bus.
  laid_rerouters : (k : Rerouter) → Memᴰ k laid.rerouters → RerouterFits k
  unfolding finished
  laid_rerouters k m = let l = corners_longer b laid in done_rerouters k (subst (λ (r : List Rerouter). Memᴰ k r) (sym l.rerouters) (among_all l.new laid.rerouters m))

  laid_wires : (w : BusWire) → Memᴰ w laid.wires → WireFits w
  unfolding finished
  laid_wires w m = let l = (cornered b laid).ported in done_wires w (subst (λ (r : List BusWire). Memᴰ w r) (sym l.wires) (among_all l.new laid.wires m))

  room : Room b done 0
  room = room_finished b ps plan accepted

  pub done_few : (length done.rerouters ≤ 5 * length b.wires) × (length done.wires ≤ 6 * length b.wires) × (length done.ports ≤ length b.wires)
  done_few = let r = room.rerouters in let w = room.wires in let p = room.ports in (omega arith, omega arith, omega arith)

  module _ (old old_wires oldPorts : List (List ℕ)) (oldLong : 5 * length b.wires ≤ length old) (wires_long : 6 * length b.wires ≤ length old_wires) (ports_long : length b.wires ≤ length oldPorts) where
    -- What `lay_mini_bus` reads after `lay_bus`.
    pub laid_back : bus_in (written_over rerouter_row laid.rerouters old) (written_over wire_row laid.wires old_wires) (ports_over laid.ports oldPorts) (record { rerouters = length laid.rerouters; bus_wires = length laid.wires; ports = length laid.ports }) ≡ laid
    unfolding bus_in
    laid_back =
        let few = laid_few b accepted ps plan in
        let f0 = few.0 in let f1 = few.1 in let f2 = few.2 in
        let rerouters = view-written rerouter_row rerouter_in laid.rerouters old (omega arith) (λ k m. rerouter_back k (laid_rerouters k m)) in
        let wires = view-written wire_row wire_in laid.wires old_wires (omega arith) (λ w m. wire_back w (laid_wires w m)) in
        let long = ports_length laid.ports oldPorts (omega arith) in
        let ports : ports_in (ports_over laid.ports oldPorts) (length laid.ports) ≡ laid.ports =
        sym (ports_in_lem (ports_over laid.ports oldPorts) (length laid.ports) (omega arith)) ∙ laid_given b accepted ps plan (ports_over laid.ports oldPorts) oldPorts refl in
        λ i. record { rerouters = rerouters i; wires = wires i; ports = ports i }

    -- What a reader of the finished plan's rows finds.
    pub done_back : bus_held (written_over rerouter_row done.rerouters old) (length done.rerouters) (written_over wire_row done.wires old_wires) (length done.wires) (ports_over done.ports oldPorts) (length done.ports) ≡ done
    unfolding bus_held
    done_back =
        let few = done_few in
        let f0 = few.0 in let f1 = few.1 in
        let rerouters = view-written rerouter_row rerouter_in done.rerouters old (omega arith) (λ k m. rerouter_back k (done_rerouters k m)) in
        let wires = view-written wire_row wire_in done.wires old_wires (omega arith) (λ w m. wire_back w (done_wires w m)) in
        λ i. record { rerouters = rerouters i; wires = wires i; ports = handed_over done.ports oldPorts i }

    pub done_promised : Promised b (written_over rerouter_row done.rerouters old) (length done.rerouters) (written_over wire_row done.wires old_wires) (length done.wires) (ports_over done.ports oldPorts) (length done.ports)
    done_promised =
        let few = done_few in
        let f0 = few.0 in let f1 = few.1 in let f2 = few.2 in
        let r = length-written rerouter_row done.rerouters old in
        let w = length-written wire_row done.wires old_wires in
        let p = ports_length done.ports oldPorts (omega arith) in
        record {
          rerouters_there = omega arith;
          bus_wires_there = omega arith;
          ports_there = omega arith;
          demand3 = subst (λ (bus : Bus). Demand3 b bus) (sym done_back) (demand3 b ps plan accepted);
          deepens = subst Deepening (sym done_back) (deepening b done (demand3 b ps plan accepted));
          suppressed = ap (λ (bus : Bus). bus.ports) done_back ∙ ((plan_ports b ps).turned ∙ ap (λ (bus : Bus). ports_with [] bus.wires) (sym done_back));
        }
