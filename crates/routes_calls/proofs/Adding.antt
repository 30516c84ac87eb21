-- Corners added to the lanes' bus: there is room, and what is left is the finished plan.
use Prim.Native.Nat.{ℕ, ◌≤◌}
use native.Mathlib.Omega.{arith}
use mathlib.Core.Path.{◌≡◌, sym, ap, ◌∙◌, subst}
use mathlib.Core.Bool.{true}
use mathlib.Core.List.{List}
use lib.ListN.{length}
use Rattle.std.proofs.Common.{Result, Ok, Err}
use Rattle.base.specs.declared.refusal.Refusal.{Refusal}
use Rattle.board.specs.Board.{Board}
use Rattle.board.specs.Demands.{PageLanes}
use Rattle.base.proofs.Bools.{never, clash}
use Rattle.routes.specs.Bus.{Port}
use Rattle.routes.specs.Buffers.{ports_held}
use Rattle.routes.specs.Corners.{turnable, corners}
use Rattle.routes.specs.Plan.{bus_of, finished}
use Rattle.routes.specs.Holding.{BusHeld}
use Rattle.routes.specs.declared.bus.BusCount.{BusCount}
use Rattle.routes.specs.declared.bus.BusCounts.{BusCounts}
use Rattle.routes_corners.specs.Handed.{Mutes, Handed}
use Rattle.routes_corners.specs.Turning.{has_room, TurnedFrom}
use Rattle.routes_ports.specs.Ports.{ports_set}
use Rattle.routes_ports.specs.Settling.{ports_over, settled, Settleable, Settled}
use Rattle.routes_ports.proofs.Calling.{settled_corners, settleable_corners}
use Rattle.routes_gutter.specs.Bus.{BusStands}
use Rattle.routes_calls.specs.Finish.{CornersReady}
use Rattle.routes_calls.proofs.Finishing.{ports_length, laid_handed, laid_mutes, laid_room_lem, laid_given, ports_finished, wires_fit_lem, sort_room}

module _ {b : Board} {ps : List PageLanes} {old old_wires oldPorts pages nodes wires facts rerouters bus_wires ports : List (List ℕ)} {held : BusCounts} {marks : List (List ℕ)}
    (ready : CornersReady b ps old old_wires oldPorts pages nodes wires facts rerouters bus_wires ports held marks) where
  pub ready_mutes : Mutes b (bus_of b ps) ports held.ports
  ready_mutes =
      subst (λ (j : ℕ). Mutes b (bus_of b ps) ports j) (sym ready.stands.suppressed)
      (laid_mutes b ready.accepted ps ready.plan ports oldPorts ready.ports_lent ready.stands.ports_are)

  pub ready_handed : Handed (bus_of b ps) old old_wires rerouters bus_wires (record { rerouters = held.rerouters; wires = held.bus_wires })
  ready_handed =
      subst (λ (c : BusCount). Handed (bus_of b ps) old old_wires rerouters bus_wires c) (λ w. record { rerouters = sym ready.stands.rerouter_count w; wires = sym ready.stands.wires w })
      (laid_handed b ready.accepted ps ready.plan old old_wires rerouters bus_wires ready.rerouters_lent ready.stands.rerouters_are ready.stands.wires_are)

  ready_room : has_room (length wires) held (turnable b (bus_of b ps)) ≡ true
  ready_room =
      rw (sym ready.known.sections.wires_are, ready.stands.rerouter_count, ready.stands.wires, ready.stands.suppressed) (laid_room_lem b ready.accepted ps ready.plan)

  pub turned_short : {A : Type 0} (rerouters' busWires' : List (List ℕ)) (r : Result BusCount Refusal) (e : Refusal) → TurnedFrom b (bus_of b ps) old old_wires (length wires) held rerouters' busWires' r → r ≡ Err e → A
  turned_short rerouters' busWires' (Err d) e t is = clash ready_room t
  turned_short rerouters' busWires' (Ok count) e t is = never cc

  pub turned_laid : (rerouters' busWires' : List (List ℕ)) (r : Result BusCount Refusal) (count : BusCount) → TurnedFrom b (bus_of b ps) old old_wires (length wires) held rerouters' busWires' r → r ≡ Ok count
      → BusHeld (corners b (bus_of b ps)) old old_wires rerouters' busWires' count
  turned_laid rerouters' busWires' (Err d) count t e = never cc
  turned_laid rerouters' busWires' (Ok c) count t e = let same : c ≡ count = cc in subst (λ (d : BusCount). BusHeld (corners b (bus_of b ps)) old old_wires rerouters' busWires' d) same t

  given : ports_set (ports_held ports held.ports) ≡ (bus_of b ps).ports
  given =
      ap (λ (j : ℕ). ports_set (ports_held ports j)) ready.stands.suppressed
      ∙ laid_given b ready.accepted ps ready.plan ports oldPorts ready.stands.ports_are

  module _ {rerouters' busWires' : List (List ℕ)} {count : BusCount} (turned : BusHeld (corners b (bus_of b ps)) old old_wires rerouters' busWires' count) where
    fit : length (corners b (bus_of b ps)).wires ≤ length old_wires
    fit = wires_fit_lem b ready.accepted ps ready.plan old_wires ready.wires_lent

    pub settle_ready : Settleable busWires' held.bus_wires count.wires ports held.ports
    settle_ready =
        let room = sort_room b ready.accepted ps ready.plan in
        let many = ready.stands.suppressed in
        let ol = ready.ports_lent in
        let long : length ports ≡ length oldPorts = ap length ready.stands.ports_are ∙ ports_length (bus_of b ps).ports oldPorts (omega arith) in
        rw (ready.stands.wires, turned.wire_count)
        (settleable_corners b ready.accepted (bus_of b ps) busWires' old_wires turned.wire_rows fit ports held.ports ready.lent.muted given (omega arith) (omega arith))

    pub settle_done : (ports' : List (List ℕ)) (v : ℕ) → Settled busWires' held.bus_wires count.wires ports held.ports ports' v → BusStands (finished b ps) old old_wires oldPorts rerouters' busWires' ports' (record { rerouters = count.rerouters; bus_wires = count.wires; ports = v })
    unfolding finished
    settle_done ports' v done =
        let all : settled busWires' held.bus_wires count.wires ports held.ports ≡ (corners b (bus_of b ps)).ports =
        ap (λ (j : ℕ). settled busWires' j count.wires ports held.ports) ready.stands.wires ∙ ap (λ (j : ℕ). settled busWires' (length (bus_of b ps).wires) j ports held.ports) turned.wire_count
        ∙ settled_corners b ready.accepted (bus_of b ps) busWires' old_wires turned.wire_rows fit ports held.ports ready.lent.muted given in
        record {
          rerouters_are = turned.rerouter_rows;
          wires_are = turned.wire_rows;
          ports_are =
              done.rows ∙ ap (λ (l : List Port). ports_over l ports) all
              ∙ ports_finished b ready.accepted ps ready.plan ports oldPorts ready.stands.ports_are;
          rerouter_count = turned.rerouter_count;
          wires = turned.wire_count;
          suppressed = done.count ∙ ap length all;
        }
