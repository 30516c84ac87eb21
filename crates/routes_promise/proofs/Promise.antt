-- Demand 3 of the rows that `route` leaves in the buffers.
use Prim.Native.Nat.{ℕ, ◌*◌}
use mathlib.Core.Path.{◌≡◌, refl, sym, ap, ◌∙◌}
use mathlib.Core.Bool.{Bool, ◌&&◌}
use mathlib.Core.List.{List}
use lib.Dec.{leb}
use lib.ListN.{length}
use borrow.Author.Tests.{leb-true}
use Rattle.std.proofs.Common.{Result, Ok, Err}
use Rattle.base.specs.declared.refusal.Refusal.{Refusal}
use Rattle.sheet.specs.Table.{library_most}
use Rattle.board.specs.Board.{Board}
use Rattle.board.specs.Planning.{Planning, refused, lanes_for, planning, records}
use Rattle.board.proofs.Accepting.{sheet_accepted}
use Rattle.base.proofs.Bools.{never, and_left, and_right}
use Rattle.board_plan.specs.TextPlan.{shortest}
use Rattle.board.proofs.Planning.{lanes_from}
use Rattle.board_plan.proofs.Calling.{within_library}
use Rattle.routes.specs.Bus.{Bus}
use Rattle.routes.specs.Buffers.{rerouter_row, wire_row}
use Rattle.routes.specs.Tables.{written_over}
use Rattle.routes.specs.Plan.{finished, laid_groups}
use Rattle.routes.specs.Route.{routed_by, fits_plan, routed}
use Rattle.routes_ports.specs.Settling.{ports_over}
use Rattle.routes_gutter.specs.declared.laying.BusLaid.{BusLaid}
use Rattle.routes_gutter.specs.Calls.{bus_laid}
use Rattle.routes_calls.specs.Route.{plan_fits, route_call, PlanCalled}
use Rattle.routes_promise.specs.Promise.{Promised, RoutePromised}
use Rattle.routes_promise.proofs.ReadBack.{done_promised}

-- Rows that a plan was written to, counted by the answer.
pub rows_counted : {b : Board} (bus : Bus) (old old_wires oldPorts : List (List ℕ)) {rerouters bus_wires ports : List (List ℕ)} {n k u : ℕ} → rerouters ≡ written_over rerouter_row bus.rerouters old → bus_wires ≡ written_over wire_row bus.wires old_wires
    → ports ≡ ports_over bus.ports oldPorts → n ≡ length bus.rerouters → k ≡ length bus.wires → u ≡ length bus.ports
    → Promised b (written_over rerouter_row bus.rerouters old) (length bus.rerouters) (written_over wire_row bus.wires old_wires) (length bus.wires) (ports_over bus.ports oldPorts) (length bus.ports)
    → Promised b rerouters n bus_wires k ports u
rows_counted {b} bus old old_wires oldPorts {rerouters} {bus_wires} {ports} {n} {k} {u} r w p n-is k-is u-is promised =
    rw (r, w, p, n-is, k-is, u-is) promised

module _ (text : List ℕ) (work : List ℕ) (old old_wires oldPorts oldAnswers rerouters bus_wires ports answers : List (List ℕ)) (r : Result BusLaid Refusal) where
  abbrev fits : Board → Bool
  fits = plan_fits (length old) (length old_wires) (length oldPorts) (length oldAnswers) work

  pub route_demand3 : PlanCalled (route_call text fits) old old_wires oldPorts oldAnswers rerouters bus_wires ports answers r → (done : BusLaid) → r ≡ Ok done → RoutePromised text rerouters done.bus.rerouters bus_wires done.bus.bus_wires ports done.bus.ports
  unfolding route_call routed fits_plan
  route_demand3 called done is = go (planning library_most fits text) refl called
    where
      go : (p : Planning) → planning library_most fits text ≡ p → PlanCalled (routed_by finished p) old old_wires oldPorts oldAnswers rerouters bus_wires ports answers r → RoutePromised text rerouters done.bus.rerouters bus_wires done.bus.bus_wires ports done.bus.ports
      go (refused d) e c = let no : Err d ≡ Ok done = sym c.answer ∙ is in never cc
      go (lanes_for b ps) e c =
          let from = lanes_from library_most text fits b ps e in
          let W : ℕ = length b.wires in
          let rest : Bool = leb W (length oldPorts) && (leb (length b.pages) (length oldAnswers) && leb (records b) (shortest work)) in
          let one = and_right (leb (5 * W) (length old)) (leb (6 * W) (length old_wires) && rest) from.fitting in
          let two = and_right (leb (6 * W) (length old_wires)) rest one in
          let same : Ok (bus_laid (finished b ps) (laid_groups b ps)) ≡ Ok done = sym c.answer ∙ is in
          let whole : bus_laid (finished b ps) (laid_groups b ps) ≡ done = cc in
          let n-is : done.bus.rerouters ≡ length (finished b ps).rerouters = sym (ap (λ (z : BusLaid). z.bus.rerouters) whole) in
          let k-is : done.bus.bus_wires ≡ length (finished b ps).wires = sym (ap (λ (z : BusLaid). z.bus.bus_wires) whole) in
          let u-is : done.bus.ports ≡ length (finished b ps).ports = sym (ap (λ (z : BusLaid). z.bus.ports) whole) in
          record {
            drawn = b;
            accepted = from.accepted;
            rows =
                rows_counted (finished b ps) old old_wires oldPorts c.rerouters_are c.wires_are c.ports_are n-is k-is u-is
                (done_promised b (sheet_accepted library_most text b within_library from.accepted) ps from.lanes old old_wires oldPorts
                (leb-true (5 * W) (length old) (and_left (leb (5 * W) (length old)) (leb (6 * W) (length old_wires) && rest) from.fitting))
                (leb-true (6 * W) (length old_wires) (and_left (leb (6 * W) (length old_wires)) rest one))
                (leb-true W (length oldPorts) (and_left (leb W (length oldPorts)) (leb (length b.pages) (length oldAnswers) && leb (records b) (shortest work)) two)));
          }
