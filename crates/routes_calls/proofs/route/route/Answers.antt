-- The plan within what is asked, by the lengths that are lent.
use native.Mathlib.Omega.{arith}
use mathlib.Core.Path.{◌≡◌, sym, ap, ◌∙◌, subst}
use mathlib.Core.List.{[], ◌∷◌}
use Rattle.base.proofs.Passing.{passed}
use lib.ListN.{length}
use Rattle.board_plan.specs.TextPlan.{asked_for, work_rows}
use Rattle.board_plan.specs.declared.Asked.{Asked}
use Rattle.board_plan.proofs.Calling.{asked_room}
use Rattle.routes_gutter.proofs.Planned.{bus_lent}
use Rattle.routes_calls.specs.Route.{plan_fits, route_call, PlanCalled}
use Rattle.routes_calls.proofs.Routing.{laid_of, route_called}
use Rattle.routes_calls.proofs.route.route.Goals as goal

pub route_within-requires : goal.route_within-requires
route_within-requires c = let a = c.args in
    let q = c.ask-asked in
    let asked : q.result ≡ asked_for (length a.rerouters.now ∷ length a.bus_wires.now ∷ length a.ports.now ∷ length a.answers.now ∷ []) (work_rows a.records.now a.facts.now a.taps.now a.groups.now a.demands.now a.keys.now a.marks.now) = q.ensures ∙ ap (asked_for (length a.rerouters.now ∷ length a.bus_wires.now ∷ length a.ports.now ∷ length a.answers.now ∷ [])) c.work_lengths.ensures in
    let room = asked_room q.result a.records.now a.facts.now a.taps.now a.groups.now a.demands.now a.keys.now a.marks.now asked in
    let answers = ap (λ (z : Asked). z.lent.answers) asked in record {
      work_lent = room.0.lent;
      within_library = (room.1, bus_lent q.result _ a.marks.now a.rerouters.now a.bus_wires.now a.ports.now asked room.0.fivefold, omega arith);
    }

pub returns-in_err-plan : goal.returns-in_err-plan
returns-in_err-plan c = let a = c.args in
    let r = c.route_within in
    let q = c.ask-asked in
    let asked : q.result ≡ asked_for (length a.rerouters.now ∷ length a.bus_wires.now ∷ length a.ports.now ∷ length a.answers.now ∷ []) (work_rows a.records.now a.facts.now a.taps.now a.groups.now a.demands.now a.keys.now a.marks.now) = q.ensures ∙ ap (asked_for (length a.rerouters.now ∷ length a.bus_wires.now ∷ length a.ports.now ∷ length a.answers.now ∷ [])) c.work_lengths.ensures in
    subst
    (PlanCalled (route_call a.text.now (plan_fits (length a.rerouters.now) (length a.bus_wires.now) (length a.ports.now) (length a.answers.now) (work_rows a.records.now a.facts.now a.taps.now a.groups.now a.demands.now a.keys.now a.marks.now)))
    a.rerouters.now a.bus_wires.now a.ports.now a.answers.now r.new.rerouters r.new.bus_wires r.new.ports r.new.answers)
    (ap laid_of c.in_err-plan.was ∙ sym (passed c.from_residual.result _ c.from_residual.ensures.1))
    (route_called a.rerouters.now a.bus_wires.now a.ports.now a.answers.now r.new.rerouters r.new.bus_wires r.new.ports r.new.answers a.text.now q.result (length a.rerouters.now) (length a.bus_wires.now) (length a.ports.now) (length a.answers.now) _ asked r.result r.ensures)

pub returns : goal.returns
returns c = let a = c.args in
    let r = c.route_within in
    let q = c.ask-asked in
    let asked : q.result ≡ asked_for (length a.rerouters.now ∷ length a.bus_wires.now ∷ length a.ports.now ∷ length a.answers.now ∷ []) (work_rows a.records.now a.facts.now a.taps.now a.groups.now a.demands.now a.keys.now a.marks.now) = q.ensures ∙ ap (asked_for (length a.rerouters.now ∷ length a.bus_wires.now ∷ length a.ports.now ∷ length a.answers.now ∷ [])) c.work_lengths.ensures in
    subst
    (PlanCalled (route_call a.text.now (plan_fits (length a.rerouters.now) (length a.bus_wires.now) (length a.ports.now) (length a.answers.now) (work_rows a.records.now a.facts.now a.taps.now a.groups.now a.demands.now a.keys.now a.marks.now)))
    a.rerouters.now a.bus_wires.now a.ports.now a.answers.now r.new.rerouters r.new.bus_wires r.new.ports r.new.answers)
    (ap laid_of c.in_ok-plan.was)
    (route_called a.rerouters.now a.bus_wires.now a.ports.now a.answers.now r.new.rerouters r.new.bus_wires r.new.ports r.new.answers a.text.now q.result (length a.rerouters.now) (length a.bus_wires.now) (length a.ports.now) (length a.answers.now) _ asked r.result r.ensures)
