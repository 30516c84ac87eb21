-- The plan is told from the buffers, or the refusal.
use Prim.Native.Nat.{ℕ}
use native.Mathlib.Omega.{arith}
use mathlib.Core.Path.{◌≡◌, refl, ap, ◌∙◌, subst}
use mathlib.Core.List.{List}
use lib.ListN.{length}
use Rattle.std.proofs.Common.{Option}
use Rattle.sheet.specs.declared.Counts.{Counts}
use Rattle.board_plan.specs.declared.Lent.{Lent}
use Rattle.board_plan.specs.TextPlan.{shortest}
use Rattle.board_plan.proofs.Calling.{work_room}
use Rattle.program_answer.specs.Answering.{LineTold, Answered, answer_lent, answer_call}
use Rattle.program_answer.proofs.Answers.{line_of_refusal, answered_refused, plan_stands, plan_answered}
use Rattle.program_answer.proofs.answer_within.Goals as goal

-- What is lent, by the buffers.
abbrev lent : (rerouters bus_wires ports answers : List (List ℕ)) (out : List ℕ) (work : ℕ) → Lent
lent rerouters bus_wires ports answers out work =
    record { rerouters = length rerouters; bus_wires = length bus_wires; ports = length ports; answers = length answers; work = work; out = length out }

-- The records for which there is room, counted: the answer is that of the call as it is named.
counted : (most : Counts) (text out : List ℕ) (old old_wires oldPorts oldAnswers : List (List ℕ)) (work : ℕ) (rows : List ℕ) → work ≡ shortest rows → {after : List ℕ} {rerouters bus_wires ports answers : List (List ℕ)} {r : Option ℕ}
    → Answered (answer_call most text (lent old old_wires oldPorts oldAnswers out work)) out old old_wires oldPorts oldAnswers after rerouters bus_wires ports answers r
    → Answered (answer_call most text (answer_lent (length old) (length old_wires) (length oldPorts) (length oldAnswers) (length out) rows)) out old old_wires oldPorts oldAnswers after rerouters bus_wires ports answers r
counted most text out old old_wires oldPorts oldAnswers work rows e {after} {rerouters} {bus_wires} {ports} {answers} {r} h =
    subst (λ (k : ℕ). Answered (answer_call most text (lent old old_wires oldPorts oldAnswers out k)) out old old_wires oldPorts oldAnswers after rerouters bus_wires ports answers r) e h

pub route_within-requires : goal.route_within-requires
route_within-requires c = let a = c.args in
    let n = c.shortest_of-work in
    let w = work_room n.result a.records.now a.facts.now a.taps.now a.groups.now a.demands.now a.keys.now a.marks.now (n.ensures ∙ ap shortest c.work_lengths.ensures) in record {
      work_lent = w.lent;
      within_library = (c.requires, record { marks_lent = omega arith; rerouters_lent = omega arith; wires_lent = omega arith; ports_lent = omega arith }, omega arith);
    }

pub tell_plan-requires : goal.tell_plan-requires
tell_plan-requires c = let a = c.args in
    let r = c.route_within in
    plan_stands a.most a.text.now (lent a.rerouters.now a.bus_wires.now a.ports.now a.answers.now a.out.now c.shortest_of-work.result) c.requires a.rerouters.now a.bus_wires.now a.ports.now a.answers.now
    r.new.rerouters r.new.bus_wires r.new.ports r.new.answers r.result _ r.ensures c.in-Ok.is (omega (arith, r.auto.rerouters)) (omega (arith, r.auto.bus_wires))

pub returns-in-Err : goal.returns-in-Err
returns-in-Err c = let a = c.args in
    let r = c.route_within in
    let t = c.tell_refusal in
    let n = c.shortest_of-work in
    counted a.most a.text.now a.out.now a.rerouters.now a.bus_wires.now a.ports.now a.answers.now n.result _ (n.ensures ∙ ap shortest c.work_lengths.ensures)
    (answered_refused a.most a.text.now (lent a.rerouters.now a.bus_wires.now a.ports.now a.answers.now a.out.now n.result) a.rerouters.now a.bus_wires.now a.ports.now a.answers.now
    r.new.rerouters r.new.bus_wires r.new.ports r.new.answers r.result r.ensures _ c.in-Err.is a.out.now t.new.out t.result
    (line_of_refusal c.in-Err.refusal a.out.now t.new.out t.result (subst (λ (k : ℕ). LineTold k c.in-Err.refusal.place a.out.now t.new.out t.result) c.number.ensures t.ensures)))

pub returns-in-Ok : goal.returns-in-Ok
returns-in-Ok c = let a = c.args in
    let r = c.route_within in
    let t = c.tell_plan in
    let n = c.shortest_of-work in
    counted a.most a.text.now a.out.now a.rerouters.now a.bus_wires.now a.ports.now a.answers.now n.result _ (n.ensures ∙ ap shortest c.work_lengths.ensures)
    (plan_answered a.most a.text.now (lent a.rerouters.now a.bus_wires.now a.ports.now a.answers.now a.out.now n.result) c.requires a.rerouters.now a.bus_wires.now a.ports.now a.answers.now
    r.new.rerouters r.new.bus_wires r.new.ports r.new.answers r.result _ r.ensures c.in-Ok.is (omega (arith, r.auto.rerouters)) (omega (arith, r.auto.bus_wires)) a.out.now t.new.out t.result refl t.ensures)
