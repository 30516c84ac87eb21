use mathlib.Core.Path.{sym, subst}
use lib.ListN.{length}
use Rattle.sheet.specs.declared.Counts.{Counts}
use Rattle.board.specs.Walk.{WithinLibrary}
use Rattle.board_plan.specs.TextPlan.{work_rows}
use Rattle.board_plan.proofs.Calling.{within_library}
use Rattle.program_answer.specs.Answering.{Answered, answer_lent, answer_call}
use Rattle.program_answer.proofs.calls.answer.Goals as goal

pub answer_within-requires : goal.answer_within-requires
answer_within-requires c = subst (λ (m : Counts). WithinLibrary m) (sym c.library_most.ensures) within_library

pub returns : goal.returns
returns c = let a = c.args in
    subst (λ (m : Counts). Answered (answer_call m a.text.now (answer_lent (length a.rerouters.now) (length a.bus_wires.now) (length a.ports.now) (length a.answers.now) (length a.out.now) (work_rows a.records.now a.facts.now a.taps.now a.groups.now a.demands.now a.keys.now a.marks.now))) a.out.now a.rerouters.now a.bus_wires.now a.ports.now a.answers.now c.answer_within.new.out c.answer_within.new.rerouters c.answer_within.new.bus_wires c.answer_within.new.ports c.answer_within.new.answers c.answer_within.result)
    c.library_most.ensures c.answer_within.ensures
