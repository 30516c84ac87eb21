use Prim.Native.Nat.{ℕ}
use mathlib.Core.Path.{sym, subst}
use lib.ListN.{length}
use Rattle.sheet.specs.declared.Counts.{Counts}
use Rattle.board.specs.Walk.{WithinLibrary}
use Rattle.board.proofs.Accepting.{within_program}
use Rattle.board_plan.specs.TextPlan.{work_rows}
use Rattle.base.specs.declared.refusal.Reason.TheVariants.{TooMany}
use Rattle.base.specs.Refusal.{refusal}
use Rattle.program_answer.specs.Answering.{LineTold, answer_lent}
use Rattle.program_answer.proofs.Answers.{line_of_refusal}
use Rattle.program_answer.proofs.Program.{too_long, not_long}
use Rattle.program_answer.proofs.calls.answer_for_program.Goals as goal

pub returns-then-text-gt-INPUT_MOST : goal.returns-then-text-gt-INPUT_MOST
returns-then-text-gt-INPUT_MOST c = let a = c.args in
    let t = c.tell_refusal in
    too_long a.text.now (answer_lent (length a.rerouters.now) (length a.bus_wires.now) (length a.ports.now) (length a.answers.now) (length a.out.now) (work_rows a.records.now a.facts.now a.taps.now a.groups.now a.demands.now a.keys.now a.marks.now)) c.if-text-gt-INPUT_MOST.true a.out.now t.new.out t.result
    (line_of_refusal (refusal TooMany 0) a.out.now t.new.out t.result (subst (λ (k : ℕ). LineTold k 0 a.out.now t.new.out t.result) c.number.ensures t.ensures)) a.rerouters.now a.bus_wires.now a.ports.now a.answers.now

pub answer_within-requires : goal.answer_within-requires
answer_within-requires c = subst (λ (m : Counts). WithinLibrary m) (sym c.program_most.ensures) within_program

pub returns : goal.returns
returns c = let a = c.args in
    not_long a.text.now (answer_lent (length a.rerouters.now) (length a.bus_wires.now) (length a.ports.now) (length a.answers.now) (length a.out.now) (work_rows a.records.now a.facts.now a.taps.now a.groups.now a.demands.now a.keys.now a.marks.now)) c.if-text-gt-INPUT_MOST.false _ c.program_most.ensures c.answer_within.ensures
