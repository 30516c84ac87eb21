use Rattle.board_plan.specs.TextPlan.{shortest}
use Rattle.program_answer.proofs.calls.respond.Goals as goal

pub returns : goal.returns
unfolding shortest
returns c = c.answer_for_program.ensures.told
