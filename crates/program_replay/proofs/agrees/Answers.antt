-- `replay::agrees`: an answer that is the same byte for byte is the plan sheet or E line of the definitions. Assumes nothing.
use native.Mathlib.Omega.{arith}
use mathlib.Core.Path.{sym, ap, ◌∙◌}
use Rattle.base.proofs.Bools.{never}
use Rattle.routes.specs.Route.{sheet_of}
use Rattle.program_answer.proofs.Program.{program_fits}
use Rattle.program_answer.proofs.Promise.{told_front, told_counts}
use Rattle.std.proofs.lemmas.Bool.Decides.{Decides-eqb}
use Rattle.std.proofs.lemmas.Slice.Eq.{slice_eq-Decides}
use Rattle.program_replay.proofs.agrees.Goals as goal

pub slice_bounds-out-end : goal.slice_bounds-out-end
slice_bounds-out-end c = (told_counts c.respond.ensures c.in-Some.is).0

pub returns-in-None : goal.returns-in-None
returns-in-None c e = never cc

pub returns-in-Some : goal.returns-in-Some
returns-in-Some c e = sym ((slice_eq-Decides Decides-eqb _ _ _ c.eq.ensures).0 e) ∙ told_front c.respond.ensures c.in-Some.is
    ∙ ap sheet_of (program_fits c.args.sheet.now 87168 (omega arith))
