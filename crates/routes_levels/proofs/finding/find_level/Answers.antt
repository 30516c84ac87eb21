-- `find_level` meets its contract: the level picked, else base. Assumes nothing.
use mathlib.Core.Path.{sym, ◌∙◌}
use Rattle.routes_levels.proofs.Picking.{find_picked, find_at_base}
use Rattle.routes_levels.proofs.finding.find_level.Goals as goal

pub returns-in-Some : goal.returns-in-Some
returns-in-Some c = λ ss p l q h. find_picked _ _ _ _ h _ c.levels_in.ensures _ (sym c.in-Some.is ∙ c.pick.ensures)

pub returns : goal.returns
returns c = λ ss p l q h. c.then_some.ensures ∙ find_at_base _ _ _ _ h _ c.levels_in.ensures (sym c.in_default.is ∙ c.pick.ensures) _ c.is_unclaimed.ensures
