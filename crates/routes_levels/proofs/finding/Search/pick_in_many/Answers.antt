-- The lowest free level, else the least loaded.
use mathlib.Core.Path.{sym, ◌∙◌}
use Rattle.routes_levels.proofs.Picking.{picked_low, picked_light}
use Rattle.routes_levels.proofs.finding.Search.pick_in_many.Goals as goal

pub returns-in-Some : goal.returns-in-Some
returns-in-Some c = picked_low _ _ _ _ _ (sym c.in-Some.is ∙ c.lowest_free.ensures)

pub returns : goal.returns
returns c = picked_light _ _ _ _ (sym c.in_default.is ∙ c.lowest_free.ensures) c.least_loaded.ensures
