-- `with_group` meets its contract. Assumes nothing.
use mathlib.Core.Path.{sym, ◌∙◌}
use Rattle.routes_emit.proofs.Steps.{spends_none, becomes_as, becomes_none, group_new, group_same}
use Rattle.routes_emit.specs.Emitting.{told, begin_group}
use Rattle.routes_emit.proofs.tap.with_group.Goals as goal

pub returns-then-begins_group : goal.returns-then-begins_group
returns-then-begins_group c = let a = c.args in record {
  spends = c.start_group.ensures.spends;
  becomes = λ b ts ps t kn. becomes_as _ (begin_group b ts ps (told a.answers) t a.news) _ _ _ _ _ _ (c.start_group.ensures.becomes b ts ps t kn) (group_new b ts ps (told a.answers) t a.news (sym c.begins_group.ensures ∙ c.if-begins_group.true));
}

pub returns-else-begins_group : goal.returns-else-begins_group
returns-else-begins_group c = let a = c.args in record {
  spends = spends_none 2 2 a.rerouters.now a.bus_wires.now a.e.now;
  becomes = λ b ts ps t kn. becomes_as _ (begin_group b ts ps (told a.answers) t a.news) _ _ _ _ _ _ (becomes_none a.rerouters.now a.bus_wires.now a.e.now) (group_same b ts ps (told a.answers) t a.news (sym c.begins_group.ensures ∙ c.if-begins_group.false));
}
