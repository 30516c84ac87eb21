-- `begin` meets its contract. Assumes nothing.
use mathlib.Core.Path.{sym, ◌∙◌}
use Rattle.routes_emit.proofs.Steps.{spends_none, spends_then, becomes_as, becomes_then, row_new, row_same}
use Rattle.routes.specs.Holding.{stop_level_of}
use Rattle.routes_emit.specs.Emitting.{told, begin_tap}
use Rattle.routes_emit.proofs.tap.begin.Goals as goal

pub start_row-requires : goal.start_row-requires
start_row-requires c = record {
  ready = c.with_group.ensures.spends.spent 2 2 c.requires.ready;
  level_range = c.requires.level_range;
}

pub returns-then-begins_row : goal.returns-then-begins_row
returns-then-begins_row c = let a = c.args in record {
  spends = spends_then _ _ _ _ _ _ _ _ _ 2 2 2 2 c.with_group.ensures.spends c.start_row.ensures.spends;
  becomes = λ b ts ps t kn.
      becomes_as _ (begin_tap b ts ps (told a.answers) t a.news (stop_level_of a.level)) _ _ _ _ _ _ (becomes_then _ _ _ _ _ _ _ _ _ _ _ (c.with_group.ensures.becomes b ts ps t kn) (c.start_row.ensures.becomes b ts ps t kn))
      (row_new b ts ps (told a.answers) t (stop_level_of a.level) a.news (sym c.begins_row.ensures ∙ c.if-begins_row.true));
}

pub returns-else-begins_row : goal.returns-else-begins_row
returns-else-begins_row c = let a = c.args in record {
  spends = spends_then _ _ _ _ _ _ _ _ _ 2 2 2 2 c.with_group.ensures.spends (spends_none 2 2 _ _ _);
  becomes = λ b ts ps t kn.
      becomes_as _ (begin_tap b ts ps (told a.answers) t a.news (stop_level_of a.level)) _ _ _ _ _ _ (c.with_group.ensures.becomes b ts ps t kn)
      (row_same b ts ps (told a.answers) t (stop_level_of a.level) a.news (sym c.begins_row.ensures ∙ c.if-begins_row.false));
}
