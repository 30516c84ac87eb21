-- `emit_tap` meets its contract. Assumes nothing.
use mathlib.Core.Path.{◌≡◌, ap, sym}
use mathlib.Core.Logic.{⊎_elim}
use Rattle.routes.specs.declared.levels.Level.{Level}
use Rattle.routes.specs.declared.levels.Level.TheVariants.{Shared, Own}
use Rattle.routes_emit.proofs.Steps.{spends_none, spends_then, becomes_as, becomes_then, served}
use Rattle.routes.specs.Holding.{stop_level_of}
use Rattle.routes_taps.specs.Taps.{tap_of}
use Rattle.routes_emit.specs.Emitting.{told, begin_tap, tap_emitted}
use Rattle.routes_emit.proofs.tap.emit_tap.Goals as goal

pub serve-requires : goal.serve-requires
serve-requires c = record {
  ready = c.begin.ensures.spends.spent 1 2 c.requires.ready;
  tap_ranges = c.requires.tap_ranges;
}

pub returns-in-Dropped : goal.returns-in-Dropped
returns-in-Dropped c = let a = c.args in record {
  spends = spends_then _ _ _ _ _ _ _ _ _ 4 4 1 2 c.begin.ensures.spends (spends_none 1 2 _ _ _);
  becomes = λ b ts ps kn tg.
      becomes_as _ (tap_emitted b ts ps (told a.answers) (tap_of a.t) a.news (stop_level_of a.level)) _ _ _ _ _ _ (c.begin.ensures.becomes b ts ps (tap_of a.t) kn)
      (λ s. ap (λ v. served b ts ps (told a.answers) (tap_of a.t) (stop_level_of v) (begin_tap b ts ps (told a.answers) (tap_of a.t) a.news (stop_level_of a.level) s)) (sym c.in-Dropped.is));
}

pub returns-in-Shared : goal.returns-in-Shared
returns-in-Shared c = let a = c.args in record {
  spends = spends_then _ _ _ _ _ _ _ _ _ 4 4 1 2 c.begin.ensures.spends c.serve.ensures.spends;
  becomes = λ b ts ps kn tg.
      becomes_as _ (tap_emitted b ts ps (told a.answers) (tap_of a.t) a.news (stop_level_of a.level)) _ _ _ _ _ _ (becomes_then _ _ _ _ _ _ _ _ _ _ _ (c.begin.ensures.becomes b ts ps (tap_of a.t) kn) (c.serve.ensures.becomes b ts ps kn tg))
      (λ s.
      let by_level = λ (v : Level) (e : a.level ≡ v). ap (λ u. served b ts ps (told a.answers) (tap_of a.t) (stop_level_of u) (begin_tap b ts ps (told a.answers) (tap_of a.t) a.news (stop_level_of a.level) s)) (sym e) in
      ⊎_elim (by_level (Shared c.in-Shared.x)) (by_level (Own c.in-Shared.x)) c.in-Shared.is);
}
