-- `start_row` meets its contract. Assumes nothing.
use mathlib.Core.Path.{ap, sym, ◌∙◌}
use Rattle.routes_emit.proofs.Steps.{spends_none, spends_shared, spends_then, becomes_as, becomes_none, becomes_shared, becomes_then, row_dropped, row_shared, row_own}
use Rattle.routes.specs.Holding.{stop_level_of}
use Rattle.routes_taps.specs.Asking.{row_by}
use Rattle.routes_emit.specs.Emitting.{told}
use Rattle.routes_emit.proofs.row.start_row.Goals as goal

pub tap_off-requires : goal.tap_off-requires
tap_off-requires c = c.with_link.ensures.spends.spent 1 1 c.requires.ready

pub returns-in-Dropped : goal.returns-in-Dropped
returns-in-Dropped c = let a = c.args in
    let g = c.in-Dropped.is in record {
      spends = spends_none 2 2 a.rerouters.now a.bus_wires.now a.e.now;
      becomes = λ b ts ps t kn.
          becomes_as _ (λ s. row_by b ts ps (told a.answers) s t (stop_level_of a.level)) _ _ _ _ _ _ (becomes_none a.rerouters.now a.bus_wires.now a.e.now)
          (λ s. row_dropped b ts ps t a.l kn (told a.answers) s ∙ ap (λ v. row_by b ts ps (told a.answers) s t (stop_level_of v)) (sym g));
    }

pub returns-in-Shared : goal.returns-in-Shared
returns-in-Shared c = let a = c.args in record {
  spends = spends_shared 2 2 a.rerouters.now a.bus_wires.now a.e.now;
  becomes = λ b ts ps t kn.
      becomes_as _ (λ s. row_by b ts ps (told a.answers) s t (stop_level_of a.level)) _ _ _ _ _ _ (becomes_shared a.rerouters.now a.bus_wires.now a.e.now)
      (λ s. row_shared b ts ps t a.l kn (told a.answers) s c.in-Shared.field-0 ∙ ap (λ v. row_by b ts ps (told a.answers) s t (stop_level_of v)) (sym c.in-Shared.is));
}

pub returns-in-Own : goal.returns-in-Own
returns-in-Own c = let n = c.lane_rerouter-new in
    let a = c.args in record {
      spends = spends_then _ _ _ _ _ _ _ _ _ 1 1 1 1 c.with_link.ensures.spends c.tap_off.ensures.spends;
      becomes = λ b ts ps t kn.
          becomes_as _ (λ s. row_by b ts ps (told a.answers) s t (stop_level_of a.level)) _ _ _ _ _ _
          (becomes_then _ _ _ _ _ _ _ _ _ _ _ (c.with_link.ensures.becomes b ts ps t kn) c.tap_off.ensures.becomes)
          (λ s. row_own b ts ps t a.l kn (told a.answers) s c.in-Own.x n.result n.ensures ∙ ap (λ v. row_by b ts ps (told a.answers) s t (stop_level_of v)) (sym c.in-Own.is));
    }
