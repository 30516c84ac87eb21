-- `start_group` meets its contract. Assumes nothing.
use Rattle.routes_emit.proofs.Steps.{spends_port, spends_then, becomes_as, becomes_port, becomes_then, group_headed, group_headless}
use Rattle.routes_taps.specs.Asking.{group_by}
use Rattle.routes_emit.specs.Emitting.{told}
use Rattle.routes_emit.proofs.group.start_group.Goals as goal

pub hang_on-requires : goal.hang_on-requires
hang_on-requires c = let a = c.args in
    c.with_source.ensures.spends.spent 1 1 ((spends_port 0 0 a.rerouters.now a.bus_wires.now a.e.now a.l).spent 2 2 c.requires.ready)

pub returns-then-answers : goal.returns-then-answers
returns-then-answers c = let n = c.lane_rerouter-new in
    let a = c.args in record {
      spends = spends_then _ _ _ _ _ _ _ _ _ 1 1 1 1
          (spends_then _ _ _ _ _ _ _ _ _ 0 0 1 1 (spends_port 0 0 a.rerouters.now a.bus_wires.now a.e.now a.l) c.with_source.ensures.spends)
          c.hang_on.ensures.spends;
      becomes = λ b ts ps t kn.
          becomes_as _ (λ s. group_by b ts ps (told a.answers) s t) _ _ _ _ _ _
          (becomes_then _ _ _ _ _ _ _ _ _ _ _
          (becomes_then _ _ _ _ _ _ _ _ _ _ _ (becomes_port b ts ps t a.l kn a.rerouters.now a.bus_wires.now a.e.now) (c.with_source.ensures.becomes b ts ps t kn))
          c.hang_on.ensures.becomes)
          (λ s. group_headed b ts ps t a.l kn (told a.answers) s n.result n.ensures c.if-answers.true);
    }

pub returns-else-answers : goal.returns-else-answers
returns-else-answers c = let a = c.args in record {
  spends = spends_port 2 2 a.rerouters.now a.bus_wires.now a.e.now a.l;
  becomes = λ b ts ps t kn.
      becomes_as _ (λ s. group_by b ts ps (told a.answers) s t) _ _ _ _ _ _ (becomes_port b ts ps t a.l kn a.rerouters.now a.bus_wires.now a.e.now)
      (λ s. group_headless b ts ps t a.l kn (told a.answers) s c.if-answers.false);
}
