-- `with_source` meets its contract. Assumes nothing.
use Rattle.routes_emit.proofs.Steps.{spends_none, becomes_as, becomes_none, source_stands, source_left_out}
use Rattle.routes_taps.specs.Asking.{source_by}
use Rattle.routes_emit.proofs.group.with_source.Goals as goal

pub returns-then-answers : goal.returns-then-answers
returns-then-answers c = let n = c.row_rerouter-new in
    let a = c.args in record {
      spends = c.hang_on.ensures.spends;
      becomes = λ b ts ps t kn.
          becomes_as _ (λ s. source_by b ts ps a.answers.source s t) _ _ _ _ _ _ c.hang_on.ensures.becomes
          (λ s. source_stands b ts ps t a.l kn s a.answers.source n.result n.ensures c.if-answers.true);
    }

pub returns-else-answers : goal.returns-else-answers
returns-else-answers c = let a = c.args in record {
  spends = spends_none 1 1 a.rerouters.now a.bus_wires.now a.e.now;
  becomes = λ b ts ps t kn.
      becomes_as _ (λ s. source_by b ts ps a.answers.source s t) _ _ _ _ _ _ (becomes_none a.rerouters.now a.bus_wires.now a.e.now)
      (λ s. source_left_out b ts ps t a.l kn s a.answers.source c.if-answers.false);
}
