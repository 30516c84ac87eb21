-- `with_gate_side` meets its contract. Assumes nothing.
use Rattle.routes_emit.proofs.Steps.{spends_none, becomes_as, becomes_none, gate_stands, gate_left_out}
use Rattle.routes_taps.specs.Taps.{tap_of}
use Rattle.routes_emit.specs.Emitting.{gate_side_by}
use Rattle.routes_emit.proofs.serve.with_gate_side.Goals as goal

pub returns-then-answers : goal.returns-then-answers
returns-then-answers c = let n = c.row_rerouter-new in
    let a = c.args in record {
      spends = c.chain_on.ensures.spends;
      becomes = λ b ts ps kn.
          becomes_as _ (λ s. gate_side_by b ts ps a.answers.gate_side s (tap_of a.t) a.level) _ _ _ _ _ _ c.chain_on.ensures.becomes
          (λ s. gate_stands b ts ps (tap_of a.t) a.l kn a.level s a.answers.gate_side n.result n.ensures c.if-answers.true);
    }

pub returns-else-answers : goal.returns-else-answers
returns-else-answers c = let a = c.args in record {
  spends = spends_none 1 1 a.rerouters.now a.bus_wires.now a.e.now;
  becomes = λ b ts ps kn.
      becomes_as _ (λ s. gate_side_by b ts ps a.answers.gate_side s (tap_of a.t) a.level) _ _ _ _ _ _ (becomes_none a.rerouters.now a.bus_wires.now a.e.now)
      (λ s. gate_left_out b ts ps (tap_of a.t) a.l kn a.level s a.answers.gate_side c.if-answers.false);
}
