-- `with_link` meets its contract. Assumes nothing.
use Rattle.routes_emit.proofs.Steps.{becomes_as, link_stands}
use Rattle.routes_taps.specs.Asking.{link_by}
use Rattle.routes_emit.proofs.row.with_link.Goals as goal

pub returns-then-answers : goal.returns-then-answers
returns-then-answers c = let n = c.lane_rerouter-new in
    let a = c.args in record {
      spends = c.hang_on.ensures.spends;
      becomes = λ b ts ps t kn.
          becomes_as _ (λ s. link_by b ts ps a.answers.link s t a.level) _ _ _ _ _ _ c.hang_on.ensures.becomes
          (λ s. link_stands b ts ps t a.l kn s a.level a.answers.link n.result n.ensures c.if-answers.true);
    }
