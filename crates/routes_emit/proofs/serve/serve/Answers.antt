-- `serve` meets its contract. Assumes nothing.
use Rattle.routes_emit.proofs.Steps.{spends_then, becomes_as, becomes_then, serve_as}
use Rattle.routes_taps.specs.Asking.{serve_by}
use Rattle.routes_taps.specs.Taps.{tap_of}
use Rattle.routes_emit.specs.Emitting.{told}
use native.Mathlib.Omega.{arith}
use Rattle.routes_emit.proofs.serve.serve.Goals as goal

pub deliver-requires : goal.deliver-requires
deliver-requires c = let w = c.with_gate_side in
    let h = (w.ensures.spends.spent 0 1 c.requires.ready).wire_room in
    omega arith

pub returns : goal.returns
returns c = let d = c.deliver in
    let w = c.with_gate_side in
    let a = c.args in record {
      spends = spends_then _ _ _ _ _ _ _ _ _ 1 1 0 1 w.ensures.spends (d.ensures.spends w.new.rerouters);
      becomes = λ b ts ps kn tg.
          becomes_as _ (λ s. serve_by b ts ps (told a.answers) s (tap_of a.t) a.level) _ _ _ _ _ _
          (becomes_then _ _ _ _ _ _ _ _ _ _ _ (w.ensures.becomes b ts ps kn) (d.ensures.becomes b w.new.rerouters tg.node tg.port))
          (serve_as b ts ps (told a.answers) (tap_of a.t) a.level);
    }
