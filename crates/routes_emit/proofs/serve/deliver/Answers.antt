-- `deliver` meets its contract. Assumes nothing.
use Rattle.routes_emit.proofs.Steps.{delivered}
use Rattle.routes_emit.proofs.serve.deliver.Goals as goal

pub returns : goal.returns
returns c = let p = c.push_delivery-e in
    let a = c.args in
    delivered a.bus_wires.now _ a.e.now a.t p.result p.auto.bus_wires p.ensures
