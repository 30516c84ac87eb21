-- `push_bus_node` meets its contract: `placing`, from what its calls gave. Assumes nothing.
use Rattle.std.proofs.Common.{ap, get_or}
use Rattle.routes.proofs.Holding.{placing}
use Rattle.routes.proofs.bus.push_bus_node.Goals as goal

pub returns : goal.returns
returns c = placing _ _ _ _ _ _ _ _ _ _ _ _
    c.outward.ensures c.outward-2.ensures c.outward-3.ensures c.unwrap_or.ensures c.unwrap_or-2.ensures
    (ap (λ r. get_or r 0 0) c.from.ensures) (ap (λ r. get_or r 1 0) c.from.ensures)
