-- `write_corner` meets its contract: a corner pushed at its wire's source port, and the delivery from it. Assumes nothing.
use Rattle.routes_corners.proofs.Writing.{corner_written}
use Rattle.routes_corners.proofs.write.write_corner.Goals as goal

pub returns : goal.returns
returns c = let a = c.args in
    corner_written a.rerouters.now a.bus_wires.now a.count a.wire a.w a.new _ _ _ c.push_bus_node-placed.result c.push_delivery.result c.push_bus_node-placed.ensures c.push_delivery.ensures
