-- The ports that the new bus wires suppress; these are the rows behind those that are held.
use Rattle.routes_ports.proofs.Filling.{part_wires, settleable_slice, settled_slice}
use Rattle.routes_calls.proofs.mini.settle_corners.Goals as goal

pub slice_bounds-new-count : goal.slice_bounds-new-count
slice_bounds-new-count c = c.requires.rising

pub slice_bounds-new-start : goal.slice_bounds-new-start
slice_bounds-new-start c = c.requires.rising

pub slice_bounds-new-end : goal.slice_bounds-new-end
slice_bounds-new-end c = c.requires.written

pub settle_ports-requires : goal.settle_ports-requires
settle_ports-requires c = let a = c.args in
    let s = c.requires in
    settleable_slice (part_wires a.bus_wires.now a.held.bus_wires a.count.wires s.rising s.written) s

pub returns-clause-ports_settled : goal.returns-clause-ports_settled
returns-clause-ports_settled c = let a = c.args in
    let s = c.requires in
    settled_slice (part_wires a.bus_wires.now a.held.bus_wires a.count.wires s.rising s.written) c.settle_ports.ensures
