use Rattle.std.proofs.Common.{add-one}
use Rattle.routes_corners.specs.Ports.{among_ports}
use Rattle.routes_corners.proofs.ports.flag_ports.Goals as goal

pub loop-port-preserved : goal.loop-port-preserved
loop-port-preserved c =
    let l = c.loop-port in
    let a = c.args in
    (c.flag_port-p.ensures.upper_bound, rw (add-one l.port-index) (c.flag_port-p.ensures.by_index (among_ports a.t.wires.now a.ports.now l.port-index) l.invariant.1))
