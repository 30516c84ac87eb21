use Rattle.std.proofs.Common.{◌<◌, length, arith}
use Rattle.routes_corners.proofs.PortLaws.{walked_on, walked_done}
use Rattle.routes_corners.proofs.ports.class_along.Goals as goal

pub loop-p-preserved : goal.loop-p-preserved
loop-p-preserved c =
    let wire-there : c.wire_at.result < length c.loop-p.classes = let at = (c.requires.0.comes c.loop-p.p c.loop-p-test.true).0 in omega (arith, c.wire_at.ensures) in
    walked_on c.args.wires.now c.args.keys.now c.args.classes.now c.requires.0 c.loop-p.classes c.loop-p.class c.loop-p.p c.loop-p.invariant c.class_at-class.result c.wire_at.result c.loop-p-test.true c.class_at-class.ensures c.wire_at.ensures wire-there

pub returns : goal.returns
returns c = walked_done c.args.wires.now c.args.keys.now c.args.classes.now c.requires.0 c.loop-p.classes c.loop-p.class c.loop-p.p c.loop-p.invariant c.loop-p-test.false
