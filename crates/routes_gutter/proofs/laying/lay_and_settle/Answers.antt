-- The lanes laid, then the ports of their deliveries: what is left is the lanes' bus.
use mathlib.Core.Path.{sym}
use lib.Seq.{length-take-le}
use Rattle.routes_gutter.proofs.Settling.{given, suppressible, stands}
use Rattle.routes_gutter.proofs.laying.lay_and_settle.Goals as goal

pub lay_lanes-laid-requires : goal.lay_lanes-laid-requires
lay_lanes-laid-requires c = let ready = c.requires.2 in (c.requires.0, c.requires.1, ready.ready, ready.room)

pub slice_bounds-settle_ports-end : goal.slice_bounds-settle_ports-end
slice_bounds-settle_ports-end c = let d = c.lay_lanes-laid in
    let ready = c.requires.2 in
    (given ready (d.ensures c.requires.0 c.requires.1 ready.ready).0 c.args.ports.now c.requires.3).written

pub slice_bounds-settle_ports-end-2 : goal.slice_bounds-settle_ports-end-2
slice_bounds-settle_ports-end-2 c = let d = c.lay_lanes-laid in
    let ready = c.requires.2 in
    sym (length-take-le _ _ (given ready (d.ensures c.requires.0 c.requires.1 ready.ready).0 c.args.ports.now c.requires.3).written)

pub settle_ports-u-requires : goal.settle_ports-u-requires
settle_ports-u-requires c = let d = c.lay_lanes-laid in
    let ready = c.requires.2 in
    suppressible ready (d.ensures c.requires.0 c.requires.1 ready.ready).0 c.args.ports.now c.requires.3

pub returns : goal.returns
returns c = let d = c.lay_lanes-laid in
    let p = c.settle_ports-u in
    λ b ps ready room. (stands ready (d.ensures b ps ready.ready).0 c.args.ports.now room p.new.ports p.result p.ensures, (d.ensures b ps ready.ready).1)
