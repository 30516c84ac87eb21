use Prim.Native.Nat.{◌<◌}
use lib.ListN.{length}
use Rattle.routes_taps.specs.Asking.{told_in}
use Rattle.routes_taps.proofs.Reaching.{next_in_range}
use Rattle.routes_emit.proofs.Next.{answers_there, come_start, come_next, room_for_one}
use native.Mathlib.Omega.{arith}
use Rattle.routes_emit.proofs.walk.emit_lanes.Goals as goal

pub loop-k-init : goal.loop-k-init
loop-k-init c = let a = c.args in come_start a.s.pages.now a.s.nodes.now a.s.wires.now a.laid.facts.now a.laid.groups.now a.laid.taps.now (length a.laid.taps.now) a.stops.now (told_in a.asked.now a.flags.now (length a.s.nodes.now)) a.rerouters.now a.bus_wires.now c.start-w.result c.start-w.ensures c.requires.room_for_taps

pub emit_next-requires : goal.emit_next-requires
emit_next-requires c = let a = c.args in
    let come = c.loop-k.invariant in
    let t : c.loop-k.k < length a.laid.taps.now = omega arith in record {
      ready = room_for_one a.s.pages.now a.s.nodes.now a.s.wires.now a.laid.facts.now a.laid.groups.now a.laid.taps.now (length a.laid.taps.now) a.stops.now (told_in a.asked.now a.flags.now (length a.s.nodes.now)) a.rerouters.now a.bus_wires.now c.loop-k.rerouters c.loop-k.bus_wires c.loop-k.w c.loop-k.k come t;
      lane_in_range = c.requires.laid_in_range.lanes c.loop-k.k t;
      next_in_range = next_in_range a.s.pages.now a.s.nodes.now a.s.wires.now a.laid.facts.now a.laid.groups.now a.laid.taps.now (length a.laid.taps.now) a.stops.now (length a.stops.now) c.requires.laid_in_range c.loop-k.k t c.loop-k.w.reached come.count come.at_stop;
      answers_room = answers_there (length a.laid.taps.now) c.loop-k.k (length a.s.nodes.now) a.asked.now a.flags.now c.requires.answered.0 c.requires.answered.1 t;
    }

pub loop-k-preserved : goal.loop-k-preserved
loop-k-preserved c = let n = c.emit_next in
    let a = c.args in
    let v = c.loop-k.invariant in
    let t : c.loop-k.k < length a.laid.taps.now = omega arith in
    come_next a.s.pages.now a.s.nodes.now a.s.wires.now a.laid.facts.now a.laid.groups.now a.laid.taps.now (length a.laid.taps.now) a.stops.now (told_in a.asked.now a.flags.now (length a.s.nodes.now)) a.rerouters.now a.bus_wires.now c.loop-k.rerouters c.loop-k.bus_wires c.loop-k.w c.loop-k.k v c.emit_next.new.rerouters c.emit_next.new.bus_wires n.new.w t n.ensures.spends n.ensures.went_on n.ensures.becomes
