-- The columns asked for, the rows answered, the lanes emitted by the answers.
use Prim.Native.Nat.{ℕ}
use native.Mathlib.Omega.{arith}
use mathlib.Core.Path.{subst}
use lib.Dec.{lit≤}
use lib.ListN.{replicate, length-replicate, get_or-replicate}
use Rattle.board.specs.Groups.{taps_of}
use Rattle.routes.specs.Bus.{Bus}
use Rattle.routes.specs.Holding.{BusHeld}
use Rattle.routes_gutter.proofs.Supply.{few_nodes}
use Rattle.routes_gutter.proofs.Emitted.{range, board_tables, taps_on_lem, few_taps, lanes_to_ask, room_to_emit, can_answer, bus_emitted}
use Rattle.routes_gutter.proofs.lay.emit_laid.Goals as goal

pub ask_taps-requires : goal.ask_taps-requires
ask_taps-requires c = let l = c.requires.2 in record {
  laid_in_range = range l;
  few_stops = (l.fewer, few_taps l, l.few, (lanes_to_ask l).0, (lanes_to_ask l).1);
}

pub answer_rows-requires : goal.answer_rows-requires
answer_rows-requires c =
    let p = c.requires in
    can_answer p.2 c.ask_taps.new.asked (c.ask_taps.ensures p.0 (taps_of p.0) p.1 (board_tables p.2) (taps_on_lem p.2)) (replicate 20480 0) c.ask_taps.auto.asked
    (rw (length-replicate {A = ℕ} 20480 0) (lit≤ tt)) (λ i h. get_or-replicate 20480 i 0 0 h)

pub emit_lanes-requires : goal.emit_lanes-requires
emit_lanes-requires c = let l = c.requires.2 in
    let few-n = few_nodes l.ready in
    let few-t = few_taps l in
    let room = l.few in
    let all = length-replicate {A = ℕ} 20480 0 in record {
      laid_in_range = range l;
      room_for_taps = room_to_emit l;
      answered = (omega arith, omega arith);
    }

pub returns : goal.returns
returns c =
    let a = c.args in
    λ b ps l.
    subst (λ (bus : Bus). BusHeld bus a.rerouters.now a.bus_wires.now c.emit_lanes.new.rerouters c.emit_lanes.new.bus_wires c.emit_lanes.result)
    (bus_emitted l c.ask_taps.new.asked (c.ask_taps.ensures b (taps_of b) ps (board_tables l) (taps_on_lem l)) c.answer_rows.new.flags (c.answer_rows.ensures b l.ready.nodes_are l.ready.nodes_known))
    (c.emit_lanes.ensures b (taps_of b) ps (board_tables l) (taps_on_lem l))
