use native.Mathlib.Omega.{arith}
use lib.ListN.{length}
use Rattle.board_lanes.proofs.PlanLaws.{tap_inside, board_packable}
use Rattle.board_lanes.proofs.demands.plan_lanes.Goals as goal

pub sum_taps-requires-clause-by_index : goal.sum_taps-requires-clause-by_index
sum_taps-requires-clause-by_index c = let g = c.requires.collected in
    tap_inside g.0 c.args.s.pages.now c.args.s.nodes.now c.args.s.wires.now c.args.facts.now c.args.taps.now (length c.args.taps.now) g.1

pub mark_heads-requires-clause-by_index : goal.mark_heads-requires-clause-by_index
mark_heads-requires-clause-by_index c = let g = c.requires.collected in
    λ k h. (tap_inside g.0 c.args.s.pages.now c.args.s.nodes.now c.args.s.wires.now c.args.facts.now c.args.taps.now (length c.args.taps.now) g.1 k h).0

pub plan_pages-requires-clause-packable : goal.plan_pages-requires-clause-packable
plan_pages-requires-clause-packable c =
    let g = c.requires.collected in
    let k = g.1 in
    let p = c.requires.few in
    let p2 = p.2 in
    let p3 = p.3 in
    board_packable g.0 c.args.s.pages.now c.args.s.nodes.now c.args.s.wires.now c.args.facts.now c.args.taps.now (length c.args.taps.now) k c.sum_taps.new.groups (c.sum_taps.ensures g.0 k.nodes_are k.wires_are k.wires_known k.taps_are) (omega arith) p.2 (omega arith) p.1
