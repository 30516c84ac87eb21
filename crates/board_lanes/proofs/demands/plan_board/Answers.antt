-- `plan_board` meets its contract: what is collected of the board is planned. Assumes nothing.
use native.Mathlib.Omega.{arith}
use mathlib.Core.Path.{refl}
use Rattle.board.specs.Board.{Board}
use Rattle.board_lanes.proofs.PlanLaws.{collected_front}
use Rattle.board_lanes.proofs.demands.plan_board.Goals as goal

pub plan_lanes-plan-requires-clause-collected : goal.plan_lanes-plan-requires-clause-collected
plan_lanes-plan-requires-clause-collected c =
    let s = c.args.s in
    let b : Board = record { pages = s.pages.now; nodes = s.nodes.now; chips = s.chips.now; inner = s.inner.now; execs = s.execs.now; wires = s.wires.now } in
    let found = c.collect_bus_groups-m.ensures.node_facts b refl refl refl refl refl (c.number_rows.ensures b refl) in
    let collected = collected_front b c.collect_bus_groups-m.new.facts c.collect_bus_groups-m.new.taps c.collect_bus_groups-m.result (omega arith) found in
    (b, collected)

pub returns : goal.returns
returns c =
    let s = c.args.s in
    let b : Board = record { pages = s.pages.now; nodes = s.nodes.now; chips = s.chips.now; inner = s.inner.now; execs = s.execs.now; wires = s.wires.now } in
    let found = c.collect_bus_groups-m.ensures.node_facts b refl refl refl refl refl (c.number_rows.ensures b refl) in
    let collected = collected_front b c.collect_bus_groups-m.new.facts c.collect_bus_groups-m.new.taps c.collect_bus_groups-m.result (omega arith) found in
    let p = c.plan_lanes-plan.ensures b collected in
    record { nodes_known = p.0; wires_known = p.1; count = c.collect_bus_groups-m.ensures.upper_bound; taps_are = found.2; plan_held = p.2 }
