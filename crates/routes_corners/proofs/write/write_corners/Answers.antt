use Rattle.std.proofs.Common.{length}
use Rattle.routes_corners.proofs.Writing.{writing_start, writing_more, writing_end}
use Rattle.routes_corners.proofs.write.write_corners.Goals as goal

pub loop-q-init : goal.loop-q-init
loop-q-init c = let a = c.args in
    writing_start a.t.s.pages.now a.t.s.nodes.now a.t.s.wires.now a.t.facts.now a.t.list.now a.answers.now (length a.t.list.now) a.rerouters.now a.bus_wires.now a.count c.requires.write_room

pub loop-q-preserved : goal.loop-q-preserved
loop-q-preserved c = let a = c.args in
    writing_more a.t.s.pages.now a.t.s.nodes.now a.t.s.wires.now a.t.facts.now a.t.list.now a.answers.now (length a.t.list.now) a.rerouters.now a.bus_wires.now a.count c.loop-q.q _ _ _ c.loop-q.invariant c.loop-q-test.true _ _ _ (c.write_told-done.ensures _ c.level_told-level.ensures)

pub returns : goal.returns
returns c = let a = c.args in
    writing_end a.t.s.pages.now a.t.s.nodes.now a.t.s.wires.now a.t.facts.now a.t.list.now a.answers.now (length a.t.list.now) a.rerouters.now a.bus_wires.now a.count c.loop-q.q _ _ _ c.loop-q.invariant c.loop-q-test.false
