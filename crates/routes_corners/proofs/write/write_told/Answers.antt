-- `write_told` meets its contract: the corner of a wire, by its answer. Assumes nothing.
use Rattle.std.proofs.Common.{None, Some, sym, ◌∙◌, subst}
use Rattle.base.specs.Lists.{Found}
use Rattle.routes_corners.specs.Writing.{WireWritten}
use Rattle.routes_corners.proofs.Writing.{corner_there, none_written, told_written, told_back}
use Rattle.routes_corners.proofs.write.write_told.Goals as goal

pub returns-in-None : goal.returns-in-None
returns-in-None c told e = let a = c.args in
    subst (λ (f : Found). WireWritten a.t.s.pages.now a.t.s.nodes.now a.t.s.wires.now a.t.facts.now a.w f a.rerouters.now a.bus_wires.now a.count a.rerouters.now a.bus_wires.now a.count) (told_back None told (sym c.in-None.is ∙ e))
    (none_written a.t.s.pages.now a.t.s.nodes.now a.t.s.wires.now a.t.facts.now a.w a.rerouters.now a.bus_wires.now a.count)

pub corner_at-new-requires : goal.corner_at-new-requires
corner_at-new-requires c = let a = c.args in
    corner_there a.t.s.pages.now a.t.s.nodes.now a.t.s.wires.now a.t.facts.now a.w c.requires.board_fits c.requires.ends_there.1 c.requires.ends_there.0

pub returns-in-Some : goal.returns-in-Some
returns-in-Some c told e = let a = c.args in
    let k = c.corner_at-new in
    let p = c.write_corner in
    subst (λ (f : Found). WireWritten a.t.s.pages.now a.t.s.nodes.now a.t.s.wires.now a.t.facts.now a.w f a.rerouters.now a.bus_wires.now a.count p.new.rerouters p.new.bus_wires p.result) (told_back (Some c.in-Some.level) told (sym c.in-Some.is ∙ e))
    (told_written a.t.s.pages.now a.t.s.nodes.now a.t.s.wires.now a.t.facts.now a.w a.rerouters.now a.bus_wires.now a.count c.in-Some.level k.result k.ensures _ _ p.result p.ensures p.auto.rerouters p.auto.bus_wires)
