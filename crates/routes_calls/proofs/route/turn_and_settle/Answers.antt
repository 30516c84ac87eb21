-- There is room for the corners; what is left is the finished plan.
use mathlib.Core.Path.{sym, subst}
use Rattle.routes.specs.declared.bus.BusCounts.{BusCounts}
use Rattle.routes.specs.Plan.{bus_of, finished}
use Rattle.routes_gutter.specs.Bus.{BusStands}
use Rattle.routes_calls.proofs.Adding.{ready_mutes, ready_handed, turned_short, turned_laid, settle_ready, settle_done}
use Rattle.routes_calls.proofs.route.turn_and_settle.Goals as goal

pub turn_corners-requires : goal.turn_corners-requires
turn_corners-requires c = let ready = c.requires.5 in record { board_fits = ready.known.fits; lent = ready.lent }

pub settle_corners-requires : goal.settle_corners-requires
settle_corners-requires c = let t = c.turn_corners in
    let p = c.requires in
    let ready = p.5 in
    settle_ready ready (turned_laid ready t.new.rerouters t.new.bus_wires t.result c.in-Ok.count (t.ensures.turned_from p.0 (bus_of p.0 p.1) p.2 p.3 ready.known.sections (ready_mutes ready) (ready_handed ready)) c.in-Ok.is)

pub returns-in-Err : goal.returns-in-Err
returns-in-Err c = let t = c.turn_corners in
    λ b ps old old_wires oldPorts ready.
    turned_short ready t.new.rerouters t.new.bus_wires t.result _ (t.ensures.turned_from b (bus_of b ps) old old_wires ready.known.sections (ready_mutes ready) (ready_handed ready)) c.in-Err.is

pub returns-in-Ok : goal.returns-in-Ok
returns-in-Ok c = let t = c.turn_corners in
    let u = c.settle_corners in
    λ b ps old old_wires oldPorts ready.
    let laid = turned_laid ready t.new.rerouters t.new.bus_wires t.result c.in-Ok.count (t.ensures.turned_from b (bus_of b ps) old old_wires ready.known.sections (ready_mutes ready) (ready_handed ready)) c.in-Ok.is in
    subst (λ (k : BusCounts). BusStands (finished b ps) old old_wires oldPorts t.new.rerouters t.new.bus_wires u.new.ports k) (sym u.ensures.is) (settle_done ready laid u.new.ports u.result.ports u.ensures.ports_settled)
