-- What is handed in, turned; then its ports.
use mathlib.Core.Path.{sym, ◌∙◌, subst}
use Rattle.std.proofs.Common.{Ok}
use Rattle.base.proofs.Passing.{passed}
use Rattle.routes.specs.declared.bus.BusCounts.{BusCounts}
use Rattle.routes_gutter.specs.Calls.{BusCalled}
use Rattle.routes_calls.specs.Mini.{mini_on}
use Rattle.routes_calls.proofs.MiniLaws.{unheld, mini_unfit, held_lent, mini_short, settle, mini_laid}
use Rattle.routes_calls.proofs.mini.turn_held.Goals as goal

pub returns-then-not-holds : goal.returns-then-not-holds
returns-then-not-holds c = let a = c.args in
    let no = sym c.holds.ensures ∙ c.if-not-holds.true in
    λ b ps ready lanes. rw c.at.ensures (mini_unfit a.rerouters.now a.bus_wires.now a.ports.now a.held b (unheld a.rerouters.now a.bus_wires.now a.ports.now a.held b no))

pub turn_corners-requires : goal.turn_corners-requires
turn_corners-requires c = let a = c.args in
    let few = sym c.holds.ensures ∙ c.if-not-holds.false in
    record { board_fits = c.requires.1.known.fits; lent = held_lent a.rerouters.now a.bus_wires.now a.ports.now a.held c.requires.0 few c.requires.1 }

pub settle_corners-requires : goal.settle_corners-requires
settle_corners-requires c = let a = c.args in
    let few = sym c.holds.ensures ∙ c.if-not-holds.false in
    let t = c.turn_corners in
    let b = c.requires.0 in
    let ready = c.requires.1 in
    settle a.rerouters.now a.bus_wires.now a.ports.now a.held b few ready t.new.rerouters t.new.bus_wires t.result _ (t.ensures.turned_as b ready.known.sections) c.in_ok-count.was

pub returns-in_err-count : goal.returns-in_err-count
returns-in_err-count c = let a = c.args in
    let few = sym c.holds.ensures ∙ c.if-not-holds.false in
    let t = c.turn_corners in
    λ b ps ready lanes.
    rw (passed c.from_residual.result _ c.from_residual.ensures.1)
    (mini_short a.rerouters.now a.bus_wires.now a.ports.now a.held b few ready t.new.rerouters t.new.bus_wires t.result (t.ensures.turned_as b ready.known.sections) _ c.in_err-count.was)

pub returns : goal.returns
returns c = let a = c.args in
    let few = sym c.holds.ensures ∙ c.if-not-holds.false in
    let t = c.turn_corners in
    let u = c.settle_corners in
    λ b ps ready lanes.
    subst (λ (k : BusCounts). BusCalled (mini_on a.rerouters.now a.bus_wires.now a.ports.now a.held b) a.rerouters.now a.bus_wires.now a.ports.now t.new.rerouters t.new.bus_wires u.new.ports (Ok (record { bus = k; groups = 0 })))
    (sym u.ensures.is)
    (mini_laid a.rerouters.now a.bus_wires.now a.ports.now a.held b few ready t.new.rerouters t.new.bus_wires t.result _ (t.ensures.turned_as b ready.known.sections) c.in_ok-count.was ps lanes u.new.ports u.result.ports u.ensures.ports_settled)
