use native.Mathlib.Omega.{arith}
use mathlib.Core.Path.{sym, ap, ◌∙◌}
use Prim.Native.Nat.{ℕ}
use lib.ListN.{length}
use Rattle.routes.specs.Corners.{turnable}
use Rattle.routes_corners.specs.Turning.{has_room}
use Rattle.routes_corners.proofs.HandedLaws.{mutes_in}
use Rattle.routes_calls.specs.Mini.{bus_given}
use Rattle.routes_calls.proofs.MiniLaws.{held_within, unheld, held_fits_lem}
use Rattle.routes_calls.proofs.mini.held_fits.Goals as goal

pub returns-then-not-holds : goal.returns-then-not-holds
returns-then-not-holds c = let a = c.args in
    λ b known. sym (unheld a.rerouters.now a.bus_wires.now a.ports.now a.held b (sym c.holds.ensures ∙ c.if-not-holds.true))

pub has_room_to_turn-requires : goal.has_room_to_turn-requires
has_room_to_turn-requires c = let a = c.args in
    let w = held_within a.held (length a.rerouters.now) (length a.bus_wires.now) (length a.ports.now) (sym c.holds.ensures ∙ c.if-not-holds.false) in
    let f = c.requires.1.fits in
    (f.wires_few, f.ends_long, w.2, omega (arith, w.0, c.well_formed), omega (arith, w.1, c.well_formed), f.ports)

pub returns : goal.returns
returns c = let a = c.args in
    λ b known.
    let bus = bus_given a.rerouters.now a.bus_wires.now a.ports.now a.held in
    c.has_room_to_turn.ensures b bus a.s.pages.now known.sections (mutes_in b a.rerouters.now a.bus_wires.now a.ports.now a.held)
    ∙ ap (λ (n : ℕ). has_room n a.held (turnable b bus)) (ap length (sym known.sections.wires_are))
    ∙ sym (held_fits_lem a.rerouters.now a.bus_wires.now a.ports.now a.held b (sym c.holds.ensures ∙ c.if-not-holds.false))
