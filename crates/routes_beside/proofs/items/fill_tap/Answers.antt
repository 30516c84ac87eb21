-- `fill_tap` meets its contract. Assumes nothing.
use Rattle.std.proofs.Common.{sym, ◌∙◌, eqb-true}
use Rattle.routes_taps.specs.Asking.{source_in, gate_side_in}
use Rattle.routes_beside.proofs.Filled.{asked_room, spot_fits}
use Rattle.routes_beside.proofs.items.fill_tap.Goals as goal

pub asked_item-requires : goal.asked_item-requires
asked_item-requires c =
    let a = c.args in
    let p = c.requires.bases in
    (λ z e. spot_fits a.bases.now _ _ z (sym e ∙ c.then_some.ensures) (λ y. asked_room a.nodes.now a.bases.now p.0 p.1 (source_in a.laid.now a.asked.now a.k) (c.requires.tap_askable.source (eqb-true _ _ y))), p.1)

pub asked_item-requires-2 : goal.asked_item-requires-2
asked_item-requires-2 c =
    let a = c.args in
    let p = c.requires.bases in
    (λ z e. spot_fits a.bases.now _ _ z (sym e ∙ c.then_some-2.ensures) (λ y. asked_room a.nodes.now a.bases.now p.0 p.1 (gate_side_in a.laid.now a.asked.now a.k) (c.requires.tap_askable.gate_side (eqb-true _ _ y))), p.1)
