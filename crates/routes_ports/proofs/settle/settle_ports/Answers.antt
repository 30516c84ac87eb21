-- `settle_ports` meets its contract: gathered, sorted, written once each. Assumes nothing.
use Prim.Native.Nat.{ℕ, ◌-◌, ◌≤◌}
use mathlib.Core.Path.{◌≡◌, sym, ap, ◌∙◌, subst}
use mathlib.Core.List.{List, map}
use native.Mathlib.Omega.{arith}
use lib.ListN.{length, drop, length-drop}
use lib.Seq.{length-take-le}
use Rattle.base.specs.Views.{view}
use Rattle.routes.specs.Buffers.{wire_in}
use Rattle.routes_ports.specs.Ports.{targets}
use Rattle.routes_ports.specs.Settling.{wires_from, key_port, unique, settled, ports_over}
use Rattle.routes_ports.proofs.Filling.{wires_all}
use Rattle.routes_ports.proofs.SetLaws.{settled_once}
use Rattle.routes_ports.proofs.settle.settle_ports.Goals as goal

gathered : (wires : List (List ℕ)) → targets (view wire_in wires (length wires)) ≡ targets (wires_from wires 0 (length wires - 0))
gathered wires = ap targets (wires_all wires)

pub gather_targets-n-requires : goal.gather_targets-n-requires
gather_targets-n-requires c = omega (arith, ap length (gathered c.args.bus_wires.now), c.requires.few)

pub add_ports-requires : goal.add_ports-requires
add_ports-requires c =
    let n = c.gather_targets-n.result in
    let g = c.gather_targets-n.new.keys in
    omega (arith, length-take-le c.args.u c.args.ports.now c.requires.given, length-take-le (8192 - n) (drop n g) (omega (arith, length-drop n g, c.gather_targets-n.auto.keys)), c.gather_targets-n.ensures.value, ap length (gathered c.args.bus_wires.now), c.requires.few)

once : (c : goal.After-write_once_each-arg-1) → unique (map key_port c.sort_keys.new.keys) ≡ settled c.args.bus_wires.now 0 (length c.args.bus_wires.now) c.args.ports.now c.args.u
once c =
    let n = c.gather_targets-n.result in
    let g = c.gather_targets-n.new.keys in
    let few = ap length (gathered c.args.bus_wires.now) in
    settled_once c.args.bus_wires.now 0 (length c.args.bus_wires.now) c.args.ports.now c.args.u n g c.add_ports.new.keys _ c.sort_keys.new.keys
    (omega (arith, few, c.gather_targets-n.ensures.value, c.requires.few, c.gather_targets-n.auto.keys)) c.requires.given
    (omega (arith, few, c.gather_targets-n.ensures.value, c.requires.few, c.add_ports.auto.keys, length-take-le (8192 - n) (drop n g) (omega (arith, length-drop n g, c.gather_targets-n.auto.keys))))
    (c.gather_targets-n.ensures.keys_after ∙ gathered c.args.bus_wires.now) c.add_ports.ensures c.sort_keys.ensures

pub write_once_each-requires : goal.write_once_each-requires
write_once_each-requires c = subst (λ l. length l ≤ length c.args.ports.now) (sym (once c)) c.requires.fits

pub returns : goal.returns
returns c = record {
  count = c.write_once_each.ensures.value ∙ ap length (once c.before.before.before);
  rows = c.write_once_each.ensures.ports_after ∙ ap (λ l. ports_over l c.args.ports.now) (once c.before.before.before);
}
