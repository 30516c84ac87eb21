-- `class_ports` meets its contract: the keys are filled and sorted, and the classes taken along them. Assumes nothing.
use Rattle.std.proofs.Common.{◌≡◌, ℕ, ◌+◌, ◌*◌, ◌<◌, ◌≤◌, List, ◌++◌, length, get_or, take, drop, length-append, length-take-le, ◌∙◌, arith}
use Rattle.base.specs.Sort.{sorted_keys}
use Rattle.base.proofs.KeyLaws.{front_risen}
use Rattle.routes_corners.specs.Ports.{PortsLow, NUMBERS, wire_key, PortKeys}
use Rattle.routes_corners.proofs.PortLaws.{keys_sorted}
use Rattle.routes_corners.proofs.ports.class_ports.Goals as goal

-- The keys filled in, sorted.
keyed : (wires : List (List ℕ)) (filled front : List ℕ) → PortsLow wires → length wires ≤ NUMBERS → length wires ≤ length filled → length front ≡ length (take (length wires) filled)
    → ((w : ℕ) → w < length wires → get_or filled w 0 ≡ wire_key wires w * NUMBERS + w) → front ≡ sorted_keys (take (length wires) filled) → PortKeys wires (front ++ drop (length wires) filled)
keyed wires filled front low few room long is sorted =
    let all : length front ≡ length wires = long ∙ length-take-le (length wires) filled room in
    keys_sorted wires filled _ low few (omega (arith, all, length-append front (drop (length wires) filled))) (front_risen filled front _ room sorted) is

pub class_along-requires : goal.class_along-requires
class_along-requires c = let p = c.requires in
    let f = c.fill_keys in
    let s = c.sort_keys in
    (keyed c.args.wires.now f.new.keys s.new.keys p.ports_low.0 p.ports_low.1 (omega (arith, f.auto.keys, p.wires_in_bounds)) s.auto.keys f.ensures s.ensures, p.wires_in_bounds.0)

pub returns : goal.returns
returns c = let p = c.requires in
    let f = c.fill_keys in
    let s = c.sort_keys in
    record { keyed = keyed c.args.wires.now f.new.keys s.new.keys p.ports_low.0 p.ports_low.1 (omega (arith, f.auto.keys, p.wires_in_bounds)) s.auto.keys f.ensures s.ensures; classed = c.class_along.ensures }
