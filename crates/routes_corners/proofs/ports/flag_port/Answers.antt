-- `flag_port` meets its contract: the class of the wire at the port's place gets its flag if the wire leads to the port; else no wire does. Assumes nothing.
use Rattle.std.proofs.Common.{◌≡◌, ℕ, ◌+◌, ◌*◌, ◌%◌, ◌<◌, ◌≤◌, List, length, get_or, take, length-take-le, get_or-take, sym, ap, ◌∙◌, subst, arith, rules}
use Rattle.base.specs.Keys.{Rising, FirstNotBelow}
use Rattle.routes.specs.Buffers.{port_in}
use Rattle.routes_corners.specs.Ports.{wire_at, goes_to, Ported}
use Rattle.routes_corners.proofs.PortLaws.{port_nowhere, flag_none, flag_found}
use Rattle.routes_corners.proofs.ports.flag_port.Goals as goal

-- The keys of the wires alone are in rising order.
rising_in : {wires : List (List ℕ)} {classes keys : List ℕ} → Ported wires classes keys → Rising (take (length wires) keys) (length (take (length wires) keys))
rising_in {wires = wires} {keys = keys} k i j b c =
    let n = length wires in
    let long = length-take-le n keys k.keyed.long in
    rw (get_or-take n keys i 0 (omega (arith, b, c, long)), get_or-take n keys j 0 (omega (arith, c, long))) (k.keyed.rising i j b (omega (arith, c, long)))

-- A place among them is one among all keys.
first_in : {wires : List (List ℕ)} {classes keys : List ℕ} {key p : ℕ} → Ported wires classes keys → FirstNotBelow (take (length wires) keys) (length (take (length wires) keys)) key p
    → FirstNotBelow keys (length wires) key p
first_in {wires = wires} {keys = keys} {key = key} {p = p} k f =
    let n = length wires in
    let long = length-take-le n keys k.keyed.long in
    record {
      within = omega (arith, f.within, long);
      before = λ i h. subst (λ (v : ℕ). v < key) (get_or-take n keys i 0 (omega (arith, h, f.within, long))) (f.before i h);
      here = λ h. subst (λ (v : ℕ). key ≤ v) (get_or-take n keys p 0 h) (f.here (omega (arith, h, long)));
    }

-- The wire whose key is read at a place among them, and its class.
record Read (wires : List (List ℕ)) (classes keys : List ℕ) (p w : ℕ) : Type 0 where
  place : p < length wires
  is : w ≡ wire_at keys p
  wire : w < length wires
  class : get_or classes w 0 < length wires

read : {wires : List (List ℕ)} {classes keys : List ℕ} → Ported wires classes keys → (p w found : ℕ) → p < length (take (length wires) keys) → found ≡ get_or (take (length wires) keys) p 0 → w ≡ found % 8192
    → Read wires classes keys p w
read {wires = wires} {keys = keys} k p w found low at behind =
    let n = length wires in
    let here : p < n = omega (arith, low, length-take-le n keys k.keyed.long) in
    let same : w ≡ wire_at keys p = behind ∙ ap (λ (v : ℕ). v % 8192) (at ∙ get_or-take n keys p 0 here) in
    let there : w < n = omega (arith, same, (k.keyed.comes p here).0) in
    record { place = here; is = same; wire = there; class = omega (arith, there, k.classed.low w there) }

pub seek_key-p-requires : goal.seek_key-p-requires
seek_key-p-requires c = let k = c.requires.ported in (omega (arith, c.requires.from_in_bounds, length-take-le (length c.args.t.wires.now) c.args.t.keys.now k.keyed.long), rising_in k)

pub returns-in_default : goal.returns-in_default
returns-in_default c = let a = c.args in
    let k = c.requires.ported in
    let beyond : length (take (length a.t.wires.now) a.t.keys.now) ≤ c.seek_key-p.result = search rules in
    let first = first_in k c.seek_key-p.ensures in record {
      upper_bound = first.within;
      by_index = λ test h. flag_none a.t.wires.now a.t.classes.now a.flags.now k.classed (port_in a.port) test h
          (port_nowhere a.t.wires.now a.t.keys.now k.keyed (get_or a.port 0 0) (get_or a.port 1 0) c.with_number-key.result c.seek_key-p.result (c.with_number-key.ensures ∙ ap (λ (v : ℕ). v * 8192 + 0) c.port_key.ensures) first
          (λ b. absurd (omega (arith, beyond, b, length-take-le (length a.t.wires.now) a.t.keys.now k.keyed.long))));
    }

pub bounds-flags-t : goal.bounds-flags-t
bounds-flags-t c = let a = c.args in
    let here : c.in-Some.found.now ≡ get_or (take (length a.t.wires.now) a.t.keys.now) c.seek_key-p.result 0 = search rules in
    let low : c.seek_key-p.result < length (take (length a.t.wires.now) a.t.keys.now) = search rules in
    let r = read c.requires.ported _ _ _ low here c.number_behind-w.ensures in
    omega (arith, r.class, c.requires.port_room.flag_room)

pub returns-then-goes_to : goal.returns-then-goes_to
returns-then-goes_to c = let a = c.args in
    let here : c.in-Some.found.now ≡ get_or (take (length a.t.wires.now) a.t.keys.now) c.seek_key-p.result 0 = search rules in
    let low : c.seek_key-p.result < length (take (length a.t.wires.now) a.t.keys.now) = search rules in
    let r = read c.requires.ported _ _ _ low here c.number_behind-w.ensures in
    record {
      upper_bound = (first_in c.requires.ported c.seek_key-p.ensures).within;
      by_index = λ test h. flag_found a.t.wires.now a.t.classes.now a.flags.now c.requires.ported.classed (port_in a.port) test h c.requires.port_room.flag_room c.number_behind-w.result r.wire (sym c.goes_to.ensures ∙ c.if-goes_to.true);
    }

pub returns-else-goes_to : goal.returns-else-goes_to
returns-else-goes_to c = let a = c.args in
    let k = c.requires.ported in
    let here : c.in-Some.found.now ≡ get_or (take (length a.t.wires.now) a.t.keys.now) c.seek_key-p.result 0 = search rules in
    let low : c.seek_key-p.result < length (take (length a.t.wires.now) a.t.keys.now) = search rules in
    let r = read k _ _ _ low here c.number_behind-w.ensures in
    let first = first_in k c.seek_key-p.ensures in record {
      upper_bound = first.within;
      by_index = λ test h. flag_none a.t.wires.now a.t.classes.now a.flags.now k.classed (port_in a.port) test h
          (port_nowhere a.t.wires.now a.t.keys.now k.keyed (get_or a.port 0 0) (get_or a.port 1 0) c.with_number-key.result c.seek_key-p.result (c.with_number-key.ensures ∙ ap (λ (v : ℕ). v * 8192 + 0) c.port_key.ensures) first
          (λ b. ap (goes_to a.t.wires.now (port_in a.port)) (sym r.is) ∙ (sym c.goes_to.ensures ∙ c.if-goes_to.false)));
    }
