-- `gather_targets` meets its contract: each turn writes the key of a delivery's target, or passes what is none. Assumes nothing.
use Prim.Native.Nat.{ℕ}
use native.Mathlib.Omega.{arith}
use mathlib.Core.Path.{sym, ap, subst, ◌∙◌}
use mathlib.Core.List.{List}
use Rattle.routes_ports.proofs.Filling.{sent_below, SentLeft, sent_start, sent_pass, sent_room, sent_more, filled_count, filled_front}
use Rattle.routes_ports.proofs.settle.gather_targets.Goals as goal

pub loop-wire-init : goal.loop-wire-init
loop-wire-init c = sent_start c.args.bus_wires.now _ c.args.keys.now ((λ z. (c.into_iter-wire-iterator.ensures.into_iter_gives z).iter.rest.now) ∙ (λ z. (c.rev-wire-items.ensures.source z).rest.now) ∙ c.iter.ensures.rest) c.requires

pub bounds-keys-n : goal.bounds-keys-n
bounds-keys-n c =
    let s = subst (λ (rest : List (List ℕ)). SentLeft c.args.bus_wires.now c.args.keys.now c.loop-wire.keys c.loop-wire.n rest) c.in-Some.ensures.steps c.loop-wire.invariant in
    sent_room c.next.new.self.iter.rest.now c.in-Some.wire.now s (sym c.delivers.ensures ∙ c.if-delivers.true) c.port_key.result c.port_key.ensures

pub offset_bounds-keys-n : goal.offset_bounds-keys-n
offset_bounds-keys-n c =
    let s = subst (λ (rest : List (List ℕ)). SentLeft c.args.bus_wires.now c.args.keys.now c.loop-wire.keys c.loop-wire.n rest) c.in-Some.ensures.steps c.loop-wire.invariant in
    let r = sent_room c.next.new.self.iter.rest.now c.in-Some.wire.now s (sym c.delivers.ensures ∙ c.if-delivers.true) c.port_key.result c.port_key.ensures in
    omega (arith, r)

pub overflow_add-n : goal.overflow_add-n
overflow_add-n c =
    let s = subst (λ (rest : List (List ℕ)). SentLeft c.args.bus_wires.now c.args.keys.now c.loop-wire.keys c.loop-wire.n rest) c.in-Some.ensures.steps c.loop-wire.invariant in
    let r = sent_room c.next.new.self.iter.rest.now c.in-Some.wire.now s (sym c.delivers.ensures ∙ c.if-delivers.true) c.port_key.result c.port_key.ensures in
    omega (arith, r)

pub loop-wire-preserved-then-delivers : goal.loop-wire-preserved-then-delivers
loop-wire-preserved-then-delivers c =
    let s = subst (λ (rest : List (List ℕ)). SentLeft c.args.bus_wires.now c.args.keys.now c.loop-wire.keys c.loop-wire.n rest) c.in-Some.ensures.steps c.loop-wire.invariant in
    sent_more c.next.new.self.iter.rest.now c.in-Some.wire.now s (sym c.delivers.ensures ∙ c.if-delivers.true) c.port_key.result c.port_key.ensures

pub loop-wire-preserved : goal.loop-wire-preserved
loop-wire-preserved c =
    let s = subst (λ (rest : List (List ℕ)). SentLeft c.args.bus_wires.now c.args.keys.now c.loop-wire.keys c.loop-wire.n rest) c.in-Some.ensures.steps c.loop-wire.invariant in
    sent_pass c.next.new.self.iter.rest.now c.in-Some.wire.now s (sym c.delivers.ensures ∙ c.if-delivers.false)

pub returns-clause-value : goal.returns-clause-value
returns-clause-value c = filled_count c.loop-wire.invariant.filled (ap (sent_below c.args.bus_wires.now) c.in-None.ensures.steps.0)

pub returns-clause-keys_after : goal.returns-clause-keys_after
returns-clause-keys_after c = filled_front c.loop-wire.invariant.filled (ap (sent_below c.args.bus_wires.now) c.in-None.ensures.steps.0)
