-- `decide_corners` meets its contract: listed, ordered and answered in turn, the wires have their levels. Assumes nothing.
use Rattle.std.proofs.Common.{◌≡◌, ℕ, ◌+◌, ◌≤◌, subst, length, take, length-take-le, ◌∙◌, arith}
use lib.ListN.{length-replicate, get_or-replicate}
use Rattle.base.specs.Runs.{key_in, order_in, Ordered}
use Rattle.routes_rows.specs.Notes.{NOTES}
use Rattle.routes_corners.proofs.Answering.{keys_few, turns_fit, levels_held}
use Rattle.routes_corners.proofs.decide.decide_corners.Goals as goal

pub order_by_key-count-requires : goal.order_by_key-count-requires
order_by_key-count-requires c = let a = c.args in
    let f = c.fill_corners in
    let room = c.requires.decide_room in
    let ok = c.requires.bricks_askable.few in
    let long : length f.new.items ≡ length a.t.s.nodes.now + length a.rerouters.now + length a.t.list.now = f.auto.items ∙ length-take-le _ a.items.now room.on_items in
    (omega (arith, long, room.few), omega (arith, ok), λ i h. keys_few a.t.s.nodes.now a.t.facts.now a.t.classes.now a.t.list.now (length a.t.list.now) a.rerouters.now (length a.rerouters.now) f.new.items c.requires.bricks_askable c.requires.turns_listed f.ensures.items_stored i (omega (arith, h, long)))

pub turn_rows-requires : goal.turn_rows-requires
turn_rows-requires c = let a = c.args in
    let f = c.fill_corners in
    let o = c.order_by_key-count in
    let room = c.requires.decide_room in
    let cut = length-take-le (length a.t.s.nodes.now + length a.rerouters.now + length a.t.list.now) a.items.now room.on_items in
    turns_fit a.t.s.nodes.now a.t.facts.now a.t.classes.now a.t.list.now (length a.t.list.now) a.rerouters.now (length a.rerouters.now) f.new.items c.requires.bricks_askable c.requires.turns_listed f.ensures.items_stored o.new.rows o.ensures.same_but_order o.result
    (subst (λ (n : ℕ). o.result ≤ n) (f.auto.items ∙ cut) o.ensures.upper_bound.0)
    (subst (λ (n : ℕ). Ordered (key_in f.new.items) (order_in o.new.rows) (length a.t.s.nodes.now) n o.result) (f.auto.items ∙ cut) o.ensures.upper_bound.1)
    (take (length a.t.s.nodes.now + length a.rerouters.now + length a.t.list.now) a.items.now) a.answers.now
    (record { rerouters_there = room.rerouters_there; few = room.few; on_items = omega (arith, cut); on_answers = room.on_answers })
    (o.ensures.same_but_order.long ∙ f.auto.items) _ (simp length-replicate (omega arith)) (λ k h. get_or-replicate NOTES k 0 0 h)

pub returns : goal.returns
returns c = let a = c.args in
    let f = c.fill_corners in
    let o = c.order_by_key-count in
    let t = c.turn_rows in
    let long = f.auto.items ∙ length-take-le (length a.t.s.nodes.now + length a.rerouters.now + length a.t.list.now) a.items.now c.requires.decide_room.on_items in
    λ b bus pages wires of. levels_held a.t.s.nodes.now a.t.facts.now a.t.classes.now a.t.list.now (length a.t.list.now) a.rerouters.now (length a.rerouters.now) f.new.items c.requires.bricks_askable c.requires.turns_listed f.ensures.items_stored o.new.rows o.ensures.same_but_order o.result
    (subst (λ (n : ℕ). o.result ≤ n) long o.ensures.upper_bound.0)
    (subst (λ (n : ℕ). Ordered (key_in f.new.items) (order_in o.new.rows) (length a.t.s.nodes.now) n o.result) long o.ensures.upper_bound.1)
    b bus pages wires of (f.ensures.corner_items b bus pages wires of)
    a.answers.now t.new.answers c.requires.decide_room.on_answers t.ensures
