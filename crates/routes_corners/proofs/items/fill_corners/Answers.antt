-- `fill_corners` meets its contract: all items, filled in one kind after the other. Assumes nothing.
use Rattle.routes_corners.proofs.Listing.{items_stored, items_held}
use Rattle.routes_corners.proofs.items.fill_corners.Goals as goal

pub returns-clause-corner_items : goal.returns-clause-corner_items
returns-clause-corner_items c = let a = c.args in
    let stored =
    items_stored a.t.s.nodes.now a.t.facts.now a.t.classes.now a.t.list.now _ a.rerouters.now _ c.fill_bricks.new.items c.fill_beside.new.items c.fill_questions.new.items
    c.requires.turns_listed c.fill_bricks.ensures c.fill_beside.ensures.by_index c.fill_beside.ensures.by_index_2 c.fill_questions.ensures.by_index c.fill_questions.ensures.by_index_2 in
    λ b bus pages wires of. items_held b bus pages a.t.s.nodes.now wires a.t.facts.now a.t.classes.now a.t.list.now _ a.rerouters.now _ _ of c.requires.bricks_askable c.requires.turns_listed stored
