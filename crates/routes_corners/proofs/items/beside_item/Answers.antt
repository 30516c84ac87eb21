-- `beside_item` meets its contract: a rerouter's item, by the test on it. Assumes nothing.
use Rattle.std.proofs.Common.{sym, ◌∙◌}
use Rattle.routes.specs.Buffers.{rerouter_in}
use Rattle.routes_corners.proofs.Listing.{beside_room, beside_there, beside_absent}
use Rattle.routes_corners.proofs.items.beside_item.Goals as goal

pub item-requires : goal.item-requires
item-requires c = let a = c.args in let both = beside_room a.nodes.now a.bases.now a.counts.now c.requires.0 c.requires.1 c.requires.2 (rerouter_in a.k) _ _ c.inward-x.ensures c.inward-y.ensures (sym c.is_beside.ensures ∙ c.if-is_beside.true) in record {
  page_in_bounds = both.0;
  half_x_bound = both.1;
}

pub returns-then-is_beside : goal.returns-then-is_beside
returns-then-is_beside c = let a = c.args in
    beside_there a.nodes.now a.bases.now a.counts.now c.requires.0 c.requires.1 c.requires.2 (rerouter_in a.k) _ _ c.inward-x.ensures c.inward-y.ensures (sym c.is_beside.ensures ∙ c.if-is_beside.true) c.item.result c.item.ensures

pub returns : goal.returns
returns c = let a = c.args in
    beside_absent a.nodes.now a.bases.now a.counts.now c.requires.0 c.requires.1 c.requires.2 (rerouter_in a.k) _ _ c.inward-x.ensures c.inward-y.ensures (sym c.is_beside.ensures ∙ c.if-is_beside.false) c.no_item.result c.no_item.ensures
