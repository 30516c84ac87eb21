-- `brick_item` meets its contract. Assumes nothing.
use Rattle.routes_beside.proofs.Filled.{brick_key, brick_ends, brick_is}
use mathlib.Core.Bool.{true, false}
use Rattle.routes_beside.proofs.items.brick_item.Goals as goal

pub item-requires : goal.item-requires
item-requires c = let there = c.if-page.false in record {
  page_in_bounds = brick_key _ _ _ _ c.requires.bricks_askable c.requires.bases.0 c.requires.bases.1 there;
  half_x_bound = brick_ends _ _ _ _ c.requires.bricks_askable c.requires.bases.0 c.requires.bases.1 there true c.if-rotation.true;
}

pub returns-then-rotation : goal.returns-then-rotation
returns-then-rotation c = let there = c.if-page.false in
    brick_is _ _ _ _ c.requires.bricks_askable c.requires.bases.0 c.requires.bases.1 there true c.if-rotation.true _ c.item.ensures

pub item-requires-2 : goal.item-requires-2
item-requires-2 c = let there = c.if-page.false in record {
  page_in_bounds = brick_key _ _ _ _ c.requires.bricks_askable c.requires.bases.0 c.requires.bases.1 there;
  half_x_bound = brick_ends _ _ _ _ c.requires.bricks_askable c.requires.bases.0 c.requires.bases.1 there false c.if-rotation.false;
}

pub returns : goal.returns
returns c = let there = c.if-page.false in
    brick_is _ _ _ _ c.requires.bricks_askable c.requires.bases.0 c.requires.bases.1 there false c.if-rotation.false _ c.item-2.ensures
