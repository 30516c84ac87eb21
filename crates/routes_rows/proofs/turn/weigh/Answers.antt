-- `weigh` meets its contract: the ends tell of the whole row, are spread, and are cleared behind the decision. Assumes nothing.
use Rattle.std.proofs.Common.{refl, sym, arith, length-take-le}
use Rattle.routes_rows.proofs.Deciding.{spannable, blockable, room_in, seekable, room, weighed}
use Rattle.routes_rows.proofs.turn.weigh.Goals as goal

pub span_of-span-requires : goal.span_of-span-requires
span_of-span-requires c = spannable _ _ _ _ c.requires

pub block_rest-requires : goal.block_rest-requires
block_rest-requires c = blockable _ _ _ _ c.requires _ c.span_of-span.ensures

pub slice_bounds-spread-end : goal.slice_bounds-spread-end
slice_bounds-spread-end c = room_in _ _ _ _ c.requires _ c.span_of-span.ensures _ c.levels_in-count.ensures _ c.block_rest.ensures.0

pub slice_bounds-spread-end-2 : goal.slice_bounds-spread-end-2
slice_bounds-spread-end-2 c = sym (length-take-le _ _ (room_in _ _ _ _ c.requires _ c.span_of-span.ensures _ c.levels_in-count.ensures _ c.block_rest.ensures.0))

pub corner_level-found-requires : goal.corner_level-found-requires
corner_level-found-requires c = let b = c.block_rest.ensures in seekable _ _ _ _ c.requires _ c.span_of-span.ensures _ c.levels_in-count.ensures _ _ b.0 b.1 b.2 c.spread.ensures

pub slice_bounds-fill-end : goal.slice_bounds-fill-end
slice_bounds-fill-end c = let b = c.block_rest.ensures in room _ _ _ _ c.requires _ c.span_of-span.ensures _ c.levels_in-count.ensures _ _ b.0 b.1 b.2 c.spread.ensures _ _ c.corner_level-found.ensures

pub slice_bounds-fill-end-2 : goal.slice_bounds-fill-end-2
slice_bounds-fill-end-2 c = let b = c.block_rest.ensures in
    sym (length-take-le _ _ (room _ _ _ _ c.requires _ c.span_of-span.ensures _ c.levels_in-count.ensures _ _ b.0 b.1 b.2 c.spread.ensures _ _ c.corner_level-found.ensures))

pub returns : goal.returns
returns c = let b = c.block_rest.ensures in
    weighed _ _ _ _ c.requires _ c.span_of-span.ensures _ c.levels_in-count.ensures _ _ b.0 b.1 b.2 c.spread.ensures _ _ c.corner_level-found.ensures _ c.fill.ensures.len (λ k low. c.fill.ensures.clones k 0 low refl) (omega (arith, c.span_of-span.type_inv))
