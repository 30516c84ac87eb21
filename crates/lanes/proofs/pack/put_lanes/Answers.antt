use mathlib.Core.Path.{refl, ap, ◌∙◌}
use native.Mathlib.Omega.{arith}
use mathlib.Core.List.{[]}
use lib.ListN.{get_or, set}
use Rattle.std.proofs.lemmas.List.{get_or_default}
use Rattle.lanes.specs.Keys.{index_in, lane_in, spread}
use Rattle.lanes.proofs.SpreadLaws.{spread_more}
use Rattle.lanes.proofs.pack.put_lanes.Goals as goal

pub loop-key-init : goal.loop-key-init
unfolding spread
loop-key-init g c = λ none. refl

pub loop-key-preserved : goal.loop-key-preserved
loop-key-preserved g c = λ none.
    let key = get_or c.args.keys.now c.loop-key.key-index [] in
    let i = index_in key in
    ap (λ place. set c.loop-key.places i place) (c.put_lane.ensures ∙ ap (λ place. g.P.Place.with_lane place (lane_in key)) (get_or_default c.loop-key.places i c.index-places-key.result none (omega (arith, c.requires c.loop-key.key-index c.loop-key-test.true))))
    ∙ spread_more g.P.Place.with_lane none c.args.keys.now c.loop-key.key-index c.args.places.now c.loop-key.places (c.loop-key.invariant none) (omega arith) i refl
