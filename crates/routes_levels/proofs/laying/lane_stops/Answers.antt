-- `lane_stops` meets its contract: it starts from no stops. Assumes nothing.
use mathlib.Core.Path.{◌≡◌, sym, subst}
use lib.Dec.{lit≤}
use lib.ListN.{length, replicate}
use Rattle.routes_levels.specs.Laying.{no_end, StopIndex}
use Rattle.routes_levels.specs.declared.laying.GroupEnd.{GroupEnd}
use Rattle.routes_levels.proofs.LayLaws.{no_index}
use Rattle.routes_levels.proofs.laying.lane_stops.Goals as goal

pub fill_stops-requires : goal.fill_stops-requires
fill_stops-requires c = let taps = c.args.laid.taps.now in
    let none = c.default-ends.ensures in
    let is : no_end ≡ c.default-ends.result = λ w. record { previous = sym none.0 w; kept = sym none.1 w } in
    (c.requires.0, subst (λ (e : GroupEnd). StopIndex (length taps) c.args.stops.now (replicate 8192 e) 0) is (no_index 8192 (length taps) c.args.stops.now c.requires.1 (lit≤ tt)))
