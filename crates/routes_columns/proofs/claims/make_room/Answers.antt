-- `make_room` meets its contract: the counts of stops and taps summed up. Assumes nothing.
use Prim.Native.Nat.{◌+◌, ◌*◌, ◌≤◌}
use mathlib.Core.Path.{ap, ◌∙◌}
use native.Mathlib.Omega.{arith}
use lib.ListN.{length, get_or, take}
use lib.Seq.{length-take-le}
use Rattle.base.specs.Runs.{sums}
use Rattle.base.proofs.RunLaws.{having_most, front_sums, front_summed}
use Rattle.routes_columns.specs.Columns.{stop_key}
use Rattle.routes_columns.proofs.Rooms.{counts_room, room_most}
use Rattle.routes_columns.proofs.claims.make_room.Goals as goal

pub count_taps-requires : goal.count_taps-requires
count_taps-requires c = let a = c.args in
    let p = c.requires.few_stops in
    let k = c.count_stops in record {
      few_taps = (p.1, omega (arith, p.3, k.auto.counts), p.4);
      by_index = λ j. omega (arith, k.ensures j, having_most (stop_key a.pages a.stops.now) j (length a.stops.now), p.0, p.1);
    }

pub sum_up-requires : goal.sum_up-requires
sum_up-requires c = let a = c.args in
    let p = c.requires.few_stops in
    let k = c.count_stops in
    let l = c.count_taps in
    let m = a.pages * 512 + 2 in
    let fit : m ≤ length l.new.counts = omega (arith, p.2, p.3, k.auto.counts, l.auto.counts) in
    let sum = counts_room a.pages a.laid.groups.now a.laid.taps.now (length a.laid.taps.now) a.stops.now (length a.stops.now) k.new.counts l.new.counts k.ensures l.ensures m in
    let most = room_most a.pages a.laid.groups.now a.laid.taps.now (length a.laid.taps.now) a.stops.now (length a.stops.now) m in
    omega (arith, ap (sums (λ j. get_or (take m l.new.counts) j 0)) (length-take-le m l.new.counts fit), front_sums l.new.counts m m (omega arith), sum, most, p.0, p.1)

pub returns : goal.returns
returns c = let a = c.args in
    let p = c.requires.few_stops in
    let k = c.count_stops in
    let l = c.count_taps in
    λ j h.
    front_summed l.new.counts (a.pages * 512 + 2) (omega (arith, p.2, p.3, k.auto.counts, l.auto.counts)) _ c.sum_up.auto.starts c.sum_up.ensures.by_index j (omega arith)
    ∙ counts_room a.pages a.laid.groups.now a.laid.taps.now (length a.laid.taps.now) a.stops.now (length a.stops.now) k.new.counts l.new.counts k.ensures l.ensures j
