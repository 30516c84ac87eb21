-- The runs of a page made: its taps counted, the counts summed up, and nothing held yet.
use Prim.Native.Nat.{ℕ, ◌+◌, ◌-◌, ◌<◌}
use mathlib.Core.Path.{◌≡◌}
use native.Mathlib.Omega.{arith}
use lib.Dec.{lit≤}
use lib.ListN.{length, replicate, get_or}
use Rattle.base.specs.Runs.{sums}
use Rattle.base.specs.Views.{view}
use Rattle.board.specs.Board.{field}
use Rattle.routes.specs.Tables.{stop_in}
use Rattle.routes_levels.specs.Pages.{KEYS}
use Rattle.routes_levels.proofs.PageLaws.{runs_start}
use Rattle.routes_levels.proofs.ShareLaws.{counted_few, growing_start}
use Rattle.routes_levels.proofs.Paging.{zero_all}
use Rattle.routes_levels.proofs.laying.lay_page.Goals as goal

pub count_taps-requires-clause-a_le_e : goal.count_taps-requires-clause-a_le_e
count_taps-requires-clause-a_le_e c = (c.requires.laid_fits.2, omega arith, zero_all 4609)

pub fill_page-requires-clause-page_runs : goal.fill_page-requires-clause-page_runs
fill_page-requires-clause-page_runs c = let t = c.count_taps in
    let u = c.sum_up in
    let counts = t.new.counts in
    let starts = u.new.starts in
    let ends = t.auto.counts in
    let summed : (k : ℕ) → k < KEYS + 1 → get_or starts k 0 ≡ sums (λ j. get_or counts j 0) k = λ k h. u.ensures.by_index k (omega (arith, h, ends)) in
    let long : KEYS < length starts = omega (arith, u.auto.starts, ends) in
    let groups = c.args.laid.groups.now in
    let laid = c.args.laid.taps.now in
    let a = c.args.a in
    runs_start (field laid a 0) (view stop_in c.args.stops.now c.args.s) starts (replicate 16384 0)
    (growing_start groups laid a (c.args.e - a) counts starts (replicate 16384 0) t.ensures.by_index summed long (counted_few _ a c.args.e 16384 (t.ensures.by_index_2 4608) c.requires.laid_fits.0.places.most (lit≤ tt))) (omega arith) c.requires.none_from
