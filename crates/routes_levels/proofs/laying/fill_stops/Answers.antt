-- `fill_stops` meets its contract: each turn lays the stops of a page, up to where it ends. Assumes nothing.
use native.Mathlib.Omega.{arith}
use lib.ListN.{length}
use Rattle.routes_levels.proofs.LayLaws.{no_stops}
use Rattle.routes_levels.proofs.PageLaws.{none_yet}
use Rattle.routes_levels.proofs.Paging.{facts_fewer, index_kept, next_page}
use Rattle.routes_levels.proofs.laying.fill_stops.Goals as goal

pub loop-k-init : goal.loop-k-init
loop-k-init c = (omega arith, omega arith, c.requires.1, λ h. none_yet _, λ b ps f. no_stops b ps)

pub loop-k-preserved : goal.loop-k-preserved
loop-k-preserved c = let l = c.loop-k in
    let i = l.invariant in
    let p = c.page_end-e.ensures in
    let page = c.lay_page-count in (
      p.1,
      page.ensures.upper_bound.0,
      index_kept i.2 page.auto.stops page.auto.ends page.ensures.stop_index_2.0.lasts,
      λ h. next_page c.args.laid.groups.now c.args.laid.taps.now (length c.args.laid.taps.now) l.k c.page_end-e.result _ c.requires.0.places p.2 p.0 h (p.3 h) page.ensures.stop_index_2.1,
      λ b ps f. page.ensures.upper_bound.1 b ps (facts_fewer p.1 f) (i.4 b ps f),
    )
