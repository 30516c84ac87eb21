-- `fill_page` meets its contract: each turn lays a tap of the page, whose runs have room for its level. Assumes nothing.
use Prim.Native.Nat.{◌+◌, ◌<◌, ◌≤◌}
use native.Mathlib.Omega.{arith}
use mathlib.Core.Path.{sym, subst, ◌∙◌}
use Rattle.base.specs.Views.{view}
use Rattle.board.specs.Board.{field}
use Rattle.routes.specs.Tables.{stop_in}
use Rattle.routes_levels.specs.Pages.{PageRuns, RoomFor}
use Rattle.routes_levels.proofs.LayLaws.{stops_all}
use Rattle.routes_levels.proofs.Paging.{facts_fewer, index_kept, page_same, page_room_lem, page_used}
use Rattle.routes_levels.proofs.laying.fill_page.Goals as goal

pub lay_tap-count-requires-clause-page_runs : goal.lay_tap-count-requires-clause-page_runs
lay_tap-count-requires-clause-page_runs c = let l = c.loop-k in
    let i = l.invariant in
    let h : l.k < c.args.e = omega (arith, c.loop-k-test.true) in
    let laid = c.args.laid.taps.now in
    subst (λ starts. PageRuns (field laid l.k 0) (view stop_in l.stops l.count) starts l.runs.nexts l.runs.xs × RoomFor (field laid l.k 2) (field c.args.laid.groups.now (field laid l.k 1) 4) starts l.runs.nexts) (sym i.2)
    (page_same (sym (c.requires.laid_fits.1.same l.k l.auto.k h)) i.3, page_room_lem c.args.laid.groups.now laid c.args.a l.k c.args.runs.now.starts l.runs.nexts l.auto.k c.args.e h c.requires.laid_fits.0.places c.requires.wide.0 i.4)

pub loop-k-preserved : goal.loop-k-preserved
loop-k-preserved c = let l = c.loop-k in
    let i = l.invariant in
    let h : l.k < c.args.e = omega (arith, c.loop-k-test.true) in
    let m : l.k + 1 ≤ c.args.e = omega arith in
    let tap = c.lay_tap-count in
    let laid = tap.ensures.stop_laid in (
      tap.ensures.upper_bound.0,
      index_kept i.1 tap.auto.stops tap.auto.ends laid.lasts,
      tap.ensures.starts_kept ∙ i.2,
      subst (λ starts. PageRuns (field c.args.laid.taps.now c.args.a 0) (view stop_in tap.new.stops tap.result) starts tap.new.runs.nexts tap.new.runs.xs) i.2 (page_same (c.requires.laid_fits.1.same l.k l.auto.k h) laid.held),
      page_used c.args.laid.groups.now c.args.laid.taps.now c.args.a l.k c.args.runs.now.starts l.runs.nexts l.auto.k _ i.4 laid.onward,
      λ b ps f g. tap.ensures.upper_bound.1 b ps (facts_fewer m f) (i.5 b ps f g),
    )

pub returns-clause-upper_bound : goal.returns-clause-upper_bound
returns-clause-upper_bound c = let l = c.loop-k in
    let i = l.invariant in
    let within : l.k ≤ c.args.e = omega (arith, l.auto.k-end, c.requires.laid_fits.2) in
    (omega (arith, i.0), λ b ps f g. stops_all b ps _ _ _ _ within c.loop-k-test.false (i.5 b ps f g))
