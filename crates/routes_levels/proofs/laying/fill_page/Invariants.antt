-- The stops of a page, tap by tap. The invariant: the stops so far are those of the taps passed, and the runs hold what they keep.
use Prim.Native.Nat.{◌-◌, ◌≤◌}
use mathlib.Core.Path.{◌≡◌}
use mathlib.Core.List.{List}
use Rattle.base.specs.Views.{view}
use Rattle.board.specs.Board.{Board, field}
use Rattle.board.specs.Demands.{PageLanes}
use Rattle.board.specs.Tables.{tap_in}
use Rattle.routes.specs.Levels.{stops_of}
use Rattle.routes.specs.Tables.{stop_in}
use Rattle.routes_levels.specs.Laying.{StopIndex, LaidFacts}
use Rattle.routes_levels.specs.Pages.{PageRuns, Used}
use Rattle.routes_levels.proofs.laying.fill_page.Given as goal

abbrev pub invariant-loop-k : goal.invariant-loop-k
invariant-loop-k l = (l.count ≤ l.k)
    × StopIndex l.e l.stops l.ends l.count
    × (l.runs.starts ≡ l.initial.runs.starts)
    × PageRuns (field l.laid.taps.now l.a 0) (view stop_in l.stops l.count) l.initial.runs.starts l.runs.nexts l.runs.xs
    × Used l.laid.groups.now l.laid.taps.now l.a (l.k - l.a) l.initial.runs.starts l.runs.nexts
    × ((b : Board) (ps : List PageLanes) → LaidFacts b ps l.laid.facts.now l.laid.groups.now l.laid.taps.now l.e → view stop_in l.initial.stops l.initial.count ≡ stops_of b ps (view tap_in l.laid.taps.now l.a) → view stop_in l.stops l.count ≡ stops_of b ps (view tap_in l.laid.taps.now l.k))
