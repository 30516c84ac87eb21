-- The stops of the laid taps, page by page. The invariant: the stops so far are those of the taps passed, and none is of the page that comes.
use Prim.Native.Nat.{◌-◌, ◌<◌, ◌≤◌}
use mathlib.Core.Path.{◌≡◌}
use mathlib.Core.List.{List}
use lib.ListN.{length}
use Rattle.base.specs.Views.{view}
use Rattle.board.specs.Board.{Board, field}
use Rattle.board.specs.Demands.{PageLanes}
use Rattle.board.specs.Tables.{tap_in}
use Rattle.routes.specs.Levels.{stops_of}
use Rattle.routes.specs.Tables.{stop_in}
use Rattle.routes_levels.specs.Laying.{StopIndex, LaidFacts}
use Rattle.routes_levels.specs.Pages.{NoneFrom}
use Rattle.routes_levels.proofs.laying.fill_stops.Given as goal

abbrev pub invariant-loop-k : goal.invariant-loop-k
invariant-loop-k l = (l.k ≤ length l.laid.taps.now) × (l.count ≤ l.k)
    × StopIndex (length l.laid.taps.now) l.stops l.ends l.count
    × (l.k < length l.laid.taps.now → NoneFrom (field l.laid.taps.now l.k 0) (view stop_in l.stops l.count))
    × ((b : Board) (ps : List PageLanes) → LaidFacts b ps l.laid.facts.now l.laid.groups.now l.laid.taps.now (length l.laid.taps.now) → view stop_in l.stops l.count ≡ stops_of b ps (view tap_in l.laid.taps.now l.k))

abbrev pub decreases-loop-k : goal.decreases-loop-k
decreases-loop-k l = length l.laid.taps.now - l.k
