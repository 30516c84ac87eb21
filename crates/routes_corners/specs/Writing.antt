-- How the code writes corners whose levels are told. No rule stands here.
use Rattle.std.specs.Prelude.{◌≡◌, ℕ, suc, ◌+◌, ◌*◌, ◌<◌, ◌≤◌, List, [], length, slice_index, slice_index_or}
use Rattle.sheet.specs.Table.{MISSING}
use Rattle.base.specs.Lists.{Found}
use Rattle.board.specs.Board.{Board, field}
use Rattle.routes.specs.Bus
use Rattle.routes.specs.Bus.{place, placed_feed, port_feed, deliver}
use Rattle.routes.specs.Holding.{BusHeld, rerouter_of}
use Rattle.routes.specs.declared.bus.Rerouter.{Rerouter}
use Rattle.routes.specs.declared.bus.BusCount.{BusCount}
use Rattle.routes_turns.specs.Deciding.{Decided, decide_if, source_of, sink_of, with_corners}
use Rattle.routes_corners.specs.CornerTables.{BoardOf, EndsThere}

-- Room for so many corners: a rerouter and two bus wires each.
pub record WriteRoom (left : ℕ) (rerouters bus_wires : List (List ℕ)) (count : BusCount) : Type 0 where
  pub rerouter_room : count.rerouters + left ≤ length rerouters
  pub wire_room : count.wires + 2 * left ≤ length bus_wires
  pub numbers : count.rerouters + left ≤ MISSING

-- The first n of a list are wires whose ends are there, and each has an answer.
pub record WritesFit (nodes wires facts : List (List ℕ)) (list answers : List ℕ) (n : ℕ) : Type 0 where
  pub list_long : n ≤ length list
  pub answers_long : n ≤ length answers
  pub listed : (k : ℕ) → k < n → slice_index list k < length wires
  pub ends : (k : ℕ) → k < n → EndsThere nodes facts (slice_index list k)

-- The anchors in a wire's row of facts are its ends' body nodes.
abbrev pub EndsOf : Board → List (List ℕ) → ℕ → Type 0
EndsOf b facts w = (source_of b w ≡ field facts w 2) × (sink_of b w ≡ field facts w 3)

-- The ends of wire w are there, with the facts and the page of its sink.
pub record CornerThere (pages nodes facts : List (List ℕ)) (w : ℕ) : Type 0 where
  pub on_facts : w < length facts
  pub ends : EndsThere nodes facts w
  pub sink_facts : field facts w 3 < length facts
  pub page : field nodes (field facts w 3) 10 < length pages

-- The bus with the corner of wire w, which the source port feeds and which feeds the target.
abbrev pub turned_bus : Board → Bus.Bus → ℕ → Bus.Rerouter → Bus.Bus
turned_bus b bus w new = deliver b (place bus (port_feed b w) new) (placed_feed bus (port_feed b w)) w

-- A corner written, with the two bus wires to it and from it.
pub record CornerWritten (rerouters bus_wires : List (List ℕ)) (count : BusCount) (wire : List ℕ) (w : ℕ) (new : Rerouter) (rerouters' busWires' : List (List ℕ)) (r : BusCount) : Type 0 where
  pub rerouter_count : r.rerouters ≡ suc count.rerouters
  pub wire_count : r.wires ≡ suc (suc count.wires)
  pub holds : (b : Board) (bus : Bus.Bus) (old old_wires : List (List ℕ)) → slice_index_or b.wires w [] ≡ wire → BusHeld bus old old_wires rerouters bus_wires count
      → BusHeld (turned_bus b bus w (rerouter_of new)) old old_wires rerouters' busWires' r

-- What wire w leaves where its level is told, or that it has none.
pub record WireWritten (pages nodes wires facts : List (List ℕ)) (w : ℕ) (level : Found) (rerouters bus_wires : List (List ℕ)) (count : BusCount) (rerouters' busWires' : List (List ℕ)) (r : BusCount) : Type 0 where
  pub room : (left : ℕ) → WriteRoom (suc left) rerouters bus_wires count → WriteRoom left rerouters' busWires' r
  pub holds : (b : Board) (bus : Bus.Bus) (old old_wires : List (List ℕ)) (done : List Decided) → BoardOf b pages nodes wires facts → EndsOf b facts w
      → BusHeld (with_corners b bus done) old old_wires rerouters bus_wires count → BusHeld (with_corners b bus (decide_if level w done)) old old_wires rerouters' busWires' r
