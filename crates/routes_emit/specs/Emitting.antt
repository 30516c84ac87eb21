-- How the code holds the walk over the taps: the emission's feeds and counts by value, the buffers beside. No rule stands here.
use Rattle.std.specs.Prelude.{ℕ, ◌+◌, ◌*◌, ◌<◌, ◌≤◌, ◌≡◌, Bool, true, false, List, length}
use Rattle.sheet.specs.Table.{MISSING}
use Rattle.board.specs.Board.{Board, target_node, target_port}
use Rattle.board.specs.Groups
use Rattle.board.specs.Demands.{PageLanes}
use Rattle.routes.specs.Levels
use Rattle.routes.specs.Levels.{dropped, shared, own}
use Rattle.routes.specs.Bus
use Rattle.routes.specs.Bus.{Bus, place, placed_feed, deliver, role_gutter, unfed}
use Rattle.routes.specs.News.{begins_group, begins_row}
use Rattle.routes.specs.Rerouters
use Rattle.routes.specs.Rerouters.{chain_on, gate_side_rerouter}
use Rattle.routes.specs.Holding.{feed_of, BusHeld}
use Rattle.routes.specs.declared.bus.End.TheVariants.{Port}
use Rattle.routes.specs.declared.bus.Feed.{Feed}
use Rattle.routes.specs.declared.levels.Level.TheVariants.{Dropped}
use Rattle.routes_taps.specs.Asking
use Rattle.routes_taps.specs.Asking.{gate_side_item, group_by, row_by, serve_by}
use Rattle.routes_taps.specs.declared.taps.Lane.{Lane}
use Rattle.routes_taps.specs.declared.taps.Tap.{Tap}
use Rattle.routes.specs.declared.news.News.{News}
use Rattle.routes_emit.specs.declared.answers.Answers.{Answers}
use Rattle.routes_emit.specs.declared.chain.Emission.{Emission}
use Rattle.routes_emit.specs.declared.walk.Walk.{Walk}

-- What the code's values stand for.
abbrev pub told : Answers → Asking.Answers
told a = record { head = a.head; source = a.source; link = a.link; gate_side = a.gate_side }

abbrev pub lane_rerouter_of : Lane → ℕ → ℕ → ℕ → Bus.Rerouter
lane_rerouter_of l x rotation part =
    record
    { x = x; y = l.y; z = l.z; rotation = rotation; role = role_gutter; part = part; colour = l.colour.0; page = l.page; lane = l.lane; row = MISSING; depth = unfed }

abbrev pub row_rerouter_of : Lane → ℕ → ℕ → ℕ → ℕ → ℕ → ℕ → Bus.Rerouter
row_rerouter_of l row x y rotation role part =
    record
    { x = x; y = y; z = l.z; rotation = rotation; role = role; part = part; colour = l.colour.0; page = l.page; lane = MISSING; row = row; depth = unfed }

-- There are answers of the k-th tap.
pub record AnswersRoom (asked : List (List ℕ)) (flags : List ℕ) (bricks k : ℕ) : Type 0 where
  pub on_asked : k < length asked
  pub on_flags : gate_side_item bricks k < length flags

-- The buffers hold an emission.
pub record EmissionHeld (s : Rerouters.Emission) (old old_wires rerouters wires : List (List ℕ)) (e : Emission) : Type 0 where
  pub bus : BusHeld s.bus old old_wires rerouters wires e.count
  pub upstream : feed_of e.upstream ≡ s.upstream
  pub stop_tap : feed_of e.stop_tap ≡ s.stop_tap
  pub row_end : feed_of e.row_end ≡ s.row_end

-- The buffers have room for so many rerouters and bus wires more.
pub record Ready (reroutersLeft wiresLeft : ℕ) (rerouters wires : List (List ℕ)) (e : Emission) : Type 0 where
  pub rerouter_room : e.count.rerouters + reroutersLeft ≤ length rerouters
  pub wire_room : e.count.wires + wiresLeft ≤ length wires
  pub numbers : e.count.rerouters + reroutersLeft < 4294967295
  pub upstream_depth : e.upstream.depth ≤ e.count.rerouters
  pub stop_tap_depth : e.stop_tap.depth ≤ e.count.rerouters
  pub row_end_depth : e.row_end.depth ≤ e.count.rerouters

-- A step of the code that takes at most so many rerouters and bus wires,
pub record Spends (reroutersTaken wiresTaken : ℕ) (rerouters wires : List (List ℕ)) (e : Emission) (rerouters' wires' : List (List ℕ)) (e' : Emission) : Type 0 where
  pub spent : (reroutersLeft wiresLeft : ℕ) → Ready (reroutersLeft + reroutersTaken) (wiresLeft + wiresTaken) rerouters wires e → Ready reroutersLeft wiresLeft rerouters' wires' e'

-- and that turns what is held as the rule does.
pub record Becomes (rule : Rerouters.Emission → Rerouters.Emission) (rerouters wires : List (List ℕ)) (e : Emission) (rerouters' wires' : List (List ℕ)) (e' : Emission) : Type 0 where
  pub becomes : (s : Rerouters.Emission) (old old_wires : List (List ℕ)) → EmissionHeld s old old_wires rerouters wires e → EmissionHeld (rule s) old old_wires rerouters' wires' e'

-- The three places where a rerouter is put: `hang_on` the upstream feed, `tap_off` it, `chain_on` the row's end.
abbrev pub hung_on : Bus.Rerouter → Rerouters.Emission → Rerouters.Emission
hung_on k s = record { bus = place s.bus s.upstream k; upstream = placed_feed s.bus s.upstream; stop_tap = s.stop_tap; row_end = s.row_end }

abbrev pub tapped_off : Bus.Rerouter → Rerouters.Emission → Rerouters.Emission
tapped_off k s = record { bus = place s.bus s.upstream k; upstream = s.upstream; stop_tap = placed_feed s.bus s.upstream; row_end = placed_feed s.bus s.upstream }

abbrev pub chained_on : Bus.Rerouter → Rerouters.Emission → Rerouters.Emission
chained_on k s = record { bus = place s.bus s.row_end k; upstream = s.upstream; stop_tap = s.stop_tap; row_end = placed_feed s.bus s.row_end }

-- The emission where a group begins, and where a row shares the last tap.
abbrev pub port_of : Emission → Lane → Emission
port_of e l = record { count = e.count; upstream = record { end = Port l.node l.port; depth = 0 }; stop_tap = e.stop_tap; row_end = e.row_end }

abbrev pub shared_tap : Emission → Emission
shared_tap e = record { count = e.count; upstream = e.upstream; stop_tap = e.stop_tap; row_end = e.stop_tap }

-- A delivery at the row's end.
abbrev pub delivered_at : Board → ℕ → Rerouters.Emission → Rerouters.Emission
delivered_at b w s = record { bus = deliver b s.bus s.row_end w; upstream = s.upstream; stop_tap = s.stop_tap; row_end = s.row_end }

pub record Delivered (wires : List (List ℕ)) (e : Emission) (t : Tap) (wires' : List (List ℕ)) (e' : Emission) : Type 0 where
  pub spends : (rerouters : List (List ℕ)) → Spends 0 1 rerouters wires e rerouters wires' e'
  pub becomes : (b : Board) (rerouters : List (List ℕ)) → t.node ≡ target_node b t.wire → t.port ≡ target_port b t.wire → Becomes (delivered_at b t.wire) rerouters wires e rerouters wires' e'

module _ (b : Board) (ts : List Groups.Tap) (ps : List PageLanes) where
  -- The gate-side rerouter of `serve_by`.
  abbrev pub gate_side_by : Bool → Rerouters.Emission → Groups.Tap → ℕ → Rerouters.Emission
  gate_side_by so s t level = elim so [ true ↦ chain_on b ts ps s (gate_side_rerouter b ts ps t level) | false ↦ s ]

  -- A group begins with a tap that is its first.
  abbrev pub begin_group : Asking.Answers → Groups.Tap → News → Rerouters.Emission → Rerouters.Emission
  begin_group a t news s = elim (begins_group news) [ true ↦ group_by b ts ps a s t | false ↦ s ]

  -- `tap_by`, of a tap of which it is known what it begins.
  module _ (a : Asking.Answers) (t : Groups.Tap) (news : News) (level : Levels.Level) where
    abbrev pub begin_tap : Rerouters.Emission → Rerouters.Emission
    begin_tap s = let begun : Rerouters.Emission = begin_group a t news s in elim (begins_row news) [ true ↦ row_by b ts ps a begun t level | false ↦ begun ]

    abbrev pub tap_emitted : Rerouters.Emission → Rerouters.Emission
    tap_emitted s =
        elim level [ dropped ↦ begin_tap s | shared x ↦ serve_by b ts ps a (begin_tap s) t x | own x ↦ serve_by b ts ps a (begin_tap s) t x ]

-- The walk before the first tap.
abbrev pub start_of : Walk
start_of =
    let f : Feed = record { end = Port (record { 0 = 0 }) 0; depth = 0 } in
    record {
      emission = record { count = record { rerouters = 0; wires = 0 }; upstream = f; stop_tap = f; row_end = f };
      reached = record { stops = 0; level = Dropped };
    }

-- Room for five rerouters and six bus wires a tap, as S15 lends for a wire.
pub record RoomForTaps (n : ℕ) (rerouters wires : List (List ℕ)) : Type 0 where
  pub rerouter_rows : 5 * n ≤ length rerouters
  pub wire_rows : 6 * n ≤ length wires
  pub numbers : 5 * n < 4294967295
