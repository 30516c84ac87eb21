-- How the code holds the bus and a stop's level: the buffers' rows, counts by value, feeds. No rule stands here.
use Rattle.std.specs.Prelude.{◌≡◌, ℕ, suc, ◌<◌, List, length, slice_set}
use Rattle.std.specs.Option.{unwrap_or}
use Rattle.sheet.specs.Table.{MISSING}
use Rattle.board.specs.Board.{Board, target_node, target_port}
use Rattle.routes.specs.Levels
use Rattle.routes.specs.Levels.{dropped, shared, own}
use Rattle.routes.specs.Bus
use Rattle.routes.specs.Bus.{
  Bus,
  BusWire,
  port,
  rerouter,
  onward,
  delivery,
  unfed,
  fed_by,
  place,
  deliver,
  role_gutter,
  role_line,
  role_source,
  part_source,
  part_head,
  part_link,
  part_tap,
  part_gate_side,
  part_corner,
}
use Rattle.routes.specs.Buffers.{rerouter_row, wire_row}
use Rattle.routes.specs.Tables.{written_over}
use Rattle.routes.specs.declared.bus.End.{End}
use Rattle.routes.specs.declared.bus.End.TheVariants.{Port, Rerouter as AtRerouter}
use Rattle.routes.specs.declared.bus.Feed.{Feed}
use Rattle.routes.specs.declared.bus.Rotation.{Rotation}
use Rattle.routes.specs.declared.bus.Rotation.TheVariants.{Deg0, Deg90, Deg180, Deg270}
use Rattle.routes.specs.declared.bus.Role.{Role}
use Rattle.routes.specs.declared.bus.Role.TheVariants.{Gutter, Line, Source as SourceRole}
use Rattle.routes.specs.declared.bus.Part.{Part}
use Rattle.routes.specs.declared.bus.Part.TheVariants.{Source, Head, Link, Tap, GateSide, Corner}
use Rattle.routes.specs.declared.bus.Rerouter.{Rerouter}
use Rattle.routes.specs.declared.bus.BusCount.{BusCount}
use Rattle.routes.specs.declared.bus.Placed.{Placed}
use Rattle.routes.specs.declared.levels.Level.{Level}
use Rattle.routes.specs.declared.levels.Level.TheVariants.{Dropped, Shared, Own}

abbrev pub end_node : End → ℕ
end_node (Port n p) = n.0
end_node (AtRerouter k) = k.0

abbrev pub end_port : End → ℕ
end_port (Port n p) = p
end_port (AtRerouter k) = MISSING

-- What the code's values stand for.
abbrev pub end_of : End → Bus.End
end_of (Port n p) = port n.0 p
end_of (AtRerouter k) = rerouter k.0

abbrev pub feed_of : Feed → Bus.Feed
feed_of f = record { end = end_of f.end; depth = f.depth }

-- S6: a rotation in quarter turns.
abbrev pub turns_of : Rotation → ℕ
turns_of Deg0 = 0
turns_of Deg90 = 1
turns_of Deg180 = 2
turns_of Deg270 = 3

abbrev pub role_of : Role → ℕ
role_of Gutter = role_gutter
role_of Line = role_line
role_of SourceRole = role_source

abbrev pub part_of : Part → ℕ
part_of Source = part_source
part_of Head = part_head
part_of Link = part_link
part_of Tap = part_tap
part_of GateSide = part_gate_side
part_of Corner = part_corner

-- P7: a lane or a row that is not there is MISSING in a rerouter's row.
abbrev pub rerouter_of : Rerouter → Bus.Rerouter
rerouter_of k =
    record {
      x = k.x;
      y = k.y;
      z = k.z;
      rotation = k.rotation;
      role = k.role;
      part = k.part;
      colour = k.colour.0;
      page = k.page;
      lane = unwrap_or k.lane MISSING;
      row = unwrap_or k.row MISSING;
      depth = unfed;
    }

abbrev pub stop_level_of : Level → Levels.Level
stop_level_of Dropped = dropped
stop_level_of (Shared x) = shared x
stop_level_of (Own x) = own x

-- The buffers hold a bus: its rows are written, the rest is as it was.
pub record BusHeld (bus : Bus.Bus) (old old_wires rerouters wires : List (List ℕ)) (count : BusCount) : Type 0 where
  pub rerouter_rows : rerouters ≡ written_over rerouter_row bus.rerouters old
  pub wire_rows : wires ≡ written_over wire_row bus.wires old_wires
  pub rerouter_count : count.rerouters ≡ length bus.rerouters
  pub wire_count : count.wires ≡ length bus.wires

-- Room for one row more. A rerouter's number is a number of 32 bits.
pub record RoomForWire (wires : List (List ℕ)) (count : BusCount) : Type 0 where
  pub wire_room : count.wires < length wires

pub record RoomForRerouter (rerouters wires : List (List ℕ)) (count : BusCount) (feed : Feed) : Type 0 where
  pub rerouter_room : count.rerouters < length rerouters
  pub wire_room : count.wires < length wires
  pub number_fits : count.rerouters < 4294967295
  pub depth_fits : feed.depth < 4294967295

-- `push_bus_node` is `place`.
pub record Placing (rerouters wires : List (List ℕ)) (count : BusCount) (feed : Feed) (new : Rerouter) (r : Placed) (rerouters' wires' : List (List ℕ)) : Type 0 where
  pub row : rerouters' ≡ slice_set rerouters count.rerouters (rerouter_row (fed_by (feed_of feed) (rerouter_of new)))
  pub wire_count : r.count.wires ≡ suc count.wires
  pub rerouter_count : r.count.rerouters ≡ suc count.rerouters
  pub gives : feed_of r.feed ≡ record { end = rerouter count.rerouters; depth = suc feed.depth }
  pub held : (bus : Bus.Bus) (old old_wires : List (List ℕ)) → BusHeld bus old old_wires rerouters wires count → BusHeld (place bus (feed_of feed) (rerouter_of new)) old old_wires rerouters' wires' r.count

-- `push_delivery` is `deliver`.
pub record Delivering (wires : List (List ℕ)) (count : BusCount) (feed : Feed) (n p w : ℕ) (r : BusCount) (wires' : List (List ℕ)) : Type 0 where
  pub rerouter_count : r.rerouters ≡ count.rerouters
  pub wire_count : r.wires ≡ suc count.wires
  pub held : (b : Board) (bus : Bus.Bus) (old old_wires rerouters : List (List ℕ)) → n ≡ target_node b w → p ≡ target_port b w → BusHeld bus old old_wires rerouters wires count → BusHeld (deliver b bus (feed_of feed) w) old old_wires rerouters wires' r
