-- The rerouters and bus wires, and the two operations that every rerouter and bus wire of a plan comes from.
use Rattle.std.specs.Prelude.{ℕ, zero, suc, Bool, true, false, not, ◌&&◌, ◌||◌, List, [], ◌∷◌, length, ◌==◌, nat_lt}
use Rattle.base.specs.Lists.{any}
use Rattle.board.specs.Board.{Board, source_node, source_port, target_node, target_port}
use Rattle.board.specs.Rows.{Cell, cells_overlap, rerouter_cell, brick_cell, bricks_in}

-- A rerouter. Heads, links and taps have a lane and no row; the others stand beside a row and have no lane.
pub record Rerouter : Type 0 where
  pub x : ℕ
  pub y : ℕ
  pub z : ℕ
  pub rotation : ℕ
  pub role : ℕ
  pub part : ℕ
  pub colour : ℕ
  pub page : ℕ
  pub lane : ℕ
  pub row : ℕ
  pub depth : ℕ

-- The depth of a rerouter that is not placed yet: what feeds it gives it one.
abbrev pub unfed : ℕ
unfed = 0

-- P3: the roles.
abbrev pub role_gutter : ℕ
role_gutter = 0

abbrev pub role_line : ℕ
role_line = 1

abbrev pub role_source : ℕ
role_source = 2

-- P3: the parts.
abbrev pub part_source : ℕ
part_source = 1

abbrev pub part_head : ℕ
part_head = 2

abbrev pub part_link : ℕ
part_link = 3

abbrev pub part_tap : ℕ
part_tap = 4

abbrev pub part_gate_side : ℕ
part_gate_side = 5

abbrev pub part_corner : ℕ
part_corner = 6

-- P4: an end of a bus wire: a node's port, or a rerouter.
pub data End : Type 0 where
  port : ℕ → ℕ → End
  rerouter : ℕ → End

-- P4: nothing, or the wire that is delivered and its distance.
pub data Carries : Type 0 where
  onward : Carries
  delivery : ℕ → ℕ → Carries

pub record BusWire : Type 0 where
  pub source : End
  pub target : End
  pub carries : Carries

-- A suppressed port.
pub record Port : Type 0 where
  pub node : ℕ
  pub port : ℕ

-- P5, R14: a port put among others, by node and then by port, once.
abbrev pub insert_port : Port → List Port → List Port
insert_port p [] = p ∷ []
insert_port p (q ∷ l) =
    elim (nat_lt p.node q.node || (p.node == q.node && nat_lt p.port q.port))
    [ true ↦ p ∷ q ∷ l | false ↦ elim (p.node == q.node && p.port == q.port) [ true ↦ q ∷ l | false ↦ q ∷ insert_port p l ] ]

-- The plan so far (`BusLayout`): rerouters and bus wires, newest first, so that a rerouter's number is how many stand behind it; and suppressed ports.
pub record Bus : Type 0 where
  pub rerouters : List Rerouter
  pub wires : List BusWire
  pub ports : List Port

abbrev pub empty_bus : Bus
empty_bus = record { rerouters = []; wires = []; ports = [] }

-- W4: what a bus wire can leave, with the count of rerouters back to the port, itself included.
pub record Feed : Type 0 where
  pub end : End
  pub depth : ℕ

-- R15: the depth of what a feed feeds.
abbrev pub deeper : Feed → ℕ
deeper feed = suc feed.depth

-- R15: a rerouter once it is fed.
abbrev pub fed_by : Feed → Rerouter → Rerouter
fed_by feed k =
    record {
      x = k.x;
      y = k.y;
      z = k.z;
      rotation = k.rotation;
      role = k.role;
      part = k.part;
      colour = k.colour;
      page = k.page;
      lane = k.lane;
      row = k.row;
      depth = deeper feed;
    }

-- R13: a rerouter, and in the same step the bus wire that feeds it.
abbrev pub place : Bus → Feed → Rerouter → Bus
place bus feed new =
    record {
      rerouters = fed_by feed new ∷ bus.rerouters;
      wires = record { source = feed.end; target = rerouter (length bus.rerouters); carries = onward } ∷ bus.wires;
      ports = bus.ports;
    }

-- The feed of the rerouter so placed.
abbrev pub placed_feed : Bus → Feed → Feed
placed_feed bus feed = record { end = rerouter (length bus.rerouters); depth = deeper feed }

-- R12: the feed of a wire's source port.
abbrev pub port_feed : Board → ℕ → Feed
port_feed b w = record { end = port (source_node b w) (source_port b w); depth = zero }

-- The target port of a wire.
abbrev pub port_of : Board → ℕ → Port
port_of b w = record { node = target_node b w; port = target_port b w }

-- R11: a delivery of a wire to its target, with the distance counted so far. The target's port is suppressed.
abbrev pub deliver : Board → Bus → Feed → ℕ → Bus
deliver b bus feed w =
    record {
      rerouters = bus.rerouters;
      wires = record { source = feed.end; target = port (target_node b w) (target_port b w); carries = delivery w feed.depth } ∷ bus.wires;
      ports = insert_port (port_of b w) bus.ports;
    }

-- R14: whether a wire's target is suppressed.
abbrev pub same_port : Port → Port → Bool
same_port p q = p.node == q.node && p.port == q.port

unfoldable pub muted : Board → Bus → ℕ → Bool
muted b bus w = any (same_port (port_of b w)) bus.ports

-- C6: clear of what is booked on a row: its bricks, and the rerouters placed beside it.
abbrev pub beside_row : ℕ → ℕ → Cell → Rerouter → Bool
beside_row p r cell k = k.page == p && k.row == r && cells_overlap (rerouter_cell k.x k.y) cell

unfoldable pub clear_of_row : Board → Bus → ℕ → ℕ → Cell → Bool
clear_of_row b bus p r cell =
    not (any (λ i. cells_overlap (brick_cell b i) cell) (bricks_in b p r)) && not (any (beside_row p r cell) bus.rerouters)
