-- The numbers of a plan in range: each fits its place in the buffers, and none but a lane and a row may be as one that is missing. The two operations
-- that a plan comes from keep them so.
use Rattle.std.proofs.Common.{ℕ, suc, ◌+◌, ◌<◌, ◌≤◌, ◌&&◌, ◌||◌, eqb, ltb, List, [], ◌∷◌, length, refl, arith}
use mathlib.Core.List.Memᴰ
use Rattle.sheet.specs.Table.{MISSING, ID_MOST, PORT_MOST, PAGE_MOST}
use Rattle.board.specs.Accepted.{COORDINATE_HIGH, Y_HIGH, Accepted}
use Rattle.board.specs.Board.{Board}
use Rattle.board.specs.Rows.{REROUTER_SIZE}
use Rattle.base.proofs.Lists.{by_test}
use Rattle.routes.specs.Bus.{Bus, Rerouter, BusWire, End, port, rerouter, Carries, onward, delivery, Port, Feed, insert_port, port_of, port_feed, placed_feed, fed_by, place, deliver}
use Rattle.board.proofs.Reach.{All, all_more, REACH_MOST}

-- The numbers of a rerouter but its depth. A lane and a row may be missing.
pub record RerouterInRange (k : Rerouter) : Type 0 where
  pub x : k.x ≤ REACH_MOST + REROUTER_SIZE
  pub y : k.y ≤ Y_HIGH
  pub z : k.z ≤ COORDINATE_HIGH
  pub rotation : k.rotation ≤ 3
  pub role : k.role ≤ 2
  pub part : k.part ≤ 6
  pub colour : k.colour ≤ ID_MOST
  pub page : k.page ≤ PAGE_MOST
  pub lane : k.lane ≤ MISSING
  pub row : k.row ≤ MISSING

-- Those of a bus wire, on a plan of n rerouters for a board of so many wires.
abbrev pub EndInRange : ℕ → End → Type 0
EndInRange n (port i p) = (i ≤ ID_MOST) × (p ≤ PORT_MOST)
EndInRange n (rerouter k) = k < n

abbrev pub CarriesInRange : ℕ → ℕ → Carries → Type 0
CarriesInRange wires n onward = Unit {0}
CarriesInRange wires n (delivery w d) = (w < wires) × (d ≤ n)

pub record WireInRange (wires n : ℕ) (w : BusWire) : Type 0 where
  pub source : EndInRange n w.source
  pub target : EndInRange n w.target
  pub carries : CarriesInRange wires n w.carries

pub record PortInRange (p : Port) : Type 0 where
  pub node : p.node ≤ ID_MOST
  pub port : p.port ≤ PORT_MOST

pub record InRange (b : Board) (bus : Bus) : Type 0 where
  pub rerouters : All RerouterInRange bus.rerouters
  pub depths : All (λ k. k.depth ≤ length bus.rerouters) bus.rerouters
  pub wires : All (WireInRange (length b.wires) (length bus.rerouters)) bus.wires
  pub ports : All PortInRange bus.ports

-- A plan in range that is no larger than the largest sheet's.
pub record PlanInRange (b : Board) (bus : Bus) : Type 0 where
  pub ranges : InRange b bus
  pub few_on_board : length b.wires ≤ 8192
  pub few_rerouters : length bus.rerouters ≤ 40960
  pub few_wires : length bus.wires ≤ 49152
  pub few_ports : length bus.ports ≤ 8192

-- What a bus wire may leave.
pub record FeedInRange (bus : Bus) (f : Feed) : Type 0 where
  pub end : EndInRange (length bus.rerouters) f.end
  pub depth : f.depth ≤ length bus.rerouters

-- A plan with more rerouters has room for the same ends.
end_more : (m n : ℕ) → m ≤ n → (e : End) → EndInRange m e → EndInRange n e
end_more m n h (port i p) r = r
end_more m n h (rerouter k) r = omega arith

carries_more : (wires m n : ℕ) → m ≤ n → (c : Carries) → CarriesInRange wires m c → CarriesInRange wires n c
carries_more wires m n h onward r = r
carries_more wires m n h (delivery w d) r = (r.0, omega (arith, r.1))

wire_more : (wires m n : ℕ) → m ≤ n → (w : BusWire) → WireInRange wires m w → WireInRange wires n w
wire_more wires m n h w r =
    record { source = end_more m n h w.source r.source; target = end_more m n h w.target r.target; carries = carries_more wires m n h w.carries r.carries }

-- A suppressed port among the others.
port_in_lem : (p : Port) (l : List Port) → PortInRange p → All PortInRange l → All PortInRange (insert_port p l)
port_in_lem p [] h k = all_more PortInRange p [] h k
port_in_lem p (q ∷ l) h k =
    let rest : All PortInRange l = λ x m. k x (Memᴰ.tail m) in
    let first : PortInRange q = k q (Memᴰ.head refl) in
    let ih = port_in_lem p l h rest in
    by_test (All PortInRange) (ltb p.node q.node || (eqb p.node q.node && ltb p.port q.port))
    (λ e. all_more PortInRange p (q ∷ l) h k)
    (λ e. by_test (All PortInRange) (eqb p.node q.node && eqb p.port q.port) (λ s. k) (λ s. all_more PortInRange q (insert_port p l) first ih))

fed_in : {k : Rerouter} (f : Feed) → RerouterInRange k → RerouterInRange (fed_by f k)
fed_in f r =
    record {
      x = r.x;
      y = r.y;
      z = r.z;
      rotation = r.rotation;
      role = r.role;
      part = r.part;
      colour = r.colour;
      page = r.page;
      lane = r.lane;
      row = r.row;
    }

module _ (b : Board) (r : Accepted b) where
  -- The two operations that a plan comes from.
  pub feed_port : (bus : Bus) (w : ℕ) → FeedInRange bus (port_feed b w)
  feed_port bus w = record { end = r.source w; depth = omega arith }

  pub feed_more : {bus : Bus} {f : Feed} (g : Feed) (k : Rerouter) → FeedInRange bus f → FeedInRange (place bus g k) f
  feed_more {bus} {f} g k h = record { end = end_more (length bus.rerouters) (suc (length bus.rerouters)) (omega arith) f.end h.end; depth = omega (arith, h.depth) }

  pub feed_placed : {bus : Bus} {f : Feed} (k : Rerouter) → FeedInRange bus f → FeedInRange (place bus f k) (placed_feed bus f)
  feed_placed k h = record { end = omega arith; depth = omega (arith, h.depth) }

  pub placed_in : {bus : Bus} {f : Feed} {k : Rerouter} → InRange b bus → FeedInRange bus f → RerouterInRange k → InRange b (place bus f k)
  placed_in {bus} {f} {k} h g q =
      let n = length bus.rerouters in
      record {
        rerouters = all_more RerouterInRange (fed_by f k) bus.rerouters (fed_in f q) h.rerouters;
        depths = all_more (λ j. j.depth ≤ suc n) (fed_by f k) bus.rerouters (omega (arith, g.depth)) (λ j m. omega (arith, h.depths j m));
        wires = all_more (WireInRange (length b.wires) (suc n)) _ bus.wires
            (record { source = end_more n (suc n) (omega arith) f.end g.end; target = omega arith; carries = tt })
            (λ w m. wire_more (length b.wires) n (suc n) (omega arith) w (h.wires w m));
        ports = h.ports;
      }

  pub delivered_in : {bus : Bus} {f : Feed} (w : ℕ) → w < length b.wires → InRange b bus → FeedInRange bus f → InRange b (deliver b bus f w)
  delivered_in {bus} {f} w l h g =
      record {
        rerouters = h.rerouters;
        depths = h.depths;
        wires = all_more (WireInRange (length b.wires) (length bus.rerouters)) _ bus.wires (record { source = g.end; target = r.target w; carries = (l, g.depth) }) h.wires;
        ports = port_in_lem (port_of b w) bus.ports (record { node = (r.target w).0; port = (r.target w).1 }) h.ports;
      }
