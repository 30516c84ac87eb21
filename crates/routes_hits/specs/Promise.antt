-- What a user of `find_hits` may rely on, said of the rows and numbers that the buffers hold.
use Rattle.std.specs.Prelude.{ℕ, ◌+◌, ◌*◌, ◌≤◌, ◌<◌, ◌≡◌, true, List, [], length, get_or}
use Rattle.base.specs.Views.{view}
use Rattle.sheet.specs.Table.{library_most}
use Rattle.board.specs.Board.{Board}
use Rattle.board.specs.Refusals.{board, judged}
use Rattle.routes.specs.Bus.{Rerouter, BusWire}
use Rattle.routes.specs.Buffers.{rerouter_in, wire_in, bus_held}
use Rattle.routes_straight.specs.Straight.{Straight}
use Rattle.routes_promise.specs.Promise.{Promised}
use Rattle.routes_hits.specs.declared.boxes.PageBox.{PageBox}
use Rattle.routes_hits.specs.Hits.{on_board, is_under, wire_under}
use Rattle.routes_hits.specs.Finding.{HITS_A_WIRE}

-- The rerouter, and the bus wire, of a number, by its row.
abbrev pub rerouter_at : List (List ℕ) → ℕ → Rerouter
rerouter_at rerouters m = rerouter_in (get_or rerouters m [])

abbrev pub wire_at : List (List ℕ) → ℕ → BusWire
wire_at bus_wires m = wire_in (get_or bus_wires m [])

-- H2, H4: the h rerouters that are hit stand in front, three numbers each.
pub record ReroutersListed (q : PageBox) (rerouters : List (List ℕ)) (n : ℕ) (hits : List ℕ) (h : ℕ) : Type 0 where
  -- A miss is never listed: each is one of the first n, and hit; its part and its lane stand behind its number.
  pub hit : (i : ℕ) → i < h → (get_or hits (3 * i) 0 < n) × (is_under q (rerouter_at rerouters (get_or hits (3 * i) 0)) ≡ true)
  pub part : (i : ℕ) → i < h → get_or hits (3 * i + 1) 0 ≡ (rerouter_at rerouters (get_or hits (3 * i) 0)).part
  pub lane : (i : ℕ) → i < h → get_or hits (3 * i + 2) 0 ≡ (rerouter_at rerouters (get_or hits (3 * i) 0)).lane
  -- Each hit is listed.
  pub all : (m : ℕ) → m < n → is_under q (rerouter_at rerouters m) ≡ true → (i : ℕ) × (i < h) × (get_or hits (3 * i) 0 ≡ m)
  -- Numbers rise, so each comes once.
  pub rising : (i j : ℕ) → i < j → j < h → get_or hits (3 * i) 0 < get_or hits (3 * j) 0

-- H3, H4: the v bus wires that are hit stand behind them, a number each.
pub record WiresListed (q : PageBox) (rerouters : List (List ℕ)) (n : ℕ) (bus_wires : List (List ℕ)) (k : ℕ) (hits : List ℕ) (h v : ℕ) : Type 0 where
  pub hit : (i : ℕ) → i < v → (get_or hits (3 * h + i) 0 < k) × (wire_under q (view rerouter_in rerouters n) (wire_at bus_wires (get_or hits (3 * h + i) 0)) ≡ true)
  pub all : (m : ℕ) → m < k → wire_under q (view rerouter_in rerouters n) (wire_at bus_wires m) ≡ true → (i : ℕ) × (i < v) × (get_or hits (3 * h + i) 0 ≡ m)
  pub rising : (i j : ℕ) → i < j → j < v → get_or hits (3 * h + i) 0 < get_or hits (3 * h + j) 0

-- Where `find_hits` answers counts: the text is that of a board which no refusal of the sheet turns away, and has the box; its plan stands in the buffers and meets demand 3; the lists are exact, and 21 numbers a
-- wire hold them; and every bus wire between two rerouters runs straight on one page, so that no run is passed over for its slant.
pub record HitsPromised (q : PageBox) (text : List ℕ) (rerouters : List (List ℕ)) (n : ℕ) (bus_wires : List (List ℕ)) (k : ℕ) (ports : List (List ℕ)) (u : ℕ) (hits : List ℕ) (h v : ℕ) : Type 0 where
  pub drawn : Board
  pub accepted : judged library_most text ≡ board drawn
  pub box_there : on_board q (length drawn.pages) ≡ true
  pub rows : Promised drawn rerouters n bus_wires k ports u
  pub rerouters_listed : ReroutersListed q rerouters n hits h
  pub wires_listed : WiresListed q rerouters n bus_wires k hits h v
  pub room : 3 * h + v ≤ HITS_A_WIRE * length drawn.wires
  pub straight : Straight (bus_held rerouters n bus_wires k ports u)
