-- What the corner pass takes and gives in one call: the tables of a board, and a bus as the buffers hold it.
use Rattle.std.specs.Prelude.{◌≡◌, ℕ, ◌+◌, ◌*◌, ◌<◌, ◌≤◌, Bool, true, false, ◌&&◌, List, length, nat_le, slice_index, Result, Ok, Err}
use Rattle.base.specs.declared.refusal.Reason.TheVariants.{NoRoom}
use Rattle.base.specs.declared.refusal.Refusal.{Refusal}
use Rattle.base.specs.Refusal.{refusal}
use Rattle.base.specs.Lists.{keep, upto}
use Rattle.board.specs.Board.{Board, field, given}
use Rattle.board.specs.Rows.{REROUTER_SIZE, brick_cell}
use Rattle.board.specs.Tables.{nodes_alone}
use Rattle.routes.specs.Bus
use Rattle.routes.specs.Corners.{turns, turnable, corners}
use Rattle.routes.specs.Holding.{BusHeld}
use Rattle.routes.specs.declared.bus.BusCount.{BusCount}
use Rattle.routes.specs.declared.bus.BusCounts.{BusCounts}
use Rattle.routes_beside.specs.Beside.{BricksAskable}
use Rattle.routes_turns.specs.CornerItems.{EDGE}
use Rattle.routes_corners.specs.CornerTables.{BoardOf, Classed, EndsThere, firsts}
use Rattle.routes_corners.specs.Handed.{Mutes}
use Rattle.routes_corners.specs.Ports.{PortsLow}

-- E16: whether the bus that is held leaves room for so many corners more in what is lent for W wires (S15).
unfoldable pub has_room : ℕ → BusCounts → ℕ → Bool
has_room W held turning = nat_le (held.rerouters + turning) (5 * W) && nat_le (held.bus_wires + 2 * turning) (6 * W) && nat_le (held.ports + turning) W

-- The cell of a node with a row ends inside the edge and is not wider than 1,000 levels, and a corner at its y ends inside the edge too.
pub record InEdge (nodes : List (List ℕ)) (i : ℕ) : Type 0 where
  pub low : (brick_cell (nodes_alone nodes) i).x1 ≤ EDGE
  pub wide : (brick_cell (nodes_alone nodes) i).x1 ≤ field nodes i 8 + 2000
  pub flat : field nodes i 9 + REROUTER_SIZE ≤ EDGE

-- The tables of the board fit together: at most as many records as a sheet may have, the target ports in its range, and each node with a row on a page and in range.
pub record BoardFits (pages nodes wires facts : List (List ℕ)) : Type 0 where
  pub wires_few : length wires ≤ 8192
  pub ends_long : length wires ≤ length facts
  pub ports : PortsLow wires
  pub bricks : BricksAskable nodes facts
  pub on_pages : (i : ℕ) → i < length nodes → given (field nodes i 10) ≡ true → field nodes i 10 < length pages
  pub inside : (i : ℕ) → i < length nodes → given (field nodes i 10) ≡ true → InEdge nodes i

-- The buffers are as long as W wires need, the marks as long as N nodes, the rerouters and the corners do, and the buffers hold what their counts say.
pub record Lent (N W : ℕ) (rerouters bus_wires ports marks : List (List ℕ)) (held : BusCounts) : Type 0 where
  pub rerouters_there : held.rerouters ≤ length rerouters
  pub wires : held.bus_wires ≤ length bus_wires
  pub muted : held.ports ≤ length ports
  pub rerouter_room : 5 * W ≤ length rerouters
  pub wire_room : 6 * W ≤ length bus_wires
  pub mark_room : N + 5 * W ≤ length marks

-- The first n of a list are the wires that turn, with the classes of all wires.
pub record TurnersFound (nodes wires facts ports : List (List ℕ)) (u : ℕ) (classes list : List ℕ) (n : ℕ) : Type 0 where
  pub classed : Classed wires classes (length wires)
  pub few : n ≤ length wires
  pub below : (k : ℕ) → k < n → slice_index list k < length wires
  pub ends : (k : ℕ) → k < n → EndsThere nodes facts (slice_index list k)
  pub all : (b : Board) (bus : Bus.Bus) (pages : List (List ℕ)) → BoardOf b pages nodes wires facts → Mutes b bus ports u → firsts list n ≡ keep (turns b bus) (upto (length b.wires))

-- What one call leaves of a bus: 7, and nothing is altered, where there is no room for all that may turn (E16), else its corners are laid.
abbrev pub TurnedAs : Board → Bus.Bus → ℕ → (rerouters bus_wires : List (List ℕ)) → BusCounts → (rerouters' busWires' : List (List ℕ)) → Result BusCount Refusal → Type 0
TurnedAs b bus W rerouters bus_wires held rerouters' busWires' (Err e) =
    (has_room W held (turnable b bus) ≡ false) × (e ≡ refusal NoRoom 0) × (rerouters' ≡ rerouters) × (busWires' ≡ bus_wires)
TurnedAs b bus W rerouters bus_wires held rerouters' busWires' (Ok count) = (has_room W held (turnable b bus) ≡ true) × BusHeld (corners b bus) rerouters bus_wires rerouters' busWires' count

-- The same of any bus that the buffers hold, written over what they held before it: what matters where its corners are laid.
abbrev pub TurnedFrom : Board → Bus.Bus → (old old_wires : List (List ℕ)) → ℕ → BusCounts → (rerouters' busWires' : List (List ℕ)) → Result BusCount Refusal → Type 0
TurnedFrom b bus old old_wires W held rerouters' busWires' (Err e) = has_room W held (turnable b bus) ≡ false
TurnedFrom b bus old old_wires W held rerouters' busWires' (Ok count) = BusHeld (corners b bus) old old_wires rerouters' busWires' count
