-- `lay_mini_bus`: what it answers and what it leaves in the buffers.
use Rattle.std.specs.Prelude.{ℕ, ◌+◌, ◌*◌, ◌≤◌, Bool, true, false, ◌&&◌, List, leb, length}
use Rattle.base.specs.declared.refusal.Reason.TheVariants.{NoRoom}
use Rattle.base.specs.declared.refusal.Refusal.{Refusal}
use Rattle.base.specs.Refusal.{refusal}
use Rattle.sheet.specs.Table.{library_most}
use Rattle.board.specs.Board.{Board}
use Rattle.board.specs.Accepted.{Accepted}
use Rattle.board.specs.Planning.{Planning, refused, lanes_for, planning, fitted}
use Rattle.routes.specs.Bus.{Bus}
use Rattle.routes.specs.Corners.{corners, turnable}
use Rattle.routes.specs.Route.{Routed, turned_away, plan}
use Rattle.routes_corners.specs.Handed.{bus_in}
use Rattle.routes_corners.specs.Turning.{has_room}
use Rattle.routes.specs.declared.bus.BusCounts.{BusCounts}
use Rattle.routes_calls.specs.Turn.{BoardKnown}

-- E16: whether buffers of these lengths hold what is said to be in them.
unfoldable pub holds : BusCounts → ℕ → ℕ → ℕ → Bool
holds held rerouters bus_wires ports = leb held.rerouters rerouters && leb held.bus_wires bus_wires && leb held.ports ports

module _ (rerouters bus_wires ports : List (List ℕ)) (held : BusCounts) where
  -- The bus handed in.
  abbrev pub bus_given : Bus
  bus_given = bus_in rerouters bus_wires ports held

  -- E16: whether the buffers hold it, with room for a corner for each wire that may turn.
  abbrev pub held_fits : Board → Bool
  held_fits b =
      holds held (length rerouters) (length bus_wires) (length ports)
      && has_room (length b.wires) held (turnable b bus_given)

  -- Its corners. No group is laid.
  abbrev pub mini_by : Planning → Routed
  mini_by (refused e) = turned_away e
  mini_by (lanes_for b ps) = plan b ps (corners b bus_given) 0

  -- Of a board that what is lent fits: 7 where what is handed in does not, 8, or its corners.
  abbrev pub mini_on : Board → Routed
  mini_on b = mini_by (fitted held_fits b)

  -- E9, E16: what is handed in is tried with what is lent: a 7, after 6 and before 8.
  abbrev pub mini_fits : (Board → Bool) → Board → Bool
  mini_fits fits b = fits b && held_fits b

unfoldable pub mini_call : List ℕ → (Board → Bool) → (rerouters bus_wires ports : List (List ℕ)) → BusCounts → Routed
mini_call text fits rerouters bus_wires ports held = mini_by rerouters bus_wires ports held (planning library_most (mini_fits rerouters bus_wires ports held fits) text)

-- How a crowded page is refused, by whether what is handed in fits.
abbrev pub crowded_at : Bool → Refusal → Refusal
crowded_at true crowded = crowded
crowded_at false crowded = refusal NoRoom 0

-- A board of an accepted sheet, ready for the corner pass whatever is handed in.
pub record HeldReady (b : Board) (pages nodes wires facts rerouters bus_wires ports marks : List (List ℕ)) : Type 0 where
  pub known : BoardKnown b pages nodes wires facts
  pub accepted : Accepted b
  pub rerouter_room : 5 * length b.wires ≤ length rerouters
  pub wire_room : 6 * length b.wires ≤ length bus_wires
  pub mark_room : length b.nodes + 5 * length b.wires ≤ length marks
  pub port_room : length b.wires ≤ length ports
