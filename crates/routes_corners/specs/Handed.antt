-- The bus that buffers hold, whatever numbers are in them.
use Rattle.std.specs.Prelude.{◌≡◌, ℕ, zero, suc, ◌<◌, List, [], ◌∷◌, length, slice_index_or}
use Rattle.board.specs.Board.{Board}
use Rattle.base.specs.Lists.{any}
use Rattle.base.specs.Views.{view}
use Rattle.routes.specs.Bus.{Rerouter, Bus, Port, insert_port, same_port, port_of, muted}
use Rattle.routes.specs.Buffers.{rerouter_row, rerouter_in, wire_in, port_in}
use Rattle.routes.specs.Holding.{BusHeld}
use Rattle.routes.specs.declared.bus.BusCount.{BusCount}
use Rattle.routes.specs.declared.bus.BusCounts.{BusCounts}

-- E16: the suppressed ports as a set, in whatever order they are handed in.
unfoldable pub ports_in : List (List ℕ) → ℕ → List Port
ports_in rows zero = []
ports_in rows (suc n) = insert_port (port_in (slice_index_or rows n [])) (ports_in rows n)

unfoldable pub bus_in : (rerouters bus_wires ports : List (List ℕ)) → BusCounts → Bus
bus_in rerouters bus_wires ports held =
    record { rerouters = view rerouter_in rerouters held.rerouters; wires = view wire_in bus_wires held.bus_wires; ports = ports_in ports held.ports }

-- The suppressed ports of a bus are the first u handed in.
abbrev pub Mutes : Board → Bus → List (List ℕ) → ℕ → Type 0
Mutes b bus ports u = (w : ℕ) → w < length b.wires → muted b bus w ≡ any (same_port (port_of b w)) (view port_in ports u)

-- A rerouter's coordinates are of 32 bits: so its row holds them.
pub record Fits (k : Rerouter) : Type 0 where
  pub x_fits : k.x < 4294967296
  pub y_fits : k.y < 4294967296

-- The table's rows are those of such rerouters.
abbrev pub CellRows : List Rerouter → List (List ℕ) → Type 0
CellRows [] table = Unit {0}
CellRows (k ∷ l) table = (slice_index_or table (length l) [] ≡ rerouter_row k) × Fits k × CellRows l table

-- The buffers hold a bus.
pub record Handed (bus : Bus) (old old_wires rerouters bus_wires : List (List ℕ)) (count : BusCount) : Type 0 where
  pub held : BusHeld bus old old_wires rerouters bus_wires count
  pub rows : CellRows bus.rerouters rerouters
