-- The rows of the output buffers, with one encoder and one decoder of each kind, and the bus that rows hold. A coordinate stands there as its 32-bit two's
-- complement, a missing lane or row as MISSING.
use Rattle.std.specs.Prelude.{◌≡◌, ℕ, ◌+◌, ◌-◌, ◌%◌, ◌<◌, true, false, ◌&&◌, List, [], ◌∷◌, ◌++◌, map, length, take, ◌==◌, slice_index, slice_index_or}
use Rattle.sheet.specs.Table.{ORIGIN, MISSING}
use Rattle.base.specs.Views.{view}
use Rattle.routes.specs.Bus.{Bus, Rerouter, BusWire, End, port, rerouter, Carries, onward, delivery, Port}

-- P7: a held coordinate as a number of 32 bits.
abbrev pub outward : ℕ → ℕ
outward c = (c + 4294967296 - ORIGIN) % 4294967296

-- P7: the row of a rerouter.
abbrev pub rerouter_row : Rerouter → List ℕ
rerouter_row k =
    outward k.x ∷ outward k.y ∷ outward k.z ∷ k.rotation ∷ k.role ∷ k.part ∷ k.colour ∷ k.page ∷ k.lane ∷ k.row ∷ k.depth ∷ []

-- P7: the row of a bus wire: its two ends, then what it delivers.
abbrev pub end_row : End → List ℕ
end_row (port n p) = n ∷ p ∷ []
end_row (rerouter k) = k ∷ MISSING ∷ []

abbrev pub carries_row : Carries → List ℕ
carries_row onward = MISSING ∷ MISSING ∷ []
carries_row (delivery w d) = w ∷ d ∷ []

abbrev pub wire_row : BusWire → List ℕ
wire_row w = end_row w.source ++ (end_row w.target ++ carries_row w.carries)

-- P7: the row of a suppressed port.
abbrev pub port_row : Port → List ℕ
port_row p = p.node ∷ p.port ∷ []

-- A coordinate of 32 bits, as it is held.
abbrev pub inward : ℕ → ℕ
inward c = (c + ORIGIN) % 4294967296

-- A rerouter by its row.
abbrev pub rerouter_in : List ℕ → Rerouter
rerouter_in r =
    record {
      x = inward (slice_index r 0);
      y = inward (slice_index r 1);
      z = inward (slice_index r 2);
      rotation = slice_index r 3;
      role = slice_index r 4;
      part = slice_index r 5;
      colour = slice_index r 6;
      page = slice_index r 7;
      lane = slice_index r 8;
      row = slice_index r 9;
      depth = slice_index r 10;
    }

-- An end without a port is a rerouter.
abbrev pub end_in : ℕ → ℕ → End
end_in n p = elim (p == MISSING) [ true ↦ rerouter n | false ↦ port n p ]

-- Neither a wire nor a distance: no delivery.
abbrev pub carries_in : ℕ → ℕ → Carries
carries_in w d = elim (w == MISSING && d == MISSING) [ true ↦ onward | false ↦ delivery w d ]

-- A bus wire by its row.
abbrev pub wire_in : List ℕ → BusWire
wire_in r = record { source = end_in (slice_index r 0) (slice_index r 1); target = end_in (slice_index r 2) (slice_index r 3); carries = carries_in (slice_index r 4) (slice_index r 5) }

-- A suppressed port by its row.
abbrev pub port_in : List ℕ → Port
port_in r = record { node = slice_index r 0; port = slice_index r 1 }

-- The suppressed ports in the first u rows, as they stand there.
abbrev pub ports_held : List (List ℕ) → ℕ → List Port
ports_held ports u = map port_in (take u ports)

-- The bus in the first n rerouter rows, k bus wire rows and u port rows.
unfoldable pub bus_held : List (List ℕ) → ℕ → List (List ℕ) → ℕ → List (List ℕ) → ℕ → Bus
bus_held rerouters n bus_wires k ports u = record { rerouters = view rerouter_in rerouters n; wires = view wire_in bus_wires k; ports = ports_held ports u }

-- A row of so many numbers of 32 bits, and such rows.
pub record Row (width : ℕ) (r : List ℕ) : Type 0 where
  pub wide : length r ≡ width
  pub fits : (i : ℕ) → i < width → slice_index r i < 4294967296

abbrev pub Rows : ℕ → List (List ℕ) → ℕ → Type 0
Rows width table n = (i : ℕ) → i < n → Row width (slice_index_or table i [])
