-- How the code finds the wires of a target port: along their keys, sorted, each with its class. No rule stands here.
use Rattle.std.specs.Prelude.{◌≡◌, ℕ, zero, suc, ◌+◌, ◌*◌, ◌/◌, ◌%◌, ◌<◌, ◌≤◌, Bool, true, false, List, length, ◌==◌, slice_index}
use Rattle.sheet.specs.Table.{PORT_MOST}
use Rattle.base.specs.Lists.{any}
use Rattle.base.specs.Keys.{Rising}
use Rattle.base.specs.Views.{view}
use Rattle.board.specs.Board.{field}
use Rattle.routes.specs.Bus.{Port, same_port}
use Rattle.routes.specs.Buffers.{port_in}
use Rattle.routes_corners.specs.CornerTables.{port_at, Classed, flag_at}

-- A port in one number. Ports in the sheet's range differ where they are packed, too; a greater one may be packed as another node's.
abbrev pub port_key : ℕ → ℕ → ℕ
port_key node port = node * 65536 + port

abbrev pub wire_key : List (List ℕ) → ℕ → ℕ
wire_key wires w = port_key (field wires w 3) (field wires w 4)

-- S11: the target ports are in the sheet's range.
abbrev pub PortsLow : List (List ℕ) → Type 0
PortsLow wires = (w : ℕ) → field wires w 4 ≤ PORT_MOST

-- How many numbers of wires there are: a wire's number stands behind its key.
abbrev pub NUMBERS : ℕ
NUMBERS = 8192

-- The wire that comes p-th.
abbrev pub wire_at : List ℕ → ℕ → ℕ
wire_at keys p = slice_index keys p % NUMBERS

-- The class of the wire that comes p-th, where the one before has the class given: a new one is the wire's own number.
unfoldable pub class_at : List ℕ → ℕ → ℕ → ℕ
class_at keys zero class = wire_at keys zero
class_at keys (suc p) class = elim (slice_index keys p / NUMBERS == slice_index keys (suc p) / NUMBERS) [ true ↦ class | false ↦ wire_at keys (suc p) ]

-- The keys of all wires in rising order, each with the wire's number: they stand in front of all keys.
pub record PortKeys (wires : List (List ℕ)) (keys : List ℕ) : Type 0 where
  pub few : length wires ≤ NUMBERS
  pub low : PortsLow wires
  pub long : length wires ≤ length keys
  pub rising : Rising keys (length wires)
  pub comes : (p : ℕ) → p < length wires → (wire_at keys p < length wires) × (slice_index keys p ≡ wire_key wires (wire_at keys p) * NUMBERS + wire_at keys p)
  pub reached : (w : ℕ) → w < length wires → (p : ℕ) × (p < length wires) × (slice_index keys p ≡ wire_key wires w * NUMBERS + w)

-- The wires have their classes, and their keys are sorted.
pub record Ported (wires : List (List ℕ)) (classes keys : List ℕ) : Type 0 where
  pub keyed : PortKeys wires keys
  pub classed : Classed wires classes (length wires)

-- Room for a class and a flag for each wire.
pub record PortRoom (wires : List (List ℕ)) (classes : List ℕ) (flags : List Bool) : Type 0 where
  pub class_room : length wires ≤ length classes
  pub flag_room : length wires ≤ length flags

abbrev pub the_port : ℕ → ℕ → Port
the_port node port = record { node = node; port = port }

-- Whether a wire's target port is p.
abbrev pub goes_to : List (List ℕ) → Port → ℕ → Bool
goes_to wires p i = same_port (port_at wires i) p

-- A wire's class has its flag where the wire passes the test.
abbrev pub FlaggedBy : (ℕ → Bool) → List (List ℕ) → List ℕ → List Bool → Type 0
FlaggedBy test wires classes flags = (w : ℕ) → w < length wires → flag_at flags (slice_index classes w) ≡ test w

-- Whether a wire's target port is among the first u handed in.
abbrev pub among_ports : List (List ℕ) → List (List ℕ) → ℕ → ℕ → Bool
among_ports wires ports u w = any (same_port (port_at wires w)) (view port_in ports u)
