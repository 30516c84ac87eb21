-- How the code holds suppressed ports and reads bus wires in tables of rows of numbers. Of the rules only P8 stands here.
use Rattle.std.specs.Prelude.{ℕ, zero, suc, ◌+◌, ◌-◌, ◌/◌, ◌%◌, ◌≤◌, ◌≡◌, Bool, true, false, not, ◌&&◌, ◌||◌, List, [], ◌∷◌, ◌++◌, map, eqb, ltb, length, get_or, drop}
use Rattle.sheet.specs.Table.{MISSING}
use Rattle.routes.specs.Bus.{BusWire, Port, same_port}
use Rattle.routes.specs.Buffers.{port_row, wire_in, ports_held}
use Rattle.routes_ports.specs.Ports.{targets, ports_set, ports_with}

-- Whether a row holds a delivery to a port.
abbrev pub delivers_in : List ℕ → Bool
delivers_in r = not (eqb (get_or r 3 0) MISSING) && not (eqb (get_or r 4 0) MISSING && eqb (get_or r 5 0) MISSING)

-- The n bus wires from a row on, the newest first.
abbrev pub wires_from : List (List ℕ) → ℕ → ℕ → List BusWire
wires_from table from zero = []
wires_from table from (suc n) = wire_in (get_or table (from + n) []) ∷ wires_from table from n

-- The port of a key, by which it is sorted: the node above the port.
abbrev pub WORD : ℕ
WORD = 4294967296

abbrev pub key_port : ℕ → Port
key_port k = record { node = k / WORD; port = k % WORD }

-- The order of suppressed ports.
abbrev pub port_less : Port → Port → Bool
port_less p q = ltb p.node q.node || (eqb p.node q.node && ltb p.port q.port)

-- Whether a port is followed by itself.
abbrev pub again : Port → List Port → Bool
again p [] = false
again p (q ∷ l) = same_port p q

-- Of equal ports that follow one another, the last.
abbrev pub unique : List Port → List Port
unique [] = []
unique (p ∷ l) = elim (again p l) [ true ↦ unique l | false ↦ p ∷ unique l ]

-- P8: ports written over a table from row 0 on: the rows written, then the old rest.
abbrev pub ports_over : List Port → List (List ℕ) → List (List ℕ)
ports_over l old = map port_row l ++ drop (length l) old

-- The ports handed in, with those of the bus wires from..to.
abbrev pub settled : List (List ℕ) → ℕ → ℕ → List (List ℕ) → ℕ → List Port
settled wires from to ports u = ports_with (ports_set (ports_held ports u)) (wires_from wires from (to - from))

-- So many ports are sorted at most: no wire is delivered twice, and a board has no more wires.
abbrev pub PORTS : ℕ
PORTS = 8192

-- What is to be sorted is not too much, and what is left fits into the table of ports.
pub record Settleable (wires : List (List ℕ)) (from to : ℕ) (ports : List (List ℕ)) (u : ℕ) : Type 0 where
  pub rising : from ≤ to
  pub written : to ≤ length wires
  pub given : u ≤ length ports
  pub few : length (targets (wires_from wires from (to - from))) + u ≤ PORTS
  pub fits : length (settled wires from to ports u) ≤ length ports

pub record Settled (wires : List (List ℕ)) (from to : ℕ) (ports : List (List ℕ)) (u : ℕ) (after : List (List ℕ)) (r : ℕ) : Type 0 where
  pub count : r ≡ length (settled wires from to ports u)
  pub rows : after ≡ ports_over (settled wires from to ports u) ports
