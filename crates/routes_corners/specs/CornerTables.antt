-- How the code of the corner pass holds its board and the wires that turn. No rule stands here.
use Rattle.std.specs.Prelude.{◌≡◌, ℕ, zero, suc, ◌<◌, ◌≤◌, Bool, true, false, List, [], ◌∷◌, length, ◌==◌, slice_index, slice_index_or}
use Rattle.sheet.specs.Table.{MISSING}
use Rattle.base.specs.Lists.{keep, upto}
use Rattle.board.specs.Board.{Board, field, given}
use Rattle.board.specs.Tables.{NodeFacts, WireFacts}
use Rattle.routes.specs.Bus
use Rattle.routes.specs.Bus.{same_port, muted}
use Rattle.routes.specs.Corners.{turns}

-- The tables are a board's, with the facts of its nodes and wires.
pub record BoardOf (b : Board) (pages nodes wires facts : List (List ℕ)) : Type 0 where
  pub pages_are : b.pages ≡ pages
  pub nodes_are : b.nodes ≡ nodes
  pub wires_are : b.wires ≡ wires
  pub nodes_known : NodeFacts b facts
  pub wires_known : WireFacts b facts

-- The target port in a wire's row.
abbrev pub port_at : List (List ℕ) → ℕ → Bus.Port
port_at wires w = record { node = field wires w 3; port = field wires w 4 }

-- Of the first n wires, those of one class are those with one target port. A class is the number of one of its wires.
pub record Classed (wires : List (List ℕ)) (classes : List ℕ) (n : ℕ) : Type 0 where
  pub same : (v w : ℕ) → v < n → w < n → (slice_index classes v == slice_index classes w) ≡ same_port (port_at wires v) (port_at wires w)
  pub low : (w : ℕ) → w < n → slice_index classes w ≤ w

-- Whether a class has its flag.
abbrev pub flag_at : List Bool → ℕ → Bool
flag_at flags class = slice_index_or flags class false

-- A class has its flag where its port is suppressed.
abbrev pub Flagged : Board → Bus.Bus → List ℕ → List Bool → Type 0
Flagged b bus classes flags = (w : ℕ) → w < length b.wires → flag_at flags (slice_index classes w) ≡ muted b bus w

-- A wire's rows are there, and so is the flag of its class.
pub record WireThere (wires facts : List (List ℕ)) (classes : List ℕ) (flags : List Bool) (w : ℕ) : Type 0 where
  pub wire : w < length wires
  pub end : w < length facts
  pub class : w < length classes
  pub flag : slice_index_or classes w 0 < length flags

-- The ends of a wire that passes the tests are nodes that have a row.
pub record EndsThere (nodes facts : List (List ℕ)) (w : ℕ) : Type 0 where
  pub source : field facts w 2 < length nodes
  pub target : field facts w 3 < length nodes
  pub source_row : given (field nodes (field facts w 2) 10) ≡ true
  pub on_row : given (field nodes (field facts w 3) 10) ≡ true

-- The first n numbers, newest first.
abbrev pub firsts : List ℕ → ℕ → List ℕ
firsts s zero = []
firsts s (suc n) = slice_index s n ∷ firsts s n

-- The tables that the tests read, and room for the wires that pass.
pub record TestsFit (wires facts : List (List ℕ)) (classes : List ℕ) (flags : List Bool) (list : List ℕ) : Type 0 where
  pub wires_few : length wires ≤ MISSING
  pub ends_long : length wires ≤ length facts
  pub classes_long : length wires ≤ length classes
  pub class_fits : (w : ℕ) → w < length wires → slice_index classes w < length flags
  pub room : length wires ≤ length list

-- The first n of a list are wires below w whose ends are there: those that turn on the bus.
pub record TurningBelow (nodes wires facts : List (List ℕ)) (classes : List ℕ) (flags : List Bool) (list : List ℕ) (n w : ℕ) : Type 0 where
  pub few : n ≤ w
  pub below : (k : ℕ) → k < n → slice_index list k < w
  pub ends : (k : ℕ) → k < n → EndsThere nodes facts (slice_index list k)
  pub all : (b : Board) (bus : Bus.Bus) (pages : List (List ℕ)) → BoardOf b pages nodes wires facts → Flagged b bus classes flags → firsts list n ≡ keep (turns b bus) (upto w)
