-- How the code finds refusals 4 to 6: one walk along a sheet's records, in which every id is entered into an index. No rule stands here.
use Rattle.std.specs.Prelude.{ℕ, suc, ◌+◌, ◌≤◌, ◌<◌, ◌≡◌, Bool, true, false, List, eqb, length, get_or, set, Option, Some, None, Result, Ok, Err, MatchResult}
use Rattle.base.specs.declared.refusal.Reason.TheVariants.{IdTaken, NotThere, Unplaced}
use Rattle.base.specs.declared.refusal.Refusal.{Refusal}
use Rattle.base.specs.Refusal.{refusal}
use Rattle.std.specs.Option.{option_or}
use Rattle.sheet.specs.declared.Counts.{Counts}
use Rattle.sheet.specs.Table.{library_most}
use Rattle.sheet.specs.Reading.{rows_from, listed, rows, reading}
use Rattle.sheet.specs.Answer.{AtRow, RowsHeld}
use Rattle.board.specs.declared.walks.Walk.{Walk}
use Rattle.base.specs.Lists.{Found, none, at, found}
use Rattle.board.specs.Board.{Board, board_of, kind_chip, id_of, kind_of, chip_id, inner_id}
use Rattle.board.specs.Refusals.{first_line, node_twice, chip_twice, inner_twice, page_missing, parent_missing, chip_missing, row_unplaced, Judged, turned_away, board}
use Rattle.board.specs.Index.{Index, column, entry_of, found_of}
pub use Rattle.board.specs.Index.{Ids}

-- The board of a sheet that reading accepts.
abbrev pub sheet_board : List ℕ → Board
sheet_board text = board_of (rows_from text)

-- The line of the i-th record of a section that so many lines stand before.
abbrev pub line_from : ℕ → ℕ → ℕ
line_from first i = suc (first + i)

-- Whether a node found is a Chip, by the nodes' kinds.
abbrev pub is_chip : List ℕ → Found → Bool
is_chip kinds none = false
is_chip kinds (at i) = eqb (get_or kinds i 0) kind_chip

-- How many ids of each kind an index has room for.
abbrev pub NODES_MOST : ℕ
NODES_MOST = library_most.nodes

abbrev pub CHIPS_MOST : ℕ
CHIPS_MOST = library_most.chips

abbrev pub INNER_MOST : ℕ
INNER_MOST = library_most.inner

-- An index without entries and with room for so many.
pub record Fresh (ids : List (List ℕ)) (most : ℕ) : Type 0 where
  pub index : Index ids 0
  pub room : most ≤ length ids

-- An id entered as the n-th entry, for a line; or a 4 there, where it was entered before.
pub record Entered (ids : List (List ℕ)) (n id line : ℕ) (r : Result (Unit {0}) Refusal) (ids' : List (List ℕ)) : Type 0 where
  pub answer : r ≡ elim (found (entry_of ids n id)) [ true ↦ Err (refusal IdTaken line) | false ↦ Ok tt ]
  pub added : r ≡ Ok tt → column 0 ids' ≡ set (column 0 ids) n id
  pub index : r ≡ Ok tt → Index ids' (suc n)

-- No more records of each section than the library takes.
abbrev pub WithinLibrary : Counts → Type 0
WithinLibrary most = (s : ℕ) → get_or (listed most) s 0 ≤ get_or (listed library_most) s 0

-- Where a walk along an accepted sheet stands: so many lines are behind. It goes along the rows that are lent, and along the text behind the last of them.
pub record Ready (text : List ℕ) (lent : List (List ℕ)) (first place : ℕ) : Type 0 where
  pub most : Counts
  pub within : WithinLibrary most
  pub accepted : reading most text ≡ rows (rows_from text)
  pub line : AtRow text lent first place

-- The rows of a sheet that reading accepts stand in lent rows, as far as these reach.
abbrev pub RowsIf : Counts → List ℕ → List (List ℕ) → Type 0
RowsIf most text lent = (l : List (List ℕ)) → reading most text ≡ rows l → RowsHeld text lent

-- What the walk along the chips starts from: the counts, and the body nodes' ids and kinds.
pub record ChipsReady (b : Board) (first n nodes : ℕ) (bodyIds : List (List ℕ)) (kinds : List ℕ) : Type 0 where
  pub behind : first ≡ length b.pages + length b.nodes
  pub count : n ≡ length b.chips
  pub bodies : nodes ≡ length b.nodes
  pub body : Ids bodyIds nodes (id_of b)
  pub room : nodes ≤ length kinds
  pub kinds_are : (j : ℕ) → j < nodes → get_or kinds j 0 ≡ kind_of b j

-- What the walk along the nodes inside chips starts from: the counts, and the ids of the body nodes and of the chips.
pub record InnerReady (b : Board) (first n nodes chips : ℕ) (bodyIds chipIds : List (List ℕ)) : Type 0 where
  pub behind : first ≡ length b.pages + length b.nodes + length b.chips
  pub count : n ≡ length b.inner
  pub bodies : nodes ≡ length b.nodes
  pub chips_are : chips ≡ length b.chips
  pub body : Ids bodyIds nodes (id_of b)
  pub chip : Ids chipIds chips (chip_id b)

-- The 4 at the first line of a section whose id was there before.
abbrev pub LineTwice : Board → ℕ → ℕ → (ℕ → Bool) → Refusal → Type 0
LineTwice b first n repeats e = (line : ℕ) × (first_line b (line_from first) repeats n ≡ at line) × (e ≡ refusal IdTaken line)

-- A walk along the n records of a section from w₀ to w, none of whose ids was there before: the first line at which something is not there.
pub record Walked (text : List ℕ) (lent : List (List ℕ)) (first n : ℕ) (id_at : ℕ → ℕ) (repeats gone : ℕ → Bool) (w₀ w : Walk) (ids : List (List ℕ)) : Type 0 where
  pub once : first_line (sheet_board text) (line_from first) repeats n ≡ none
  pub place : Ready text lent (first + n) w.place
  pub missing : w.missing ≡ option_or w₀.missing (found_of (first_line (sheet_board text) (line_from first) gone n))
  pub entered : Ids ids n id_at

-- The kinds of the body nodes, and the first line of a 6.
pub record NodesSeen (text : List ℕ) (first n : ℕ) (w₀ w : Walk) (held : List ℕ) : Type 0 where
  pub kinds : (j : ℕ) → j < n → get_or held j 0 ≡ kind_of (sheet_board text) j
  pub unplaced : w.unplaced ≡ option_or w₀.unplaced (found_of (first_line (sheet_board text) (line_from first) (row_unplaced (sheet_board text)) n))

abbrev pub WalkedNodes : List ℕ → List (List ℕ) → ℕ → ℕ → Walk → Result Walk Refusal → List (List ℕ) → List ℕ → Type 0
WalkedNodes text lent first n w₀ r ids held =
    let b = sheet_board text in
    MatchResult r (λ w. Walked text lent first n (id_of b) (node_twice b) (page_missing b) w₀ w ids × NodesSeen text first n w₀ w held) (LineTwice b first n (node_twice b))

abbrev pub WalkedChips : List ℕ → List (List ℕ) → ℕ → ℕ → Walk → Result Walk Refusal → List (List ℕ) → Type 0
WalkedChips text lent first n w₀ r ids =
    let b = sheet_board text in
    MatchResult r (λ w. Walked text lent first n (chip_id b) (chip_twice b) (parent_missing b) w₀ w ids × (w.unplaced ≡ w₀.unplaced)) (LineTwice b first n (chip_twice b))

abbrev pub WalkedInner : List ℕ → List (List ℕ) → ℕ → ℕ → Walk → Result Walk Refusal → List (List ℕ) → Type 0
WalkedInner text lent first n w₀ r ids =
    let b = sheet_board text in
    MatchResult r (λ w. Walked text lent first n (inner_id b) (inner_twice b) (chip_missing b) w₀ w ids × (w.unplaced ≡ w₀.unplaced)) (LineTwice b first n (inner_twice b))

-- 5 before 6, by the first lines of each.
abbrev pub verdict_of : Option ℕ → Option ℕ → Result (Unit {0}) Refusal
verdict_of (Some line) last = Err (refusal NotThere line)
verdict_of None (Some line) = Err (refusal Unplaced line)
verdict_of None None = Ok tt

-- What `find_fault` answers.
abbrev pub fault_of : Judged → Result (Unit {0}) Refusal
fault_of (turned_away e) = Err e
fault_of (board b) = Ok tt

-- What `check_board` answers: the refusal, or how many records of each section the board has.
abbrev pub counts_in : Board → Counts
counts_in b =
    record {
      pages = length b.pages;
      nodes = length b.nodes;
      chips = length b.chips;
      inner = length b.inner;
      execs = length b.execs;
      wires = length b.wires;
    }

abbrev pub board_checked : Judged → Result Counts Refusal
board_checked (turned_away e) = Err e
board_checked (board b) = Ok (counts_in b)

-- The three indexes of a board's ids.
pub record Indexed (b : Board) (bodyIds chipIds innerIds : List (List ℕ)) : Type 0 where
  pub body : Ids bodyIds (length b.nodes) (id_of b)
  pub chips : Ids chipIds (length b.chips) (chip_id b)
  pub inner : Ids innerIds (length b.inner) (inner_id b)

-- .. of the board that a sheet is judged to be, if it is one.
abbrev pub IndexedIf : Judged → (bodyIds chipIds innerIds : List (List ℕ)) → Type 0
IndexedIf (turned_away e) bodyIds chipIds innerIds = Unit {0}
IndexedIf (board b) bodyIds chipIds innerIds = Indexed b bodyIds chipIds innerIds
