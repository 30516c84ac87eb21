-- How the code that collects taps, groups and demands holds them on its way. No rule stands here.
use Rattle.std.specs.Prelude.{ℕ, ◌+◌, ◌-◌, ◌*◌, ◌≤◌, ◌<◌, ◌≡◌, true, false, ◌&&◌, List, [], ◌∷◌, eqb, length, get_or, set, Option, Some, None}
use Rattle.sheet.specs.Table.{MISSING, library_most}
use Rattle.base.specs.Sort.{lex_less}
use Rattle.base.specs.Keys.{Rising}
use Rattle.lanes.specs.LaneCall.{row_most, count_most}
use Rattle.board_groups.specs.declared.rows.Run.{Run}
use Rattle.base.specs.Lists.{Found, none, at}
use Rattle.board.specs.Board.{Board, field, has_row, page_of, down_of, inner_chip}
use Rattle.board.specs.Refusals.{body_of}
use Rattle.board.specs.Index.{Ids, found_of}
use Rattle.board.specs.Rows.{brick_cell}
use Rattle.board.specs.Groups.{Tap, top_chip}
use Rattle.board.specs.Demands.{needs_lane}
use Rattle.board.specs.Tables.{group_row}

-- Above the x end of every brick: the rank of an x end counts down from it.
abbrev pub END_MOST : ℕ
END_MOST = 4000000

-- The row by which a node is sorted: its page, its down, then the highest x end first; behind them its index and its x end.
unfoldable pub row_key : Board → ℕ → List ℕ
row_key b i =
    elim (has_row b i) [
      | true ↦ page_of b i ∷ down_of b i ∷ (END_MOST - (brick_cell b i).x1) ∷ i ∷ (brick_cell b i).x1 ∷ 0 ∷ 0 ∷ 0 ∷ []
      | false ↦ MISSING ∷ 0 ∷ 0 ∷ i ∷ 0 ∷ 0 ∷ 0 ∷ 0 ∷ []
    ]

-- The keys of all nodes, in order.
pub record Ranked (b : Board) (keys : List (List ℕ)) : Type 0 where
  pub each : (k : ℕ) → k < length keys → (i : ℕ) × (i < length b.nodes) × (get_or keys k [] ≡ row_key b i)
  pub all : (i : ℕ) → i < length b.nodes → (k : ℕ) × (k < length keys) × (get_or keys k [] ≡ row_key b i)
  pub rising : (j k : ℕ) → j < k → k < length keys → lex_less (get_or keys k []) (get_or keys j []) ≡ false
  pub ends : (i : ℕ) → i < length b.nodes → has_row b i ≡ true → (brick_cell b i).x1 ≤ END_MOST

-- The row of a page that starts with the key.
abbrev pub run_from : List ℕ → ℕ → Run
run_from key row = record { page = get_or key 0 0; down = get_or key 1 0; row = row; top = get_or key 4 0 }

-- The row that a key stands in, after that of the key before it.
unfoldable pub next_run : Run → List ℕ → Run
next_run run key =
    elim (eqb (get_or key 0 0) run.page) [
      | false ↦ run_from key 0
      | true ↦ elim (eqb (get_or key 1 0) run.down) [ false ↦ run_from key (run.row + 1) | true ↦ run ]
    ]

-- The same where no key may be before it.
abbrev pub run_after : Option Run → List ℕ → Run
run_after None key = run_from key 0
run_after (Some run) key = next_run run key

-- The ids of the body nodes and of the nodes inside chips, indexed.
pub record Indexes (nodes inner bodyIds innerIds : List (List ℕ)) : Type 0 where
  pub few : length nodes ≤ library_most.nodes
  pub few_inner : length inner ≤ library_most.inner
  pub body : Ids bodyIds (length nodes) (λ i. field nodes i 1)
  pub inside : Ids innerIds (length inner) (λ f. field inner f 1)

-- G2: the anchor of inner record f, the brick of its chip's top chip.
abbrev pub inner_anchor : Board → ℕ → Found
inner_anchor b f = body_of b (top_chip b (length b.chips) (inner_chip b f))

-- A table of the anchors of inner records: each entry is what was found, or none where it was not asked for.
abbrev pub SomeAnchors : Board → List (Option (Option ℕ)) → Type 0
SomeAnchors b anchors = (f : ℕ) (anchor : Option ℕ) → f < length b.inner → get_or anchors f None ≡ Some anchor → anchor ≡ found_of (inner_anchor b f)

-- One more than the greatest number of 32 bits.
abbrev pub WORD : ℕ
WORD = 4294967296

-- A node and a port as one number.
abbrev pub exec_key : ℕ → ℕ → ℕ
exec_key node port = node * WORD + port

-- The keys of the X records, in rising order.
pub record ExecKeys (execs : List (List ℕ)) (keys : List ℕ) : Type 0 where
  pub room : length execs ≤ length keys
  pub rising : Rising keys (length execs)
  pub from : (p : ℕ) → p < length execs → (e : ℕ) × (e < length execs) × (get_or keys p 0 ≡ exec_key (field execs e 1) (field execs e 2)) × (field execs e 2 < WORD)
  pub to : (e : ℕ) → e < length execs → (p : ℕ) × (p < length execs) × (get_or keys p 0 ≡ exec_key (field execs e 1) (field execs e 2))

-- A group's row with another lane.
abbrev pub relaned : Found → List ℕ → List ℕ
relaned none r = r
relaned (at l) r = set r 4 l

-- The groups before any lane is given.
abbrev pub GroupSums : Board → List Tap → List (List ℕ) → Type 0
GroupSums b ts table = (g : ℕ) → g < length b.wires → get_or table g [] ≡ group_row b ts g MISSING

-- The page of a group's first tap where the group needs a lane.
unfoldable pub head_page : Board → List Tap → Tap → Found
head_page b ts t = elim (eqb t.group t.wire && needs_lane b ts t.group) [ true ↦ at t.page | false ↦ none ]

-- The groups' rows as lane packing takes them.
pub record Packable (taps : List (List ℕ)) (m : ℕ) (groups : List (List ℕ)) : Type 0 where
  pub group : (k : ℕ) → k < m → field taps k 1 < length groups
  pub order : (k : ℕ) → k < m → field taps k 1 ≤ count_most
  pub first : (k : ℕ) → k < m → field groups (field taps k 1) 0 ≤ field groups (field taps k 1) 1
  pub last : (k : ℕ) → k < m → field groups (field taps k 1) 1 ≤ row_most
  pub consumers : (k : ℕ) → k < m → field groups (field taps k 1) 2 ≤ count_most
