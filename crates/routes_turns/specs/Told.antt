-- Corners by the answers to their questions. No rule stands here.
use Rattle.std.specs.Prelude.{ℕ, ◌≤◌, true, false, List, [], ◌∷◌, eqb, length, get_or}
use Rattle.base.specs.Lists.{Found, none, at}
use Rattle.sheet.specs.Table.{MISSING}
use Rattle.board.specs.Board.{Board}
use Rattle.board.specs.Rows.{brick_cell}
use Rattle.routes_turns.specs.Deciding.{Decided, decide_if, sink_of}

-- A level by one number, and that of question q.
abbrev pub level_in : ℕ → Found
level_in v = elim (eqb v MISSING) [ true ↦ none | false ↦ at v ]

abbrev pub answers_in : List ℕ → ℕ → Found
answers_in answers q = level_in (get_or answers q 0)

-- The corners of wires in order, the newest first, each at the level told.
unfoldable pub told_corners : (ℕ → Found) → List ℕ → List Decided
told_corners told [] = []
told_corners told (w ∷ l) = decide_if (told (length l)) w (told_corners told l)

-- The sinks of wires end low enough that MISSING is no level.
abbrev pub SinksLow : Board → List ℕ → Type 0
SinksLow b [] = Unit {0}
SinksLow b (w ∷ l) = ((brick_cell b (sink_of b w)).x1 ≤ MISSING) × SinksLow b l
