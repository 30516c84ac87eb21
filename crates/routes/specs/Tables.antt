-- How the code holds stops, rerouters and bus wires in tables of rows of numbers. Of the rules only P8 stands here.
use Rattle.std.specs.Prelude.{◌≡◌, ℕ, true, false, List, [], ◌∷◌, map, length, get_or, set, ◌==◌}
use mathlib.Core.List.{Memᴰ}
use Rattle.base.specs.Lists.{least, greatest}
use Rattle.board.specs.Board.{Board, field}
use Rattle.board.specs.Groups.{Tap, taps_in}
use Rattle.board.specs.Demands.{PageLanes, lane_of}
use Rattle.board.specs.Tables.{held}
use Rattle.routes.specs.Levels.{Level, dropped, shared, own, Stop}

-- P8: a list written over a table, its oldest element in row 0: the rows written, then the old rest.
abbrev pub written_over {ℓ} : {A : Type ℓ} → (A → List ℕ) → List A → List (List ℕ) → List (List ℕ)
written_over row [] old = old
written_over row (x ∷ l) old = set (written_over row l old) (length l) (row x)

-- A stop in a row of eight numbers: page, lane, group, row, base, level, and how it has its level: 0 dropped, 1 shared, 2 its own.
abbrev pub level_in : ℕ → ℕ → Level
level_in kind level = elim (kind == 0) [ true ↦ dropped | false ↦ elim (kind == 1) [ true ↦ shared level | false ↦ own level ] ]

abbrev pub stop_in : List ℕ → Stop
stop_in r =
    record {
      page = get_or r 0 0;
      lane = get_or r 1 0;
      group = get_or r 2 0;
      row = get_or r 3 0;
      base = get_or r 4 0;
      level = level_in (get_or r 6 0) (get_or r 5 0);
    }

-- Facts of the groups, in the row of a group's first wire: column 4 is its lane, columns 5 and 6 the least and the greatest x of its taps.
pub record GroupFacts (b : Board) (ts : List Tap) (ps : List PageLanes) (facts : List (List ℕ)) : Type 0 where
  pub lanes : (t : Tap) → Memᴰ t ts → field facts t.group 4 ≡ held (lane_of ps t.page t.group)
  pub lows : (t : Tap) → Memᴰ t ts → field facts t.group 5 ≡ least 0 (map (λ u. u.x) (taps_in b ts t.group))
  pub highs : (t : Tap) → Memᴰ t ts → field facts t.group 6 ≡ greatest 0 (map (λ u. u.x) (taps_in b ts t.group))
