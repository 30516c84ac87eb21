-- T, stops: the groups that are laid, their taps in order, and where a lane stops on each row.
use Rattle.std.specs.Prelude.{ℕ, ◌+◌, ◌-◌, Bool, true, false, not, ◌&&◌, List, [], ◌∷◌, map, reverse, ◌==◌, nat_le, nat_lt}
use Rattle.base.specs.Sort.{sorted, lex_less}
use Rattle.base.specs.Lists.{Found, none, at, found, keep, least, greatest}
use Rattle.board.specs.Board.{Board, placed, x_of}
use Rattle.board.specs.Rows.{REROUTER_SIZE}
use Rattle.board.specs.Groups.{Tap, taps_in, source_anchor}
use Rattle.board.specs.Demands.{PageLanes, lane_of}

-- T1: the least spread of a group that is laid.
abbrev pub MIN_LANE_TRAVEL : ℕ
MIN_LANE_TRAVEL = 6

-- T1: how far apart the greatest and the least x are.
unfoldable pub spread : List ℕ → ℕ
spread xs = greatest 0 xs - least 0 xs

-- T1: the source anchor is unplaced, or taps and source lie far enough apart.
unfoldable pub long_enough : Board → List Tap → ℕ → Bool
long_enough b ts g =
    elim (placed b (source_anchor b g))
    [ true ↦ nat_le MIN_LANE_TRAVEL (spread (x_of b (source_anchor b g) ∷ map (λ t. t.x) (taps_in b ts g))) | false ↦ true ]

-- T1: whether a tap's group is laid: it has a lane, too.
unfoldable pub is_laid : Board → List Tap → List PageLanes → Tap → Bool
is_laid b ts ps t = found (lane_of ps t.page t.group) && long_enough b ts t.group

-- T2: the order of laying.
abbrev pub tap_key : Tap → List ℕ
tap_key t = t.page ∷ t.group ∷ t.row ∷ t.y ∷ t.x ∷ t.node ∷ t.port ∷ t.wire ∷ []

abbrev pub tap_before : Tap → Tap → Bool
tap_before t u = lex_less (tap_key t) (tap_key u)

-- T2: the taps of the laid groups in that order, the last first.
unfoldable pub laid_taps : Board → List Tap → List PageLanes → List Tap
laid_taps b ts ps = reverse (sorted tap_before (keep (is_laid b ts ps) ts))

-- T3: whether a tap is the first of its group, of its group on its row, of its column there: the list has the taps before it.
abbrev pub new_group : List Tap → Tap → Bool
new_group [] t = true
new_group (u ∷ l) t = not (u.group == t.group)

abbrev pub new_row : List Tap → Tap → Bool
new_row [] t = true
new_row (u ∷ l) t = not (u.group == t.group && u.row == t.row)

abbrev pub new_column : List Tap → Tap → Bool
new_column [] t = true
new_column (u ∷ l) t = not (u.group == t.group && u.row == t.row && u.y == t.y)

-- T4: less than 2 apart, so that their spans overlap (V6).
abbrev pub near : ℕ → ℕ → Bool
near x p = nat_lt x (p + REROUTER_SIZE) && nat_lt p (x + REROUTER_SIZE)

-- T4: a stop's base, by that of the previous stop.
abbrev pub stop_x : Found → ℕ → ℕ
stop_x none x = x
stop_x (at p) x = elim (near x p) [ true ↦ p | false ↦ x ]
