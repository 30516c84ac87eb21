-- V, levels (`lay_bus`): the level of each stop.
use Rattle.std.specs.Prelude.{ℕ, zero, suc, ◌+◌, ◌-◌, ◌/◌, Bool, true, false, not, ◌&&◌, List, [], ◌∷◌, length, ◌==◌, nat_eq, nat_le}
use Rattle.base.specs.Lists.{Found, none, at, found, any, keep}
use Rattle.board.specs.Board.{Board}
use Rattle.board.specs.Rows.{row_top}
use Rattle.board.specs.Groups.{Tap}
use Rattle.board.specs.Demands.{PageLanes, lane_of}
use Rattle.routes.specs.Stops.{new_row, near, stop_x}

-- V3: from one level to the next.
abbrev pub STAGGER_STEP : ℕ
STAGGER_STEP = 2

-- V3, K4: how many levels there are from a base up to a top.
abbrev pub levels_in : ℕ → ℕ → ℕ
levels_in base top = (top - base) / STAGGER_STEP

-- V3: the lowest free level, or none, of so many from the given one.
abbrev pub lowest : (ℕ → Bool) → ℕ → ℕ → Found
lowest free level zero = none
lowest free level (suc n) = elim (free level) [ true ↦ at level | false ↦ lowest free (level + STAGGER_STEP) n ]

-- V7: the least loaded of those that pass the test, of equals the lowest.
abbrev pub lighter : (ℕ → ℕ) → ℕ → Found → Found
lighter load level none = at level
lighter load level (at other) = elim (nat_le (load level) (load other)) [ true ↦ at level | false ↦ at other ]

abbrev pub lightest : (ℕ → Bool) → (ℕ → ℕ) → ℕ → ℕ → Found
lightest ok load level zero = none
lightest ok load level (suc n) =
    elim (ok level)
    [ true ↦ lighter load level (lightest ok load (level + STAGGER_STEP) n) | false ↦ lightest ok load (level + STAGGER_STEP) n ]

-- V2, V9: a stop's level: none, that of the group's last kept stop, or one of its own.
pub data Level : Type 0 where
  dropped : Level
  shared : ℕ → Level
  own : ℕ → Level

-- T3: a stop of a group on a row.
pub record Stop : Type 0 where
  pub page : ℕ
  pub lane : ℕ
  pub group : ℕ
  pub row : ℕ
  pub base : ℕ
  pub level : Level

abbrev pub kept_at : Level → Found
kept_at dropped = none
kept_at (shared l) = at l
kept_at (own l) = at l

abbrev pub is_own : Level → Bool
is_own dropped = false
is_own (shared l) = false
is_own (own l) = true

-- T4: the base of the group's previous stop, dropped later or not.
abbrev pub previous_stop : List Stop → ℕ → Found
previous_stop [] g = none
previous_stop (s ∷ l) g = elim (s.group == g) [ true ↦ at s.base | false ↦ previous_stop l g ]

-- V2: the level of the group's last kept stop, where that has this base.
abbrev pub level_with_base : List Stop → ℕ → ℕ → Found
level_with_base [] g base = none
level_with_base (s ∷ l) g base =
    elim (s.group == g && found (kept_at s.level))
    [ true ↦ elim (s.base == base) [ true ↦ kept_at s.level | false ↦ none ] | false ↦ level_with_base l g base ]

-- V5: the row's load at a level: the stops kept there.
abbrev pub kept_there : ℕ → ℕ → ℕ → Stop → Bool
kept_there p r level s = s.page == p && s.row == r && elim (kept_at s.level) [ at l ↦ nat_eq l level | none ↦ false ]

unfoldable pub load_at : List Stop → ℕ → ℕ → ℕ → ℕ
load_at stops p r level = length (keep (kept_there p r level) stops)

-- V6: a stop's own level claims its span; a span is unclaimed when no such level is near it.
abbrev pub claim_near : ℕ → ℕ → ℕ → Stop → Bool
claim_near p lane level s = s.page == p && s.lane == lane && elim s.level [ own l ↦ near level l | shared l ↦ false | dropped ↦ false ]

unfoldable pub unclaimed : List Stop → ℕ → ℕ → ℕ → Bool
unclaimed stops p lane level = not (any (claim_near p lane level) stops)

-- V4: load 0 on the row, and its span unclaimed.
unfoldable pub free_level : List Stop → ℕ → ℕ → ℕ → ℕ → Bool
free_level stops p lane r level = load_at stops p r level == 0 && unclaimed stops p lane level

-- V3, V8: the lowest free level, else the least loaded one that is unclaimed (V7), else base, if that is.
unfoldable pub find_level : List Stop → ℕ → ℕ → ℕ → ℕ → ℕ → Found
find_level stops p lane r base top =
    elim (lowest (free_level stops p lane r) base (levels_in base top)) [
      | at l ↦ at l
      | none ↦
          elim (lightest (unclaimed stops p lane) (load_at stops p r) base (levels_in base top))
          [ at l ↦ at l | none ↦ elim (unclaimed stops p lane base) [ true ↦ at base | false ↦ none ] ]
    ]

-- V9: a stop for which none is found is dropped.
abbrev pub own_level : Found → Level
own_level none = dropped
own_level (at l) = own l

-- V2: taken over from a stop of the same base, else of its own.
unfoldable pub level_of : Board → List Stop → ℕ → ℕ → Tap → Level
level_of b stops lane base t =
    elim (level_with_base stops t.group base)
    [ at l ↦ shared l | none ↦ own_level (find_level stops t.page lane t.row base (row_top b t.page t.row)) ]

-- T3, T4: the stop of a tap that is the first on its row.
unfoldable pub stop_for : Board → List Stop → ℕ → Tap → Stop
stop_for b stops lane t =
    let base = stop_x (previous_stop stops t.group) t.x in
    record { page = t.page; lane = lane; group = t.group; row = t.row; base = base; level = level_of b stops lane base t }

abbrev pub lane_for : List PageLanes → Tap → ℕ
lane_for ps t = elim (lane_of ps t.page t.group) [ at l ↦ l | none ↦ zero ]

-- V1: the stops of the laid taps, newest first: one for each row of each group. A page's claims and loads are its own, so the pages follow one another
-- without regard to the rerouters between.
unfoldable pub stops_of : Board → List PageLanes → List Tap → List Stop
stops_of b ps [] = []
stops_of b ps (t ∷ l) =
    let stops = stops_of b ps l in elim (new_row l t) [ true ↦ stop_for b stops (lane_for ps t) t ∷ stops | false ↦ stops ]
