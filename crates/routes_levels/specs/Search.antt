-- How the code looks for a level: it walks the levels in use on a row and the claims of a lane once for a window of levels, and keeps what each of those weighs.
-- No rule stands here.
use Rattle.std.specs.Prelude.{ℕ, zero, suc, ◌+◌, ◌-◌, ◌*◌, ◌<◌, ◌≡◌, Bool, true, false, not, ◌&&◌, ◌||◌, List, eqb, length, get_or, Option, None, Some}
use Rattle.sheet.specs.Table.{MISSING}
use Rattle.base.specs.Lists.{Found, none, at}
use Rattle.base.specs.Runs.{having}
use Rattle.routes.specs.Stops.{near}
use Rattle.routes.specs.Levels.{Stop, STAGGER_STEP, lowest, lightest, load_at, unclaimed}
use Rattle.board.specs.Index.{found_of}
use Rattle.routes_levels.specs.declared.windows.Lightest.{Lightest}

-- More than any load.
abbrev pub CLAIMED : ℕ
CLAIMED = MISSING

-- One more where a level is met.
abbrev pub counted : Bool → ℕ → ℕ
counted true load = suc load
counted false load = load

-- What a level weighs: its load, or more than any load where it is claimed.
abbrev pub weigh : Bool → ℕ → ℕ
weigh true load = CLAIMED
weigh false load = load

-- Whether one of the first n claims is near a level.
abbrev pub near_one : List ℕ → ℕ → ℕ → Bool
near_one lane x zero = false
near_one lane x (suc n) = near x (get_or lane n 0) || near_one lane x n

-- How often a level is in use on a row, whether it is unclaimed in a lane, whether it is free.
unfoldable pub load_in : List ℕ → ℕ → ℕ
load_in row x = having (λ i. get_or row i 0) x (length row)

unfoldable pub open_in : List ℕ → ℕ → Bool
open_in lane x = not (near_one lane x (length lane))

unfoldable pub free_in : List ℕ → List ℕ → ℕ → Bool
free_in row lane x = eqb (load_in row x) 0 && open_in lane x

-- The lowest free of so many levels, else the least loaded that is unclaimed, or none.
unfoldable pub picked : List ℕ → List ℕ → ℕ → ℕ → Found
picked row lane base count = elim (lowest (free_in row lane) base count) [ at l ↦ at l | none ↦ lightest (open_in lane) (load_in row) base count ]

-- What the levels of a window weigh, from the given one on.
pub record Weighed (row lane : List ℕ) (start : ℕ) (loads : List ℕ) : Type 0 where
  pub weights : (j : ℕ) → j < length loads → get_or loads j 0 ≡ weigh (not (open_in lane (start + STAGGER_STEP * j))) (load_in row (start + STAGGER_STEP * j))

-- The row and the lane are those of a list of stops: every load and every claim.
pub record Walked (row lane : List ℕ) (ss : List Stop) (p l r : ℕ) : Type 0 where
  pub loads : (x : ℕ) → load_at ss p r x ≡ load_in row x
  pub claims : (x : ℕ) → unclaimed ss p l x ≡ open_in lane x

-- The load of the best level so far: above every load where there is none.
abbrev pub least_of : (ℕ → ℕ) → Found → ℕ
least_of load none = MISSING
least_of load (at x) = load x

-- The best of the levels from the k-th on, of count levels.
unfoldable pub best_from : (ℕ → Bool) → (ℕ → ℕ) → ℕ → ℕ → ℕ → Found
best_from ok load base count k = lightest ok load (base + STAGGER_STEP * k) (count - k)

-- The level of the lightest so far, and its load.
abbrev pub level_of : Option Lightest → Option ℕ
level_of None = None
level_of (Some l) = Some l.level

abbrev pub load_of : Option Lightest → ℕ
load_of None = MISSING
load_of (Some l) = l.load

pub record Best (ok : ℕ → Bool) (load : ℕ → ℕ) (base count k : ℕ) (best : Option ℕ) (least : ℕ) : Type 0 where
  pub level : best ≡ found_of (best_from ok load base count k)
  pub lightly : least ≡ least_of load (best_from ok load base count k)
