-- How the code holds what is kept on a page: the levels in use on each of its rows and the claims of each of its lanes, in runs side by side.
-- No rule stands here.
use Rattle.std.specs.Prelude.{ℕ, suc, ◌+◌, ◌≤◌, ◌<◌, ◌≡◌, true, false, ◌&&◌, List, [], ◌∷◌, eqb, length, get_or}
use Rattle.base.specs.Lists.{Found, none, at}
use Rattle.base.specs.Runs.{having}
use Rattle.base.specs.Growing.{run_in, Growing}
use Rattle.board.specs.Board.{field}
use Rattle.base.specs.Views.{view}
use Rattle.routes.specs.Tables.{stop_in}
use Rattle.routes.specs.Levels.{Level, dropped, shared, own, Stop, kept_at}
use Rattle.routes_levels.specs.declared.laying.GroupEnd.{GroupEnd}
use Rattle.routes_levels.specs.Laying.{Ends, ROWS_MOST, LANES_MOST}

-- The runs of a page are those of its rows, and then those of its lanes.
abbrev pub KEYS : ℕ
KEYS = 4608

abbrev pub lane_key : ℕ → ℕ
lane_key lane = ROWS_MOST + lane

abbrev pub on_top : Found → List ℕ → List ℕ
on_top none l = l
on_top (at x) l = x ∷ l

-- The level that a stop claims, or none.
abbrev pub claim_of : Level → Found
claim_of dropped = none
claim_of (shared x) = none
claim_of (own x) = at x

-- What the stops of a page at a place hold there, the newest first.
abbrev pub held_at : (Stop → ℕ) → (Level → Found) → List Stop → ℕ → ℕ → List ℕ
held_at place holds [] p k = []
held_at place holds (s ∷ l) p k = elim (eqb s.page p && eqb (place s) k) [ true ↦ on_top (holds s.level) (held_at place holds l p k) | false ↦ held_at place holds l p k ]

-- The levels in use on a row, and those claimed in a lane.
unfoldable pub levels_on : List Stop → ℕ → ℕ → List ℕ
levels_on = held_at (λ s. s.row) kept_at

unfoldable pub claims_on : List Stop → ℕ → ℕ → List ℕ
claims_on = held_at (λ s. s.lane) claim_of

-- One place holds a level more, if there is one, and the others what they held.
pub record Grown (k : ℕ) (f : Found) (before after : ℕ → List ℕ) : Type 0 where
  pub here : after k ≡ on_top f (before k)
  pub others : (j : ℕ) → (j ≡ k → ⊥) → after j ≡ before j

-- The runs hold this on the rows and this in the lanes.
pub record Runs (rows lanes : ℕ → List ℕ) (starts nexts xs : List ℕ) : Type 0 where
  pub grows : Growing KEYS starts nexts xs
  pub few : length xs < 4294967295
  pub row_runs : (r : ℕ) → r < ROWS_MOST → run_in starts nexts xs r ≡ rows r
  pub lane_runs : (l : ℕ) → l < LANES_MOST → run_in starts nexts xs (lane_key l) ≡ lanes l

-- From a page on no stop holds anything.
pub record NoneFrom (p : ℕ) (ss : List Stop) : Type 0 where
  pub rows : (q r : ℕ) → p ≤ q → levels_on ss q r ≡ []
  pub lanes : (q l : ℕ) → p ≤ q → claims_on ss q l ≡ []

-- The runs are those of a page, the last one so far.
pub record PageRuns (p : ℕ) (ss : List Stop) (starts nexts xs : List ℕ) : Type 0 where
  pub runs : Runs (levels_on ss p) (claims_on ss p) starts nexts xs
  pub later : NoneFrom (suc p) ss

-- There is a row and a lane, and both runs have room for one more.
pub record RoomFor (row lane : ℕ) (starts nexts : List ℕ) : Type 0 where
  pub row_small : row < ROWS_MOST
  pub lane_small : lane < LANES_MOST
  pub row_room : get_or nexts row 0 < get_or starts (suc row) 0
  pub lane_room : get_or nexts (lane_key lane) 0 < get_or starts (suc (lane_key lane)) 0

-- Two runs are filled by one at most, the others are as they were.
pub record Onward (row lane : ℕ) (nexts nexts' : List ℕ) : Type 0 where
  pub here : get_or nexts' row 0 ≤ suc (get_or nexts row 0)
  pub there : get_or nexts' lane 0 ≤ suc (get_or nexts lane 0)
  pub others : (j : ℕ) → (j ≡ row → ⊥) → (j ≡ lane → ⊥) → get_or nexts' j 0 ≡ get_or nexts j 0

-- What a stop laid leaves: its group's ends, and its level in the runs.
pub record StopLaid (p row lane : ℕ) (stops : List (List ℕ)) (ends : List GroupEnd) (starts nexts nexts' xs' : List ℕ) (s : ℕ) : Type 0 where
  pub lasts : Ends ends (view stop_in stops s)
  pub held : PageRuns p (view stop_in stops s) starts nexts' xs'
  pub onward : Onward row (lane_key lane) nexts nexts'

-- The keys of a tap, counted from the a-th on.
abbrev pub row_at : List (List ℕ) → ℕ → ℕ → ℕ
row_at laid a i = field laid (a + i) 2

abbrev pub lane_at : List (List ℕ) → List (List ℕ) → ℕ → ℕ → ℕ
lane_at groups laid a i = lane_key (field groups (field laid (a + i) 1) 4)

-- How many times the first i taps from the a-th on have a key.
unfoldable pub share : List (List ℕ) → List (List ℕ) → ℕ → ℕ → ℕ → ℕ
share groups laid a k i = having (row_at laid a) k i + having (lane_at groups laid a) k i

-- Each run has room for what m taps from the a-th on can hold.
pub record Wide (groups laid : List (List ℕ)) (a m : ℕ) (starts : List ℕ) : Type 0 where
  pub wide : (k : ℕ) → k < KEYS → get_or starts (suc k) 0 ≡ get_or starts k 0 + share groups laid a k m

-- No run holds more than the first i of them can.
pub record Used (groups laid : List (List ℕ)) (a i : ℕ) (starts nexts : List ℕ) : Type 0 where
  pub used : (k : ℕ) → k < KEYS → get_or nexts k 0 ≤ get_or starts k 0 + share groups laid a k i

-- The taps from the a-th up to the e-th are of one page.
pub record OnePage (laid : List (List ℕ)) (a e : ℕ) : Type 0 where
  pub same : (i : ℕ) → a ≤ i → i < e → field laid i 0 ≡ field laid a 0
