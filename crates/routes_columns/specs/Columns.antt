-- How the code holds the claims and asks for columns. The claims of a lane are a run of numbers, the x of each: those of the stops' own levels, then one for each
-- head and link that is placed. No rule stands here.
use Rattle.std.specs.Prelude.{ℕ, suc, ◌+◌, ◌-◌, ◌*◌, ◌<◌, ◌≤◌, ◌≡◌, Bool, true, false, not, ◌&&◌, List, [], ◌∷◌, eqb, ltb, length, get_or, set}
use Rattle.std.specs.Option.{is_some, unwrap_or}
use Rattle.sheet.specs.Table.{MISSING}
use Rattle.base.specs.Lists.{any}
use Rattle.base.specs.Runs.{having}
use Rattle.base.specs.Growing.{run_in, Growing, Put}
use Rattle.board.specs.Board.{Board, field}
use Rattle.board.specs.Rows.{REROUTER_SIZE}
use Rattle.board.specs.Groups
use Rattle.board.specs.Demands.{PageLanes}
use Rattle.board.specs.Tables.{flag}
use Rattle.routes.specs.Stops.{near}
use Rattle.routes.specs.Levels.{Level, dropped, shared, own, Stop, is_own, unclaimed}
use Rattle.routes.specs.News.{begins_group, begins_row, begins_column}
use Rattle.routes.specs.Rerouters.{TAP_RESERVE}
use Rattle.routes.specs.declared.levels.Level.TheVariants.{Dropped}
use Rattle.routes_taps.specs.declared.taps.Lane.{Lane}
use Rattle.routes_taps.specs.declared.taps.Tap.{Tap}
use Rattle.routes.specs.declared.news.News.{News}
use Rattle.routes_taps.specs.declared.taps.Reached.{Reached}
use Rattle.routes_taps.specs.Asking.{Asking, served_at, is_kept, ask_tap, question_row}
use Rattle.routes_columns.specs.declared.claims.ClaimRuns.{ClaimRuns}
use Rattle.routes_columns.specs.declared.columns.Claimed.{Claimed}

-- The run of a lane. Behind those of the pages is one for what claims nothing.
abbrev pub lane_key : ℕ → ℕ → ℕ
lane_key page lane = page * 512 + lane

abbrev pub keys_of : ℕ → ℕ
keys_of pages = suc (pages * 512)

-- That of a stop's row, where its level is its own, and that of a tap, by its group's lane.
abbrev pub on_lane : ℕ → List ℕ → Bool
on_lane pages r = not (eqb (get_or r 6 0) 0) && not (eqb (get_or r 6 0) 1) && ltb (get_or r 0 0) pages && ltb (get_or r 1 0) 512

abbrev pub own_key : ℕ → List ℕ → ℕ
own_key pages r = elim (on_lane pages r) [ true ↦ lane_key (get_or r 0 0) (get_or r 1 0) | false ↦ pages * 512 ]

abbrev pub stop_key : ℕ → List (List ℕ) → ℕ → ℕ
stop_key pages stops i = own_key pages (get_or stops i [])

abbrev pub level_at : List (List ℕ) → ℕ → ℕ
level_at stops i = field stops i 5

abbrev pub lane_of_tap : List (List ℕ) → List ℕ → ℕ
lane_of_tap groups r = lane_key (get_or r 0 0) (field groups (get_or r 1 0) 4)

abbrev pub tap_key : List (List ℕ) → List (List ℕ) → ℕ → ℕ
tap_key groups laid k = lane_of_tap groups (get_or laid k [])

-- A run has room for one claim a stop and two a tap.
abbrev pub room_of : ℕ → List (List ℕ) → List (List ℕ) → ℕ → List (List ℕ) → ℕ → ℕ → ℕ
room_of pages groups laid n stops s j = having (stop_key pages stops) j s + 2 * having (tap_key groups laid) j n

-- Runs that start where they did, with as much room.
pub record SamePlaces (old new : ClaimRuns) : Type 0 where
  pub starts : new.starts ≡ old.starts
  pub nexts_long : length new.nexts ≡ length old.nexts
  pub xs_long : length new.xs ≡ length old.xs

-- A tap's lane has a run.
pub record TapsLane (groups : List (List ℕ)) (r : List ℕ) : Type 0 where
  pub on_groups : get_or r 1 0 < length groups
  pub page : get_or r 0 0 < 64
  pub lane : field groups (get_or r 1 0) 4 < 512

pub record TapKeyed (groups laid : List (List ℕ)) (k : ℕ) : Type 0 where
  pub on_laid : k < length laid
  pub on_groups : field laid k 1 < length groups
  pub page : field laid k 0 < 64
  pub lane : field groups (field laid k 1) 4 < 512

-- Room for so many claims more in a run.
pub record ClaimRoom (more : ℕ) (starts nexts xs : List ℕ) (k : ℕ) : Type 0 where
  pub start : k < length starts
  pub next : k < length nexts
  pub begun : get_or starts k 0 ≤ get_or nexts k 0
  pub room : get_or nexts k 0 + more ≤ get_or starts (suc k) 0
  pub inside : get_or starts (suc k) 0 ≤ length xs
  pub small : length xs < 4294967296

-- A span is claimed where it is wanted and no claim of the run is near it; else nothing is changed.
abbrev pub PutIf : Bool → ℕ → ℕ → (nexts xs nexts' xs' : List ℕ) → Type 0
PutIf true k x nexts xs nexts' xs' = Put k x nexts xs nexts' xs'
PutIf false k x nexts xs nexts' xs' = (nexts' ≡ nexts) × (xs' ≡ xs)

pub record Claiming (starts : List ℕ) (k x : ℕ) (wanted : Bool) (nexts xs nexts' xs' : List ℕ) (r : Bool) : Type 0 where
  pub placed : r ≡ wanted && not (any (near x) (run_in starts nexts xs k))
  pub put : PutIf r k x nexts xs nexts' xs'

-- A claim on the span at x in a lane's column.
abbrev pub claim_at : Tap → ℕ → ℕ → Stop
claim_at t lane x = record { page = t.page; lane = lane; group = t.group; row = t.row; base = x; level = own x }

abbrev pub claimed_if : Bool → Stop → List Stop → List Stop
claimed_if true s l = s ∷ l
claimed_if false s l = l

-- The own levels of a lane's claims.
abbrev pub with_own : ℕ → ℕ → Stop → List ℕ → List ℕ
with_own p lane s l = elim (eqb s.page p && eqb s.lane lane) [ true ↦ elim s.level [ own x ↦ x ∷ l | shared x ↦ l | dropped ↦ l ] | false ↦ l ]

abbrev pub own_levels : ℕ → ℕ → List Stop → List ℕ
own_levels p lane [] = []
own_levels p lane (s ∷ l) = with_own p lane s (own_levels p lane l)

-- The run of each lane of the pages is the own levels of its claims.
pub record ClaimsHeld (pages : ℕ) (l : List Stop) (starts nexts xs : List ℕ) : Type 0 where
  pub grows : Growing (keys_of pages) starts nexts xs
  pub runs : (p lane : ℕ) → p < pages → lane < 512 → run_in starts nexts xs (lane_key p lane) ≡ own_levels p lane l

-- One run has at most two claims more.
pub record TwoMore (k : ℕ) (nexts nexts' : List ℕ) : Type 0 where
  pub least : get_or nexts k 0 ≤ get_or nexts' k 0
  pub most : get_or nexts' k 0 ≤ get_or nexts k 0 + 2
  pub others : (j : ℕ) → (j ≡ k → ⊥) → get_or nexts' j 0 ≡ get_or nexts j 0

-- A tap's head and link, by what the code read of the tap, and the claims with them.
module _ (t : Tap) (l : Lane) (news : News) (level : Level) where
  abbrev pub head_in : List Stop → Bool
  head_in claims = begins_group news && not (eqb l.source_x MISSING) && unclaimed claims t.page l.lane l.source_x

  abbrev pub headed_in : List Stop → List Stop
  headed_in claims = claimed_if (head_in claims) (claim_at t l.lane l.source_x) claims

  abbrev pub link_in : List Stop → Bool
  link_in claims = begins_row news && is_own level && unclaimed (headed_in claims) t.page l.lane (served_at level + REROUTER_SIZE)

  abbrev pub linked_in : List Stop → List Stop
  linked_in claims = claimed_if (link_in claims) (claim_at t l.lane (served_at level + REROUTER_SIZE)) (headed_in claims)

  pub record TapTold (pages : ℕ) (claims : List Stop) (starts nexts' xs' : List ℕ) (r : Claimed) : Type 0 where
    pub head : r.head ≡ head_in claims
    pub link : r.link ≡ link_in claims
    pub held : ClaimsHeld pages (linked_in claims) starts nexts' xs'

  pub record TapAsked (starts nexts xs nexts' xs' : List ℕ) (r : Claimed) : Type 0 where
    pub more : TwoMore (lane_key t.page l.lane) nexts nexts'
    pub told : (pages : ℕ) (claims : List Stop) → t.page < pages → ClaimsHeld pages claims starts nexts xs → TapTold pages claims starts nexts' xs' r

-- The row of a tap's questions.
abbrev pub row_in : Lane → News → Level → Bool → Bool → List ℕ
row_in l news level head link =
    flag head
    ∷ flag link
    ∷ flag (head && is_some l.source_row)
    ∷ flag (begins_column news && is_kept level)
    ∷ unwrap_or l.source_row MISSING
    ∷ l.source_x
    ∷ (l.source_y - TAP_RESERVE)
    ∷ served_at level
    ∷ []

-- A tap was asked as the rules say, from the claims and the rows before it to those after it.
pub record NextAsked (b : Board) (ts : List Groups.Tap) (ps : List PageLanes) (l : List Groups.Tap) (t : Groups.Tap) (level : Level) (k : ℕ) (starts nexts xs : List ℕ) (asked : List (List ℕ)) (nexts' xs' : List ℕ) (asked' : List (List ℕ)) : Type 0 where
  pub claims : (pages : ℕ) (a : Asking) → t.page < pages → ClaimsHeld pages a.claims starts nexts xs → ClaimsHeld pages (ask_tap b ts ps a l t level).claims starts nexts' xs'
  pub row : (pages : ℕ) (a : Asking) → t.page < pages → ClaimsHeld pages a.claims starts nexts xs → asked' ≡ set asked k (question_row b ts ps a l t level)

-- Before the first tap.
abbrev pub start_of : Reached
start_of = record { stops = 0; level = Dropped }

-- Each tap's lane has a run on one of so many pages, with room for two claims a tap.
pub record AskRoom (pages : ℕ) (groups laid : List (List ℕ)) (n : ℕ) (starts nexts xs : List ℕ) (asked : List (List ℕ)) : Type 0 where
  pub keyed : (k : ℕ) → k < n → TapKeyed groups laid k
  pub grows : Growing (keys_of pages) starts nexts xs
  pub room : (k : ℕ) → k < keys_of pages → get_or nexts k 0 + 2 * having (tap_key groups laid) k n ≤ get_or starts (suc k) 0
  pub small : length xs < 4294967296
  pub rows : n ≤ length asked
