-- What the code asks before it emits, and emission by the answers. Heads and links ask for columns, source and gate-side rerouters for rows; neither asks for what the
-- other places, so the columns are asked first, then the rows one by one, and the rerouters are written last. No rule stands here: by the answers that are
-- right the emission is that of the rules.
use Rattle.std.specs.Prelude.{ℕ, zero, suc, ◌+◌, ◌-◌, ◌*◌, ◌≡◌, Bool, true, false, not, ◌&&◌, List, [], ◌∷◌, eqb, length, get_or}
use Rattle.base.specs.Lists.{found, any}
use Rattle.board.specs.Board.{Board, field, placed, x_of, y_of}
use Rattle.board.specs.Rows.{REROUTER_SIZE, cells_overlap, rerouter_cell, brick_cell, bricks_in}
use Rattle.board.specs.Groups.{Tap, source_row}
use Rattle.board.specs.Demands.{PageLanes}
use Rattle.board.specs.Tables.{held, flag}
use Rattle.routes.specs.Stops.{new_group, new_row, new_column}
use Rattle.routes.specs.Levels.{Level, dropped, shared, own, Stop, is_own, unclaimed, lane_for}
use Rattle.routes.specs.Bus.{deliver, empty_bus, port_feed}
use Rattle.routes.specs.Rerouters.{Emission, TAP_RESERVE, source, level_here, stops_before, head_rerouter, link_rerouter, tap_rerouter, source_rerouter, gate_side_rerouter, hang_on, tap_off, chain_on, no_feed}

-- A rerouter that is asked for beside a row.
pub record Candidate : Type 0 where
  pub page : ℕ
  pub row : ℕ
  pub x : ℕ
  pub y : ℕ

-- Whether a candidate that is placed stands where another is asked for.
abbrev pub stands_in : Candidate → Candidate → Bool
stands_in c d = eqb d.page c.page && eqb d.row c.row && cells_overlap (rerouter_cell d.x d.y) (rerouter_cell c.x c.y)

-- Clear of the row's bricks and of what is placed beside it.
unfoldable pub is_clear : Board → List Candidate → Candidate → Bool
is_clear b done c =
    not (any (λ i. cells_overlap (brick_cell b i) (rerouter_cell c.x c.y)) (bricks_in b c.page c.row)) && not (any (stands_in c) done)

-- Of the candidates in order, the newest first, those that are placed.
unfoldable pub booked : Board → List Candidate → List Candidate
booked b [] = []
booked b (c ∷ l) = elim (is_clear b (booked b l) c) [ true ↦ c ∷ booked b l | false ↦ booked b l ]

-- Which of a tap's rerouters are placed.
pub record Answers : Type 0 where
  pub head : Bool
  pub source : Bool
  pub link : Bool
  pub gate_side : Bool

-- What the questions so far have come to: the claims, those of the stops and one for each head and link, and the candidates, both newest first.
pub record Asking : Type 0 where
  pub claims : List Stop
  pub candidates : List Candidate

abbrev pub candidate_if : Bool → Candidate → List Candidate → List Candidate
candidate_if true c l = c ∷ l
candidate_if false c l = l

-- The level that a tap is served at.
abbrev pub served_at : Level → ℕ
served_at dropped = 0
served_at (shared x) = x
served_at (own x) = x

abbrev pub is_kept : Level → Bool
is_kept dropped = false
is_kept (shared x) = true
is_kept (own x) = true

module _ (b : Board) (ts : List Tap) (ps : List PageLanes) where
  -- A head or link at x in the column of the tap's lane claims its span as a level does.
  abbrev pub claim : Tap → ℕ → Stop
  claim t x = record { page = t.page; lane = lane_for ps t; group = t.group; row = t.row; base = x; level = own x }

  abbrev pub claim_if : Bool → Tap → ℕ → List Stop → List Stop
  claim_if true t x claims = claim t x ∷ claims
  claim_if false t x claims = claims

  abbrev pub source_x : Tap → ℕ
  source_x t = x_of b (source b ts ps t)

  -- R5: whether a group's head is placed.
  unfoldable pub head_here : List Stop → List Tap → Tap → Bool
  head_here claims l t = new_group l t && (placed b (source b ts ps t) && unclaimed claims t.page (lane_for ps t) (source_x t))

  -- R8: whether a row's link is.
  unfoldable pub link_here : List Stop → List Tap → Tap → Level → Bool
  link_here claims l t level = new_row l t && (is_own level && unclaimed claims t.page (lane_for ps t) (served_at level + REROUTER_SIZE))

  -- R6: whether a source rerouter is asked for, and where: in the source's row.
  abbrev pub asks_source : Bool → Tap → Bool
  asks_source head t = head && found (source_row b t.group t.page)

  abbrev pub source_candidate : Tap → Candidate
  source_candidate t = record { page = t.page; row = held (source_row b t.group t.page); x = source_x t; y = y_of b (source b ts ps t) - TAP_RESERVE }

  -- R10, R11: whether a gate-side rerouter is, and where.
  abbrev pub asks_gate_side : List Tap → Tap → Level → Bool
  asks_gate_side l t level = new_column l t && is_kept level

  abbrev pub gate_side_candidate : Tap → Level → Candidate
  gate_side_candidate t level = record { page = t.page; row = t.row; x = served_at level; y = t.y - TAP_RESERVE }

  -- The claims with the tap's head.
  abbrev pub headed : List Stop → List Tap → Tap → List Stop
  headed claims l t = claim_if (head_here claims l t) t (source_x t) claims

  -- The candidates with the tap's source rerouter.
  abbrev pub sourced : Asking → List Tap → Tap → List Candidate
  sourced a l t = candidate_if (asks_source (head_here a.claims l t) t) (source_candidate t) a.candidates

  -- What a tap asks: head, source rerouter, link, gate-side.
  unfoldable pub ask_tap : Asking → List Tap → Tap → Level → Asking
  ask_tap a l t level =
      let claims : List Stop = headed a.claims l t in
      record {
        claims = claim_if (link_here claims l t level) t (served_at level + REROUTER_SIZE) claims;
        candidates = candidate_if (asks_gate_side l t level) (gate_side_candidate t level) (sourced a l t);
      }

  -- The right answers.
  unfoldable pub answers_of : Asking → List Tap → Tap → Level → Answers
  answers_of a l t level =
      record {
        head = head_here a.claims l t;
        source = asks_source (head_here a.claims l t) t && is_clear b (booked b a.candidates) (source_candidate t);
        link = link_here (headed a.claims l t) l t level;
        gate_side = asks_gate_side l t level && is_clear b (booked b (sourced a l t)) (gate_side_candidate t level);
      }

  -- All taps so far, with all stops and those up to the newest tap's, as in `emit`.
  unfoldable pub ask : List Stop → List Tap → List Stop → Asking
  ask stops [] sofar = record { claims = stops; candidates = [] }
  ask stops (t ∷ l) sofar = ask_tap (ask stops l (stops_before (new_row l t) sofar)) l t (level_here sofar)

  -- Emission by answers: `with_source`, `start_group`, `with_link`, `start_row`, `with_gate_side`, `serve` and `emit_tap` with the tests answered.
  abbrev pub source_by : Bool → Emission → Tap → Emission
  source_by so e t =
      elim so [ true ↦ hang_on b ts ps e e.upstream (source_rerouter b ts ps t (held (source_row b t.group t.page))) | false ↦ e ]

  abbrev pub at_port : Emission → Tap → Emission
  at_port e t = record { bus = e.bus; upstream = port_feed b t.group; stop_tap = e.stop_tap; row_end = e.row_end }

  unfoldable pub group_by : Answers → Emission → Tap → Emission
  group_by a e t =
      elim a.head
      [ true ↦ let s = source_by a.source (at_port e t) t in hang_on b ts ps s s.upstream (head_rerouter b ts ps t) | false ↦ at_port e t ]

  abbrev pub link_by : Bool → Emission → Tap → ℕ → Emission
  link_by so e t level = elim so [ true ↦ hang_on b ts ps e e.upstream (link_rerouter b ts ps t level) | false ↦ e ]

  unfoldable pub row_by : Answers → Emission → Tap → Level → Emission
  row_by a e t dropped = e
  row_by a e t (shared level) = record { bus = e.bus; upstream = e.upstream; stop_tap = e.stop_tap; row_end = e.stop_tap }
  row_by a e t (own level) = tap_off b ts ps (link_by a.link e t level) (tap_rerouter b ts ps t level)

  unfoldable pub serve_by : Answers → Emission → Tap → ℕ → Emission
  serve_by a e t level =
      let e' : Emission = elim a.gate_side [ true ↦ chain_on b ts ps e (gate_side_rerouter b ts ps t level) | false ↦ e ] in
      record { bus = deliver b e'.bus e'.row_end t.wire; upstream = e'.upstream; stop_tap = e'.stop_tap; row_end = e'.row_end }

  unfoldable pub tap_by : Answers → Emission → List Tap → Tap → Level → Emission
  tap_by a e l t level =
      let begun : Emission = elim (new_group l t) [ true ↦ group_by a e t | false ↦ e ] in
      let rowed : Emission = elim (new_row l t) [ true ↦ row_by a begun t level | false ↦ begun ] in
      elim level [ dropped ↦ rowed | shared x ↦ serve_by a rowed t x | own x ↦ serve_by a rowed t x ]

  -- The taps in order, each by its answers: those of the k-th tap are `told k`.
  unfoldable pub emit_by : (ℕ → Answers) → List Tap → List Stop → Emission
  emit_by told [] sofar = record { bus = empty_bus; upstream = no_feed b ts ps; stop_tap = no_feed b ts ps; row_end = no_feed b ts ps }
  emit_by told (t ∷ l) sofar = tap_by (told (length l)) (emit_by told l (stops_before (new_row l t) sofar)) l t (level_here sofar)

  -- The answers told are the right ones.
  abbrev pub Right : (ℕ → Answers) → List Stop → List Tap → List Stop → Type 0
  Right told stops [] sofar = Unit {0}
  Right told stops (t ∷ l) sofar =
      (told (length l) ≡ answers_of (ask stops l (stops_before (new_row l t) sofar)) l t (level_here sofar)) × Right told stops l (stops_before (new_row l t) sofar)

-- A tap's questions in a row of eight numbers: whether its head and its link are placed, whether a source and a gate-side rerouter are asked for, the source
-- rerouter's row, x and y, and the gate-side's x.
abbrev pub question_row : Board → List Tap → List PageLanes → Asking → List Tap → Tap → Level → List ℕ
question_row b ts ps a l t level =
    flag (head_here b ts ps a.claims l t)
    ∷ flag (link_here b ts ps (headed b ts ps a.claims l t) l t level)
    ∷ flag (asks_source b ts ps (head_here b ts ps a.claims l t) t)
    ∷ flag (asks_gate_side b ts ps l t level)
    ∷ held (source_row b t.group t.page)
    ∷ source_x b ts ps t
    ∷ (y_of b (source b ts ps t) - TAP_RESERVE)
    ∷ served_at level
    ∷ []

-- The rows of a table hold the questions of the taps in order.
abbrev pub QuestionsIn : Board → List Tap → List PageLanes → List Stop → List (List ℕ) → List Tap → List Stop → Type 0
QuestionsIn b ts ps stops asked [] sofar = Unit {0}
QuestionsIn b ts ps stops asked (t ∷ l) sofar =
    (get_or asked (length l) [] ≡ question_row b ts ps (ask b ts ps stops l (stops_before (new_row l t) sofar)) l t (level_here sofar)) × QuestionsIn b ts ps stops asked l (stops_before (new_row l t) sofar)

-- The candidates of the k-th tap, as its rows hold them, and those of the first k taps, newest first.
module _ (laid asked : List (List ℕ)) where
  abbrev pub source_in : ℕ → Candidate
  source_in k = record { page = field laid k 0; row = field asked k 4; x = field asked k 5; y = field asked k 6 }

  abbrev pub gate_side_in : ℕ → Candidate
  gate_side_in k = record { page = field laid k 0; row = field laid k 2; x = field asked k 7; y = field laid k 3 - TAP_RESERVE }

  unfoldable pub candidates_in : ℕ → List Candidate
  candidates_in zero = []
  candidates_in (suc k) =
      candidate_if (eqb (field asked k 3) 1) (gate_side_in k) (candidate_if (eqb (field asked k 2) 1) (source_in k) (candidates_in k))

  abbrev pub sourced_in : ℕ → List Candidate
  sourced_in k = candidate_if (eqb (field asked k 2) 1) (source_in k) (candidates_in k)

-- Behind the bricks each tap has two items, its source and its gate-side rerouter, and a flag for each.
abbrev pub source_item : ℕ → ℕ → ℕ
source_item bricks k = bricks + 2 * k

abbrev pub gate_side_item : ℕ → ℕ → ℕ
gate_side_item bricks k = suc (bricks + 2 * k)

-- The flags of the k-th tap's candidates are their answers.
pub record RowsTold (b : Board) (laid asked : List (List ℕ)) (bricks : ℕ) (flags : List ℕ) (k : ℕ) : Type 0 where
  pub source : get_or flags (source_item bricks k) 0 ≡ flag (eqb (field asked k 2) 1 && is_clear b (booked b (candidates_in laid asked k)) (source_in laid asked k))
  pub gate_side : get_or flags (gate_side_item bricks k) 0 ≡ flag (eqb (field asked k 3) 1 && is_clear b (booked b (sourced_in laid asked k)) (gate_side_in laid asked k))

-- The answers as they stand in the table and the flags.
abbrev pub told_in : List (List ℕ) → List ℕ → ℕ → ℕ → Answers
told_in asked flags bricks k =
    record {
      head = eqb (field asked k 0) 1;
      source = eqb (get_or flags (source_item bricks k) 0) 1;
      link = eqb (field asked k 1) 1;
      gate_side = eqb (get_or flags (gate_side_item bricks k) 0) 1;
    }
