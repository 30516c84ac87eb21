-- The answers that stand in the table of questions and in the flags are the right ones.
use Prim.Native.Nat.{ℕ, zero, suc, ◌-◌, ◌<◌}
use mathlib.Core.Path.{◌≡◌, refl, ap, sym, ◌∙◌}
use mathlib.Core.Bool.{Bool, true, false, ◌&&◌}
use mathlib.Core.List.{List, []}
use native.Mathlib.Omega.{arith}
use lib.Dec.{eqb}
use lib.ListN.{length, get_or}
use Rattle.base.specs.Views.{view}
use Rattle.base.proofs.Views.{length-view}
use Rattle.board.specs.Board.{Board, field}
use Rattle.board.specs.Groups.{Tap}
use Rattle.board.specs.Demands.{PageLanes}
use Rattle.board.specs.Tables.{flag, tap_in}
use Rattle.routes.specs.Stops.{new_row}
use Rattle.routes.specs.Levels.{Level, Stop}
use Rattle.routes.specs.Rerouters.{TAP_RESERVE, level_here, stops_before}
use Rattle.routes_taps.specs.Asking.{is_clear, booked, Asking, candidate_if, head_here, link_here, asks_source, source_candidate, asks_gate_side, gate_side_candidate, headed, sourced, ask_tap, answers_of, ask, Right, question_row, QuestionsIn, source_in, gate_side_in, candidates_in, sourced_in, RowsTold, told_in}

-- A flag read back.
pub flag_told : (c : Bool) → eqb (flag c) 1 ≡ c
flag_told true = refl
flag_told false = refl

module _ (b : Board) (ts : List Tap) (ps : List PageLanes) (stops : List Stop) (laid asked : List (List ℕ)) where
  abbrev tap_at : ℕ → Tap
  tap_at k = tap_in (get_or laid k [])

  -- The question's row of the k-th tap.
  row_at : (k : ℕ) (row : List ℕ) → get_or asked (length (view tap_in laid k)) [] ≡ row → get_or asked k [] ≡ row
  row_at k row e = ap (λ j. get_or asked j []) (sym (length-view tap_in laid k)) ∙ e

  module _ (k : ℕ) (a : Asking) (level : Level) (e : get_or asked k [] ≡ question_row b ts ps a (view tap_in laid k) (tap_at k) level) where
    column : (j : ℕ) → field asked k j ≡ get_or (question_row b ts ps a (view tap_in laid k) (tap_at k) level) j 0
    column j = ap (λ (r : List ℕ). get_or r j 0) e

    asks_source_lem : eqb (field asked k 2) 1 ≡ asks_source b ts ps (head_here b ts ps a.claims (view tap_in laid k) (tap_at k)) (tap_at k)
    asks_source_lem = ap (λ v. eqb v 1) (column 2) ∙ flag_told _

    asks_gate_side_lem : eqb (field asked k 3) 1 ≡ asks_gate_side b ts ps (view tap_in laid k) (tap_at k) level
    asks_gate_side_lem = ap (λ v. eqb v 1) (column 3) ∙ flag_told _

    source_same : source_in laid asked k ≡ source_candidate b ts ps (tap_at k)
    source_same i = record { page = field laid k 0; row = column 4 i; x = column 5 i; y = column 6 i }

    gate_side_same : gate_side_in laid asked k ≡ gate_side_candidate b ts ps (tap_at k) level
    gate_side_same i = record { page = field laid k 0; row = field laid k 2; x = column 7 i; y = field laid k 3 - TAP_RESERVE }

    sourced_same : candidates_in laid asked k ≡ a.candidates → sourced_in laid asked k ≡ sourced b ts ps a (view tap_in laid k) (tap_at k)
    sourced_same c i = candidate_if (asks_source_lem i) (source_same i) (c i)

    more_same : candidates_in laid asked k ≡ a.candidates → candidates_in laid asked (suc k) ≡ (ask_tap b ts ps a (view tap_in laid k) (tap_at k) level).candidates
    unfolding candidates_in ask_tap
    more_same c i = candidate_if (asks_gate_side_lem i) (gate_side_same i) (sourced_same c i)

    answers_same : (bricks : ℕ) (flags : List ℕ) → candidates_in laid asked k ≡ a.candidates → RowsTold b laid asked bricks flags k
        → told_in asked flags bricks k ≡ answers_of b ts ps a (view tap_in laid k) (tap_at k) level
    unfolding answers_of
    answers_same bricks flags c rows =
        let head : eqb (field asked k 0) 1 ≡ head_here b ts ps a.claims (view tap_in laid k) (tap_at k) = ap (λ v. eqb v 1) (column 0) ∙ flag_told _ in
        let link : eqb (field asked k 1) 1 ≡ link_here b ts ps (headed b ts ps a.claims (view tap_in laid k) (tap_at k)) (view tap_in laid k) (tap_at k) level = ap (λ v. eqb v 1) (column 1) ∙ flag_told _ in
        let src = ap (λ v. eqb v 1) rows.source ∙ flag_told _ ∙ (λ i. asks_source_lem i && is_clear b (booked b (c i)) (source_same i)) in
        let gate = ap (λ v. eqb v 1) rows.gate_side ∙ flag_told _ ∙ (λ i. asks_gate_side_lem i && is_clear b (booked b (sourced_same c i)) (gate_side_same i)) in
        λ i. record { head = head i; source = src i; link = link i; gate_side = gate i }

  -- The candidates that the tables hold are those asked for.
  pub candidates_same : (n : ℕ) (sofar : List Stop) → QuestionsIn b ts ps stops asked (view tap_in laid n) sofar → candidates_in laid asked n ≡ (ask b ts ps stops (view tap_in laid n) sofar).candidates
  unfolding candidates_in ask
  candidates_same zero sofar q = refl
  candidates_same (suc n) sofar q =
      more_same n _ (level_here sofar) (row_at n _ q.0) (candidates_same n (stops_before (new_row (view tap_in laid n) (tap_at n)) sofar) q.1)

  -- What is told by the tables is right.
  pub told_right : (flags : List ℕ) (bricks n : ℕ) (sofar : List Stop) → QuestionsIn b ts ps stops asked (view tap_in laid n) sofar → ((k : ℕ) → k < n → RowsTold b laid asked bricks flags k)
      → Right b ts ps (told_in asked flags bricks) stops (view tap_in laid n) sofar
  told_right flags bricks zero sofar q rows = tt
  told_right flags bricks (suc n) sofar q rows =
      let before : List Stop = stops_before (new_row (view tap_in laid n) (tap_at n)) sofar in (
        ap (told_in asked flags bricks) (length-view tap_in laid n)
            ∙ answers_same n (ask b ts ps stops (view tap_in laid n) before) (level_here sofar) (row_at n _ q.0) bricks flags (candidates_same n before q.1) (rows n (omega arith)),
        told_right flags bricks n before q.1 (λ k below. rows k (omega arith)),
      )
