-- What is known of a tap's questions: its level is low, and what it asks of rows is asked of rows that are there.
use Prim.Native.Nat.{ℕ, zero, suc, ◌-◌, ◌<◌}
use mathlib.Core.Path.{◌≡◌, refl, sym, ap, subst, ◌∙◌}
use mathlib.Core.Bool.{Bool, true, false, ◌&&◌}
use mathlib.Core.List.{List, [], ◌∷◌}
use native.Mathlib.Omega.{arith}
use native.Mathlib.Decide.{dec_lt}
use lib.Dec.{eqb}
use lib.ListN.{get_or}
use borrow.Author.Tests.{eqb-true}
use Rattle.base.specs.Lists.{Found, none, at, found}
use Rattle.base.specs.Views.{view}
use Rattle.base.proofs.Bools.{never, and_left, and_right}
use Rattle.base.proofs.Views.{length-view}
use Rattle.board.specs.Board.{Board, field, placed, has_row, page_of, x_of, y_of}
use Rattle.board.specs.Rows.{row_of}
use Rattle.board.specs.Groups.{Tap, source_row}
use Rattle.board.specs.Demands.{PageLanes}
use Rattle.board.specs.Tables.{flag, held, tap_in}
use Rattle.routes.specs.Levels.{Level, dropped, shared, own, Stop, unclaimed, lane_for}
use Rattle.routes.specs.Stops.{new_group, new_row}
use Rattle.routes.specs.Rerouters.{TAP_RESERVE, source, level_here, stops_before}
use Rattle.routes.specs.Tables.{stop_in}
use Rattle.routes_taps.specs.Taps.{LowLevel}
use Rattle.routes_taps.specs.Asking.{Asking, ask, question_row, QuestionsIn, head_here, asks_source, served_at}

-- All levels of a list of stops are low.
abbrev pub AllLow : List Stop → Type 0
AllLow [] = Unit {0}
AllLow (s ∷ l) = LowLevel s.level × AllLow l

low_here : (l : List Stop) → AllLow l → LowLevel (level_here l)
low_here [] h = tt
low_here (s ∷ l) h = h.0

low_before : (fresh : Bool) (l : List Stop) → AllLow l → AllLow (stops_before fresh l)
low_before false l h = h
low_before true [] h = tt
low_before true (s ∷ l) h = h.1

pub all_low : (stops : List (List ℕ)) (n : ℕ) → ((i : ℕ) → i < n → LowLevel (stop_in (get_or stops i [])).level) → AllLow (view stop_in stops n)
all_low stops zero h = tt
all_low stops (suc n) h = (h n (omega arith), all_low stops n (λ i l. h i (omega arith)))

pub served_low : (l : Level) → LowLevel l → served_at l < 4294967290
served_low dropped h = omega arith
served_low (shared x) h = h
served_low (own x) h = h

-- The question of the k-th tap, in its row.
pub record Question (b : Board) (ts : List Tap) (ps : List PageLanes) (asked laid : List (List ℕ)) (k : ℕ) : Type 0 where
  pub level : Level
  pub low : LowLevel level
  pub before : Asking
  pub is : get_or asked k [] ≡ question_row b ts ps before (view tap_in laid k) (tap_in (get_or laid k [])) level

module _ (b : Board) (ts : List Tap) (ps : List PageLanes) (stops : List Stop) (asked laid : List (List ℕ)) where
  pub question_at : (n : ℕ) (sofar : List Stop) → QuestionsIn b ts ps stops asked (view tap_in laid n) sofar → AllLow sofar → (k : ℕ) → k < n → Question b ts ps asked laid k
  question_at zero sofar q low k h = absurd (omega arith)
  question_at (suc n) sofar q low k h =
      go (dec_lt k n) (λ l. question_at n (stops_before (new_row (view tap_in laid n) (tap_in (get_or laid n []))) sofar) q.1 (low_before (new_row (view tap_in laid n) (tap_in (get_or laid n []))) sofar low) k l)
    where
      go : Dec (k < n) → (k < n → Question b ts ps asked laid k) → Question b ts ps asked laid k
      go (yes l) rest = rest l
      go (no l) rest =
          subst (Question b ts ps asked laid) (let z : n ≡ k = omega arith in z)
          (record {
            level = level_here sofar;
            low = low_here sofar low;
            before = ask b ts ps stops (view tap_in laid n) (stops_before (new_row (view tap_in laid n) (tap_in (get_or laid n []))) sofar);
            is = ap (λ (j : ℕ). get_or asked j []) (sym (length-view tap_in laid n)) ∙ q.0;
          })

flag_one : (c : Bool) → flag c ≡ 1 → c ≡ true
flag_one true e = refl
flag_one false e = never (let z : ◌≡◌ {A = ℕ} 0 1 = e in z)

-- A source rerouter is asked for in the row of a source that is placed and stands on the page.
pub record SourceThere (b : Board) (ts : List Tap) (ps : List PageLanes) (asked : List (List ℕ)) (k : ℕ) (t : Tap) : Type 0 where
  pub placed : placed b (source b ts ps t) ≡ true
  pub row : has_row b (source b ts ps t) ≡ true
  pub page : page_of b (source b ts ps t) ≡ t.page
  pub row_is : field asked k 4 ≡ row_of b (source b ts ps t)
  pub x_is : field asked k 5 ≡ x_of b (source b ts ps t)
  pub y_is : field asked k 6 ≡ y_of b (source b ts ps t) - TAP_RESERVE

module _ (b : Board) (ts : List Tap) (ps : List PageLanes) (asked laid : List (List ℕ)) (k : ℕ) (q : Question b ts ps asked laid k) where
  abbrev t : Tap
  t = tap_in (get_or laid k [])

  abbrev head : Bool
  head = head_here b ts ps q.before.claims (view tap_in laid k) t

  at_column : (c : ℕ) → field asked k c ≡ get_or (question_row b ts ps q.before (view tap_in laid k) t q.level) c 0
  at_column c = ap (λ (r : List ℕ). get_or r c 0) q.is

  pub source_there : field asked k 2 ≡ 1 → SourceThere b ts ps asked k t
  unfolding head_here source_row
  source_there e =
      let asks : asks_source b ts ps head t ≡ true = flag_one _ (sym (at_column 2) ∙ e) in
      let here = new_group (view tap_in laid k) t in
      let free = unclaimed q.before.claims t.page (lane_for ps t) (x_of b (source b ts ps t)) in
      let there = found (source_row b t.group t.page) in
      let is-placed = and_left (placed b (source b ts ps t)) free (and_right here (placed b (source b ts ps t) && free) (and_left head there asks)) in
      go (has_row b (source b ts ps t) && eqb (page_of b (source b ts ps t)) t.page) refl is-placed (and_right head there asks) (at_column 4)
    where
      row_for : Bool → Found
      row_for c = elim c [ true ↦ at (row_of b (source b ts ps t)) | false ↦ none ]

      go : (c : Bool) → has_row b (source b ts ps t) && eqb (page_of b (source b ts ps t)) t.page ≡ c → placed b (source b ts ps t) ≡ true → found (row_for c) ≡ true → field asked k 4 ≡ held (row_for c) → SourceThere b ts ps asked k t
      go true h p f r =
          record {
            placed = p;
            row = and_left (has_row b (source b ts ps t)) (eqb (page_of b (source b ts ps t)) t.page) h;
            page = eqb-true (page_of b (source b ts ps t)) t.page (and_right (has_row b (source b ts ps t)) (eqb (page_of b (source b ts ps t)) t.page) h);
            row_is = r;
            x_is = at_column 5;
            y_is = at_column 6;
          }
      go false h p f r = never cc

  pub gate_side_low : field asked k 7 < 4294967290
  gate_side_low = let h = served_low q.level q.low in let e = at_column 7 in omega arith
