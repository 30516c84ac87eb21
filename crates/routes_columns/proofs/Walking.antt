-- From tap to tap: what the questions so far have come to.
use Prim.Native.Nat.{ℕ, suc, ◌+◌, ◌*◌, ◌≤◌, ◌<◌}
use mathlib.Core.Path.{◌≡◌, refl, ap, sym, subst, subst₂, ◌∙◌}
use mathlib.Core.Bool.{Bool, true, false}
use mathlib.Core.List.{List, [], ◌∷◌}
use native.Mathlib.Omega.{arith}
use native.Mathlib.Decide.{ℕ_discrete}
use native.Mathlib.Numerals.{add-one}
use lib.ListN.{length, get_or, set}
use lib.Seq.{get_or-set_same, get_or-set_other}
use Rattle.base.specs.Views.{view}
use Rattle.base.specs.Runs.{having}
use Rattle.base.specs.Growing.{Growing}
use Rattle.base.proofs.Views.{length-view}
use Rattle.base.proofs.RunLaws.{having_le, having_more, having_other}
use Rattle.board.specs.Board.{Board}
use Rattle.board.specs.Groups
use Rattle.board.specs.Demands.{PageLanes}
use Rattle.board.specs.Tables.{tap_in}
use Rattle.routes.specs.Stops.{new_row}
use Rattle.routes.specs.Levels.{Stop}
use Rattle.routes.specs.Rerouters.{stops_before}
use Rattle.routes.specs.Tables.{stop_in}
use Rattle.routes.specs.Holding.{stop_level_of}
use Rattle.routes_taps.specs.declared.taps.Reached.{Reached}
use Rattle.routes_taps.specs.Taps.{Tables, TapOn, AtStop, WentOn, rows_begun}
use Rattle.routes_taps.specs.Asking
use Rattle.routes_taps.specs.Asking.{ask, ask_tap, question_row, QuestionsIn}
use Rattle.routes_taps.proofs.Reaching.{before_same}
use Rattle.routes_columns.specs.Columns.{keys_of, tap_key, TapKeyed, ClaimRoom, TwoMore, ClaimsHeld, AskRoom, NextAsked, start_of}

-- Rows above those asked for may be written.
questions_kept : (b : Board) (ts : List Groups.Tap) (ps : List PageLanes) (stops : List Stop) (asked : List (List ℕ)) (k : ℕ) (row : List ℕ) (l : List Groups.Tap) (sofar : List Stop) → length l ≤ k
    → QuestionsIn b ts ps stops asked l sofar → QuestionsIn b ts ps stops (set asked k row) l sofar
questions_kept b ts ps stops asked k row [] sofar h q = tt
questions_kept b ts ps stops asked k row (t ∷ l) sofar h q =
    (get_or-set_other asked k (length l) row [] (λ z. omega arith) ∙ q.0, questions_kept b ts ps stops asked k row l (stops_before (new_row l t) sofar) (omega arith) q.1)

-- After k taps the runs hold the claims that were asked for, and the rows hold the questions.
pub record Told (pages : ℕ) (b : Board) (ts : List Groups.Tap) (ps : List PageLanes) (stops laid : List (List ℕ)) (s r k : ℕ) (starts nexts xs : List ℕ) (asked : List (List ℕ)) : Type 0 where
  pub claimed : ClaimsHeld pages (ask b ts ps (view stop_in stops s) (view tap_in laid k) (view stop_in stops r)).claims starts nexts xs
  pub rows : QuestionsIn b ts ps (view stop_in stops s) asked (view tap_in laid k) (view stop_in stops r)

-- One tap more.
module _ (pages : ℕ) (b : Board) (ts : List Groups.Tap) (ps : List PageLanes) (stops laid : List (List ℕ)) (s k : ℕ) (r r' : Reached) (starts nexts xs nexts' xs' : List ℕ) (asked asked' : List (List ℕ)) (went : WentOn laid k stops r r') where
  abbrev taps : List Groups.Tap
  taps = view tap_in laid k

  abbrev tap : Groups.Tap
  tap = tap_in (get_or laid k [])

  abbrev asking : List Stop → Asking.Asking
  asking sofar = ask b ts ps (view stop_in stops s) taps sofar

  same : stops_before (new_row taps tap) (view stop_in stops r'.stops) ≡ view stop_in stops r.stops
  same = before_same stops r (new_row taps tap) r'.stops went.count

  pub told_next : NextAsked b ts ps taps tap (stop_level_of r'.level) k starts nexts xs asked nexts' xs' asked' → tap.page < pages → k < length asked → Told pages b ts ps stops laid s r.stops k starts nexts xs asked
      → Told pages b ts ps stops laid s r'.stops (suc k) starts nexts' xs' asked'
  unfolding ask
  told_next next on room told =
      let row : List ℕ = question_row b ts ps (asking (view stop_in stops r.stops)) taps tap (stop_level_of r'.level) in
      let written : asked' ≡ set asked k row = next.row pages (asking (view stop_in stops r.stops)) on told.claimed in
      let long : length taps ≡ k = length-view tap_in laid k in
      record {
        claimed =
            subst (λ (l : List Stop). ClaimsHeld pages l starts nexts' xs') (λ i. (ask_tap b ts ps (asking (sym same i)) taps tap (went.at_stop.level i)).claims)
            (next.claims pages (asking (view stop_in stops r.stops)) on told.claimed);
        rows = (
          (λ i. get_or (written i) (long i) []) ∙ get_or-set_same asked k row [] room ∙ (λ i. question_row b ts ps (asking (sym same i)) taps tap (went.at_stop.level i)),
          subst₂ (λ (t : List (List ℕ)) (sofar : List Stop). QuestionsIn b ts ps (view stop_in stops s) t taps sofar) (sym written) (sym same)
              (questions_kept b ts ps (view stop_in stops s) asked k row taps (view stop_in stops r.stops) (omega arith) told.rows),
        );
      }

-- Room for the taps from the k-th on.
abbrev pub RoomFrom : ℕ → (groups laid : List (List ℕ)) → ℕ → (starts nexts : List ℕ) → ℕ → Type 0
RoomFrom keys groups laid n starts nexts k = (q : ℕ) → q < keys → get_or nexts q 0 + 2 * having (tap_key groups laid) q n ≤ get_or starts (suc q) 0 + 2 * having (tap_key groups laid) q k

module _ (keys : ℕ) (groups laid : List (List ℕ)) (n k : ℕ) (starts nexts xs : List ℕ) (h : k < n) (g : Growing keys starts nexts xs) (room : RoomFrom keys groups laid n starts nexts k) where
  room_for_two : tap_key groups laid k < keys → length xs < 4294967296 → ClaimRoom 2 starts nexts xs (tap_key groups laid k)
  room_for_two on small =
      let q : ℕ = tap_key groups laid k in
      let one = having_more (tap_key groups laid) q k refl in
      let all = having_le (tap_key groups laid) q (suc k) n (omega arith) in
      let free = room q on in
      record {
        start = let a = g.starts_long in omega arith;
        next = let a = g.nexts_long in omega arith;
        begun = g.begun q on;
        room = omega arith;
        inside = let a = g.rising (suc q) keys (omega arith) (omega arith) in let b = g.inside in omega arith;
        small = small;
      }

  module _ (nexts' xs' : List ℕ) (two : TwoMore (tap_key groups laid k) nexts nexts') where
    room_next : RoomFrom keys groups laid n starts nexts' (suc k)
    room_next q on = elim (ℕ_discrete q (tap_key groups laid k)) [
      | yes e ↦ let a = subst (λ (j : ℕ). get_or nexts' j 0 ≤ get_or nexts j 0 + 2) (sym e) two.most in omega (arith, room q on, having_more (tap_key groups laid) q k (sym e))
      | no e ↦ omega (arith, two.others q e, room q on, having_other (tap_key groups laid) q k (λ z. e (sym z)))
    ]

    grows_next : length nexts' ≡ length nexts → length xs' ≡ length xs → Growing keys starts nexts' xs'
    grows_next long wide =
        record {
          starts_long = g.starts_long;
          nexts_long = let a = g.nexts_long in omega arith;
          rising = g.rising;
          begun = λ q on. elim (ℕ_discrete q (tap_key groups laid k)) [
            | yes e ↦ let a = subst (λ (j : ℕ). get_or nexts j 0 ≤ get_or nexts' j 0) (sym e) two.least in omega (arith, g.begun q on)
            | no e ↦ omega (arith, two.others q e, g.begun q on)
          ];
          within = λ q on. omega (arith, room_next q on, having_le (tap_key groups laid) q (suc k) n (omega arith));
          inside = let a = g.inside in omega arith;
        }

-- What the walk has come to after k taps.
pub record Come (pages nodes wires facts groups laid : List (List ℕ)) (n : ℕ) (stops : List (List ℕ)) (s : ℕ) (starts nexts xs : List ℕ) (asked : List (List ℕ)) (w : Reached) (k : ℕ) : Type 0 where
  pub within : k ≤ n
  pub grows : Growing (keys_of (length pages)) starts nexts xs
  pub room : RoomFrom (keys_of (length pages)) groups laid n starts nexts k
  pub count : w.stops ≡ rows_begun (view tap_in laid k)
  pub at_stop : AtStop stops w
  pub told : (b : Board) (ts : List Groups.Tap) (ps : List PageLanes) → Tables b ts ps pages nodes wires facts groups → ((j : ℕ) → j < n → TapOn b ts (get_or laid j []))
      → Told (length pages) b ts ps stops laid s w.stops k starts nexts xs asked

module _ (pages nodes wires facts groups laid : List (List ℕ)) (n : ℕ) (stops : List (List ℕ)) (s : ℕ) (starts : List ℕ) where
  abbrev Come' : List ℕ → List ℕ → List (List ℕ) → Reached → ℕ → Type 0
  Come' = Come pages nodes wires facts groups laid n stops s starts

  pub come_start : (nexts xs : List ℕ) (asked : List (List ℕ)) (w : Reached) → w ≡ start_of → AskRoom (length pages) groups laid n starts nexts xs asked
      → ClaimsHeld (length pages) (view stop_in stops s) starts nexts xs → Come' nexts xs asked w 0
  unfolding ask
  come_start nexts xs asked w e room held =
      subst (λ (v : Reached). Come' nexts xs asked v 0) (sym e)
      (record {
        within = omega arith;
        grows = room.grows;
        room = λ q on. let h = room.room q on in omega arith;
        count = refl;
        at_stop = record { level = refl; range = tt };
        told = λ b ts ps tb on. record { claimed = held; rows = tt };
      })

  module _ (nexts xs : List ℕ) (asked : List (List ℕ)) (w : Reached) (k : ℕ) (c : Come' nexts xs asked w k) (below : k < n) (keyed : TapKeyed groups laid k) (on : get_or (get_or laid k []) 0 0 < length pages) where
    -- Room for one tap.
    pub room_for_one : length xs < 4294967296 → ClaimRoom 2 starts nexts xs (tap_key groups laid k)
    room_for_one small =
        room_for_two (keys_of (length pages)) groups laid n k starts nexts xs below c.grows c.room (let l = keyed.lane in omega arith) small

    pub come_next : (nexts' xs' : List ℕ) (asked' : List (List ℕ)) (w' : Reached) → k < length asked → length nexts' ≡ length nexts → length xs' ≡ length xs → TwoMore (tap_key groups laid k) nexts nexts' → WentOn laid k stops w w'
        → ((b : Board) (ts : List Groups.Tap) (ps : List PageLanes) → Tables b ts ps pages nodes wires facts groups → TapOn b ts (get_or laid k [])
        → NextAsked b ts ps (view tap_in laid k) (tap_in (get_or laid k [])) (stop_level_of w'.level) k starts nexts xs asked nexts' xs' asked')
        → Come' nexts' xs' asked' w' (k + 1)
    come_next nexts' xs' asked' w' room long wide two went next =
        record {
          within = omega arith;
          grows = grows_next (keys_of (length pages)) groups laid n k starts nexts xs below c.grows c.room nexts' xs' two long wide;
          room = subst (RoomFrom (keys_of (length pages)) groups laid n starts nexts') (sym (add-one k)) (room_next (keys_of (length pages)) groups laid n k starts nexts xs below c.grows c.room nexts' xs' two);
          count = went.count ∙ (λ i. picked (new_row (view tap_in laid k) (tap_in (get_or laid k []))) (c.count i)) ∙ ap (λ m. rows_begun (view tap_in laid m)) (sym (add-one k));
          at_stop = went.at_stop;
          told = λ b ts ps tb at.
              subst (λ (m : ℕ). Told (length pages) b ts ps stops laid s w'.stops m starts nexts' xs' asked') (sym (add-one k))
              (told_next (length pages) b ts ps stops laid s k w w' starts nexts xs nexts' xs' asked asked' went (next b ts ps tb (at k below)) on room (c.told b ts ps tb at));
        }
      where
        picked : Bool → ℕ → ℕ
        picked fresh m = elim fresh [ true ↦ suc m | false ↦ m ]

  -- All taps.
  pub come_end : (nexts xs : List ℕ) (asked : List (List ℕ)) (w : Reached) (k : ℕ) → Come' nexts xs asked w k → k ≡ n → rows_begun (view tap_in laid n) ≡ s → (b : Board) (ts : List Groups.Tap) (ps : List PageLanes)
      → Tables b ts ps pages nodes wires facts groups → ((j : ℕ) → j < n → TapOn b ts (get_or laid j [])) → QuestionsIn b ts ps (view stop_in stops s) asked (view tap_in laid n) (view stop_in stops s)
  come_end nexts xs asked w k c e each b ts ps tb on =
      subst₂ (λ (x y : ℕ). QuestionsIn b ts ps (view stop_in stops s) asked (view tap_in laid x) (view stop_in stops y)) e
      (c.count ∙ ap (λ m. rows_begun (view tap_in laid m)) e ∙ each) (c.told b ts ps tb on).rows
