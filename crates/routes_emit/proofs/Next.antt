-- From tap to tap: what the walk has come to.
use Prim.Native.Nat.{ℕ, suc, ◌+◌, ◌-◌, ◌*◌, ◌≤◌, ◌<◌}
use mathlib.Core.Path.{◌≡◌, refl, ap, sym, subst, subst₂, ◌∙◌}
use mathlib.Core.Bool.{Bool, true, false}
use mathlib.Core.List.{List, []}
use native.Mathlib.Omega.{arith}
use native.Mathlib.Numerals.{add-one}
use lib.ListN.{length, get_or}
use Rattle.board.specs.Board.{Board}
use Rattle.board.specs.Groups
use Rattle.board.specs.Demands.{PageLanes}
use Rattle.base.specs.Views.{view}
use Rattle.base.proofs.Views.{length-view}
use Rattle.board.specs.Tables.{tap_in}
use Rattle.routes.specs.Stops.{new_row}
use Rattle.routes.specs.Levels.{Level}
use Rattle.routes.specs.Rerouters
use Rattle.routes.specs.Tables.{stop_in}
use Rattle.routes.specs.Holding.{stop_level_of}
use Rattle.routes_taps.specs.Asking
use Rattle.routes_taps.specs.Asking.{tap_by, emit_by}
use Rattle.routes.specs.News.{NewsOf}
use Rattle.routes_taps.specs.Taps.{tap_read, tap_of, Tables, TapOn, AtStop, WentOn, rows_begun}
use Rattle.routes_taps.proofs.Reaching.{before_same}
use Rattle.routes_taps.specs.declared.taps.Tap.{Tap}
use Rattle.routes.specs.declared.news.News.{News}
use Rattle.routes_taps.specs.declared.taps.Reached.{Reached}
use Rattle.routes_emit.specs.Emitting.{told, tap_emitted, AnswersRoom, EmissionHeld, Becomes, Ready, Spends, RoomForTaps, start_of}
use Rattle.routes_emit.specs.declared.answers.Answers.{Answers}
use Rattle.routes_emit.specs.declared.walk.Walk.{Walk}
use Rattle.routes_emit.proofs.Steps.{spends_none, group_case, row_case, served}

-- A tap emitted is `tap_by`.
pub emit_as : (b : Board) (ts : List Groups.Tap) (ps : List PageLanes) (a : Answers) (a' : Asking.Answers) (l : List Groups.Tap) (row : List ℕ) (t : Tap) (news : News) (level : Level) (s : Rerouters.Emission)
    → told a ≡ a' → t ≡ tap_read row → NewsOf l (tap_in row) news → tap_emitted b ts ps (told a) (tap_of t) news level s ≡ tap_by b ts ps a' s l (tap_in row) level
unfolding tap_by
emit_as b ts ps a a' l row t news level s ea et n =
    (λ i. tap_emitted b ts ps (ea i) (tap_of (et i)) news level s)
    ∙ (λ i. served b ts ps a' (tap_in row) level (row_case b ts ps a' (tap_in row) level (n.row i) (group_case b ts ps a' (tap_in row) (n.group i) s)))

-- The answers of each tap are there.
pub answers_there : (n k bricks : ℕ) (asked : List (List ℕ)) (flags : List ℕ) → n ≤ length asked → bricks + 2 * n ≤ length flags → k < n → AnswersRoom asked flags bricks k
answers_there n k bricks asked flags ha hf h = record { on_asked = omega arith; on_flags = omega arith }

-- One tap more has been emitted.
module _ (b : Board) (ts : List Groups.Tap) (ps : List PageLanes) (answers : ℕ → Asking.Answers) (stops laid : List (List ℕ)) (k : ℕ) (r r' : Reached) where
  pub emit_on : WentOn laid k stops r r'
      → tap_by b ts ps (answers k) (emit_by b ts ps answers (view tap_in laid k) (view stop_in stops r.stops)) (view tap_in laid k) (tap_in (get_or laid k [])) (stop_level_of r'.level)
      ≡ emit_by b ts ps answers (view tap_in laid (suc k)) (view stop_in stops r'.stops)
  unfolding emit_by
  emit_on w =
      λ i. tap_by b ts ps (answers (sym (length-view tap_in laid k) i)) (emit_by b ts ps answers (view tap_in laid k) (sym (before_same stops r (new_row (view tap_in laid k) (tap_in (get_or laid k []))) r'.stops w.count) i)) (view tap_in laid k) (tap_in (get_or laid k [])) (w.at_stop.level i)

-- What the walk has come to after k taps.
pub record Come (pages nodes wires_in facts groups laid : List (List ℕ)) (n : ℕ) (stops : List (List ℕ)) (answers : ℕ → Asking.Answers) (old old_wires rerouters wires : List (List ℕ)) (w : Walk) (k : ℕ) : Type 0 where
  pub within : k ≤ n
  pub ready : Ready (5 * (n - k)) (6 * (n - k)) rerouters wires w.emission
  pub count : w.reached.stops ≡ rows_begun (view tap_in laid k)
  pub at_stop : AtStop stops w.reached
  pub emitted : (b : Board) (ts : List Groups.Tap) (ps : List PageLanes) → Tables b ts ps pages nodes wires_in facts groups → ((j : ℕ) → j < n → TapOn b ts (get_or laid j []))
      → EmissionHeld (emit_by b ts ps answers (view tap_in laid k) (view stop_in stops w.reached.stops)) old old_wires rerouters wires w.emission

module _ (pages nodes wires_in facts groups laid : List (List ℕ)) (n : ℕ) (stops : List (List ℕ)) (answers : ℕ → Asking.Answers) (old old_wires : List (List ℕ)) where
  abbrev Come' : List (List ℕ) → List (List ℕ) → Walk → ℕ → Type 0
  Come' = Come pages nodes wires_in facts groups laid n stops answers old old_wires

  pub come_start : (w : Walk) → w ≡ start_of → RoomForTaps n old old_wires → Come' old old_wires w 0
  unfolding emit_by
  come_start w e room =
      subst (λ (v : Walk). Come' old old_wires v 0) (sym e)
      (record {
        within = omega arith;
        ready =
            record {
              rerouter_room = let h = room.rerouter_rows in omega arith;
              wire_room = let h = room.wire_rows in omega arith;
              numbers = let h = room.numbers in omega arith;
              upstream_depth = omega arith;
              stop_tap_depth = omega arith;
              row_end_depth = omega arith;
            };
        count = refl;
        at_stop = record { level = refl; range = tt };
        emitted = λ b ts ps k on.
            record { bus = record { rerouter_rows = refl; wire_rows = refl; rerouter_count = refl; wire_count = refl }; upstream = refl; stop_tap = refl; row_end = refl };
      })

  module _ (rer wires : List (List ℕ)) (w : Walk) (k : ℕ) (c : Come' rer wires w k) where
    -- Room for one tap.
    pub room_for_one : k < n → Ready 5 6 rer wires w.emission
    room_for_one h =
        (spends_none (5 * (n - k) - 5) (6 * (n - k) - 6) rer wires w.emission).spent 5 6
        (subst₂ (λ (x y : ℕ). Ready x y rer wires w.emission) (let z : 5 * (n - k) ≡ 5 + (5 * (n - k) - 5) = omega arith in z) (let z : 6 * (n - k) ≡ 6 + (6 * (n - k) - 6) = omega arith in z) c.ready)

    pub come_next : (rer' wires' : List (List ℕ)) (w' : Walk) → k < n → Spends 5 6 rer wires w.emission rer' wires' w'.emission → WentOn laid k stops w.reached w'.reached
        → ((b : Board) (ts : List Groups.Tap) (ps : List PageLanes) → Tables b ts ps pages nodes wires_in facts groups → TapOn b ts (get_or laid k [])
        → Becomes (λ s. tap_by b ts ps (answers k) s (view tap_in laid k) (tap_in (get_or laid k [])) (stop_level_of w'.reached.level)) rer wires w.emission rer' wires' w'.emission)
        → Come' rer' wires' w' (k + 1)
    come_next rer' wires' w' h spends went becomes =
        record {
          within = omega arith;
          ready = spends.spent (5 * (n - (k + 1))) (6 * (n - (k + 1)))
              (subst₂ (λ (x y : ℕ). Ready x y rer wires w.emission) (let z : 5 * (n - k) ≡ 5 * (n - (k + 1)) + 5 = omega arith in z) (let z : 6 * (n - k) ≡ 6 * (n - (k + 1)) + 6 = omega arith in z) c.ready);
          count = went.count ∙ (λ i. picked (new_row (view tap_in laid k) (tap_in (get_or laid k []))) (c.count i)) ∙ ap (λ m. rows_begun (view tap_in laid m)) (sym (add-one k));
          at_stop = went.at_stop;
          emitted = λ b ts ps tb on.
              subst (λ (m : ℕ). EmissionHeld (emit_by b ts ps answers (view tap_in laid m) (view stop_in stops w'.reached.stops)) old old_wires rer' wires' w'.emission) (sym (add-one k))
              (subst (λ (s : Rerouters.Emission). EmissionHeld s old old_wires rer' wires' w'.emission) (emit_on b ts ps answers stops laid k w.reached w'.reached went)
              ((becomes b ts ps tb (on k h)).becomes _ old old_wires (c.emitted b ts ps tb on)));
        }
      where
        picked : Bool → ℕ → ℕ
        picked fresh m = elim fresh [ true ↦ suc m | false ↦ m ]
