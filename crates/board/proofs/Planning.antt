-- What a planning says of its sheet, whatever tests what is lent.
use Prim.Native.Nat.{ℕ}
use mathlib.Core.Path.{◌≡◌, refl, sym, ap, ◌∙◌}
use mathlib.Core.Bool.{Bool, true, false}
use mathlib.Core.List.{List}
use Rattle.base.specs.declared.refusal.Reason.TheVariants.{NoRoom}
use Rattle.base.specs.declared.refusal.Refusal.{Refusal}
use Rattle.base.specs.Refusal.{refusal}
use Rattle.sheet.specs.declared.Counts.{Counts}
use Rattle.board.specs.Board.{Board}
use Rattle.board.specs.Refusals
use Rattle.board.specs.Refusals.{Judged, board, judged}
use Rattle.board.specs.Demands.{PageLanes, Planned, crowded, planned, plan_lanes}
use Rattle.board.specs.Planning.{Planning, refused, lanes_for, planning, fitted, judged_for, crowding}
use Rattle.base.proofs.Bools.{never}

module _ (most : Counts) (text : List ℕ) (fits : Board → Bool) where
  pub planning_refused : (r : Refusal) → judged most text ≡ Refusals.turned_away r → planning most fits text ≡ refused r
  unfolding planning
  planning_refused r e = ap (judged_for fits) e

  pub planning_fine : (b : Board) → judged most text ≡ board b → planning most fits text ≡ fitted fits b
  unfolding planning
  planning_fine b e = ap (judged_for fits) e

-- A plan comes from an accepted board that fits.
module _ (most : Counts) (text : List ℕ) (fits : Board → Bool) (b : Board) (ps : List PageLanes) where
  pub record LanesFrom : Type 0 where
    pub accepted : judged most text ≡ board b
    pub fitting : fits b ≡ true
    pub lanes : plan_lanes b ≡ planned ps

  pub lanes_from : planning most fits text ≡ lanes_for b ps → LanesFrom
  lanes_from e = go (judged most text) refl
    where
      go : (j : Judged) → judged most text ≡ j → LanesFrom
      go (Refusals.turned_away r) is = let d : refused r ≡ lanes_for b ps = sym (planning_refused most text fits r is) ∙ e in never cc
      go (board c) is = fit (fits c) refl
        where
          from : (t : Bool) → fits c ≡ t → elim t as (λ _. Planning) [ true ↦ crowding c (plan_lanes c) | false ↦ refused (refusal NoRoom 0) ] ≡ lanes_for b ps
          from t f = rw (← f) (sym (planning_fine most text fits c is) ∙ e)

          laned : fits c ≡ true → (r : Planned) → plan_lanes c ≡ r → crowding c r ≡ lanes_for b ps → LanesFrom
          laned f (crowded q) k d = never cc
          laned f (planned qs) k d =
              let same : c ≡ b = cc in
              let lanes-same : qs ≡ ps = cc in
              record { accepted = is ∙ ap board same; fitting = ap fits (sym same) ∙ f; lanes = ap plan_lanes (sym same) ∙ k ∙ ap planned lanes-same }

          fit : (t : Bool) → fits c ≡ t → LanesFrom
          fit true f = laned f (plan_lanes c) refl (from true f)
          fit false f = let d : refused (refusal NoRoom 0) ≡ lanes_for b ps = from false f in never cc
