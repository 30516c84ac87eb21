-- What an answer of `plan_text` says of the sheet.
use Prim.Native.Nat.{ℕ, suc}
use mathlib.Core.Path.{◌≡◌, refl, sym, ap, ◌∙◌, subst}
use mathlib.Core.Bool.{Bool, true, false, ◌&&◌}
use mathlib.Core.List.{List}
use Rattle.std.proofs.Common.{Result, Ok, Err}
use Rattle.base.specs.declared.refusal.Reason.TheVariants.{NoLane}
use Rattle.base.specs.declared.refusal.Refusal.{Refusal}
use Rattle.base.specs.Refusal.{refusal}
use Rattle.sheet.specs.declared.Counts.{Counts}
use Rattle.board.specs.Board.{Board}
use Rattle.board.specs.Refusals.{Judged, turned_away, board}
use Rattle.board.specs.Demands.{PageLanes, Planned, crowded, planned, plan_lanes}
use Rattle.board.specs.Planning.{Planning, refused, lanes_for, planning, crowding, judged_for}
use Rattle.board.specs.Walk.{counts_in}
use Rattle.base.proofs.Bools.{never}
use Rattle.board_plan.specs.declared.TextPlan.{TextPlan}
use Rattle.board_plan.specs.TextPlan.{fitting, FactsHold, TablesHold, LanesPlanned, TextPlanned}
use Rattle.board_plan.proofs.Reading.{planning_then}

pub facts_in : {b : Board} {ps : List PageLanes} {rows facts taps groups : List (List ℕ)} {m : ℕ} → TablesHold b ps rows facts taps groups m → FactsHold b rows facts
facts_in t = record { sections = t.sections; nodes_known = t.nodes_known; wires_known = t.wires_known }

always : (t : Bool) → t ≡ (t && true)
always true = refl
always false = refl

-- The lanes of a board's pages, as planning tells them.
pub record LanesTold (rows facts taps groups : List (List ℕ)) (p : Planning) (c : Counts) (m : ℕ) : Type 0 where
  pub on_board : Board
  pub lanes : List PageLanes
  pub is : p ≡ lanes_for on_board lanes
  pub counted : c ≡ counts_in on_board
  pub tables : TablesHold on_board lanes rows facts taps groups m

module _ (rows table taps groups : List (List ℕ)) where
  -- What an answer says of the sheet.
  pub survey_refusal : (j : Judged) (r : Result TextPlan Refusal) (e : Refusal) → TextPlanned j rows table taps groups r → r ≡ Err e → j ≡ turned_away e
  survey_refusal (turned_away d) r e h is = cc
  survey_refusal (board b) r e (t, fine, h) is = never cc

  pub record BoardTold (j : Judged) (c : Counts) (q : Planned) : Type 0 where
    pub on_board : Board
    pub is : j ≡ board on_board
    pub counted : c ≡ counts_in on_board
    pub lanes : plan_lanes on_board ≡ q
    pub facts : FactsHold on_board rows table

  -- What a fine answer says of the board.
  planned_as : (b : Board) (r : Result TextPlan Refusal) (t : TextPlan) → TextPlanned (board b) rows table taps groups r → r ≡ Ok t → LanesPlanned b (plan_lanes b) rows table taps groups t
  planned_as b r t (u, fine, h) is = let same : u ≡ t = cc in subst (LanesPlanned b (plan_lanes b) rows table taps groups) same h

  pub survey_crowd : (j : Judged) (r : Result TextPlan Refusal) (t : TextPlan) (e : Refusal) → TextPlanned j rows table taps groups r → r ≡ Ok t → t.taps ≡ Err e
      → (p : ℕ) × (e ≡ refusal NoLane (suc p)) × BoardTold j t.counts (crowded p)
  survey_crowd (turned_away d) r t e h is crowds = never cc
  survey_crowd (board b) r t e h is crowds = go (plan_lanes b) refl (planned_as b r t h is)
    where
      go : (q : Planned) → plan_lanes b ≡ q → LanesPlanned b q rows table taps groups t → (p : ℕ) × (e ≡ refusal NoLane (suc p)) × BoardTold (board b) t.counts (crowded p)
      go (crowded p) lanes (whole, f) =
          let both : Err e ≡ Err (refusal NoLane (suc p)) = sym crowds ∙ ap (λ (x : TextPlan). x.taps) whole in
          let same : e ≡ refusal NoLane (suc p) = cc in
          (p, same, record { on_board = b; is = refl; counted = ap (λ (x : TextPlan). x.counts) whole; lanes = lanes; facts = f })
      go (planned ps) lanes (m, whole, k) = let both : Err e ≡ Ok m = sym crowds ∙ ap (λ (x : TextPlan). x.taps) whole in never cc

  pub survey_lanes : (j : Judged) (r : Result TextPlan Refusal) (t : TextPlan) (m : ℕ) → TextPlanned j rows table taps groups r → r ≡ Ok t → t.taps ≡ Ok m
      → (ps : List PageLanes) × BoardTold j t.counts (planned ps)
  survey_lanes (turned_away d) r t m h is taps-are = never cc
  survey_lanes (board b) r t m h is taps-are = go (plan_lanes b) refl (planned_as b r t h is)
    where
      go : (q : Planned) → plan_lanes b ≡ q → LanesPlanned b q rows table taps groups t → (ps : List PageLanes) × BoardTold (board b) t.counts (planned ps)
      go (crowded p) lanes (whole, f) = let both : Ok m ≡ Err (refusal NoLane (suc p)) = sym taps-are ∙ ap (λ (x : TextPlan). x.taps) whole in never cc
      go (planned ps) lanes (k, whole, held) =
          (ps, record { on_board = b; is = refl; counted = ap (λ (x : TextPlan). x.counts) whole; lanes = lanes; facts = facts_in held })

  -- What an answer says of the planning.
  module _ (most : Counts) (fits : Board → Bool) (text : List ℕ) (r : Result TextPlan Refusal) (h : TextPlanned (fitting most fits text) rows table taps groups r) where
    then : planning most fits text ≡ judged_for (λ b. true) (fitting most fits text)
    then = planning_then most text fits fits (λ b. true) (λ b. always (fits b))

    pub text_refusal : (e : Refusal) → r ≡ Err e → planning most fits text ≡ refused e
    text_refusal e is = then ∙ ap (judged_for (λ b. true)) (survey_refusal (fitting most fits text) r e h is)

    pub text_crowded : (t : TextPlan) (e : Refusal) → r ≡ Ok t → t.taps ≡ Err e → planning most fits text ≡ refused e
    text_crowded t e is crowds =
        let k = survey_crowd (fitting most fits text) r t e h is crowds in
        then ∙ ap (judged_for (λ b. true)) k.2.is ∙ ap (crowding k.2.on_board) k.2.lanes ∙ ap refused (sym k.1)

    pub text_lanes : (t : TextPlan) (m : ℕ) → r ≡ Ok t → t.taps ≡ Ok m → LanesTold rows table taps groups (planning most fits text) t.counts m
    text_lanes t m is taps-are = subst (λ (p : Planning). LanesTold rows table taps groups p t.counts m) (sym then) (told (fitting most fits text) h)
      where
        laned : (b : Board) (q : Planned) → LanesPlanned b q rows table taps groups t → LanesTold rows table taps groups (crowding b q) t.counts m
        laned b (crowded p) (whole, f) = let both : Ok m ≡ Err (refusal NoLane (suc p)) = sym taps-are ∙ ap (λ (x : TextPlan). x.taps) whole in never cc
        laned b (planned ps) (k, whole, held) =
            let both : Ok k ≡ Ok m = sym (ap (λ (x : TextPlan). x.taps) whole) ∙ taps-are in
            let same : k ≡ m = cc in
            record { on_board = b; lanes = ps; is = refl; counted = ap (λ (x : TextPlan). x.counts) whole; tables = subst (λ (j : ℕ). TablesHold b ps rows table taps groups j) same held }

        told : (j : Judged) → TextPlanned j rows table taps groups r → LanesTold rows table taps groups (judged_for (λ b. true) j) t.counts m
        told (turned_away d) e = never cc
        told (board b) k = laned b (plan_lanes b) (planned_as b r t k is)
