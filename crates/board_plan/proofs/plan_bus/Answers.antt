-- Planned; then the page answers.
use Prim.Native.Nat.{ℕ, ◌≤◌, ◌<◌}
use native.Mathlib.Omega.{arith}
use mathlib.Core.Path.{◌≡◌, sym, ap, ◌∙◌, subst}
use mathlib.Core.List.{List, [], ◌∷◌, ◌++◌}
use lib.ListN.{length, drop}
use lib.Seq.{length-take-le}
use Rattle.std.proofs.Common.{Ok}
use Rattle.base.proofs.Passing.{passed}
use Rattle.sheet.specs.declared.Counts.{Counts}
use Rattle.lanes.specs.Lanes.{lane_most}
use Rattle.board.specs.Board.{field}
use Rattle.board.proofs.Planning.{lanes_from}
use Rattle.board_plan.specs.TextPlan.{work_rows, asked_for, fits_lent}
use Rattle.board_plan.specs.declared.Asked.{Asked}
use Rattle.board_plan.specs.PagesPlan.{plan_call, PagesPlanned}
use Rattle.board_plan.proofs.Fitting.{fits_all}
use Rattle.board_plan.proofs.Planned.{planned_counts}
use Rattle.board_plan.proofs.Surveying.{text_refusal, text_crowded, text_lanes}
use Rattle.board_plan.proofs.Calling.{asked_room, pages_ready, pages_refused, pages_laned}
use Rattle.board_plan.proofs.plan_bus.Goals as goal

pub plan_text-requires : goal.plan_text-requires
plan_text-requires c = let a = c.args in
    let q = c.ask-asked in
    let room = asked_room q.result a.records.now a.facts.now a.taps.now a.groups.now a.demands.now a.keys.now a.marks.now (q.ensures ∙ ap (asked_for (40960 ∷ 49152 ∷ 8192 ∷ length a.answers.now ∷ [])) c.work_lengths-work.ensures) in record {
      work_lent = room.0.lent;
      within_library = room.1;
    }

pub returns-in_err-planned : goal.returns-in_err-planned
returns-in_err-planned c =
    let q = c.ask-asked in
    let p = c.plan_text in
    let a = c.args in
    let work-of : List ℕ = work_rows a.records.now a.facts.now a.taps.now a.groups.now a.demands.now a.keys.now a.marks.now in
    subst (PagesPlanned (plan_call a.text.now (length a.answers.now) (work-of)) a.answers.now a.answers.now) (sym (passed c.from_residual.result _ c.from_residual.ensures.1))
    (pages_refused a.text.now (work-of) a.answers.now a.answers.now q.result (q.ensures ∙ ap (asked_for (40960 ∷ 49152 ∷ 8192 ∷ length a.answers.now ∷ [])) c.work_lengths-work.ensures) _ (text_refusal p.new.records p.new.facts p.new.taps p.new.groups q.result.most (fits_lent q.result.lent) a.text.now p.result p.ensures _ c.in_err-planned.was))

pub returns-in_err-planned-2 : goal.returns-in_err-planned-2
returns-in_err-planned-2 c =
    let q = c.ask-asked in
    let p = c.plan_text in
    let a = c.args in
    let r = c.from_residual-in_err-planned-2 in
    let work-of : List ℕ = work_rows a.records.now a.facts.now a.taps.now a.groups.now a.demands.now a.keys.now a.marks.now in
    subst (PagesPlanned (plan_call a.text.now (length a.answers.now) (work-of)) a.answers.now a.answers.now) (sym (passed r.result _ r.ensures.1))
    (pages_refused a.text.now (work-of) a.answers.now a.answers.now q.result (q.ensures ∙ ap (asked_for (40960 ∷ 49152 ∷ 8192 ∷ length a.answers.now ∷ [])) c.work_lengths-work.ensures) _ (text_crowded p.new.records p.new.facts p.new.taps p.new.groups q.result.most (fits_lent q.result.lent) a.text.now p.result p.ensures _ _ c.in_ok-planned.was c.in_err-planned-2.was))

pub slice_bounds-write_pages-end : goal.slice_bounds-write_pages-end
slice_bounds-write_pages-end c =
    let p = c.plan_text in
    let q = c.ask-asked in
    let t = text_lanes p.new.records p.new.facts p.new.taps p.new.groups q.result.most (fits_lent q.result.lent) c.args.text.now p.result p.ensures _ _ c.in_ok-planned.was c.in_ok-planned-2.was in
    let from = lanes_from q.result.most c.args.text.now (fits_lent q.result.lent) t.on_board t.lanes t.is in
    let asked = q.ensures ∙ ap (asked_for (40960 ∷ 49152 ∷ 8192 ∷ length c.args.answers.now ∷ [])) c.work_lengths-work.ensures in
    omega (arith, ap (λ (k : Counts). k.pages) t.counted, (fits_all q.result.lent t.on_board from.fitting).answers, ap (λ (z : Asked). z.lent.answers) asked)

-- The page answers, and the facts that they are written from, are there.
there : (c : goal.After-write_pages-arg-1) → let k = c.in_ok-planned.planned.counts.pages in
    ((k ≤ length c.plan_text.new.facts) × (k ≤ length c.args.answers.now)) × ((p : ℕ) → p < k → field c.plan_text.new.facts p 6 ≤ lane_most)
there c =
    let p = c.plan_text in
    let a = c.args in
    let q = c.ask-asked in
    let told = text_lanes p.new.records p.new.facts p.new.taps p.new.groups q.result.most (fits_lent q.result.lent) a.text.now p.result p.ensures _ _ c.in_ok-planned.was c.in_ok-planned-2.was in
    let asked = q.ensures ∙ ap (asked_for (40960 ∷ 49152 ∷ 8192 ∷ length a.answers.now ∷ [])) c.work_lengths-work.ensures in
    let room = asked_room q.result a.records.now a.facts.now a.taps.now a.groups.now a.demands.now a.keys.now a.marks.now asked in
    pages_ready p.new.records p.new.facts p.new.taps p.new.groups q.result.most a.text.now q.result.lent _ _ (length a.answers.now) told (omega arith) (ap (λ (z : Asked). z.lent.answers) asked)

pub slice_bounds-write_pages-end-2 : goal.slice_bounds-write_pages-end-2
slice_bounds-write_pages-end-2 c = sym (length-take-le _ _ (there c).0.1)

pub write_pages-requires-clause-facts_long : goal.write_pages-requires-clause-facts_long
write_pages-requires-clause-facts_long c = let both = there c in omega (arith, both.0.0, length-take-le _ c.args.answers.now both.0.1)

pub write_pages-requires-clause-by_index : goal.write_pages-requires-clause-by_index
write_pages-requires-clause-by_index c = let both = there c in λ p h. both.1 p (omega (arith, length-take-le _ c.args.answers.now both.0.1))

pub returns : goal.returns
returns c =
    let p = c.plan_text in
    let a = c.args in
    let q = c.ask-asked in
    let work-of : List ℕ = work_rows a.records.now a.facts.now a.taps.now a.groups.now a.demands.now a.keys.now a.marks.now in
    let t = text_lanes p.new.records p.new.facts p.new.taps p.new.groups q.result.most (fits_lent q.result.lent) a.text.now p.result p.ensures _ _ c.in_ok-planned.was c.in_ok-planned-2.was in
    let asked = q.ensures ∙ ap (asked_for (40960 ∷ 49152 ∷ 8192 ∷ length a.answers.now ∷ [])) c.work_lengths-work.ensures in
    let b = t.on_board in
    let from = lanes_from q.result.most a.text.now _ b t.lanes t.is in
    let counts = planned_counts b t.lanes from.lanes in
    let pages : c.in_ok-planned.planned.counts.pages ≡ length b.pages = ap (λ (k : Counts). k.pages) t.counted in
    let long = length-take-le c.in_ok-planned.planned.counts.pages a.answers.now (omega (arith, pages, (fits_all q.result.lent b from.fitting).answers, ap (λ (z : Asked). z.lent.answers) asked)) in
    let written = c.write_pages.ensures t.lanes (counts.0 ∙ sym pages ∙ sym long) t.tables.pages_known in
    subst (λ (k : ℕ). PagesPlanned (plan_call a.text.now (length a.answers.now) (work-of)) a.answers.now (c.write_pages.new.answers ++ drop k a.answers.now) (Ok k)) (sym pages)
    (pages_laned a.text.now (work-of) a.answers.now (c.write_pages.new.answers ++ drop (length b.pages) a.answers.now) q.result asked b t.lanes t.is from.lanes (ap (λ (front : List (List ℕ)). front ++ drop (length b.pages) a.answers.now) written))
