-- Planned, the box tested, laid and settled, turned and settled, listed.
use Prim.Native.Nat.{ℕ, ◌/◌, min}
use native.Mathlib.Omega.{arith}
use mathlib.Core.Path.{◌≡◌, sym, ap, ◌∙◌}
use mathlib.Core.List.{List, [], ◌∷◌}
use lib.ListN.{length, take}
use lib.Seq.{length-take-le}
use Rattle.board_plan.specs.declared.Asked.{Asked}
use Rattle.base.proofs.Passing.{passed}
use Rattle.board.specs.Planning.{planning}
use Rattle.board_plan.specs.TextPlan.{asked_for, work_rows, fits_lent}
use Rattle.board_plan.proofs.Surveying.{LanesTold}
use Rattle.board_plan.proofs.Calling.{asked_room}
use Rattle.routes_gutter.proofs.Planned.{work_again}
use Rattle.routes_calls.specs.Finish.{PlanReady}
use Rattle.routes_calls.proofs.Routing.{plan_cut, taps_there, plan_ready}
use Rattle.routes_hits.specs.Finding.{HITS_A_WIRE}
use Rattle.routes_hits.specs.Boxing.{box_plan}
use Rattle.routes_hits.proofs.Calling.{box_laned, box_refused, box_told, box_call, box_room, nothing_found, rows_there, list_ready, hits_found}
use Rattle.routes_hits.proofs.find.find_hits.Lts as lts
use Rattle.routes_hits.proofs.find.find_hits.Reads as reads
use Rattle.routes_hits.proofs.find.find_hits.Tie as tie
use Rattle.routes_hits.proofs.find.find_hits.Goals as goal

-- What is asked for, with the lesser of the ports and of the wires that the hits have room for in its place.
asked_is : {k : Asked} (p h : ℕ) {r w n m : ℕ} {lengths rows : List ℕ} → k ≡ asked_for (r ∷ w ∷ m ∷ n ∷ []) lengths → m ≡ min p (h / HITS_A_WIRE) → lengths ≡ rows
    → k ≡ asked_for (r ∷ w ∷ min p (h / HITS_A_WIRE) ∷ n ∷ []) rows
asked_is {k} p h {r} {w} {n} {m} {lengths} {rows} e d l = e ∙ ap (λ (z : ℕ). asked_for (r ∷ w ∷ z ∷ n ∷ []) lengths) d ∙ ap (asked_for (r ∷ w ∷ min p (h / HITS_A_WIRE) ∷ n ∷ [])) l

-- Where the board is planned and the box tested, before anything is laid.
abbrev Planned : Type 0
Planned = lts.After-finish_plan-arg7 tie.the-claims reads.Pre reads.Post tie.handed_clauses

module _ (c : Planned) where
  asked : let a = c.args in c.ask-asked.result ≡ asked_for (length a.rerouters.now ∷ length a.bus_wires.now ∷ min (length a.ports.now) (length a.hits.now / HITS_A_WIRE) ∷ length a.answers.now ∷ []) (work_rows a.records.now a.facts.now a.taps.now a.groups.now a.demands.now a.keys.now a.marks.now)
  asked = let a = c.args in asked_is (length a.ports.now) (length a.hits.now) c.ask-asked.ensures c.min.ensures c.work_lengths.ensures

  told : let p = c.plan_text in let a = c.args in LanesTold p.new.records p.new.facts p.new.taps p.new.groups (planning c.ask-asked.result.most (fits_lent c.ask-asked.result.lent) a.text.now) c.in_ok-planned.planned.counts c.in_ok-m.m
  told =
      let p = c.plan_text in
      let a = c.args in
      let laned = box_laned a.q c.in_ok-planned.planned c.in_ok-m.m (sym c.box_plan.ensures ∙ c.in_ok-m.was) in
      box_told a.q a.text.now c.ask-asked.result (length a.hits.now) (length a.rerouters.now) (length a.bus_wires.now) (length a.ports.now) (length a.answers.now) (work_rows a.records.now a.facts.now a.taps.now a.groups.now a.demands.now a.keys.now a.marks.now) asked p.new.records p.new.facts p.new.taps p.new.groups p.result p.ensures _ c.in_ok-planned.was _ laned.0

  ready : let p = c.plan_text in let a = c.args in PlanReady told.on_board told.lanes c.cut_sections-s.result.pages.now c.cut_sections-s.result.nodes.now c.cut_sections-s.result.wires.now p.new.facts (take c.in_ok-m.m p.new.taps) p.new.groups p.new.demands p.new.keys p.new.spare a.rerouters.now a.bus_wires.now a.ports.now a.answers.now
  ready =
      let p = c.plan_text in
      let a = c.args in
      let is = asked in
      let room = asked_room c.ask-asked.result a.records.now a.facts.now a.taps.now a.groups.now a.demands.now a.keys.now a.marks.now is in
      let r = ap (λ (z : Asked). z.lent.rerouters) is in
      let w = ap (λ (z : Asked). z.lent.bus_wires) is in
      let u = ap (λ (z : Asked). z.lent.ports) is in
      let n = ap (λ (z : Asked). z.lent.answers) is in
      let cut = plan_cut c.ask-asked.result.most a.text.now c.ask-asked.result.lent room.1 p.new.records p.new.facts p.new.taps p.new.groups _ _ told a.rerouters.now a.bus_wires.now a.ports.now a.answers.now in
      plan_ready c.ask-asked.result.most a.text.now c.ask-asked.result.lent room.1 p.new.records p.new.facts p.new.taps p.new.groups _ _ told a.rerouters.now a.bus_wires.now a.ports.now a.answers.now
      (c.cut_sections-s.ensures told.on_board cut.0 cut.1 cut.2) _ p.new.demands p.new.keys p.new.spare
      (work_again _ _ room.0.lent p.auto.facts p.auto.taps p.auto.groups p.auto.demands p.auto.keys p.auto.spare)
      (record { marks_lent = omega arith; rerouters_lent = omega arith; wires_lent = omega arith; ports_lent = omega arith }) (omega arith)

pub plan_text-requires : goal.plan_text-requires
plan_text-requires c =
    let a = c.args in
    let is = asked_is (length a.ports.now) (length a.hits.now) c.ask-asked.ensures c.min.ensures c.work_lengths.ensures in
    let room = asked_room c.ask-asked.result a.records.now a.facts.now a.taps.now a.groups.now a.demands.now a.keys.now a.marks.now is in record {
      work_lent = room.0.lent;
      within_library = room.1;
    }

pub cut_sections-s-requires : goal.cut_sections-s-requires
cut_sections-s-requires c =
    let p = c.plan_text in
    let a = c.args in
    let is = asked_is (length a.ports.now) (length a.hits.now) c.ask-asked.ensures c.min.ensures c.work_lengths.ensures in
    let room = asked_room c.ask-asked.result a.records.now a.facts.now a.taps.now a.groups.now a.demands.now a.keys.now a.marks.now is in
    let laned = box_laned a.q c.in_ok-planned.planned c.in_ok-m.m (sym c.box_plan.ensures ∙ c.in_ok-m.was) in
    let t = box_told a.q a.text.now c.ask-asked.result (length a.hits.now) (length a.rerouters.now) (length a.bus_wires.now) (length a.ports.now) (length a.answers.now) (work_rows a.records.now a.facts.now a.taps.now a.groups.now a.demands.now a.keys.now a.marks.now) is p.new.records p.new.facts p.new.taps p.new.groups p.result p.ensures _ c.in_ok-planned.was _ laned.0 in
    let cut = plan_cut c.ask-asked.result.most a.text.now c.ask-asked.result.lent room.1 p.new.records p.new.facts p.new.taps p.new.groups _ _ t a.rerouters.now a.bus_wires.now a.ports.now a.answers.now in
    (t.on_board, cut.0, cut.1, cut.2)

pub slice_bounds-taps-end : goal.slice_bounds-taps-end
slice_bounds-taps-end c =
    let p = c.plan_text in
    let a = c.args in
    let is = asked_is (length a.ports.now) (length a.hits.now) c.ask-asked.ensures c.min.ensures c.work_lengths.ensures in
    let room = asked_room c.ask-asked.result a.records.now a.facts.now a.taps.now a.groups.now a.demands.now a.keys.now a.marks.now is in
    let laned = box_laned a.q c.in_ok-planned.planned c.in_ok-m.m (sym c.box_plan.ensures ∙ c.in_ok-m.was) in
    let t = box_told a.q a.text.now c.ask-asked.result (length a.hits.now) (length a.rerouters.now) (length a.bus_wires.now) (length a.ports.now) (length a.answers.now) (work_rows a.records.now a.facts.now a.taps.now a.groups.now a.demands.now a.keys.now a.marks.now) is p.new.records p.new.facts p.new.taps p.new.groups p.result p.ensures _ c.in_ok-planned.was _ laned.0 in
    taps_there c.ask-asked.result.most a.text.now c.ask-asked.result.lent room.1 p.new.records p.new.facts p.new.taps p.new.groups _ _ t a.rerouters.now a.bus_wires.now a.ports.now a.answers.now (omega (arith, room.0.lent.taps_lent, p.auto.taps))

pub slice_bounds-taps-end-2 : goal.slice_bounds-taps-end-2
slice_bounds-taps-end-2 c =
    let p = c.plan_text in
    let a = c.args in
    let is = asked_is (length a.ports.now) (length a.hits.now) c.ask-asked.ensures c.min.ensures c.work_lengths.ensures in
    let room = asked_room c.ask-asked.result a.records.now a.facts.now a.taps.now a.groups.now a.demands.now a.keys.now a.marks.now is in
    let laned = box_laned a.q c.in_ok-planned.planned c.in_ok-m.m (sym c.box_plan.ensures ∙ c.in_ok-m.was) in
    let t = box_told a.q a.text.now c.ask-asked.result (length a.hits.now) (length a.rerouters.now) (length a.bus_wires.now) (length a.ports.now) (length a.answers.now) (work_rows a.records.now a.facts.now a.taps.now a.groups.now a.demands.now a.keys.now a.marks.now) is p.new.records p.new.facts p.new.taps p.new.groups p.result p.ensures _ c.in_ok-planned.was _ laned.0 in
    sym (length-take-le _ _ (taps_there c.ask-asked.result.most a.text.now c.ask-asked.result.lent room.1 p.new.records p.new.facts p.new.taps p.new.groups _ _ t a.rerouters.now a.bus_wires.now a.ports.now a.answers.now (omega (arith, room.0.lent.taps_lent, p.auto.taps))))

pub finish_plan-laid-requires : goal.finish_plan-laid-requires
finish_plan-laid-requires c =
    let w = c.before in ((told w).on_board, (told w).lanes, ready w)

pub slice_bounds-list_hits-end : goal.slice_bounds-list_hits-end
unfolding told
slice_bounds-list_hits-end c =
    let w = c.before.before.before.before.before.before.before.before.before.before.before in
    let f = c.finish_plan-laid in
    let there = rows_there (ready w) f.result.bus (f.ensures (told w).on_board (told w).lanes (ready w)).0 f.auto.rerouters f.auto.bus_wires in
    there.0

pub slice_bounds-list_hits-end-2 : goal.slice_bounds-list_hits-end-2
unfolding told
slice_bounds-list_hits-end-2 c =
    let w = c.before.before.before.before.before.before.before.before.before.before.before in
    let f = c.finish_plan-laid in
    let there = rows_there (ready w) f.result.bus (f.ensures (told w).on_board (told w).lanes (ready w)).0 f.auto.rerouters f.auto.bus_wires in
    sym (length-take-le f.result.bus.rerouters f.new.rerouters there.0)

pub slice_bounds-list_hits-end-3 : goal.slice_bounds-list_hits-end-3
unfolding told
slice_bounds-list_hits-end-3 c =
    let w = c.before.before.before.before.before.before.before.before.before.before.before in
    let f = c.finish_plan-laid in
    let there = rows_there (ready w) f.result.bus (f.ensures (told w).on_board (told w).lanes (ready w)).0 f.auto.rerouters f.auto.bus_wires in
    there.1

pub slice_bounds-list_hits-end-4 : goal.slice_bounds-list_hits-end-4
unfolding told
slice_bounds-list_hits-end-4 c =
    let w = c.before.before.before.before.before.before.before.before.before.before.before in
    let f = c.finish_plan-laid in
    let there = rows_there (ready w) f.result.bus (f.ensures (told w).on_board (told w).lanes (ready w)).0 f.auto.rerouters f.auto.bus_wires in
    sym (length-take-le f.result.bus.bus_wires f.new.bus_wires there.1)

pub list_hits-found-requires : goal.list_hits-found-requires
unfolding told
list_hits-found-requires c =
    let w = c.before.before.before.before.before.before.before.before.before.before.before.before in
    let p = c.plan_text in
    let a = c.args in
    let f = c.finish_plan-laid in
    let laned = box_laned a.q c.in_ok-planned.planned c.in_ok-m.m (sym c.box_plan.ensures ∙ c.in_ok-m.was) in
    list_ready (ready w) f.result.bus (f.ensures (told w).on_board (told w).lanes (ready w)).0 (length a.hits.now) (box_room a.q a.text.now c.ask-asked.result (length a.hits.now) (length a.rerouters.now) (length a.bus_wires.now) (length a.ports.now) (length a.answers.now) (work_rows a.records.now a.facts.now a.taps.now a.groups.now a.demands.now a.keys.now a.marks.now) (asked w) p.new.records p.new.facts p.new.taps p.new.groups p.result p.ensures _ c.in_ok-planned.was _ laned.0) f.auto.rerouters f.auto.bus_wires

pub returns-in_err-planned : goal.returns-in_err-planned
returns-in_err-planned c =
    let a = c.args in
    let p = c.plan_text in
    let is = asked_is (length a.ports.now) (length a.hits.now) c.ask-asked.ensures c.min.ensures c.work_lengths.ensures in
    rw (passed c.from_residual.result _ c.from_residual.ensures.1)
    (nothing_found a.q _ a.hits.now a.rerouters.now a.bus_wires.now a.ports.now a.answers.now _
    (box_refused a.q a.text.now c.ask-asked.result (length a.hits.now) (length a.rerouters.now) (length a.bus_wires.now) (length a.ports.now) (length a.answers.now) (work_rows a.records.now a.facts.now a.taps.now a.groups.now a.demands.now a.keys.now a.marks.now) is p.new.records p.new.facts p.new.taps p.new.groups p.result p.ensures _ (ap (box_plan a.q) c.in_err-planned.was)))

pub returns-in_err-m : goal.returns-in_err-m
returns-in_err-m c =
    let a = c.args in
    let p = c.plan_text in
    let is = asked_is (length a.ports.now) (length a.hits.now) c.ask-asked.ensures c.min.ensures c.work_lengths.ensures in
    let r = c.from_residual-in_err-m in
    rw (passed r.result _ r.ensures.1)
    (nothing_found a.q _ a.hits.now a.rerouters.now a.bus_wires.now a.ports.now a.answers.now _
    (box_refused a.q a.text.now c.ask-asked.result (length a.hits.now) (length a.rerouters.now) (length a.bus_wires.now) (length a.ports.now) (length a.answers.now) (work_rows a.records.now a.facts.now a.taps.now a.groups.now a.demands.now a.keys.now a.marks.now) is p.new.records p.new.facts p.new.taps p.new.groups p.result p.ensures _ (ap (box_plan a.q) c.in_ok-planned.was ∙ sym c.box_plan.ensures ∙ c.in_err-m.was)))

pub returns : goal.returns
unfolding told
returns c =
    let w = c.before.before.before.before.before.before.before.before.before.before.before.before.before.before.before in
    let p = c.plan_text in
    let a = c.args in
    let f = c.finish_plan-laid in
    let done = f.ensures (told w).on_board (told w).lanes (ready w) in
    let laned = box_laned a.q c.in_ok-planned.planned c.in_ok-m.m (sym c.box_plan.ensures ∙ c.in_ok-m.was) in
    hits_found (ready w) f.result.bus done.0 a.q _ (box_call a.q a.text.now c.ask-asked.result (length a.hits.now) (length a.rerouters.now) (length a.bus_wires.now) (length a.ports.now) (length a.answers.now) (work_rows a.records.now a.facts.now a.taps.now a.groups.now a.demands.now a.keys.now a.marks.now) (asked w) p.new.records p.new.facts p.new.taps p.new.groups p.result p.ensures _ c.in_ok-planned.was _ laned.0 laned.1) a.hits.now _ c.list_hits-found.result f.result.groups _ (rows_there (ready w) f.result.bus done.0 f.auto.rerouters f.auto.bus_wires) c.list_hits-found.ensures done.1 done.2
