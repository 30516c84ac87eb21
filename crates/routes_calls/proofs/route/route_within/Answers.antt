-- Planned, laid and settled, turned and settled.
use native.Mathlib.Omega.{arith}
use Rattle.base.proofs.Passing.{passed}
use mathlib.Core.Path.{sym}
use lib.ListN.{take}
use lib.Seq.{length-take-le}
use Rattle.board.specs.Planning.{planning}
use Rattle.board_plan.specs.TextPlan.{fits_lent}
use Rattle.board_plan.proofs.Surveying.{LanesTold, text_refusal, text_crowded, text_lanes}
use Rattle.routes_gutter.proofs.Planned.{work_again}
use Rattle.routes_calls.specs.Finish.{PlanReady}
use Rattle.routes_calls.proofs.Routing.{plan_cut, taps_there, plan_ready, plan_told, plan_refused}
use Rattle.routes_calls.proofs.route.route_within.Lts as lts
use Rattle.routes_calls.proofs.route.route_within.Reads as reads
use Rattle.routes_calls.proofs.route.route_within.Tie as tie
use Rattle.routes_calls.proofs.route.route_within.Goals as goal

-- Where the board is planned and its sections are cut, before anything is laid.
abbrev Planned : Type 0
Planned = lts.After-finish_plan-arg7 tie.the-claims reads.Pre reads.Post tie.handed_clauses

module _ (c : Planned) where
  told : let p = c.plan_text in LanesTold p.new.records p.new.facts p.new.taps p.new.groups (planning c.args.asked.most (fits_lent c.args.asked.lent) c.args.text.now) c.in_ok-planned.planned.counts c.in_ok-m.m
  told = let p = c.plan_text in let a = c.args in text_lanes p.new.records p.new.facts p.new.taps p.new.groups _ (fits_lent a.asked.lent) a.text.now p.result p.ensures _ _ c.in_ok-planned.was c.in_ok-m.was

  ready : let p = c.plan_text in let a = c.args in PlanReady told.on_board told.lanes c.cut_sections-s.result.pages.now c.cut_sections-s.result.nodes.now c.cut_sections-s.result.wires.now p.new.facts (take c.in_ok-m.m p.new.taps) p.new.groups p.new.demands p.new.keys p.new.spare a.rerouters.now a.bus_wires.now a.ports.now a.answers.now
  ready =
      let a = c.args in
      let p = c.plan_text in
      let lent = c.requires.within_library.1 in
      let cut = plan_cut a.asked.most a.text.now a.asked.lent c.requires.within_library.0 p.new.records p.new.facts p.new.taps p.new.groups _ _ told a.rerouters.now a.bus_wires.now a.ports.now a.answers.now in
      plan_ready a.asked.most a.text.now a.asked.lent c.requires.within_library.0 p.new.records p.new.facts p.new.taps p.new.groups _ _ told a.rerouters.now a.bus_wires.now a.ports.now a.answers.now
      (c.cut_sections-s.ensures told.on_board cut.0 cut.1 cut.2) _ p.new.demands p.new.keys p.new.spare
      (work_again _ _ c.requires.work_lent p.auto.facts p.auto.taps p.auto.groups p.auto.demands p.auto.keys p.auto.spare)
      (record { marks_lent = omega arith; rerouters_lent = lent.rerouters_lent; wires_lent = lent.wires_lent; ports_lent = lent.ports_lent }) c.requires.within_library.2

pub cut_sections-s-requires : goal.cut_sections-s-requires
cut_sections-s-requires c =
    let p = c.plan_text in
    let a = c.args in
    let t = text_lanes p.new.records p.new.facts p.new.taps p.new.groups _ (fits_lent a.asked.lent) a.text.now p.result p.ensures _ _ c.in_ok-planned.was c.in_ok-m.was in
    let cut = plan_cut a.asked.most a.text.now a.asked.lent c.requires.within_library.0 p.new.records p.new.facts p.new.taps p.new.groups _ _ t a.rerouters.now a.bus_wires.now a.ports.now a.answers.now in
    (t.on_board, cut.0, cut.1, cut.2)

pub slice_bounds-taps-end : goal.slice_bounds-taps-end
slice_bounds-taps-end c =
    let p = c.plan_text in
    let a = c.args in
    let t = text_lanes p.new.records p.new.facts p.new.taps p.new.groups _ (fits_lent a.asked.lent) a.text.now p.result p.ensures _ _ c.in_ok-planned.was c.in_ok-m.was in
    taps_there a.asked.most a.text.now a.asked.lent c.requires.within_library.0 p.new.records p.new.facts p.new.taps p.new.groups _ _ t a.rerouters.now a.bus_wires.now a.ports.now a.answers.now (omega (arith, c.requires.work_lent.taps_lent, p.auto.taps))

pub slice_bounds-taps-end-2 : goal.slice_bounds-taps-end-2
slice_bounds-taps-end-2 c =
    let p = c.plan_text in
    let a = c.args in
    let t = text_lanes p.new.records p.new.facts p.new.taps p.new.groups _ (fits_lent a.asked.lent) a.text.now p.result p.ensures _ _ c.in_ok-planned.was c.in_ok-m.was in
    sym (length-take-le _ _ (taps_there a.asked.most a.text.now a.asked.lent c.requires.within_library.0 p.new.records p.new.facts p.new.taps p.new.groups _ _ t a.rerouters.now a.bus_wires.now a.ports.now a.answers.now (omega (arith, c.requires.work_lent.taps_lent, p.auto.taps))))

pub finish_plan-laid-requires : goal.finish_plan-laid-requires
finish_plan-laid-requires c =
    let w : Planned = c.before in
    ((told w).on_board, (told w).lanes, ready w)

pub returns-in_err-planned : goal.returns-in_err-planned
returns-in_err-planned c =
    let p = c.plan_text in
    let a = c.args in
    rw (passed c.from_residual.result _ c.from_residual.ensures.1)
    (plan_refused _ a.rerouters.now a.bus_wires.now a.ports.now a.answers.now _ (text_refusal p.new.records p.new.facts p.new.taps p.new.groups _ (fits_lent a.asked.lent) a.text.now p.result p.ensures _ c.in_err-planned.was))

pub returns-in_err-m : goal.returns-in_err-m
returns-in_err-m c =
    let p = c.plan_text in
    let a = c.args in
    let r = c.from_residual-in_err-m in
    rw (passed r.result _ r.ensures.1)
    (plan_refused _ a.rerouters.now a.bus_wires.now a.ports.now a.answers.now _ (text_crowded p.new.records p.new.facts p.new.taps p.new.groups _ (fits_lent a.asked.lent) a.text.now p.result p.ensures _ _ c.in_ok-planned.was c.in_err-m.was))

pub returns : goal.returns
returns c =
    let w : Planned = c.before.before.before.before.before.before.before.before.before.before in
    let p = c.plan_text in
    let a = c.args in
    let f = c.finish_plan-laid in
    let done = f.ensures (told w).on_board (told w).lanes (ready w) in
    plan_told a.asked.most a.text.now a.asked.lent c.requires.within_library.0 p.new.records p.new.facts p.new.taps p.new.groups _ _ (told w) a.rerouters.now a.bus_wires.now a.ports.now a.answers.now
    f.new.rerouters f.new.bus_wires f.new.ports f.new.answers f.result done.0 done.1 done.2
