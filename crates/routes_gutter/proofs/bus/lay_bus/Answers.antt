-- Planned, laid and settled, by the lengths that are lent.
use native.Mathlib.Omega.{arith}
use mathlib.Core.Path.{sym, ap, ◌∙◌}
use mathlib.Core.List.{[], ◌∷◌}
use lib.ListN.{length}
use lib.Seq.{length-take-le}
use Rattle.base.proofs.Passing.{passed}
use Rattle.board_plan.specs.TextPlan.{fits_lent, asked_for}
use Rattle.board_plan.proofs.Calling.{asked_room}
use Rattle.board_plan.proofs.Surveying.{text_refusal, text_crowded, text_lanes}
use Rattle.routes_gutter.proofs.Planned.{work_again, rows_cut, taps_front, rows_ready, ready_cut, bus_lent, lay_refused, lay_done}
use Rattle.routes_gutter.proofs.bus.lay_bus.Goals as goal

pub plan_text-requires : goal.plan_text-requires
plan_text-requires c = let a = c.args in
    let q = c.ask-asked in
    let lent = q.ensures ∙ ap (asked_for (length a.rerouters.now ∷ length a.bus_wires.now ∷ length a.ports.now ∷ 64 ∷ [])) c.work_lengths-work.ensures in
    let room = asked_room q.result a.records.now a.facts.now a.taps.now a.groups.now a.demands.now a.keys.now a.marks.now lent in record {
      work_lent = room.0.lent;
      within_library = room.1;
    }

pub cut_sections-s-requires : goal.cut_sections-s-requires
cut_sections-s-requires c =
    let a = c.args in
    let p = c.plan_text in
    let q = c.ask-asked in
    let lent = q.ensures ∙ ap (asked_for (length a.rerouters.now ∷ length a.bus_wires.now ∷ length a.ports.now ∷ 64 ∷ [])) c.work_lengths-work.ensures in
    let told = text_lanes p.new.records p.new.facts p.new.taps p.new.groups _ (fits_lent q.result.lent) a.text.now p.result p.ensures _ _ c.in_ok-planned.was c.in_ok-m.was in
    let room = asked_room q.result a.records.now a.facts.now a.taps.now a.groups.now a.demands.now a.keys.now a.marks.now lent in
    let cut = rows_cut _ a.text.now q.result.lent room.1 p.new.records p.new.facts p.new.taps p.new.groups p.new.demands p.new.keys p.new.spare a.rerouters.now a.bus_wires.now a.ports.now _
    (work_again _ _ room.0.lent p.auto.facts p.auto.taps p.auto.groups p.auto.demands p.auto.keys p.auto.spare)
    (bus_lent q.result _ p.new.spare a.rerouters.now a.bus_wires.now a.ports.now lent (omega arith)) _ _ told in
    (told.on_board, cut.0, cut.1, cut.2)

pub slice_bounds-lay_and_settle-end : goal.slice_bounds-lay_and_settle-end
slice_bounds-lay_and_settle-end c =
    let a = c.args in
    let p = c.plan_text in
    let q = c.ask-asked in
    let lent = q.ensures ∙ ap (asked_for (length a.rerouters.now ∷ length a.bus_wires.now ∷ length a.ports.now ∷ 64 ∷ [])) c.work_lengths-work.ensures in
    let told = text_lanes p.new.records p.new.facts p.new.taps p.new.groups _ (fits_lent q.result.lent) a.text.now p.result p.ensures _ _ c.in_ok-planned.was c.in_ok-m.was in
    let room = asked_room q.result a.records.now a.facts.now a.taps.now a.groups.now a.demands.now a.keys.now a.marks.now lent in
    taps_front _ a.text.now q.result.lent room.1 p.new.records p.new.facts p.new.taps p.new.groups p.new.demands p.new.keys p.new.spare a.rerouters.now a.bus_wires.now a.ports.now _
    (work_again _ _ room.0.lent p.auto.facts p.auto.taps p.auto.groups p.auto.demands p.auto.keys p.auto.spare)
    (bus_lent q.result _ p.new.spare a.rerouters.now a.bus_wires.now a.ports.now lent (omega arith)) _ _ told

pub slice_bounds-lay_and_settle-end-2 : goal.slice_bounds-lay_and_settle-end-2
slice_bounds-lay_and_settle-end-2 c =
    let a = c.args in
    let p = c.plan_text in
    let q = c.ask-asked in
    let lent = q.ensures ∙ ap (asked_for (length a.rerouters.now ∷ length a.bus_wires.now ∷ length a.ports.now ∷ 64 ∷ [])) c.work_lengths-work.ensures in
    let told = text_lanes p.new.records p.new.facts p.new.taps p.new.groups _ (fits_lent q.result.lent) a.text.now p.result p.ensures _ _ c.in_ok-planned.was c.in_ok-m.was in
    let room = asked_room q.result a.records.now a.facts.now a.taps.now a.groups.now a.demands.now a.keys.now a.marks.now lent in
    sym (length-take-le _ _ (taps_front _ a.text.now q.result.lent room.1 p.new.records p.new.facts p.new.taps p.new.groups p.new.demands p.new.keys p.new.spare a.rerouters.now a.bus_wires.now a.ports.now _
    (work_again _ _ room.0.lent p.auto.facts p.auto.taps p.auto.groups p.auto.demands p.auto.keys p.auto.spare)
    (bus_lent q.result _ p.new.spare a.rerouters.now a.bus_wires.now a.ports.now lent (omega arith)) _ _ told))

pub lay_and_settle-requires : goal.lay_and_settle-requires
lay_and_settle-requires c =
    let a = c.args in
    let p = c.plan_text in
    let q = c.ask-asked in
    let lent = q.ensures ∙ ap (asked_for (length a.rerouters.now ∷ length a.bus_wires.now ∷ length a.ports.now ∷ 64 ∷ [])) c.work_lengths-work.ensures in
    let told = text_lanes p.new.records p.new.facts p.new.taps p.new.groups _ (fits_lent q.result.lent) a.text.now p.result p.ensures _ _ c.in_ok-planned.was c.in_ok-m.was in
    let room = asked_room q.result a.records.now a.facts.now a.taps.now a.groups.now a.demands.now a.keys.now a.marks.now lent in
    let cut = rows_cut _ a.text.now q.result.lent room.1 p.new.records p.new.facts p.new.taps p.new.groups p.new.demands p.new.keys p.new.spare a.rerouters.now a.bus_wires.now a.ports.now _
    (work_again _ _ room.0.lent p.auto.facts p.auto.taps p.auto.groups p.auto.demands p.auto.keys p.auto.spare)
    (bus_lent q.result _ p.new.spare a.rerouters.now a.bus_wires.now a.ports.now lent (omega arith)) _ _ told in
    let ready = rows_ready _ a.text.now q.result.lent room.1 p.new.records p.new.facts p.new.taps p.new.groups p.new.demands p.new.keys p.new.spare a.rerouters.now a.bus_wires.now a.ports.now _
    (work_again _ _ room.0.lent p.auto.facts p.auto.taps p.auto.groups p.auto.demands p.auto.keys p.auto.spare)
    (bus_lent q.result _ p.new.spare a.rerouters.now a.bus_wires.now a.ports.now lent (omega arith)) _ _ told in
    (told.on_board, told.lanes, ready_cut (c.cut_sections-s.ensures told.on_board cut.0 cut.1 cut.2) ready.0, ready.1)

pub returns-in_err-planned : goal.returns-in_err-planned
returns-in_err-planned c =
    let a = c.args in
    let p = c.plan_text in
    let q = c.ask-asked in
    let lent = q.ensures ∙ ap (asked_for (length a.rerouters.now ∷ length a.bus_wires.now ∷ length a.ports.now ∷ 64 ∷ [])) c.work_lengths-work.ensures in
    rw (passed c.from_residual.result _ c.from_residual.ensures.1)
    (lay_refused a.text.now q.result (length a.rerouters.now) (length a.bus_wires.now) (length a.ports.now) _ lent a.rerouters.now a.bus_wires.now a.ports.now _
    (text_refusal p.new.records p.new.facts p.new.taps p.new.groups _ (fits_lent q.result.lent) a.text.now p.result p.ensures _ c.in_err-planned.was))

pub returns-in_err-m : goal.returns-in_err-m
returns-in_err-m c =
    let a = c.args in
    let p = c.plan_text in
    let q = c.ask-asked in
    let lent = q.ensures ∙ ap (asked_for (length a.rerouters.now ∷ length a.bus_wires.now ∷ length a.ports.now ∷ 64 ∷ [])) c.work_lengths-work.ensures in
    let r = c.from_residual-in_err-m in
    rw (passed r.result _ r.ensures.1)
    (lay_refused a.text.now q.result (length a.rerouters.now) (length a.bus_wires.now) (length a.ports.now) _ lent a.rerouters.now a.bus_wires.now a.ports.now _
    (text_crowded p.new.records p.new.facts p.new.taps p.new.groups _ (fits_lent q.result.lent) a.text.now p.result p.ensures _ _ c.in_ok-planned.was c.in_err-m.was))

pub returns : goal.returns
returns c =
    let a = c.args in
    let p = c.plan_text in
    let q = c.ask-asked in
    let lent = q.ensures ∙ ap (asked_for (length a.rerouters.now ∷ length a.bus_wires.now ∷ length a.ports.now ∷ 64 ∷ [])) c.work_lengths-work.ensures in
    let told = text_lanes p.new.records p.new.facts p.new.taps p.new.groups _ (fits_lent q.result.lent) a.text.now p.result p.ensures _ _ c.in_ok-planned.was c.in_ok-m.was in
    let room = asked_room q.result a.records.now a.facts.now a.taps.now a.groups.now a.demands.now a.keys.now a.marks.now lent in
    let cut = rows_cut _ a.text.now q.result.lent room.1 p.new.records p.new.facts p.new.taps p.new.groups p.new.demands p.new.keys p.new.spare a.rerouters.now a.bus_wires.now a.ports.now _
    (work_again _ _ room.0.lent p.auto.facts p.auto.taps p.auto.groups p.auto.demands p.auto.keys p.auto.spare)
    (bus_lent q.result _ p.new.spare a.rerouters.now a.bus_wires.now a.ports.now lent (omega arith)) _ _ told in
    let ready = rows_ready _ a.text.now q.result.lent room.1 p.new.records p.new.facts p.new.taps p.new.groups p.new.demands p.new.keys p.new.spare a.rerouters.now a.bus_wires.now a.ports.now _
    (work_again _ _ room.0.lent p.auto.facts p.auto.taps p.auto.groups p.auto.demands p.auto.keys p.auto.spare)
    (bus_lent q.result _ p.new.spare a.rerouters.now a.bus_wires.now a.ports.now lent (omega arith)) _ _ told in
    let l = c.lay_and_settle in
    let done = l.ensures told.on_board told.lanes (ready_cut (c.cut_sections-s.ensures told.on_board cut.0 cut.1 cut.2) ready.0) ready.1 in
    lay_done a.text.now _ (length a.rerouters.now) (length a.bus_wires.now) (length a.ports.now) _ lent a.rerouters.now a.bus_wires.now a.ports.now
    told.on_board told.lanes told.is l.new.rerouters l.new.bus_wires l.new.ports l.result done.0 done.1
