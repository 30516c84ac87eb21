-- Refused, crowded or laned; what is handed in is tried of the last two.
use native.Mathlib.Omega.{arith}
use mathlib.Core.Path.{◌≡◌, refl, sym, ap, ◌∙◌}
use lib.ListN.{length}
use Rattle.base.proofs.Passing.{passed}
use Rattle.sheet.specs.declared.Counts.{Counts}
use Rattle.board.specs.Planning.{planning}
use Rattle.board.specs.Refusals.{Judged}
use Rattle.board.specs.Demands.{Planned}
use Rattle.board_plan.specs.TextPlan.{asked_for, fits_lent, fitting, work_rows}
use Rattle.board_plan.proofs.Calling.{WorkRoom, asked_room}
use Rattle.board_plan.proofs.Surveying.{BoardTold, survey_refusal, survey_crowd, survey_lanes}
use Rattle.board.specs.Sections.{SectionsCut}
use Rattle.board.specs.Accepted.{Accepted}
use Rattle.board.specs.Walk.{WithinLibrary}
use mathlib.Core.List.{List, [], ◌∷◌}
use Prim.Native.Nat.{ℕ}
use Rattle.routes_gutter.proofs.Planned.{bus_lent}
use Rattle.routes_gutter.specs.Calls.{bus_fits}
use Rattle.routes_calls.specs.Mini.{mini_by, mini_fits, mini_call, HeldReady}
use Rattle.routes_calls.proofs.MiniLaws.{called_same, called_away, mini_crowded, fitting_accepted, held_ready, survey_board, mini_refused, mini_tried, mini_called}
use Rattle.routes_calls.proofs.Turning.{board_of}
use Rattle.routes_calls.proofs.mini.lay_mini_bus.Lts as lts
use Rattle.routes_calls.proofs.mini.lay_mini_bus.Reads as reads
use Rattle.routes_calls.proofs.mini.lay_mini_bus.Tie as tie
use Rattle.routes_calls.proofs.mini.lay_mini_bus.Goals as goal

-- Where the text is planned.
abbrev Surveyed : Type 0
Surveyed = lts.After-marks tie.the-claims reads.Pre reads.Post tie.handed_clauses

module _ (c : Surveyed) where
  abbrev judged_for : Judged
  judged_for = fitting c.ask-asked.result.most (fits_lent c.ask-asked.result.lent) c.args.text.now

  abbrev Told : Counts → Planned → Type 0
  Told = let p = c.plan_text in BoardTold p.new.records p.new.facts p.new.taps p.new.groups judged_for

  -- what is asked for, by the buffers
  asked : let a = c.args in c.ask-asked.result ≡ asked_for (length a.rerouters.now ∷ length a.bus_wires.now ∷ length a.ports.now ∷ 64 ∷ []) (work_rows a.records.now a.facts.now a.taps.now a.groups.now a.demands.now a.keys.now a.marks.now)
  asked = let a = c.args in c.ask-asked.ensures ∙ ap (asked_for (length a.rerouters.now ∷ length a.bus_wires.now ∷ length a.ports.now ∷ 64 ∷ [])) c.work_lengths.ensures

  room : let a = c.args in let k = c.ask-asked in WorkRoom k.result.lent.work a.records.now a.facts.now a.taps.now a.groups.now a.demands.now a.keys.now a.marks.now × WithinLibrary k.result.most
  room = let a = c.args in let k = c.ask-asked in asked_room k.result a.records.now a.facts.now a.taps.now a.groups.now a.demands.now a.keys.now a.marks.now asked

  accepted : (n : Counts) (q : Planned) (t : Told n q) → Accepted t.on_board
  accepted n q t = fitting_accepted c.ask-asked.result.most c.args.text.now c.ask-asked.result.lent room.1 t.on_board t.is

  -- the board that is told is ready for the corner pass, by its sections
  ready : (n : Counts) (q : Planned) (t : Told n q) {pages nodes chips inner execs wires : List (List ℕ)} → SectionsCut t.on_board pages nodes chips inner execs wires
      → let a = c.args in HeldReady t.on_board pages nodes wires c.plan_text.new.facts a.rerouters.now a.bus_wires.now a.ports.now c.plan_text.new.spare
  ready n q t cut =
      let a = c.args in
      let p = c.plan_text in
      let k = c.ask-asked in
      let r = room in
      held_ready k.result.most a.text.now k.result.lent room.1 t.on_board t.is (board_of cut t.facts.nodes_known t.facts.wires_known) a.rerouters.now a.bus_wires.now a.ports.now p.new.spare
      (bus_lent k.result _ p.new.spare a.rerouters.now a.bus_wires.now a.ports.now asked (omega arith)) (omega arith)

  -- the call by what is asked for is the call of the rules
  call_is : let a = c.args in let k = c.ask-asked.result in mini_by a.rerouters.now a.bus_wires.now a.ports.now a.held (planning k.most (mini_fits a.rerouters.now a.bus_wires.now a.ports.now a.held (fits_lent k.lent)) a.text.now)
      ≡ mini_call a.text.now (bus_fits (length a.rerouters.now) (length a.bus_wires.now) (length a.ports.now) (work_rows a.records.now a.facts.now a.taps.now a.groups.now a.demands.now a.keys.now a.marks.now)) a.rerouters.now a.bus_wires.now a.ports.now a.held
  call_is =
      let a = c.args in
      mini_called a.text.now c.ask-asked.result (length a.rerouters.now) (length a.bus_wires.now) (length a.ports.now) _ asked a.rerouters.now a.bus_wires.now a.ports.now a.held

pub plan_text-requires : goal.plan_text-requires
plan_text-requires c = let a = c.args in
    let q = c.ask-asked in
    let asked = q.ensures ∙ ap (asked_for (length a.rerouters.now ∷ length a.bus_wires.now ∷ length a.ports.now ∷ 64 ∷ [])) c.work_lengths.ensures in
    let room = asked_room q.result a.records.now a.facts.now a.taps.now a.groups.now a.demands.now a.keys.now a.marks.now asked in record {
      work_lent = room.0.lent;
      within_library = room.1;
    }

pub cut_sections-s-requires : goal.cut_sections-s-requires
cut_sections-s-requires c =
    let w : Surveyed = c.before.before.before.before in
    let p = c.plan_text in
    let t = (survey_board p.new.records p.new.facts p.new.taps p.new.groups (judged_for w) p.result _ p.ensures c.in_ok-planned.was).1 in
    (t.on_board, t.facts.sections, t.counted, accepted w _ _ t)

pub held_fits-fits-requires : goal.held_fits-fits-requires
held_fits-fits-requires c =
    let w : Surveyed = c.before.before.before.before.before.before in
    let p = c.plan_text in
    let t = (survey_crowd p.new.records p.new.facts p.new.taps p.new.groups (judged_for w) p.result _ _ p.ensures c.in_ok-planned.was c.in-Err.is).2 in
    (t.on_board, (ready w _ _ t (c.cut_sections-s.ensures t.on_board t.facts.sections t.counted (accepted w _ _ t))).known)

pub turn_held-requires : goal.turn_held-requires
turn_held-requires c =
    let w : Surveyed = c.before.before.before.before.before.before.before.before.before.before in
    let p = c.plan_text in
    let t = (survey_lanes p.new.records p.new.facts p.new.taps p.new.groups (judged_for w) p.result _ _ p.ensures c.in_ok-planned.was c.in-Ok.is).1 in
    (t.on_board, ready w _ _ t (c.cut_sections-s.ensures t.on_board t.facts.sections t.counted (accepted w _ _ t)))

pub returns-in_err-planned : goal.returns-in_err-planned
returns-in_err-planned c =
    let w : Surveyed = c.before.before.before.before in
    let p = c.plan_text in
    let a = c.args in
    let k = c.ask-asked.result in
    let is = survey_refusal p.new.records p.new.facts p.new.taps p.new.groups (judged_for w) p.result _ p.ensures c.in_err-planned.was in
    rw (passed c.from_residual.result _ c.from_residual.ensures.1)
    (called_same (call_is w)
    (called_away _ a.rerouters.now a.bus_wires.now a.ports.now a.rerouters.now a.bus_wires.now a.ports.now _ (mini_refused a.rerouters.now a.bus_wires.now a.ports.now a.held k.most (fits_lent k.lent) a.text.now _ is) refl refl refl))

pub returns-in-Err : goal.returns-in-Err
returns-in-Err c =
    let w : Surveyed = c.before.before.before.before.before.before.before.before in
    let a = c.args in
    let q = c.ask-asked.result in
    let p = c.plan_text in
    let k = survey_crowd p.new.records p.new.facts p.new.taps p.new.groups (judged_for w) p.result _ _ p.ensures c.in_ok-planned.was c.in-Err.is in
    let t = k.2 in
    let f = c.held_fits-fits in
    let known = (ready w _ _ t (c.cut_sections-s.ensures t.on_board t.facts.sections t.counted (accepted w _ _ t))).known in
    called_same (sym (mini_tried a.rerouters.now a.bus_wires.now a.ports.now a.held q.most (fits_lent q.lent) a.text.now t.on_board t.is) ∙ call_is w)
    (mini_crowded a.rerouters.now a.bus_wires.now a.ports.now a.held t.on_board k.0 _ t.lanes k.1 f.result (f.ensures t.on_board known) c.refuse_crowded.result c.refuse_crowded.ensures)

pub returns-in-Ok : goal.returns-in-Ok
returns-in-Ok c =
    let w : Surveyed = c.before.before.before.before.before.before.before.before.before.before.before.before.before.before.before in
    let a = c.args in
    let q = c.ask-asked.result in
    let p = c.plan_text in
    let k = survey_lanes p.new.records p.new.facts p.new.taps p.new.groups (judged_for w) p.result _ _ p.ensures c.in_ok-planned.was c.in-Ok.is in
    let t = k.1 in
    let held = ready w _ _ t (c.cut_sections-s.ensures t.on_board t.facts.sections t.counted (accepted w _ _ t)) in
    called_same (sym (mini_tried a.rerouters.now a.bus_wires.now a.ports.now a.held q.most (fits_lent q.lent) a.text.now t.on_board t.is) ∙ call_is w) (c.turn_held.ensures t.on_board k.0 held t.lanes)
