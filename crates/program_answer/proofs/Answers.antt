-- The answer as text: from what `route_within` leaves to the plan sheet or the E line.
use Prim.Native.Nat.{ℕ, ◌+◌, ◌*◌, ◌≤◌, ◌<◌}
use native.Mathlib.Omega.{arith}
use mathlib.Core.Path.{◌≡◌, refl, sym, ap, ◌∙◌, subst}
use mathlib.Core.Bool.{Bool, true, false}
use mathlib.Core.List.{List, ◌++◌, map}
use lib.Dec.{leb}
use lib.ListN.{length, take, drop, length-append, length-map}
use borrow.Author.Tests.{le-leb, lt-leb}
use Rattle.std.proofs.Common.{Option, Some, None, Result, Ok, Err, take_at}
use Rattle.base.specs.declared.refusal.Reason.{Reason}
use Rattle.base.specs.declared.refusal.Reason.TheVariants.{Unread, TooMany, OutOfRange, IdTaken, NotThere, Unplaced, NoRoom, NoLane, BadBox}
use Rattle.base.specs.declared.refusal.Refusal.{Refusal}
use Rattle.base.specs.Refusal.{number_of}
use Rattle.sheet.specs.declared.Counts.{Counts}
use Rattle.sheet.specs.Written.{Wrote, written}
use Rattle.board.specs.Board.{Board}
use Rattle.board.specs.Demands.{PageLanes}
use Rattle.board.specs.Planning.{Planning, refused, lanes_for, planning, page_row}
use Rattle.board.specs.Walk.{WithinLibrary, counts_in}
use Rattle.base.proofs.Bools.{never, and_false}
use Rattle.board_plan.specs.declared.Lent.{Lent}
use Rattle.board_plan.specs.TextPlan.{fits_lent, LINE_MOST}
use Rattle.board_plan.proofs.Fitting.{fits_all}
use Rattle.board_plan.proofs.Planned.{planned_counts}
use Rattle.board.proofs.Planning.{lanes_from}
use Rattle.routes.specs.Buffers.{rerouter_row, wire_row, port_row}
use Rattle.routes.specs.Plan.{finished, laid_groups}
use Rattle.routes.specs.PlanSheet.{refusal_sheet, plan_sheet}
use Rattle.routes.specs.Route.{Routed, turned_away, plan, routed_by, routed, sheet_of}
use Rattle.routes.proofs.Room.{room_finished}
use Rattle.board.proofs.Accepting.{sheet_accepted}
use Rattle.routes_plan_sheet.specs.Held.{PlanHeld}
use Rattle.routes_plan_sheet.proofs.PlanWritten.{front_written}
use Rattle.routes_gutter.specs.Bus.{BusStands}
use Rattle.routes_calls.specs.Finish.{PlanTexted}
use Rattle.routes.specs.declared.bus.BusCounts.{BusCounts}
use Rattle.routes_calls.specs.declared.route.PlanLaid.{PlanLaid}
use Rattle.program_answer.specs.Telling.{PlanThere}
use Rattle.program_answer.specs.Answering.{TOLD_MOST, is_told, is_line_told, answer_of, text_after, Told, LineTold, Answered, answer_call}

-- An answer that is told or not.
pub told-not : (call : Routed) (before : List ℕ) → is_told (length before) call ≡ false → Told call before before None
told-not call before e =
    record { answer = sym (ap (λ (t : Bool). answer_of t (sheet_of call)) e); text_is = sym (ap (λ (t : Bool). text_after t (sheet_of call) before) e) }

-- Bytes written at 0 stand in front of the old rest.
written_front : (before bytes after : List ℕ) → after ≡ written before 0 bytes → after ≡ bytes ++ drop (length bytes) before
unfolding written
written_front before bytes after e = e ∙ ap (λ (k : ℕ). bytes ++ drop k before) (let none : 0 + length bytes ≡ length bytes = omega arith in none)

pub told_all : (call : Routed) (before after : List ℕ) (n : ℕ) → is_told (length before) call ≡ true → Wrote before 0 (sheet_of call) after n → Told call before after (Some n)
told_all call before after n e w =
    record {
      answer = ap Some (let place = w.place in let same : n ≡ length (sheet_of call) = omega arith in same) ∙ sym (ap (λ (t : Bool). answer_of t (sheet_of call)) e);
      text_is = written_front before (sheet_of call) after w.buffer ∙ sym (ap (λ (t : Bool). text_after t (sheet_of call) before) e);
    }

-- The tests of `tell_refusal`, one after the other.
module _ (number place : ℕ) (before : List ℕ) where
  line_not : is_line_told (length before) number place ≡ false → LineTold number place before before None
  line_not e =
      record { answer = sym (ap (λ (t : Bool). answer_of t (refusal_sheet number place)) e); text_is = sym (ap (λ (t : Bool). text_after t (refusal_sheet number place) before) e) }

  pub no_room : length before < LINE_MOST → LineTold number place before before None
  no_room h = line_not (rw (lt-leb LINE_MOST (length before) h) refl)

  pub number_high : TOLD_MOST < number → LineTold number place before before None
  number_high h = line_not (rw (lt-leb number TOLD_MOST h) (and_false (leb LINE_MOST (length before))))

  pub place_high : number ≤ TOLD_MOST → TOLD_MOST < place → LineTold number place before before None
  place_high h k = line_not (rw (le-leb number TOLD_MOST h, lt-leb place TOLD_MOST k) (and_false (leb LINE_MOST (length before))))

  pub refusal_told : LINE_MOST ≤ length before → number ≤ TOLD_MOST → place ≤ TOLD_MOST → (after : List ℕ) (n : ℕ) → Wrote before 0 (refusal_sheet number place) after n → LineTold number place before after (Some n)
  refusal_told room h k after n w =
      let yes : is_line_told (length before) number place ≡ true = rw (le-leb LINE_MOST (length before) room, le-leb number TOLD_MOST h, le-leb place TOLD_MOST k) refl in
      record {
        answer = ap Some (let at = w.place in let same : n ≡ length (refusal_sheet number place) = omega arith in same) ∙ sym (ap (λ (t : Bool). answer_of t (refusal_sheet number place)) yes);
        text_is = written_front before (refusal_sheet number place) after w.buffer ∙ sym (ap (λ (t : Bool). text_after t (refusal_sheet number place) before) yes);
      }

-- A line holds the number of every reason.
number_low : (reason : Reason) → number_of reason ≤ TOLD_MOST
number_low Unread = omega arith
number_low TooMany = omega arith
number_low OutOfRange = omega arith
number_low IdTaken = omega arith
number_low NotThere = omega arith
number_low Unplaced = omega arith
number_low NoRoom = omega arith
number_low NoLane = omega arith
number_low BadBox = omega arith

-- So the line of a refusal's number and place is what is told of the refusal.
module _ (e : Refusal) (before after : List ℕ) (r : Option ℕ) where
  told_as : is_line_told (length before) (number_of e.reason) e.place ≡ is_told (length before) (turned_away e)
  told_as = rw (le-leb (number_of e.reason) TOLD_MOST (number_low e.reason)) refl

  pub line_of_refusal : LineTold (number_of e.reason) e.place before after r → Told (turned_away e) before after r
  unfolding sheet_of
  line_of_refusal told =
      record {
        answer = told.answer ∙ ap (λ (t : Bool). answer_of t (refusal_sheet (number_of e.reason) e.place)) told_as;
        text_is = told.text_is ∙ ap (λ (t : Bool). text_after t (refusal_sheet (number_of e.reason) e.place) before) told_as;
      }

-- What an answer of `route_within` says of the planning.
pub record PlanTold (p : Planning) (old old_wires oldPorts oldAnswers rerouters bus_wires ports answers : List (List ℕ)) (c : Counts) (held : BusCounts) (g : ℕ) : Type 0 where
  pub on_board : Board
  pub lanes : List PageLanes
  pub is : p ≡ lanes_for on_board lanes
  pub counted : c ≡ counts_in on_board
  pub laid : g ≡ laid_groups on_board lanes
  pub stands : BusStands (finished on_board lanes) old old_wires oldPorts rerouters bus_wires ports held
  pub answers_are : answers ≡ map page_row lanes ++ drop (length lanes) oldAnswers

module _ (old old_wires oldPorts oldAnswers rerouters bus_wires ports answers : List (List ℕ)) where
  pub plan_refusal : (p : Planning) (r : Result PlanLaid Refusal) (e : Refusal) → PlanTexted p old old_wires oldPorts oldAnswers rerouters bus_wires ports answers r → r ≡ Err e → p ≡ refused e
  plan_refusal (refused d) r e (is, a, b, c, f) err = cc
  plan_refusal (lanes_for b ps) r e (held, is, s, w) err = never cc

  plan_told_by : (p : Planning) (r : Result PlanLaid Refusal) (q : PlanLaid) → PlanTexted p old old_wires oldPorts oldAnswers rerouters bus_wires ports answers r → r ≡ Ok q
      → PlanTold p old old_wires oldPorts oldAnswers rerouters bus_wires ports answers q.counts q.laid.bus q.laid.groups
  plan_told_by (refused d) r q (e, a, b, f, k) is = never cc
  plan_told_by (lanes_for b ps) r q (held, e, s, w) is =
      let both : Ok q ≡ Ok (record { counts = counts_in b; laid = record { bus = held; groups = laid_groups b ps } }) = sym is ∙ e in
      let whole : q ≡ record { counts = counts_in b; laid = record { bus = held; groups = laid_groups b ps } } = cc in
      record {
        on_board = b;
        lanes = ps;
        is = refl;
        counted = ap (λ (z : PlanLaid). z.counts) whole;
        laid = ap (λ (z : PlanLaid). z.laid.groups) whole;
        stands = subst (λ (h : BusCounts). BusStands (finished b ps) old old_wires oldPorts rerouters bus_wires ports h) (sym (ap (λ (z : PlanLaid). z.laid.bus) whole)) s;
        answers_are = w;
      }

  -- The buffers hold what the call leaves, whatever is told of it.
  pub answered_by : (p : Planning) (r : Result PlanLaid Refusal) → PlanTexted p old old_wires oldPorts oldAnswers rerouters bus_wires ports answers r
      → (before after : List ℕ) (told : Option ℕ) → Told (routed_by finished p) before after told → Answered (routed_by finished p) before old old_wires oldPorts oldAnswers after rerouters bus_wires ports answers told
  answered_by (refused q) r (e, a, b, c, d) before after told t = record { told = t; rerouters_are = a; wires_are = b; ports_are = c; answers_are = d }
  answered_by (lanes_for b ps) r (held, e, s, w) before after told t =
      record { told = t; rerouters_are = s.rerouters_are; wires_are = s.wires_are; ports_are = s.ports_are; answers_are = w }

-- A refusal.
pub answered_refused : (most : Counts) (text : List ℕ) (lent : Lent) (old old_wires oldPorts oldAnswers rerouters bus_wires ports answers : List (List ℕ)) (q : Result PlanLaid Refusal)
    → PlanTexted (planning most (fits_lent lent) text) old old_wires oldPorts oldAnswers rerouters bus_wires ports answers q → (d : Refusal) → q ≡ Err d
    → (before after : List ℕ) (r : Option ℕ) → Told (turned_away d) before after r → Answered (answer_call most text lent) before old old_wires oldPorts oldAnswers after rerouters bus_wires ports answers r
unfolding answer_call routed
answered_refused most text lent old old_wires oldPorts oldAnswers rerouters bus_wires ports answers q h d e before after r told =
    let p = planning most (fits_lent lent) text in
    answered_by old old_wires oldPorts oldAnswers rerouters bus_wires ports answers p q h before after r
    (subst (λ (k : Planning). Told (routed_by finished k) before after r) (sym (plan_refusal old old_wires oldPorts oldAnswers rerouters bus_wires ports answers p q d h e)) told)

-- The finished plan as its text is written from the buffers.
module _ (most : Counts) (text : List ℕ) (lent : Lent) (low : WithinLibrary most) (old old_wires oldPorts oldAnswers rerouters bus_wires ports answers : List (List ℕ)) (c : Counts) (held : BusCounts) (g : ℕ)
    (t : PlanTold (planning most (fits_lent lent) text) old old_wires oldPorts oldAnswers rerouters bus_wires ports answers c held g) where
  -- A line for each page, rerouter, bus wire and port, and one for the totals.
  plan_room : (held.rerouters ≤ lent.rerouters) × (held.bus_wires ≤ lent.bus_wires) × (128 * (c.pages + held.rerouters + held.bus_wires + held.ports + 1) ≤ lent.out)
  plan_room =
      let b = t.on_board in
      let ps = t.lanes in
      let from = lanes_from most text (fits_lent lent) b ps t.is in
      let fit = fits_all lent b from.fitting in
      let room = room_finished b ps from.lanes (sheet_accepted most text b low from.accepted) in
      let pages : c.pages ≡ length b.pages = ap (λ (d : Counts). d.pages) t.counted in
      let s = t.stands in
      let sb = s.rerouter_count in let sw = s.wires in let su = s.suppressed in
      let rb = room.rerouters in let rw' = room.wires in let rp = room.ports in
      let fr = fit.rerouters in let fw = fit.bus_wires in let fo = fit.out in
      (omega arith, omega arith, omega arith)

  -- There are as many rows of each kind as are told.
  plan_there : lent.rerouters ≤ length rerouters → lent.bus_wires ≤ length bus_wires
      → (c.pages ≤ length answers) × (held.rerouters ≤ length rerouters) × (held.bus_wires ≤ length bus_wires) × (held.ports ≤ length ports)
  plan_there lr lw =
      let b = t.on_board in
      let ps = t.lanes in
      let from = lanes_from most text (fits_lent lent) b ps t.is in
      let pages : c.pages ≡ length ps = ap (λ (d : Counts). d.pages) t.counted ∙ sym (planned_counts b ps from.lanes).0 in
      let s = t.stands in
      let su = s.suppressed in
      let room = plan_room in (
        omega (arith, ap length t.answers_are, length-append (map page_row ps) (drop (length ps) oldAnswers), length-map ps page_row),
        omega (arith, room.0),
        omega (arith, room.1),
        omega (arith, ap length s.ports_are, length-append (map port_row (finished b ps).ports) (drop (length (finished b ps).ports) oldPorts), length-map (finished b ps).ports port_row),
      )

  -- Those rows are the plan.
  plan_held : lent.rerouters ≤ length rerouters → lent.bus_wires ≤ length bus_wires
      → PlanHeld t.on_board t.lanes (take c.pages answers) (take held.rerouters rerouters) (take held.bus_wires bus_wires) (take held.ports ports) c.wires g
  plan_held lr lw =
      let b = t.on_board in
      let ps = t.lanes in
      let from = lanes_from most text (fits_lent lent) b ps t.is in
      let pages : c.pages ≡ length ps = ap (λ (d : Counts). d.pages) t.counted ∙ sym (planned_counts b ps from.lanes).0 in
      let bus = finished b ps in
      let s = t.stands in
      let there = plan_there lr lw in
      record {
        accepted = sheet_accepted most text b low from.accepted;
        lanes = from.lanes;
        page_rows = (λ i. take (pages i) (t.answers_are i)) ∙ take_at (map page_row ps) (drop (length ps) oldAnswers) (length ps) (length-map ps page_row);
        rerouter_rows = front_written rerouter_row bus.rerouters old rerouters held.rerouters s.rerouters_are s.rerouter_count there.1;
        wire_rows = front_written wire_row bus.wires old_wires bus_wires held.bus_wires s.wires_are s.wires there.2;
        port_rows = (λ i. take (s.suppressed i) (s.ports_are i)) ∙ take_at (map port_row bus.ports) (drop (length bus.ports) oldPorts) (length bus.ports) (length-map bus.ports port_row);
        wire_count = ap (λ (d : Counts). d.wires) t.counted;
        group_count = t.laid;
      }

  -- The plan sheet is told.
  answered_plan : (q : Result PlanLaid Refusal) → PlanTexted (planning most (fits_lent lent) text) old old_wires oldPorts oldAnswers rerouters bus_wires ports answers q
      → (before after : List ℕ) (r : ℕ) → lent.out ≡ length before → Wrote before 0 (plan_sheet t.on_board t.lanes (finished t.on_board t.lanes) (laid_groups t.on_board t.lanes)) after r
      → Answered (answer_call most text lent) before old old_wires oldPorts oldAnswers after rerouters bus_wires ports answers (Some r)
  unfolding answer_call routed sheet_of
  answered_plan q h before after r e w =
      let b = t.on_board in
      let ps = t.lanes in
      let room = plan_room.2 in
      let told : Told (plan b ps (finished b ps) (laid_groups b ps)) before after (Some r) =
      told_all (plan b ps (finished b ps) (laid_groups b ps)) before after r (rw (le-leb LINE_MOST (length before) (omega arith)) refl) w
      in
      answered_by old old_wires oldPorts oldAnswers rerouters bus_wires ports answers (planning most (fits_lent lent) text) q h before after (Some r)
      (subst (λ (p : Planning). Told (routed_by finished p) before after (Some r)) (sym t.is) told)

-- The plan that `route_within` tells stands in the buffers, and its text is the answer.
module _ (most : Counts) (text : List ℕ) (lent : Lent) (low : WithinLibrary most) (old old_wires oldPorts oldAnswers rerouters bus_wires ports answers : List (List ℕ)) (r : Result PlanLaid Refusal) (q : PlanLaid)
    (texted : PlanTexted (planning most (fits_lent lent) text) old old_wires oldPorts oldAnswers rerouters bus_wires ports answers r) (is : r ≡ Ok q) where
  told : PlanTold (planning most (fits_lent lent) text) old old_wires oldPorts oldAnswers rerouters bus_wires ports answers q.counts q.laid.bus q.laid.groups
  told = plan_told_by old old_wires oldPorts oldAnswers rerouters bus_wires ports answers (planning most (fits_lent lent) text) r q texted is

  rows_there : lent.rerouters ≤ length rerouters → lent.bus_wires ≤ length bus_wires → PlanThere told.on_board told.lanes q answers rerouters bus_wires ports lent.out
  rows_there lr lw =
      let there = plan_there most text lent low old old_wires oldPorts oldAnswers rerouters bus_wires ports answers q.counts q.laid.bus q.laid.groups told lr lw in
      record {
        page_rows = there.0;
        rerouter_rows = there.1;
        wire_rows = there.2;
        port_rows = there.3;
        text_room = (plan_room most text lent low old old_wires oldPorts oldAnswers rerouters bus_wires ports answers q.counts q.laid.bus q.laid.groups told).2;
        held = plan_held most text lent low old old_wires oldPorts oldAnswers rerouters bus_wires ports answers q.counts q.laid.bus q.laid.groups told lr lw;
      }

  pub plan_stands : lent.rerouters ≤ length rerouters → lent.bus_wires ≤ length bus_wires → (b : Board) × (ps : List PageLanes) × PlanThere b ps q answers rerouters bus_wires ports lent.out
  plan_stands lr lw = (told.on_board, told.lanes, rows_there lr lw)

  pub plan_answered : lent.rerouters ≤ length rerouters → lent.bus_wires ≤ length bus_wires → (before after : List ℕ) (n : ℕ) → lent.out ≡ length before
      → ((b : Board) (ps : List PageLanes) → PlanThere b ps q answers rerouters bus_wires ports lent.out → Wrote before 0 (plan_sheet b ps (finished b ps) (laid_groups b ps)) after n)
      → Answered (answer_call most text lent) before old old_wires oldPorts oldAnswers after rerouters bus_wires ports answers (Some n)
  plan_answered lr lw before after n same tells =
      answered_plan most text lent low old old_wires oldPorts oldAnswers rerouters bus_wires ports answers q.counts q.laid.bus q.laid.groups told r texted before after n same
      (tells told.on_board told.lanes (rows_there lr lw))
