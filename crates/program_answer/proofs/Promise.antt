-- What a user of `answer` may rely on: where the call makes a plan, its plan sheet is what is written, and demand 3 holds of it.
use Prim.Native.Nat.{ℕ, ◌*◌, ◌≤◌}
use native.Mathlib.Omega.{arith}
use mathlib.Core.Path.{◌≡◌, refl, sym, ap, ◌∙◌, subst}
use mathlib.Core.Bool.{Bool, true, false}
use mathlib.Core.List.{List, ◌++◌}
use lib.Dec.{ltb}
use lib.ListN.{length, take, drop, length-append}
use lib.Seq.{take_at}
use borrow.Author.Tests.{le-leb}
use Rattle.sheet.specs.declared.Counts.{Counts}
use Rattle.sheet.specs.Table.{program_most}
use Rattle.board.specs.Board.{Board}
use Rattle.board.specs.Demands.{PageLanes}
use Rattle.base.proofs.Bools.{never}
use Rattle.board_plan.specs.declared.Lent.{Lent}
use Rattle.board_plan.specs.TextPlan.{fits_lent, LINE_MOST}
use Rattle.board_plan.proofs.Fitting.{fits_all}
use Rattle.board.proofs.Planning.{LanesFrom, lanes_from}
use Rattle.board.specs.Planning.{Planning, refused, lanes_for, planning}
use Rattle.board.specs.Walk.{WithinLibrary}
use Rattle.board.specs.Accepted.{Accepted}
use Rattle.board.proofs.Accepting.{sheet_accepted, within_program}
use Rattle.routes.specs.Plan.{finished}
use Rattle.routes.specs.Bus.{Bus}
use Rattle.routes.specs.Buffers.{rerouter_row, wire_row, bus_held}
use Rattle.routes.specs.Tables.{written_over}
use Rattle.routes.specs.PlanSheet.{plan_sheet}
use Rattle.routes.specs.Route.{Routed, plan, routed_by, routed, sheet_of}
use Rattle.routes.proofs.Routed.{routed_demand3}
use Rattle.routes_ports.specs.Settling.{ports_over}
use Rattle.routes_promise.specs.Promise.{Promised}
use Rattle.routes_promise.proofs.ReadBack.{done_back, done_promised}
use Rattle.program_answer.specs.Promise.{SheetPromised, AnswerPromised}
use Rattle.program_answer.specs.Answering.{is_told, answer_of, text_after, Told, Answered, answer_call, program_call, input_call, INPUT_MOST}
use Rattle.std.proofs.Common.{Option, Some}

-- The bytes that an answer counts are there, and are the sheet's.
module _ {call : Routed} {before after : List ℕ} {r : Option ℕ} (told : Told call before after r) {n : ℕ} (is : r ≡ Some n) where
  told_by : (t : Bool) → r ≡ answer_of t (sheet_of call) → after ≡ text_after t (sheet_of call) before → (n ≡ length (sheet_of call)) × (after ≡ sheet_of call ++ drop (length (sheet_of call)) before)
  told_by true e f = (cc, f)
  told_by false e f = never cc

  pub told_front : take n after ≡ sheet_of call
  told_front =
      let t = told_by (is_told (length before) call) told.answer told.text_is in
      ap (take n) t.1 ∙ take_at (sheet_of call) (drop (length (sheet_of call)) before) n (sym t.0)

  pub told_counts : (n ≤ length after) × (n ≡ length (take n after))
  told_counts =
      let t = told_by (is_told (length before) call) told.answer told.text_is in
      (omega (arith, t.0, ap length t.1, length-append (sheet_of call) (drop (length (sheet_of call)) before)), t.0 ∙ sym (ap length told_front))

-- A call that makes a plan: of an accepted board that fits, and the finished one.
pub record PlanMade (most : Counts) (text : List ℕ) (lent : Lent) (b : Board) (ps : List PageLanes) (bus : Bus) : Type 0 where
  pub from : LanesFrom most text (fits_lent lent) b ps
  pub bus_is : bus ≡ finished b ps

plan_made : (most : Counts) (text : List ℕ) (lent : Lent) (b : Board) (ps : List PageLanes) (bus : Bus) (laid : ℕ) → answer_call most text lent ≡ plan b ps bus laid → PlanMade most text lent b ps bus
unfolding answer_call routed
plan_made most text lent b ps bus laid e = go (planning most (fits_lent lent) text) refl e
  where
    go : (p : Planning) → planning most (fits_lent lent) text ≡ p → routed_by finished p ≡ plan b ps bus laid → PlanMade most text lent b ps bus
    go (refused q) is d = never cc
    go (lanes_for c qs) is d =
        let board-same : c ≡ b = cc in
        let lanes-same : qs ≡ ps = cc in
        let bus-same : finished c qs ≡ bus = cc in
        record {
          from = lanes_from most text (fits_lent lent) b ps (is ∙ (λ i. lanes_for (board-same i) (lanes-same i)));
          bus_is = sym bus-same ∙ (λ i. finished (board-same i) (lanes-same i));
        }

module _ (most : Counts) (low : WithinLibrary most) (text : List ℕ) (lent : Lent) (before after : List ℕ) (r : Option ℕ) (room : lent.out ≡ length before)
    (b : Board) (ps : List PageLanes) (bus : Bus) (laid : ℕ) (e : answer_call most text lent ≡ plan b ps bus laid) where
  made : PlanMade most text lent b ps bus
  made = plan_made most text lent b ps bus laid e

  -- A plan is made only where its lines have room.
  lines_fit : LINE_MOST ≤ length before
  lines_fit = let f = (fits_all lent b made.from.fitting).out in omega arith

  sheet_promised : Told (plan b ps bus laid) before after r → SheetPromised b ps bus laid before after r
  unfolding answer_call sheet_of
  sheet_promised told =
      let yes : is_told (length before) (plan b ps bus laid) ≡ true = rw (le-leb LINE_MOST (length before) lines_fit) refl in
      record {
        answer = told.answer ∙ ap (λ (t : Bool). answer_of t (plan_sheet b ps bus laid)) yes;
        text_is = told.text_is ∙ ap (λ (t : Bool). text_after t (plan_sheet b ps bus laid) before) yes;
        demand3 = routed_demand3 most low (fits_lent lent) text b ps bus laid e;
      }

  -- The rows in the buffers are the plan's.
  module _ (old old_wires oldPorts oldAnswers rerouters bus_wires ports answers : List (List ℕ))
      (rl : lent.rerouters ≤ length old) (wl : lent.bus_wires ≤ length old_wires) (pl : lent.ports ≤ length oldPorts)
      (done : Answered (answer_call most text lent) before old old_wires oldPorts oldAnswers after rerouters bus_wires ports answers r) where
    said : Answered (plan b ps bus laid) before old old_wires oldPorts oldAnswers after rerouters bus_wires ports answers r
    said = subst (λ (c : Routed). Answered c before old old_wires oldPorts oldAnswers after rerouters bus_wires ports answers r) e done

    accepted : Accepted b
    accepted = sheet_accepted most text b low made.from.accepted

    abbrev n : ℕ
    n = length bus.rerouters

    abbrev k : ℕ
    k = length bus.wires

    abbrev u : ℕ
    u = length bus.ports

    same : rerouters ≡ written_over rerouter_row (finished b ps).rerouters old
    same = said.rerouters_are ∙ ap (λ (c : Bus). written_over rerouter_row c.rerouters old) made.bus_is

    same_wires : bus_wires ≡ written_over wire_row (finished b ps).wires old_wires
    same_wires = said.wires_are ∙ ap (λ (c : Bus). written_over wire_row c.wires old_wires) made.bus_is

    same_ports : ports ≡ ports_over (finished b ps).ports oldPorts
    same_ports = said.ports_are ∙ ap (λ (c : Bus). ports_over c.ports oldPorts) made.bus_is

    long : (5 * length b.wires ≤ length old) × (6 * length b.wires ≤ length old_wires) × (length b.wires ≤ length oldPorts)
    long =
        let f = fits_all lent b made.from.fitting in
        let fr = f.rerouters in let fw = f.bus_wires in let fp = f.ports in
        (omega arith, omega arith, omega arith)

    held : bus_held rerouters n bus_wires k ports u ≡ bus
    held =
        (λ i. bus_held (same i) (length (made.bus_is i).rerouters) (same_wires i) (length (made.bus_is i).wires) (same_ports i) (length (made.bus_is i).ports))
        ∙ (done_back b accepted ps made.from.lanes old old_wires oldPorts long.0 long.1 long.2 ∙ sym made.bus_is)

    rows_promised : Promised b rerouters n bus_wires k ports u
    rows_promised =
        let there = done_promised b accepted ps made.from.lanes old old_wires oldPorts long.0 long.1 long.2 in
        let back : (c : Bus) → c ≡ finished b ps
        → Promised b (written_over rerouter_row (finished b ps).rerouters old) (length c.rerouters) (written_over wire_row (finished b ps).wires old_wires) (length c.wires) (ports_over (finished b ps).ports oldPorts) (length c.ports)
        = λ c is. subst (λ (d : Bus). Promised b (written_over rerouter_row (finished b ps).rerouters old) (length d.rerouters) (written_over wire_row (finished b ps).wires old_wires) (length d.wires) (ports_over (finished b ps).ports oldPorts) (length d.ports)) (sym is) there in
        subst (λ (t : List (List ℕ)). Promised b t n bus_wires k ports u) (sym same)
        (subst (λ (t : List (List ℕ)). Promised b (written_over rerouter_row (finished b ps).rerouters old) n t k ports u) (sym same_wires)
        (subst (λ (t : List (List ℕ)). Promised b (written_over rerouter_row (finished b ps).rerouters old) n (written_over wire_row (finished b ps).wires old_wires) k t u) (sym same_ports) (back bus made.bus_is)))

    pub answer_demand3 : AnswerPromised b ps laid before after rerouters n bus_wires k ports u r
    answer_demand3 =
        record { sheet = subst (λ (c : Bus). SheetPromised b ps c laid before after r) (sym held) (sheet_promised said.told); rows = rows_promised }

-- The program's plans are made of inputs that are not too long.
input_plan : (t : Bool) (call : Routed) (b : Board) (ps : List PageLanes) (bus : Bus) (laid : ℕ) → input_call t call ≡ plan b ps bus laid → call ≡ plan b ps bus laid
input_plan true call b ps bus laid e = never cc
input_plan false call b ps bus laid e = e

pub program_demand3 : (text : List ℕ) (lent : Lent) (before after : List ℕ) (r : Option ℕ) → lent.out ≡ length before → Told (program_call text lent) before after r
    → (b : Board) (ps : List PageLanes) (bus : Bus) (laid : ℕ) → program_call text lent ≡ plan b ps bus laid → SheetPromised b ps bus laid before after r
unfolding program_call
program_demand3 text lent before after r room told b ps bus laid e =
    sheet_promised program_most within_program text lent before after r room b ps bus laid (input_plan (ltb INPUT_MOST (length text)) (answer_call program_most text lent) b ps bus laid e)
    (subst (λ (c : Routed). Told c before after r) e told)
