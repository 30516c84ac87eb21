-- From the bus of the lanes to the finished plan.
use Prim.Native.Nat.{ℕ, ◌+◌, ◌*◌, ◌≤◌, ◌<◌}
use native.Mathlib.Omega.{arith}
use mathlib.Core.Path.{◌≡◌, refl, ap, ◌∙◌, subst}
use mathlib.Core.List.{List, [], ◌∷◌, ◌++◌, map}
use lib.ListN.{length, take, drop}
use borrow.Author.Tests.{le-leb}
use Rattle.std.proofs.Common.{Result, Ok, Err}
use Rattle.base.specs.declared.refusal.Refusal.{Refusal}
use Rattle.sheet.specs.declared.Counts.{Counts}
use Rattle.board.specs.Board.{Board, field}
use Rattle.board.specs.Sections.{SectionsIn, SectionsCut}
use Rattle.board.specs.Accepted.{Accepted}
use Rattle.board.proofs.Accepting.{sheet_accepted}
use Rattle.board.specs.Demands.{PageLanes}
use Rattle.board.specs.Planning.{Planning, refused, lanes_for, planning, records, page_row}
use Rattle.board.specs.Walk.{WithinLibrary, counts_in}
use Rattle.board_plan.specs.declared.Asked.{Asked}
use Rattle.board_plan.specs.declared.Lent.{Lent}
use Rattle.board_plan.specs.TextPlan.{LINE_MOST, has_room, fits_counts, fits_lent, shortest, lent_of, asked_for, WorkLent}
use Rattle.board_plan.proofs.Fitting.{fits_all}
use Rattle.board.proofs.Planning.{lanes_from}
use Rattle.board_plan.proofs.Planned.{planned_counts}
use Rattle.board_plan.proofs.Surveying.{LanesTold}
use Rattle.board_plan.proofs.Calling.{planning_same}
use Rattle.sheet.specs.Table.{library_most}
use Rattle.lanes.specs.Lanes.{lane_most}
use Rattle.routes.specs.Plan.{bus_of, finished, laid_groups}
use Rattle.routes.specs.Route.{routed_by, fits_plan, routed}
use Rattle.routes_gutter.specs.Bus.{BusLent, BusStands}
use Rattle.routes_gutter.proofs.Planned.{rows_ready, ready_cut}
use Rattle.routes.specs.declared.bus.BusCounts.{BusCounts}
use Rattle.routes_calls.specs.Finish.{CornersReady, PlanReady, PlanTexted}
use Rattle.routes_calls.specs.Route.{plan_fits, route_call, PlanCalled}
use Rattle.routes_gutter.specs.declared.laying.BusLaid.{BusLaid}
use Rattle.routes_calls.specs.declared.route.PlanLaid.{PlanLaid}
use Rattle.routes_calls.proofs.Turning.{board_known}
use Rattle.routes_calls.proofs.Finishing.{laid_few}

-- What `route` finds lent: only the named lengths (S15) decide.
plan_fit : (r w p a work : ℕ) (b : Board) → length b.wires ≤ library_most.wires → length b.pages ≤ library_most.pages → fits_lent (lent_of r w p a work) b ≡ fits_plan r w p a work b
unfolding fits_lent fits_counts has_room fits_plan records
plan_fit r w p a work b h g = rw (le-leb (LINE_MOST * (length b.pages + 12 * length b.wires + 1)) 12591232 (omega arith)) refl

-- What `finish_plan` needs on its way.
module _ {b : Board} {ps : List PageLanes} {pages nodes wires facts taps groups demands keys marks old old_wires oldPorts answers : List (List ℕ)}
    (plan : PlanReady b ps pages nodes wires facts taps groups demands keys marks old old_wires oldPorts answers) where
  -- The bus of the lanes stands in the buffers: its corners can be turned.
  pub corners_ready : (rerouters bus_wires ports : List (List ℕ)) (held : BusCounts) → BusStands (bus_of b ps) old old_wires oldPorts rerouters bus_wires ports held
      → length rerouters ≡ length old → length bus_wires ≡ length old_wires → length ports ≡ length oldPorts → (spare : List (List ℕ)) → length spare ≡ length marks
      → CornersReady b ps old old_wires oldPorts pages nodes wires facts rerouters bus_wires ports held spare
  corners_ready rerouters bus_wires ports held stands lr lw lp spare lm =
      let t = plan.laying.ready in
      let few = laid_few b t.accepted ps t.plan in
      let f0 = few.0 in let f1 = few.1 in let f2 = few.2 in
      let fr = t.bus_room.0 in let fb = t.bus_room.1 in let fp = plan.port_room in let fm = plan.mark_room in
      let fn = t.node_room in let fw = t.wire_room.0 in
      let nb = stands.rerouter_count in let kb = stands.wires in let ub = stands.suppressed in
      let ln = ap length t.nodes_are in let lk = ap length t.wires_are in
      record {
        accepted = t.accepted;
        plan = t.plan;
        known =
            board_known t.accepted
            (record { pages_are = t.pages_are; nodes_are = t.nodes_are; wires_are = t.wires_are; nodes_known = t.nodes_known; wires_known = t.wires_known }) (omega arith) (omega arith);
        lent = record { rerouters_there = omega arith; wires = omega arith; muted = omega arith; rerouter_room = omega arith; wire_room = omega arith; mark_room = omega arith };
        stands = stands;
        rerouters_lent = omega arith;
        wires_lent = omega arith;
        ports_lent = fp;
      }

  -- Every page has its lanes.
  pub all_pages : length ps ≡ length pages
  all_pages = let t = plan.laying.ready in (planned_counts b ps t.plan).0 ∙ ap length t.pages_are

  -- The page answers can be written.
  pub answers_ready : ((length pages ≤ length facts) × (length pages ≤ length answers)) × ((p : ℕ) → p < length pages → field facts p 6 ≤ lane_most)
  answers_ready =
      let t = plan.laying.ready in
      let counts = planned_counts b ps t.plan in
      let long : length b.pages ≡ length pages = ap length t.pages_are in
      let fa = plan.answer_room in let ff = t.page_room in
      ((omega arith, omega arith), λ p h. let inside : p < length ps = omega (arith, counts.0) in omega (arith, t.pages_known p inside, counts.1 p))

-- What planning a text tells where its pages have lanes.
module _ (most : Counts) (text : List ℕ) (lent : Lent) (low : WithinLibrary most) (rows facts taps groups : List (List ℕ)) (c : Counts) (m : ℕ)
    (told : LanesTold rows facts taps groups (planning most (fits_lent lent) text) c m) (old old_wires oldPorts oldAnswers : List (List ℕ)) where
  -- Its records can be cut into sections.
  pub plan_cut : SectionsIn told.on_board rows × (c ≡ counts_in told.on_board) × Accepted told.on_board
  plan_cut = (told.tables.sections, told.counted, sheet_accepted most text told.on_board low (lanes_from most text (fits_lent lent) told.on_board told.lanes told.is).accepted)

  -- Its taps are there.
  pub taps_there : lent.work ≤ length taps → m ≤ length taps
  unfolding records
  taps_there work =
      let from = lanes_from most text (fits_lent lent) told.on_board told.lanes told.is in
      let fw = (fits_all lent told.on_board from.fitting).work in
      omega (arith, told.tables.few)

  -- `finish_plan` can be called, with what is lent as long as is asked.
  pub plan_ready : {pages nodes chips inner execs wires : List (List ℕ)} → SectionsCut told.on_board pages nodes chips inner execs wires → (n : ℕ) (demands keys marks : List (List ℕ)) → WorkLent lent.work n facts taps groups demands keys marks
      → BusLent lent marks old old_wires oldPorts → lent.answers ≤ length oldAnswers
      → PlanReady told.on_board told.lanes pages nodes wires facts (take m taps) groups demands keys marks old old_wires oldPorts oldAnswers
  unfolding records
  plan_ready cut n demands keys marks work bus room =
      let b = told.on_board in
      let from = lanes_from most text (fits_lent lent) b told.lanes told.is in
      let fit = fits_all lent b from.fitting in
      let ready = rows_ready most text lent low rows facts taps groups demands keys marks old old_wires oldPorts n work bus c m told in
      let fw = fit.work in let fa = fit.answers in let ml = bus.marks_lent in
      record { laying = ready_cut cut ready.0; mark_room = omega arith; port_room = ready.1; answer_room = omega arith }

  -- And its answer is the text's.
  pub plan_told : (rerouters bus_wires ports answers : List (List ℕ)) (laid : BusLaid)
      → BusStands (finished told.on_board told.lanes) old old_wires oldPorts rerouters bus_wires ports laid.bus → laid.groups ≡ laid_groups told.on_board told.lanes
      → answers ≡ map page_row told.lanes ++ drop (length told.lanes) oldAnswers
      → PlanTexted (planning most (fits_lent lent) text) old old_wires oldPorts oldAnswers rerouters bus_wires ports answers (Ok (record { counts = c; laid = laid }))
  plan_told rerouters bus_wires ports answers laid stands groups written =
      rw told.is (laid.bus, (λ i. Ok (record { counts = told.counted i; laid = record { bus = laid.bus; groups = groups i } })), stands, written)

-- A refusal leaves all as it was.
pub plan_refused : (p : Planning) (old old_wires oldPorts oldAnswers : List (List ℕ)) (e : Refusal) → p ≡ refused e
    → PlanTexted p old old_wires oldPorts oldAnswers old old_wires oldPorts oldAnswers (Err e)
plan_refused p old old_wires oldPorts oldAnswers e is = rw is (refl, refl, refl, refl, refl)

-- The answer of a call that does not ask for the counts of records.
abbrev pub laid_of : Result PlanLaid Refusal → Result BusLaid Refusal
laid_of (Ok plan) = Ok plan.laid
laid_of (Err e) = Err e

-- `route` with what it finds lent.
module _ (old old_wires oldPorts oldAnswers rerouters bus_wires ports answers : List (List ℕ)) where
  plan_called : (p : Planning) (r : Result PlanLaid Refusal) → PlanTexted p old old_wires oldPorts oldAnswers rerouters bus_wires ports answers r
      → PlanCalled (routed_by finished p) old old_wires oldPorts oldAnswers rerouters bus_wires ports answers (laid_of r)
  plan_called (refused d') r (e, a, b, c, d) = record { answer = ap laid_of e; rerouters_are = a; wires_are = b; ports_are = c; answers_are = d }
  plan_called (lanes_for b ps) r (held, e, s, w) =
      record {
        answer = ap laid_of e ∙ (λ i. Ok (record { bus = record { rerouters = s.rerouter_count i; bus_wires = s.wires i; ports = s.suppressed i }; groups = laid_groups b ps }));
        rerouters_are = s.rerouters_are;
        wires_are = s.wires_are;
        ports_are = s.ports_are;
        answers_are = w;
      }

  pub route_called : (text : List ℕ) (asked : Asked) (r w p a : ℕ) (lengths : List ℕ) → asked ≡ asked_for (r ∷ w ∷ p ∷ a ∷ []) lengths → (result : Result PlanLaid Refusal)
      → PlanTexted (planning asked.most (fits_lent asked.lent) text) old old_wires oldPorts oldAnswers rerouters bus_wires ports answers result
      → PlanCalled (route_call text (plan_fits r w p a lengths)) old old_wires oldPorts oldAnswers rerouters bus_wires ports answers (laid_of result)
  unfolding route_call routed
  route_called text asked r w p a lengths e result h =
      let is : planning asked.most (fits_lent asked.lent) text ≡ planning library_most (fits_plan r w p a (shortest lengths)) text =
      ap (λ (q : Asked). planning q.most (fits_lent q.lent) text) e
      ∙ planning_same text (fits_lent (lent_of r w p a (shortest lengths))) (fits_plan r w p a (shortest lengths)) (plan_fit r w p a (shortest lengths)) in
      plan_called (planning library_most (fits_plan r w p a (shortest lengths)) text) result
      (subst (λ (q : Planning). PlanTexted q old old_wires oldPorts oldAnswers rerouters bus_wires ports answers result) is h)
