-- What `lay_mini_bus` asks of its steps, and its answers.
use Prim.Native.Nat.{ℕ, zero, suc, ◌+◌, ◌*◌, ◌≤◌}
use native.Mathlib.Omega.{arith}
use mathlib.Core.Path.{◌≡◌, refl, sym, ap, ◌∙◌, subst}
use mathlib.Core.Bool.{Bool, true, false, ◌&&◌}
use mathlib.Core.List.{List, [], ◌∷◌, map, map-append}
use lib.Dec.{leb}
use lib.ListN.{length, get_or, take}
use lib.Seq.{take-suc}
use borrow.Author.Tests.{leb-true}
use Rattle.std.proofs.Common.{Result, Ok, Err}
use Rattle.base.specs.declared.refusal.Reason.TheVariants.{NoRoom, NoLane}
use Rattle.base.specs.declared.refusal.Refusal.{Refusal}
use Rattle.base.specs.Refusal.{refusal}
use Rattle.sheet.specs.declared.Counts.{Counts}
use Rattle.board.specs.Board.{Board}
use Rattle.board.specs.Demands.{PageLanes, Planned, crowded, planned, plan_lanes}
use Rattle.board.specs.Planning.{Planning, refused, planning, crowding, records, judged_for}
use Rattle.board.specs.Refusals
use Rattle.board.specs.Refusals.{Judged, board}
use Rattle.board.specs.Accepted.{Accepted}
use Rattle.board.specs.Walk.{WithinLibrary}
use Rattle.base.proofs.Bools.{and_left, and_right}
use Rattle.base.proofs.Views.{length-view}
use Rattle.board_plan.specs.declared.Asked.{Asked}
use Rattle.board_plan.specs.declared.Lent.{Lent}
use Rattle.board_plan.specs.declared.TextPlan.{TextPlan}
use Rattle.board_plan.specs.TextPlan.{fits_lent, fitting, shortest, lent_of, asked_for, TextPlanned}
use Rattle.board_plan.proofs.Surveying.{BoardTold, survey_crowd, survey_lanes}
use Rattle.board_plan.proofs.Fitting.{fits_all}
use Rattle.board.proofs.Accepting.{sheet_accepted}
use Rattle.board_plan.proofs.Reading.{fitting_from, planning_then}
use Rattle.board_plan.proofs.Calling.{planning_same}
use Rattle.routes.specs.Bus.{Bus, insert_port}
use Rattle.routes.specs.Corners.{corners, turnable}
use Rattle.routes.specs.Holding.{BusHeld}
use Rattle.routes.specs.Route.{Routed, turned_away, plan}
use Rattle.routes.specs.declared.bus.BusCount.{BusCount}
use Rattle.routes.proofs.Room.{corner_room}
use Rattle.routes_corners.specs.Handed.{ports_in, bus_in}
use Rattle.routes_corners.specs.CornerTables.{BoardOf}
use Rattle.routes_corners.specs.Turning
use Rattle.routes_corners.specs.Turning.{has_room, TurnedAs}
use Rattle.routes_corners.proofs.TurnLaws.{room_found}
use Rattle.routes_ports.specs.Ports.{ports_set}
use Rattle.routes.specs.Buffers.{wire_in, port_in, ports_held}
use Rattle.routes_ports.specs.Settling.{ports_over, settled, Settleable, Settled}
use Rattle.routes_ports.proofs.SetLaws.{set_last}
use Rattle.routes_ports.proofs.Calling.{settled_corners, settleable_corners}
use Rattle.routes_gutter.specs.declared.laying.BusLaid.{BusLaid}
use Rattle.routes.specs.declared.bus.BusCounts.{BusCounts}
use Rattle.routes_gutter.specs.Bus.{BusLent}
use Rattle.routes.specs.Route.{fits_bus}
use Rattle.routes_gutter.specs.Calls.{bus_fits, bus_answer, rerouters_after, bus_wires_after, ports_after, BusCalled}
use Rattle.routes_calls.specs.Mini.{holds, bus_given, held_fits, mini_by, mini_on, mini_fits, mini_call, crowded_at, HeldReady}
use Rattle.routes_gutter.proofs.Planned.{bus_fit}
use Rattle.routes_calls.proofs.Turning.{board_known}

-- The ports handed in, whatever row is put in first.
pub ports_in_lem : (ports : List (List ℕ)) (u : ℕ) → u ≤ length ports → ports_set (ports_held ports u) ≡ ports_in ports u
unfolding ports_in
ports_in_lem ports zero h = refl
ports_in_lem ports (suc n) h =
    ap (λ r. ports_set (map port_in r)) (take-suc ports n [] (omega arith))
    ∙ (ap ports_set (map-append port_in (take n ports) (get_or ports n [] ∷ []))
    ∙ (set_last (ports_held ports n) (port_in (get_or ports n [])) ∙ ap (insert_port (port_in (get_or ports n []))) (ports_in_lem ports n (omega arith))))

pub held_within : (held : BusCounts) (r w p : ℕ) → holds held r w p ≡ true → (held.rerouters ≤ r) × (held.bus_wires ≤ w) × (held.ports ≤ p)
unfolding holds
held_within held r w p e =
    let two = and_left (leb held.rerouters r && leb held.bus_wires w) (leb held.ports p) e in (
      leb-true held.rerouters r (and_left (leb held.rerouters r) (leb held.bus_wires w) two),
      leb-true held.bus_wires w (and_right (leb held.rerouters r) (leb held.bus_wires w) two),
      leb-true held.ports p (and_right (leb held.rerouters r && leb held.bus_wires w) (leb held.ports p) e),
    )

ports_room : (W : ℕ) (held : BusCounts) (m : ℕ) → has_room W held m ≡ true → held.ports + m ≤ W
unfolding has_room
ports_room W held m e =
    leb-true (held.ports + m) W (and_right (leb (held.rerouters + m) (5 * W) && leb (held.bus_wires + 2 * m) (6 * W)) (leb (held.ports + m) W) e)

pub called_same : {call same : Routed} {old old_wires oldPorts rerouters bus_wires ports : List (List ℕ)} {r : Result BusLaid Refusal} → call ≡ same
    → BusCalled call old old_wires oldPorts rerouters bus_wires ports r → BusCalled same old old_wires oldPorts rerouters bus_wires ports r
called_same {call} {same} {old} {old_wires} {oldPorts} {rerouters} {bus_wires} {ports} {r} e h =
    subst (λ (d : Routed). BusCalled d old old_wires oldPorts rerouters bus_wires ports r) e h

-- A call that turns a sheet away, and one that leaves a bus.
module _ (call : Routed) (old old_wires oldPorts rerouters bus_wires ports : List (List ℕ)) where
  pub called_away : (e : Refusal) → call ≡ turned_away e → rerouters ≡ old → bus_wires ≡ old_wires → ports ≡ oldPorts → BusCalled call old old_wires oldPorts rerouters bus_wires ports (Err e)
  called_away d e r w p =
      record {
        answer = ap bus_answer (sym e);
        rerouters_are = r ∙ ap (λ d. rerouters_after d old) (sym e);
        wires_are = w ∙ ap (λ d. bus_wires_after d old_wires) (sym e);
        ports_are = p ∙ ap (λ d. ports_after d oldPorts) (sym e);
      }

  pub called_plan : (b : Board) (ps : List PageLanes) (bus : Bus) (g : ℕ) → call ≡ plan b ps bus g → (count : BusCount) → BusHeld bus old old_wires rerouters bus_wires count
      → (u : ℕ) → u ≡ length bus.ports → ports ≡ ports_over bus.ports oldPorts → BusCalled call old old_wires oldPorts rerouters bus_wires ports (Ok (record { bus = record { rerouters = count.rerouters; bus_wires = count.wires; ports = u }; groups = g }))
  called_plan b ps bus g e count held u many p =
      record {
        answer = (λ i. Ok (record { bus = record { rerouters = held.rerouter_count i; bus_wires = held.wire_count i; ports = many i }; groups = g })) ∙ ap bus_answer (sym e);
        rerouters_are = held.rerouter_rows ∙ ap (λ d. rerouters_after d old) (sym e);
        wires_are = held.wire_rows ∙ ap (λ d. bus_wires_after d old_wires) (sym e);
        ports_are = p ∙ ap (λ d. ports_after d oldPorts) (sym e);
      }

-- What is handed in, tried, and the corner pass on it.
module _ (rerouters bus_wires ports : List (List ℕ)) (held : BusCounts) (b : Board) where
  abbrev start : Bus
  start = bus_given rerouters bus_wires ports held

  abbrev fits : Bool
  fits = has_room (length b.wires) held (turnable b start)

  abbrev After : List (List ℕ) → List (List ℕ) → Result BusCount Refusal → Type 0
  After = TurnedAs b start (length b.wires) rerouters bus_wires held

  abbrev Held : Type 0
  Held = holds held (length rerouters) (length bus_wires) (length ports) ≡ true

  pub unheld : holds held (length rerouters) (length bus_wires) (length ports) ≡ false → held_fits rerouters bus_wires ports held b ≡ false
  unheld h = ap (λ t. t && fits) h

  pub held_fits_lem : Held → held_fits rerouters bus_wires ports held b ≡ fits
  held_fits_lem h = ap (λ t. t && fits) h

  mini_fits_lem : (t : Bool) → held_fits rerouters bus_wires ports held b ≡ t
      → mini_on rerouters bus_wires ports held b ≡ mini_by rerouters bus_wires ports held (elim t as (λ _. Planning) [ true ↦ crowding b (plan_lanes b) | false ↦ refused (refusal NoRoom 0) ])
  mini_fits_lem t e = ap (λ (v : Bool). mini_by rerouters bus_wires ports held (elim v as (λ _. Planning) [ true ↦ crowding b (plan_lanes b) | false ↦ refused (refusal NoRoom 0) ])) e

  mini_lanes : held_fits rerouters bus_wires ports held b ≡ true → (q : Planned) → plan_lanes b ≡ q → mini_on rerouters bus_wires ports held b ≡ mini_by rerouters bus_wires ports held (crowding b q)
  mini_lanes e q l = mini_fits_lem true e ∙ ap (λ (v : Planned). mini_by rerouters bus_wires ports held (crowding b v)) l

  pub mini_unfit : held_fits rerouters bus_wires ports held b ≡ false → BusCalled (mini_on rerouters bus_wires ports held b) rerouters bus_wires ports rerouters bus_wires ports (Err (refusal NoRoom 0))
  mini_unfit e = called_away _ rerouters bus_wires ports rerouters bus_wires ports (refusal NoRoom 0) (mini_fits_lem false e) refl refl refl

  pub mini_crowded : (p : ℕ) (crowds : Refusal) → plan_lanes b ≡ crowded p → crowds ≡ refusal NoLane (suc p) → (t : Bool) → t ≡ held_fits rerouters bus_wires ports held b → (e : Refusal) → e ≡ crowded_at t crowds
      → BusCalled (mini_on rerouters bus_wires ports held b) rerouters bus_wires ports rerouters bus_wires ports (Err e)
  mini_crowded p crowds l at t f e is = subst (λ (d : Refusal). BusCalled (mini_on rerouters bus_wires ports held b) rerouters bus_wires ports rerouters bus_wires ports (Err d)) (sym is) (go t f)
    where
      go : (t : Bool) → t ≡ held_fits rerouters bus_wires ports held b → BusCalled (mini_on rerouters bus_wires ports held b) rerouters bus_wires ports rerouters bus_wires ports (Err (crowded_at t crowds))
      go true f = called_away _ rerouters bus_wires ports rerouters bus_wires ports crowds (mini_lanes (sym f) (crowded p) l ∙ ap turned_away (sym at)) refl refl refl
      go false f = mini_unfit (sym f)

  start_wires : length start.wires ≡ held.bus_wires
  unfolding bus_in
  start_wires = length-view wire_in bus_wires held.bus_wires

  module _ (few : Held) {pages nodes wires facts marks : List (List ℕ)} (ready : HeldReady b pages nodes wires facts rerouters bus_wires ports marks) where
    within : (held.rerouters ≤ length rerouters) × (held.bus_wires ≤ length bus_wires) × (held.ports ≤ length ports)
    within = held_within held (length rerouters) (length bus_wires) (length ports) few

    pub held_lent : Turning.Lent (length nodes) (length wires) rerouters bus_wires ports marks held
    held_lent =
        let n = ap length ready.known.sections.nodes_are in
        let w = ap length ready.known.sections.wires_are in
        let rr = ready.rerouter_room in let wr = ready.wire_room in let mr = ready.mark_room in
        record { rerouters_there = within.0; wires = within.1; muted = within.2; rerouter_room = omega arith; wire_room = omega arith; mark_room = omega arith }

    module _ (r' w' : List (List ℕ)) (r : Result BusCount Refusal) (turned : TurnedAs b start (length wires) rerouters bus_wires held r' w' r) where
      after : (q : Result BusCount Refusal) → r ≡ q → After r' w' q
      after q is =
          subst (λ (n : ℕ). TurnedAs b start n rerouters bus_wires held r' w' q) (sym (ap length ready.known.sections.wires_are))
          (subst (TurnedAs b start (length wires) rerouters bus_wires held r' w') is turned)

      pub mini_short : (e : Refusal) → r ≡ Err e → BusCalled (mini_on rerouters bus_wires ports held b) rerouters bus_wires ports r' w' ports (Err e)
      mini_short e is =
          let s = after (Err e) is in
          called_away _ rerouters bus_wires ports r' w' ports e (mini_fits_lem false (held_fits_lem few ∙ s.0) ∙ ap turned_away (sym s.1)) s.2 s.3 refl

  module _ (few : Held) {pages nodes wires facts marks : List (List ℕ)} (ready : HeldReady b pages nodes wires facts rerouters bus_wires ports marks)
      (r' w' : List (List ℕ)) (r : Result BusCount Refusal) (count : BusCount) (turned : TurnedAs b start (length wires) rerouters bus_wires held r' w' r) (is : r ≡ Ok count) where
    laid : After r' w' (Ok count)
    laid = after few ready r' w' r turned (Ok count) is

    there : held.ports ≤ length ports
    there = (within few ready).2

    start_ports : ports_set (ports_held ports held.ports) ≡ start.ports
    unfolding bus_in
    start_ports = ports_in_lem ports held.ports there

    room : length (corners b start).wires ≤ length bus_wires
    unfolding corners turnable
    room =
        let added = (corner_room b start (length b.wires) (omega arith)).wires in
        let lines = (room_found (length b.wires) held (turnable b start) laid.0).1 in
        let long = ready.wire_room in
        let many = start_wires in
        omega arith

    pub settle : Settleable w' held.bus_wires count.wires ports held.ports
    settle =
        let most = ports_room (length b.wires) held (turnable b start) laid.0 in
        let pr = ready.port_room in
        subst (λ (i : ℕ). Settleable w' i count.wires ports held.ports) start_wires
        (subst (λ (j : ℕ). Settleable w' (length start.wires) j ports held.ports) (sym laid.1.wire_count)
        (settleable_corners b ready.accepted start w' bus_wires laid.1.wire_rows room ports held.ports there start_ports (omega arith) (omega arith)))

    settled_is : settled w' held.bus_wires count.wires ports held.ports ≡ (corners b start).ports
    settled_is =
        (λ i. settled w' (sym start_wires i) (laid.1.wire_count i) ports held.ports)
        ∙ settled_corners b ready.accepted start w' bus_wires laid.1.wire_rows room ports held.ports there start_ports

    pub mini_laid : (ps : List PageLanes) → plan_lanes b ≡ planned ps → (p' : List (List ℕ)) (u : ℕ) → Settled w' held.bus_wires count.wires ports held.ports p' u
        → BusCalled (mini_on rerouters bus_wires ports held b) rerouters bus_wires ports r' w' p' (Ok (record { bus = record { rerouters = count.rerouters; bus_wires = count.wires; ports = u }; groups = 0 }))
    mini_laid ps l p' u s =
        called_plan _ rerouters bus_wires ports r' w' p' b ps (corners b start) 0 (mini_lanes (held_fits_lem few ∙ laid.0) (planned ps) l) count laid.1 u (s.count ∙ ap length settled_is)
        (s.rows ∙ ap (λ l. ports_over l ports) settled_is)

-- A board that what is lent fits is ready for whatever is handed in.
module _ (most : Counts) (text : List ℕ) (lent : Lent) (low : WithinLibrary most) (b : Board) (is : fitting most (fits_lent lent) text ≡ board b) where
  pub fitting_accepted : Accepted b
  fitting_accepted = sheet_accepted most text b low (fitting_from most text (fits_lent lent) b is).0

  pub held_ready : {pages nodes wires facts : List (List ℕ)} → BoardOf b pages nodes wires facts → (rerouters bus_wires ports marks : List (List ℕ)) → BusLent lent marks rerouters bus_wires ports
      → lent.work ≤ length facts → HeldReady b pages nodes wires facts rerouters bus_wires ports marks
  unfolding records
  held_ready cut rerouters bus_wires ports marks bus fs =
      let fit = fits_all lent b (fitting_from most text (fits_lent lent) b is).1 in
      let fw = fit.work in let fr = fit.rerouters in let fb = fit.bus_wires in let fp = fit.ports in
      let rl = bus.rerouters_lent in let bl = bus.wires_lent in let pl = bus.ports_lent in let ml = bus.marks_lent in
      record {
        known = board_known fitting_accepted cut (omega arith) (omega arith);
        accepted = fitting_accepted;
        rerouter_room = omega arith;
        wire_room = omega arith;
        mark_room = omega arith;
        port_room = omega arith;
      }

-- What planning tells of a board, crowded or laned.
pub survey_board : (rows table taps groups : List (List ℕ)) (j : Judged) (r : Result TextPlan Refusal) (t : TextPlan) → TextPlanned j rows table taps groups r → r ≡ Ok t
    → (q : Planned) × BoardTold rows table taps groups j t.counts q
survey_board rows table taps groups j r t h is = go t.taps refl
  where
    go : (m : Result ℕ Refusal) → t.taps ≡ m → (q : Planned) × BoardTold rows table taps groups j t.counts q
    go (Err e) e' = let k = survey_crowd rows table taps groups j r t e h is e' in (crowded k.0, k.2)
    go (Ok m) e' = let k = survey_lanes rows table taps groups j r t m h is e' in (planned k.0, k.1)

-- What is handed in is tried after what is lent.
module _ (rerouters bus_wires ports : List (List ℕ)) (held : BusCounts) (most : Counts) (lentFits : Board → Bool) (text : List ℕ) where
  mini_by_lem : (j : Judged) → fitting most lentFits text ≡ j
      → mini_by rerouters bus_wires ports held (planning most (mini_fits rerouters bus_wires ports held lentFits) text) ≡ mini_by rerouters bus_wires ports held (judged_for (held_fits rerouters bus_wires ports held) j)
  mini_by_lem j e =
      ap (mini_by rerouters bus_wires ports held)
      (planning_then most text (mini_fits rerouters bus_wires ports held lentFits) lentFits (held_fits rerouters bus_wires ports held) (λ b. refl) ∙ ap (judged_for (held_fits rerouters bus_wires ports held)) e)

  pub mini_refused : (e : Refusal) → fitting most lentFits text ≡ Refusals.turned_away e → mini_by rerouters bus_wires ports held (planning most (mini_fits rerouters bus_wires ports held lentFits) text) ≡ turned_away e
  mini_refused r e = mini_by_lem (Refusals.turned_away r) e

  pub mini_tried : (b : Board) → fitting most lentFits text ≡ board b
      → mini_by rerouters bus_wires ports held (planning most (mini_fits rerouters bus_wires ports held lentFits) text) ≡ mini_on rerouters bus_wires ports held b
  mini_tried b e = mini_by_lem (board b) e

-- The call with what it finds lent.
pub mini_called : (text : List ℕ) (asked : Asked) (r b p : ℕ) (lengths : List ℕ) → asked ≡ asked_for (r ∷ b ∷ p ∷ 64 ∷ []) lengths → (rerouters bus_wires ports : List (List ℕ)) (held : BusCounts)
    → mini_by rerouters bus_wires ports held (planning asked.most (mini_fits rerouters bus_wires ports held (fits_lent asked.lent)) text) ≡ mini_call text (bus_fits r b p lengths) rerouters bus_wires ports held
unfolding mini_call
mini_called text asked r b p lengths e rerouters bus_wires ports held =
    ap (λ (q : Asked). mini_by rerouters bus_wires ports held (planning q.most (mini_fits rerouters bus_wires ports held (fits_lent q.lent)) text)) e
    ∙ ap (mini_by rerouters bus_wires ports held)
    (planning_same text (mini_fits rerouters bus_wires ports held (fits_lent (lent_of r b p 64 (shortest lengths)))) (mini_fits rerouters bus_wires ports held (fits_bus r b p (shortest lengths)))
    (λ c wires pages. ap (λ t. t && held_fits rerouters bus_wires ports held c) (bus_fit r b p (shortest lengths) c wires pages)))
