-- The three calls one after the other, from their promises alone: they leave the finished plan, as `route` does, or all refuse alike.
use Prim.Native.Nat.{ℕ, zero, suc, ◌+◌, ◌*◌, ◌≤◌}
use native.Mathlib.Omega.{arith}
use mathlib.Core.Path.{◌≡◌, refl, sym, ap, ◌∙◌, subst}
use mathlib.Core.Bool.{Bool, true, false, ◌&&◌}
use mathlib.Core.List.{List, ◌∷◌}
use lib.Dec.{leb}
use lib.ListN.{length, length-append}
use borrow.Author.Tests.{le-leb, leb-true}
use Rattle.std.proofs.Common.{Result, Ok, Err}
use Rattle.base.specs.declared.refusal.Reason.TheVariants.{NoRoom}
use Rattle.base.specs.declared.refusal.Refusal.{Refusal}
use Rattle.base.specs.Refusal.{refusal}
use Rattle.sheet.specs.declared.Counts.{Counts}
use Rattle.sheet.specs.Table.{library_most}
use Rattle.base.specs.Lists.{keep, upto}
use Rattle.board.specs.Board.{Board}
use Rattle.board.specs.Refusals
use Rattle.board.specs.Refusals.{Judged, board, judged}
use Rattle.board.specs.Demands.{PageLanes, plan_lanes}
use Rattle.board.specs.Planning.{Planning, refused, lanes_for, planning, fits_pages, crowding, records, pages_after}
use Rattle.board.specs.Accepted.{Accepted}
use Rattle.board.proofs.Accepting.{sheet_accepted}
use Rattle.base.proofs.Bools.{and_left, and_right}
use Rattle.board_plan.specs.TextPlan.{shortest}
use Rattle.board_plan.specs.PagesPlan.{plan_call, PagesPlanned}
use Rattle.board.proofs.Planning.{planning_refused, planning_fine, LanesFrom, lanes_from}
use Rattle.board_plan.proofs.Calling.{within_library}
use Rattle.routes.specs.Bus.{Bus}
use Rattle.routes.specs.Buffers.{rerouter_row, wire_row}
use Rattle.routes.specs.Tables.{written_over}
use Rattle.routes.specs.Corners.{corners, turns, turnable}
use Rattle.routes.specs.Plan.{bus_of, finished, laid_groups}
use Rattle.routes.specs.Route.{turned_away, plan, routed_by, fits_bus, laid, routed}
use Rattle.routes.proofs.Rows.{written_again}
use Rattle.routes_corners.specs.Turning.{has_room}
use Rattle.routes_ports.specs.Settling.{ports_over}
use Rattle.routes_ports.proofs.Laid.{cornered}
use Rattle.routes_gutter.specs.declared.laying.BusLaid.{BusLaid}
use Rattle.routes_gutter.specs.Calls.{bus_answer, bus_fits, lay_call, BusCalled}
use Rattle.routes.specs.declared.bus.BusCounts.{BusCounts}
use Rattle.routes_calls.specs.Mini.{holds, bus_given, held_fits, mini_by, mini_fits, mini_call}
use Rattle.routes_calls.specs.Route.{plan_fits, route_call, PlanCalled}
use Rattle.routes_promise.specs.Promise.{Promised}
use Rattle.routes_promise.specs.ThreeCalls.{Buffers, counts_left, fits_in, AsNamed, CalledInTurn, PlanLeft, AllRefuse, Outcome, decided, route_answer}
use Rattle.routes_calls.proofs.Finishing.{length-written, ports_length, ports_finished, laid_room_lem, laid_few, corners_longer}
use Rattle.routes_promise.proofs.ReadBack.{laid_back, done_few, done_promised}
use Rattle.routes_calls.proofs.MiniLaws.{called_same}

-- Where what is lent fits the board of the text, the text alone decides.
pub planning_all : (most : Counts) (text : List ℕ) (fits : Board → Bool) → ((b : Board) → judged most text ≡ board b → fits b ≡ true) → planning most fits text ≡ planning most (λ b. true) text
planning_all most text fits h = go (judged most text) refl
  where
    go : (j : Judged) → judged most text ≡ j → planning most fits text ≡ planning most (λ b. true) text
    go (Refusals.turned_away r) e = planning_refused most text fits r e ∙ sym (planning_refused most text (λ b. true) r e)
    go (board b) e =
        planning_fine most text fits b e ∙ ap (λ (t : Bool). elim t as (λ _. Planning) [ true ↦ crowding b (plan_lanes b) | false ↦ refused (refusal NoRoom 0) ]) (h b e)
        ∙ sym (planning_fine most text (λ b. true) b e)

-- At most as many wires turn as there are.
kept_few : (p : ℕ → Bool) (n : ℕ) → length (keep p (upto n)) ≤ n
kept_few p zero = omega arith
kept_few p (suc n) = go (p n) (kept_few p n)
  where
    go : (t : Bool) → length (keep p (upto n)) ≤ n → length {A = ℕ} (elim t [ true ↦ n ∷ keep p (upto n) | false ↦ keep p (upto n) ]) ≤ suc n
    go true h = omega arith
    go false h = omega arith

-- Counts of zero leave room.
abbrev none : BusCounts
none = record { rerouters = 0; bus_wires = 0; ports = 0 }

none_fits : (rerouters bus_wires ports : List (List ℕ)) (b : Board) → held_fits rerouters bus_wires ports none b ≡ true
unfolding holds has_room turnable
none_fits rerouters bus_wires ports b =
    let bus : Bus = bus_given rerouters bus_wires ports none in
    let W : ℕ = length b.wires in
    let few = kept_few (turns b bus) W in
    rw (
      le-leb 0 (length rerouters) (omega arith),
      le-leb 0 (length bus_wires) (omega arith),
      le-leb 0 (length ports) (omega arith),
      le-leb (0 + turnable b bus) (5 * W) (omega arith),
      le-leb (0 + 2 * turnable b bus) (6 * W) (omega arith),
      le-leb (0 + turnable b bus) W (omega arith),
    ) refl

-- What the three buffers' test says.
record Long (b : Board) (lent : Buffers) : Type 0 where
  rerouters : 5 * length b.wires ≤ length lent.rerouters
  bus_wires : 6 * length b.wires ≤ length lent.bus_wires
  ports : length b.wires ≤ length lent.ports

long_enough_lem : (b : Board) (lent : Buffers) (work : List ℕ) → fits_in lent work b ≡ true → Long b lent
unfolding fits_bus
long_enough_lem b lent work h =
    let W : ℕ = length b.wires in
    let one = and_right (leb (5 * W) (length lent.rerouters)) (leb (6 * W) (length lent.bus_wires) && (leb W (length lent.ports) && leb (records b) (shortest work))) h in
    let two = and_right (leb (6 * W) (length lent.bus_wires)) (leb W (length lent.ports) && leb (records b) (shortest work)) one in
    record {
      rerouters = leb-true (5 * W) (length lent.rerouters) (and_left (leb (5 * W) (length lent.rerouters)) (leb (6 * W) (length lent.bus_wires) && (leb W (length lent.ports) && leb (records b) (shortest work))) h);
      bus_wires = leb-true (6 * W) (length lent.bus_wires) (and_left (leb (6 * W) (length lent.bus_wires)) (leb W (length lent.ports) && leb (records b) (shortest work)) one);
      ports = leb-true W (length lent.ports) (and_left (leb W (length lent.ports)) (leb (records b) (shortest work)) two);
    }

module _ (text : List ℕ) (planWork layWork miniWork : List ℕ) (before between after : Buffers) (pagesAnswer : Result ℕ Refusal) (lanesAnswer cornersAnswer : Result BusLaid Refusal) (named : AsNamed text planWork layWork miniWork before)
    (called : CalledInTurn text planWork layWork miniWork before between after pagesAnswer lanesAnswer cornersAnswer) where
  pages_are : PagesPlanned (decided text) before.answers after.answers pagesAnswer
  unfolding plan_call
  pages_are =
      subst (λ (p : Planning). PagesPlanned p before.answers after.answers pagesAnswer)
      (planning_all library_most text (fits_pages (length before.answers) (shortest planWork)) named.for_pages) called.plan_bus

  lanes_are : BusCalled (routed_by bus_of (decided text)) before.rerouters before.bus_wires before.ports between.rerouters between.bus_wires between.ports lanesAnswer
  unfolding lay_call laid
  lanes_are = called_same (ap (routed_by bus_of) (planning_all library_most text (fits_in before layWork) named.for_lanes)) called.lay_bus

  -- What `lay_mini_bus` finds where the counts handed in leave room.
  module _ (r : length between.rerouters ≡ length before.rerouters) (w : length between.bus_wires ≡ length before.bus_wires) (p : length between.ports ≡ length before.ports)
      (given : (b : Board) → judged library_most text ≡ board b → held_fits between.rerouters between.bus_wires between.ports (counts_left lanesAnswer) b ≡ true) where
    still_named : (b : Board) → judged library_most text ≡ board b → fits_in between miniWork b ≡ true
    still_named b e = (λ i. bus_fits (r i) (w i) (p i) miniWork b) ∙ named.for_corners b e

    corners_are : BusCalled (mini_by between.rerouters between.bus_wires between.ports (counts_left lanesAnswer) (decided text))
        between.rerouters between.bus_wires between.ports after.rerouters after.bus_wires after.ports cornersAnswer
    unfolding mini_call
    corners_are =
        called_same
        (ap (mini_by between.rerouters between.bus_wires between.ports (counts_left lanesAnswer))
        (planning_all library_most text (mini_fits between.rerouters between.bus_wires between.ports (counts_left lanesAnswer) (fits_in between miniWork))
        (λ b e. rw (still_named b e, given b e) refl))) called.lay_mini_bus

  -- A text that is turned away.
  module _ (r : Refusal) (is : decided text ≡ refused r) where
    without_lanes : BusCalled (turned_away r) before.rerouters before.bus_wires before.ports between.rerouters between.bus_wires between.ports lanesAnswer
    without_lanes = called_same (ap (routed_by bus_of) is) lanes_are

    no_corners : BusCalled (turned_away r) between.rerouters between.bus_wires between.ports after.rerouters after.bus_wires after.ports cornersAnswer
    no_corners =
        called_same (ap (mini_by between.rerouters between.bus_wires between.ports (counts_left lanesAnswer)) is)
        (corners_are (ap length without_lanes.rerouters_are) (ap length without_lanes.wires_are) (ap length without_lanes.ports_are)
        (λ b e. ap (λ (a : Result BusLaid Refusal). held_fits between.rerouters between.bus_wires between.ports (counts_left a) b) without_lanes.answer ∙ none_fits between.rerouters between.bus_wires between.ports b))

    pub all_refuse : AllRefuse r before between after pagesAnswer lanesAnswer cornersAnswer
    unfolding pages_after
    all_refuse =
        let no_pages = subst (λ (p : Planning). PagesPlanned p before.answers after.answers pagesAnswer) is pages_are in
        record {
          no_pages = no_pages.answer;
          without_lanes = without_lanes.answer;
          no_corners = no_corners.answer;
          unaltered = (without_lanes.rerouters_are, without_lanes.wires_are, without_lanes.ports_are);
          unaltered_still = (no_corners.rerouters_are ∙ without_lanes.rerouters_are, no_corners.wires_are ∙ without_lanes.wires_are, no_corners.ports_are ∙ without_lanes.ports_are, no_pages.answers);
        }

  -- An accepted board.
  module _ (b : Board) (ps : List PageLanes) (is : decided text ≡ lanes_for b ps) where
    from : LanesFrom library_most text (λ c. true) b ps
    from = lanes_from library_most text (λ c. true) b ps is

    accepted : Accepted b
    accepted = sheet_accepted library_most text b within_library from.accepted

    abbrev lanes_bus : Bus
    lanes_bus = bus_of b ps

    abbrev done_bus : Bus
    done_bus = finished b ps

    long : Long b before
    long = long_enough_lem b before layWork (named.for_lanes b from.accepted)

    some_lanes : BusCalled (plan b ps lanes_bus (laid_groups b ps)) before.rerouters before.bus_wires before.ports between.rerouters between.bus_wires between.ports lanesAnswer
    some_lanes = called_same (ap (routed_by bus_of) is) lanes_are

    few : (length lanes_bus.rerouters ≤ 5 * length b.wires) × (length lanes_bus.wires ≤ 6 * length b.wires) × (length lanes_bus.ports ≤ length b.wires)
    few = laid_few b accepted ps from.lanes

    rerouters_long : length between.rerouters ≡ length before.rerouters
    rerouters_long = ap length some_lanes.rerouters_are ∙ length-written rerouter_row lanes_bus.rerouters before.rerouters

    wires_long : length between.bus_wires ≡ length before.bus_wires
    wires_long = ap length some_lanes.wires_are ∙ length-written wire_row lanes_bus.wires before.bus_wires

    ports_long : length between.ports ≡ length before.ports
    ports_long =
        let f = few.2 in let l = long.ports in
        ap length some_lanes.ports_are ∙ ports_length lanes_bus.ports before.ports (omega arith)

    -- What is read back is the bus of the lanes.
    abbrev counts : BusCounts
    counts = counts_left (bus_answer (plan b ps lanes_bus (laid_groups b ps)))

    given_bus : bus_given between.rerouters between.bus_wires between.ports (counts_left lanesAnswer) ≡ lanes_bus
    given_bus =
        (λ i. bus_given (some_lanes.rerouters_are i) (some_lanes.wires_are i) (some_lanes.ports_are i) (counts_left (some_lanes.answer i)))
        ∙ laid_back b accepted ps from.lanes before.rerouters before.bus_wires before.ports long.rerouters long.bus_wires long.ports

    held_there : holds counts (length between.rerouters) (length between.bus_wires) (length between.ports) ≡ true
    unfolding holds
    held_there =
        let f0 = few.0 in let f1 = few.1 in let f2 = few.2 in
        let l0 = long.rerouters in let l1 = long.bus_wires in let l2 = long.ports in
        let r = rerouters_long in let w = wires_long in let p = ports_long in
        rw (
          le-leb (length lanes_bus.rerouters) (length between.rerouters) (omega arith),
          le-leb (length lanes_bus.wires) (length between.bus_wires) (omega arith),
          le-leb (length lanes_bus.ports) (length between.ports) (omega arith),
        ) refl

    room_there : has_room (length b.wires) counts (turnable b lanes_bus) ≡ true
    room_there = laid_room_lem b accepted ps from.lanes

    given_fits : held_fits between.rerouters between.bus_wires between.ports (counts_left lanesAnswer) b ≡ true
    given_fits =
        (λ i. holds (counts_left (some_lanes.answer i)) (length between.rerouters) (length between.bus_wires) (length between.ports)
        && has_room (length b.wires) (counts_left (some_lanes.answer i)) (turnable b (given_bus i)))
        ∙ rw (held_there, room_there) refl

    some_corners : BusCalled (plan b ps done_bus 0) between.rerouters between.bus_wires between.ports after.rerouters after.bus_wires after.ports cornersAnswer
    unfolding finished
    some_corners =
        called_same
        (ap (mini_by between.rerouters between.bus_wires between.ports (counts_left lanesAnswer)) is ∙ ap (λ (bus : Bus). plan b ps (corners b bus) 0) given_bus)
        (corners_are rerouters_long wires_long ports_long
        (λ c e. let same : board b ≡ board c = sym from.accepted ∙ e in
        let one : b ≡ c = cc in subst (λ (d : Board). held_fits between.rerouters between.bus_wires between.ports (counts_left lanesAnswer) d ≡ true) one given_fits))

    rerouters_left : after.rerouters ≡ written_over rerouter_row done_bus.rerouters before.rerouters
    unfolding finished
    rerouters_left =
        let more = corners_longer b lanes_bus in
        let f = (done_few b accepted ps from.lanes).0 in
        let l = long.rerouters in
        some_corners.rerouters_are ∙ ap (written_over rerouter_row done_bus.rerouters) some_lanes.rerouters_are
        ∙ written_again rerouter_row lanes_bus.rerouters done_bus.rerouters before.rerouters (omega (arith, ap length more.rerouters, length-append more.new lanes_bus.rerouters)) (omega arith)

    wires_left : after.bus_wires ≡ written_over wire_row done_bus.wires before.bus_wires
    unfolding finished
    wires_left =
        let more = (cornered b lanes_bus).ported in
        let f = (done_few b accepted ps from.lanes).1 in
        let l = long.bus_wires in
        some_corners.wires_are ∙ ap (written_over wire_row done_bus.wires) some_lanes.wires_are
        ∙ written_again wire_row lanes_bus.wires done_bus.wires before.bus_wires (omega (arith, ap length more.wires, length-append more.new lanes_bus.wires)) (omega arith)

    ports_left : after.ports ≡ ports_over done_bus.ports before.ports
    ports_left = some_corners.ports_are ∙ ports_finished b accepted ps from.lanes between.ports before.ports some_lanes.ports_are

    some_pages : PagesPlanned (lanes_for b ps) before.answers after.answers pagesAnswer
    some_pages = subst (λ (p : Planning). PagesPlanned p before.answers after.answers pagesAnswer) is pages_are

    pub plan_left : PlanLeft b ps before after pagesAnswer lanesAnswer cornersAnswer
    unfolding pages_after
    plan_left =
        record {
          pages_planned = some_pages.answer;
          lanes_laid = some_lanes.answer;
          corners_laid = record { answer = some_corners.answer; rerouters_are = rerouters_left; wires_are = wires_left; ports_are = ports_left; answers_are = some_pages.answers };
          promised =
              subst (λ (r : List (List ℕ)). Promised b r (length done_bus.rerouters) after.bus_wires (length done_bus.wires) after.ports (length done_bus.ports)) (sym rerouters_left)
              (subst (λ (w : List (List ℕ)). Promised b (written_over rerouter_row done_bus.rerouters before.rerouters) (length done_bus.rerouters) w (length done_bus.wires) after.ports (length done_bus.ports)) (sym wires_left)
              (subst (λ (p : List (List ℕ)). Promised b (written_over rerouter_row done_bus.rerouters before.rerouters) (length done_bus.rerouters) (written_over wire_row done_bus.wires before.bus_wires) (length done_bus.wires) p (length done_bus.ports)) (sym ports_left)
              (done_promised b accepted ps from.lanes before.rerouters before.bus_wires before.ports long.rerouters long.bus_wires long.ports)));
        }

  -- The theorem of the three calls.
  pub three_calls : Outcome (decided text) before between after pagesAnswer lanesAnswer cornersAnswer
  three_calls = go (decided text) refl
    where
      go : (p : Planning) → decided text ≡ p → Outcome p before between after pagesAnswer lanesAnswer cornersAnswer
      go (refused d) e = all_refuse d e
      go (lanes_for b ps) e = plan_left b ps e

  -- `route`, lent the same buffers and work space as named, leaves the same in them and answers the same.
  module _ (work : List ℕ) (routed-after : Buffers) (answer : Result BusLaid Refusal)
      (fits : (b : Board) → judged library_most text ≡ board b → plan_fits (length before.rerouters) (length before.bus_wires) (length before.ports) (length before.answers) work b ≡ true)
      (promise : PlanCalled (route_call text (plan_fits (length before.rerouters) (length before.bus_wires) (length before.ports) (length before.answers) work))
      before.rerouters before.bus_wires before.ports before.answers routed-after.rerouters routed-after.bus_wires routed-after.ports routed-after.answers answer) where
    abbrev At : Planning → Type 0
    At p = PlanCalled (routed_by finished p) before.rerouters before.bus_wires before.ports before.answers routed-after.rerouters routed-after.bus_wires routed-after.ports routed-after.answers answer

    route_is : At (decided text)
    unfolding route_call routed
    route_is = subst At (planning_all library_most text (plan_fits (length before.rerouters) (length before.bus_wires) (length before.ports) (length before.answers) work) fits) promise

    pub route_same : (routed-after ≡ after) × (answer ≡ route_answer lanesAnswer cornersAnswer)
    route_same = go (decided text) refl
      where
        go : (p : Planning) → decided text ≡ p → (routed-after ≡ after) × (answer ≡ route_answer lanesAnswer cornersAnswer)
        go (refused d) e =
            let r = subst At e route_is in
            let a = all_refuse d e in
            let s = a.unaltered_still in (
              (λ i. record { rerouters = (r.rerouters_are ∙ sym s.0) i; bus_wires = (r.wires_are ∙ sym s.1) i; ports = (r.ports_are ∙ sym s.2) i; answers = (r.answers_are ∙ sym s.3) i }),
              r.answer ∙ sym (λ i. route_answer (a.without_lanes i) (a.no_corners i)),
            )
        go (lanes_for b ps) e =
            let r = subst At e route_is in
            let a = plan_left b ps e in
            let s = a.corners_laid in (
              (λ i. record { rerouters = (r.rerouters_are ∙ sym s.rerouters_are) i; bus_wires = (r.wires_are ∙ sym s.wires_are) i; ports = (r.ports_are ∙ sym s.ports_are) i; answers = (r.answers_are ∙ sym s.answers_are) i }),
              r.answer ∙ sym (λ i. route_answer (a.lanes_laid i) (s.answer i)),
            )
