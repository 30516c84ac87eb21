-- The tables of a finished plan give its plan sheet.
use Rattle.std.proofs.Common.{◌≡◌, ℕ, zero, suc, ◌+◌, ◌*◌, ◌<◌, ◌≤◌, List, [], ◌∷◌, ◌++◌, map, reverse, length, take, count_by, sym, refl, ap, ◌∙◌, subst, arith, length-append, length-set}
use lib.ListN.{length-map, length-reverse}
use Rattle.sheet.specs.Table.{MISSING}
use Rattle.sheet.specs.Written.{Wrote}
use Rattle.board.specs.Board.{Board}
use Rattle.lanes.specs.Lanes.{Packed, full, laned}
use Rattle.board.specs.Groups.{Tap, taps_of}
use Rattle.board.specs.Demands.{PageLanes, Planned, crowded, planned, plan_lanes, plan_upto, packed_on, groups_on}
use Rattle.board.specs.Planning.{page_row}
use Rattle.base.proofs.Bools.{never}
use Rattle.base.proofs.Lists.{by_test, in_reverse}
use Rattle.routes.specs.Bus.{Bus, Rerouter, BusWire, End, port, rerouter, Carries, onward, delivery}
use Rattle.routes.specs.Buffers.{rerouter_row, wire_row, port_row}
use Rattle.routes.specs.Tables.{written_over}
use Rattle.routes_plan_sheet.specs.Fields.{rows_text}
use Rattle.routes.specs.Stops.{laid_taps, new_group}
use Rattle.routes.specs.Plan.{deliveries, group_count, finished, laid_groups}
use Rattle.routes.specs.PlanSheet.{plan_sheet}
use Rattle.routes_plan_sheet.specs.declared.plan_sheet.Totals.{Totals}
use Rattle.routes.proofs.Views.{rows_written}
use Rattle.routes.proofs.Rows.{RerouterFits, EndFit, CarriesFit, WireFits}
use Rattle.routes_plan_sheet.proofs.PlanText.{Holds, plan_text_lem}
use Rattle.routes.proofs.LaidTaps.{laid_short}
use Rattle.routes_plan_sheet.specs.Held.{names_wire, totals_of, PlanHeld}
use Rattle.board.proofs.Reach.{All}
use Rattle.routes_plan_sheet.proofs.InRange.{RerouterInRange, EndInRange, CarriesInRange, WireInRange, PlanInRange}
use Rattle.routes_plan_sheet.proofs.PlanRange.{plan_in_range}
use Rattle.routes_plan_sheet.proofs.Deliveries.{deliveries_counted}

-- What is in range fits the rows of the buffers.
pub rerouter_fits : (k : Rerouter) → RerouterInRange k → RerouterFits k
rerouter_fits k h = record { x = omega (arith, h.x); y = omega (arith, h.y); z = omega (arith, h.z) }

end_fits : (n : ℕ) (e : End) → EndInRange n e → EndFit e
end_fits n (port i p) h = omega (arith, h.1)
end_fits n (rerouter k) h = tt

carries_fit : (wires n : ℕ) → wires < MISSING → n < MISSING → (c : Carries) → CarriesInRange wires n c → CarriesFit c
carries_fit wires n h k onward r = tt
carries_fit wires n h k (delivery w d) r = (omega (arith, r.0), omega (arith, r.1))

pub wire_fits : (wires n : ℕ) → wires < MISSING → n < MISSING → (w : BusWire) → WireInRange wires n w → WireFits w
wire_fits wires n h k w r =
    record { source = end_fits n w.source r.source; target = end_fits n w.target r.target; carries = carries_fit wires n h k w.carries r.carries }

-- The first rows of a table that a list was written over, as many as the list is long.
pub front_written : {A : Type 0} (row : A → List ℕ) (l : List A) (old rows : List (List ℕ)) (n : ℕ) → rows ≡ written_over row l old → n ≡ length l → n ≤ length rows
    → take n rows ≡ map row (reverse l)
front_written row l old rows n is count there =
    (λ i. take (count i) (is i)) ∙ (rows_written row l old (omega (arith, there, ap length is, written_long row l old, count))).0
  where
    written_long : {A : Type 0} (row : A → List ℕ) (l : List A) (old : List (List ℕ)) → length (written_over row l old) ≡ length old
    written_long row [] old = refl
    written_long row (x ∷ l) old = length-set (written_over row l old) (length l) (row x) ∙ written_long row l old

-- There is a lane count for each page, and at most a laid group for each tap.
planned_long : (b : Board) (ps : List PageLanes) → plan_lanes b ≡ planned ps → length ps ≡ length b.pages
unfolding plan_lanes plan_upto
planned_long b ps e = go (length b.pages) ps e
  where
    step : (n : ℕ) (ps : List PageLanes) (r : Planned) (k : Packed) → ((qs : List PageLanes) → r ≡ planned qs → length qs ≡ n)
        → elim r as (λ _. Planned) [
          | crowded q ↦ crowded q
          | planned qs ↦
              elim k as (λ _. Planned)
              [ full i ↦ crowded n | laned ls c ↦ planned (qs ++ (record { groups = groups_on b (taps_of b) n; lane_list = ls; count = c } ∷ [])) ]
        ] ≡ planned ps
        → length ps ≡ suc n
    step n ps (crowded q) k ih d = never cc
    step n ps (planned qs) (full i) ih d = never cc
    step n ps (planned qs) (laned ls c) ih d =
        let same : qs ++ (record { groups = groups_on b (taps_of b) n; lane_list = ls; count = c } ∷ []) ≡ ps = cc in
        omega (arith, ap length (sym same), length-append qs (record { groups = groups_on b (taps_of b) n; lane_list = ls; count = c } ∷ []), ih qs refl)

    go : (n : ℕ) (ps : List PageLanes) → plan_upto b (taps_of b) n ≡ planned ps → length ps ≡ n
    go zero ps d = let same : ◌≡◌ {A = List PageLanes} [] ps = cc in ap length (sym same)
    go (suc n) ps d = step n ps (plan_upto b (taps_of b) n) (packed_on b (taps_of b) n) (λ qs. go n qs) d

groups_most : (l : List Tap) → group_count l ≤ length l
groups_most [] = omega arith
groups_most (t ∷ l) = let ih = groups_most l in by_test (λ m. m ≤ suc (length l)) (new_group l t) (λ e. omega arith) (λ e. omega arith)

module _ (b : Board) (ps : List PageLanes) (answers rerouters bus_wires ports : List (List ℕ)) (wires groups : ℕ) (h : PlanHeld b ps answers rerouters bus_wires ports wires groups) where
  abbrev bus : Bus
  bus = finished b ps

  range : PlanInRange b bus
  range = plan_in_range b h.accepted ps h.lanes

  wires_fit_lem : All WireFits bus.wires
  wires_fit_lem w m =
      wire_fits (length b.wires) (length bus.rerouters) (omega (arith, range.few_on_board)) (omega (arith, range.few_rerouters)) w (range.ranges.wires w m)

  -- There are as many rows as things.
  pub long : (length answers ≡ length ps) × (length rerouters ≡ length bus.rerouters) × (length bus_wires ≡ length bus.wires) × (length ports ≡ length bus.ports)
  long = (
    ap length h.page_rows ∙ length-map ps page_row,
    ap length h.rerouter_rows ∙ length-map (reverse bus.rerouters) rerouter_row ∙ length-reverse bus.rerouters,
    ap length h.wire_rows ∙ length-map (reverse bus.wires) wire_row ∙ length-reverse bus.wires,
    ap length h.port_rows ∙ length-map bus.ports port_row,
  )

  -- The deliveries counted by the rows.
  deliveries_held : count_by names_wire bus_wires ≡ deliveries bus
  unfolding deliveries
  deliveries_held = ap (λ rows. count_by names_wire rows) h.wire_rows ∙ deliveries_counted bus.wires wires_fit_lem

  abbrev counted : Totals
  counted = totals_of (length rerouters) (length bus_wires) (count_by names_wire bus_wires) wires groups

  holds : Holds b ps bus (laid_groups b ps) answers rerouters bus_wires ports counted
  holds =
      record {
        lanes = h.page_rows;
        rerouter_rows = h.rerouter_rows;
        bus_wires = h.wire_rows;
        suppressed = h.port_rows;
        rerouters_fit = λ j m. rerouter_fits j (range.ranges.rerouters j (in_reverse bus.rerouters m));
        wires_fit = λ w m. wires_fit_lem w (in_reverse bus.wires m);
        total = λ i. totals_of (long.1 i) (long.2 i) (deliveries_held i) (h.wire_count i) (h.group_count i);
      }

  pub plan_written : rows_text answers rerouters bus_wires ports counted ≡ plan_sheet b ps bus (laid_groups b ps)
  plan_written = plan_text_lem b ps bus (laid_groups b ps) answers rerouters bus_wires ports counted holds

  -- What is written of the tables, with the totals that the rows give.
  pub wrote_plan : (out new : List ℕ) (r d : ℕ) (t : Totals) → d ≡ count_by names_wire bus_wires → t ≡ totals_of (length rerouters) (length bus_wires) d wires groups
      → Wrote out 0 (rows_text answers rerouters bus_wires ports t) new r → Wrote out 0 (plan_sheet b ps bus (laid_groups b ps)) new r
  wrote_plan out new r d t deliveries totals wrote =
      let same : t ≡ counted = totals ∙ ap (λ e. totals_of (length rerouters) (length bus_wires) e wires groups) deliveries in
      subst (λ text. Wrote out 0 text new r) (ap (rows_text answers rerouters bus_wires ports) same ∙ plan_written) wrote

  -- A line's number, and the counts of the last line, are numbers of 32 bits.
  pub counts_few : ((length answers < MISSING) × (length rerouters < MISSING) × (length bus_wires < MISSING) × (length ports < MISSING)) × (wires < MISSING) × (groups < MISSING)
  unfolding laid_groups
  counts_few =
      let pages : length ps ≤ 64 = omega (arith, planned_long b ps h.lanes, h.accepted.few_pages) in
      let few = range.few_on_board in (
        (omega (arith, long.0), omega (arith, long.1, range.few_rerouters), omega (arith, long.2, range.few_wires), omega (arith, long.3, range.few_ports)),
        omega (arith, h.wire_count),
        omega (arith, h.group_count, groups_most (laid_taps b (taps_of b) ps), laid_short b ps),
      )

  -- A buffer of 128 bytes for each line has room, each thing of the plan has its row, and the counts are few.
  pub plan_fits_lem : (out : List ℕ) → 128 * (length answers + length rerouters + length bus_wires + length ports + 1) ≤ length out
      → (128 * length answers + 128 * length rerouters + 128 * length bus_wires + 128 * length ports + 128 ≤ length out)
      × ((length answers ≡ length ps) × (length rerouters ≡ length bus.rerouters) × (length bus_wires ≡ length bus.wires) × (length ports ≡ length bus.ports))
      × ((length answers < MISSING) × (length rerouters < MISSING) × (length bus_wires < MISSING) × (length ports < MISSING)) × (wires < MISSING) × (groups < MISSING)
  plan_fits_lem out room = (omega arith, long, counts_few.0, counts_few.1, counts_few.2)
