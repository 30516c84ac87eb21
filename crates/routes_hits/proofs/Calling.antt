-- `find_hits` with what it finds lent: what planning tells of the call, and what the rows of the plan tell of the hits.
use Prim.Native.Nat.{ℕ, ◌+◌, ◌*◌, ◌/◌, ◌≤◌, min}
use native.Mathlib.Omega.{arith}
use mathlib.Core.Path.{◌≡◌, refl, sym, ap, ◌∙◌}
use mathlib.Core.Bool.{Bool, true, false, ◌&&◌}
use mathlib.Core.List.{List, [], ◌∷◌, ◌++◌, map}
use lib.Dec.{leb}
use lib.ListN.{length, take, drop}
use lib.Seq.{length-take-le}
use borrow.Author.Tests.{leb-true, leb-false, le-leb, lt-leb}
use Rattle.base.specs.Views.{view}
use Rattle.base.proofs.Bools.{never, and_false}
use Rattle.std.proofs.Common.{Result, Ok, Err}
use Rattle.base.specs.declared.refusal.Reason.TheVariants.{BadBox}
use Rattle.base.specs.declared.refusal.Refusal.{Refusal}
use Rattle.base.specs.Refusal.{refusal}
use Rattle.sheet.specs.declared.Counts.{Counts}
use Rattle.sheet.specs.Table.{library_most}
use Rattle.board.specs.Board.{Board}
use Rattle.board.specs.Demands.{PageLanes}
use Rattle.board.specs.Planning.{Planning, refused, planning, records, page_row}
use Rattle.board_plan.specs.declared.Asked.{Asked}
use Rattle.board_plan.specs.declared.TextPlan.{TextPlan}
use Rattle.board_plan.specs.TextPlan.{LINE_MOST, has_room, fits_counts, fits_lent, shortest, lent_of, asked_for, fitting, TextPlanned}
use Rattle.board_plan.proofs.Fitting.{fits_all}
use Rattle.board_plan.proofs.Surveying.{LanesTold, text_refusal, text_crowded, text_lanes}
use Rattle.board_plan.proofs.Calling.{planning_same}
use Rattle.board.proofs.Planning.{lanes_from}
use Rattle.routes.specs.Bus.{Bus}
use Rattle.routes.specs.Buffers.{rerouter_in, wire_in, bus_held}
use Rattle.routes.specs.Plan.{finished, laid_groups}
use Rattle.routes.specs.Route.{Routed, turned_away, plan, routed_by, fits_plan, routed}
use Rattle.routes.specs.declared.bus.BusCounts.{BusCounts}
use Rattle.routes_gutter.specs.Bus.{BusStands}
use Rattle.routes_calls.specs.Finish.{PlanReady}
use Rattle.routes_promise.proofs.ReadBack.{done_few, done_back}
use Rattle.routes_hits.specs.declared.boxes.PageBox.{PageBox}
use Rattle.routes_hits.specs.declared.list.HitCounts.{HitCounts}
use Rattle.routes_hits.specs.Hits.{on_board}
use Rattle.routes_hits.specs.Listing.{Listed}
use Rattle.routes_hits.proofs.Listing.{view_front}
use Rattle.routes_hits.specs.Finding.{HITS_A_WIRE, boxed, hits_fit, hits_call, HitsCalled}
use Rattle.routes_hits.specs.Boxing.{box_plan}

-- A planned board, by what it tells of its taps.
abbrev pub with_taps : Counts → Result ℕ Refusal → TextPlan
with_taps c taps = record { counts = c; taps = taps }

-- Such a board has the box, or has not.
pub box_yes : (q : PageBox) (c : Counts) (m : ℕ) → on_board q c.pages ≡ true → box_plan q (Ok (with_taps c (Ok m))) ≡ Ok m
box_yes q c m h = rw (h, box_plan)

pub box_no : (q : PageBox) (c : Counts) (m : ℕ) → on_board q c.pages ≡ false → box_plan q (Ok (with_taps c (Ok m))) ≡ Err (refusal BadBox 0)
box_no q c m h = rw (h, box_plan)

-- Where no refusal is left, the pages have lanes and the box is on the board.
pub box_laned : (q : PageBox) (t : TextPlan) (m : ℕ) → box_plan q (Ok t) ≡ Ok m → (t.taps ≡ Ok m) × (on_board q t.counts.pages ≡ true)
box_laned q t m e = go t.taps refl e
  where
    off : (k : ℕ) → t.taps ≡ Ok k → (s : Bool) → on_board q t.counts.pages ≡ s → box_plan q (Ok (with_taps t.counts (Ok k))) ≡ Ok m → (t.taps ≡ Ok m) × (on_board q t.counts.pages ≡ true)
    off k d true o e = (d ∙ (sym (box_yes q t.counts k o) ∙ e), o)
    off k d false o e = let nine : Err (refusal BadBox 0) ≡ Ok m = sym (box_no q t.counts k o) ∙ e in never cc

    go : (x : Result ℕ Refusal) → t.taps ≡ x → box_plan q (Ok (with_taps t.counts x)) ≡ Ok m → (t.taps ≡ Ok m) × (on_board q t.counts.pages ≡ true)
    go (Err f) d e = never cc
    go (Ok k) d e = off k d (on_board q t.counts.pages) refl e

-- 21 numbers a wire are lent where the ports told to planning are no more than the hit buffer has room for.
enough : (h p w : ℕ) → leb w (min p (h / HITS_A_WIRE)) ≡ (leb (HITS_A_WIRE * w) h && leb w p)
enough h p w = go (leb (HITS_A_WIRE * w) h) (leb w p) refl refl
  where
    go : (s t : Bool) → leb (HITS_A_WIRE * w) h ≡ s → leb w p ≡ t → leb w (min p (h / HITS_A_WIRE)) ≡ (s && t)
    go true true d e = let x = leb-true (HITS_A_WIRE * w) h d in let y = leb-true w p e in le-leb w (min p (h / HITS_A_WIRE)) (omega arith)
    go true false d e = let y = leb-false w p e in lt-leb w (min p (h / HITS_A_WIRE)) (omega arith)
    go false t d e = let x = leb-false (HITS_A_WIRE * w) h d in lt-leb w (min p (h / HITS_A_WIRE)) (omega arith)

-- One test taken out of a row of them.
taken_out : (a b c d e : Bool) → (a && (b && ((c && d) && e))) ≡ (c && (a && (b && (d && e))))
taken_out a b true d e = refl
taken_out a b false d e = rw (and_false b, and_false a)

hits_fit_lem : (h r w p a work : ℕ) (b : Board) → length b.wires ≤ library_most.wires → length b.pages ≤ library_most.pages
    → fits_lent (lent_of r w (min p (h / HITS_A_WIRE)) a work) b ≡ (leb (HITS_A_WIRE * length b.wires) h && fits_plan r w p a work b)
unfolding fits_lent fits_counts has_room fits_plan records
hits_fit_lem h r w p a work b few pages =
    let W : ℕ = length b.wires in
    let P : ℕ = length b.pages in
    let R : ℕ = P + length b.nodes + length b.chips + length b.inner + length b.execs + W in
    rw (le-leb (LINE_MOST * (P + 12 * W + 1)) 12591232 (omega arith), enough h p W)
    (taken_out (leb (5 * W) r) (leb (6 * W) w) (leb (HITS_A_WIRE * W) h) (leb W p) (leb P a && leb R work))

module _ (q : PageBox) (text : List ℕ) (asked : Asked) (h r w p a : ℕ) (lengths : List ℕ) (is : asked ≡ asked_for (r ∷ w ∷ min p (h / HITS_A_WIRE) ∷ a ∷ []) lengths) where
  abbrev asks : Planning
  asks = planning asked.most (fits_lent asked.lent) text

  -- The call by what planning decides.
  pub call_is : hits_call q text (hits_fit h r w p a lengths) ≡ boxed q (routed_by finished asks)
  unfolding hits_call routed
  call_is =
      let same : asks ≡ planning library_most (hits_fit h r w p a lengths) text =
      ap (λ (z : Asked). planning z.most (fits_lent z.lent) text) is
      ∙ planning_same text (fits_lent (lent_of r w (min p (h / HITS_A_WIRE)) a (shortest lengths))) (hits_fit h r w p a lengths) (hits_fit_lem h r w p a (shortest lengths)) in
      ap (λ (z : Planning). boxed q (routed_by finished z)) (sym same)

  -- The refusal that planning decides on is the call's.
  away : (e : Refusal) → asks ≡ refused e → hits_call q text (hits_fit h r w p a lengths) ≡ turned_away e
  away e d = call_is ∙ ap (λ (z : Planning). boxed q (routed_by finished z)) d

  module _ (rows facts taps groups : List (List ℕ)) (planned : Result TextPlan Refusal) (told : TextPlanned (fitting asked.most (fits_lent asked.lent) text) rows facts taps groups planned) where
    -- A refusal of the sheet, or 7.
    sheet_refused : (e : Refusal) → planned ≡ Err e → hits_call q text (hits_fit h r w p a lengths) ≡ turned_away e
    sheet_refused e d = away e (text_refusal rows facts taps groups asked.most (fits_lent asked.lent) text planned told e d)

    module _ (t : TextPlan) (fine : planned ≡ Ok t) where
      -- 8.
      pub box_crowded : (e : Refusal) → t.taps ≡ Err e → hits_call q text (hits_fit h r w p a lengths) ≡ turned_away e
      box_crowded e d = away e (text_crowded rows facts taps groups asked.most (fits_lent asked.lent) text planned told t e fine d)

      module _ (m : ℕ) (laned : t.taps ≡ Ok m) where
        pub box_told : LanesTold rows facts taps groups asks t.counts m
        box_told = text_lanes rows facts taps groups asked.most (fits_lent asked.lent) text planned told t m fine laned

        pages : t.counts.pages ≡ length box_told.on_board.pages
        pages = ap (λ (z : Counts). z.pages) box_told.counted

        -- 9.
        pub box_away : on_board q t.counts.pages ≡ false → hits_call q text (hits_fit h r w p a lengths) ≡ turned_away (refusal BadBox 0)
        box_away o =
            let off : on_board q (length box_told.on_board.pages) ≡ false = ap (on_board q) (sym pages) ∙ o in
            call_is ∙ rw (box_told.is, off, boxed) refl

        -- Or else the plan.
        pub box_call : on_board q t.counts.pages ≡ true
            → hits_call q text (hits_fit h r w p a lengths) ≡ plan box_told.on_board box_told.lanes (finished box_told.on_board box_told.lanes) (laid_groups box_told.on_board box_told.lanes)
        box_call o =
            let there : on_board q (length box_told.on_board.pages) ≡ true = ap (on_board q) (sym pages) ∙ o in
            call_is ∙ rw (box_told.is, there, boxed) refl

        -- The hit buffer holds the list.
        pub box_room : HITS_A_WIRE * length box_told.on_board.wires ≤ h
        box_room =
            let k = box_told in
            let from = lanes_from asked.most text (fits_lent asked.lent) k.on_board k.lanes k.is in
            let fits = fits_all asked.lent k.on_board from.fitting in
            let ports : asked.lent.ports ≡ min p (h / HITS_A_WIRE) = ap (λ (z : Asked). z.lent.ports) is in
            let enough = fits.ports in
            omega arith

    -- A refusal is the call's: one of the sheet, 7, 8, or else 9.
    pub box_refused : (e : Refusal) → box_plan q planned ≡ Err e → hits_call q text (hits_fit h r w p a lengths) ≡ turned_away e
    box_refused e d = go planned refl d
      where
        off : (t : TextPlan) → planned ≡ Ok t → (m : ℕ) → t.taps ≡ Ok m → (s : Bool) → on_board q t.counts.pages ≡ s → box_plan q (Ok (with_taps t.counts (Ok m))) ≡ Err e
            → hits_call q text (hits_fit h r w p a lengths) ≡ turned_away e
        off t is m taps true o d = let both : Ok m ≡ Err e = sym (box_yes q t.counts m o) ∙ d in never cc
        off t is m taps false o d =
            let both : Err (refusal BadBox 0) ≡ Err e = sym (box_no q t.counts m o) ∙ d in
            let nine : refusal BadBox 0 ≡ e = cc in
            box_away t is m taps o ∙ ap turned_away nine

        tested : (t : TextPlan) → planned ≡ Ok t → (x : Result ℕ Refusal) → t.taps ≡ x → box_plan q (Ok (with_taps t.counts x)) ≡ Err e → hits_call q text (hits_fit h r w p a lengths) ≡ turned_away e
        tested t is (Err f) taps d =
            let eight : f ≡ e = cc in
            box_crowded t is e (taps ∙ ap Err eight)
        tested t is (Ok m) taps d = off t is m taps (on_board q t.counts.pages) refl d

        go : (x : Result TextPlan Refusal) → planned ≡ x → box_plan q x ≡ Err e → hits_call q text (hits_fit h r w p a lengths) ≡ turned_away e
        go (Err f) is d =
            let same : f ≡ e = cc in
            sheet_refused e (is ∙ ap Err same)
        go (Ok t) is d = tested t is t.taps refl d

-- A refusal leaves all as it was.
pub nothing_found : (q : PageBox) (call : Routed) (oldHits : List ℕ) (old old_wires oldPorts oldAnswers : List (List ℕ)) (e : Refusal) → call ≡ turned_away e
    → HitsCalled q call oldHits old old_wires oldPorts oldAnswers oldHits old old_wires oldPorts oldAnswers (Err e)
nothing_found q call oldHits old old_wires oldPorts oldAnswers e d =
    rw d (record { answer = refl; hits_are = refl; rerouters_are = refl; wires_are = refl; ports_are = refl; answers_are = refl })

-- The finished plan in the buffers.
module _ {b : Board} {ps : List PageLanes} {pages nodes wires facts taps groups demands keys marks old old_wires oldPorts oldAnswers : List (List ℕ)}
    (ready : PlanReady b ps pages nodes wires facts taps groups demands keys marks old old_wires oldPorts oldAnswers) {rerouters bus_wires ports : List (List ℕ)} (held : BusCounts)
    (stands : BusStands (finished b ps) old old_wires oldPorts rerouters bus_wires ports held) where
  abbrev bus : Bus
  bus = finished b ps

  few : (length bus.rerouters ≤ 5 * length b.wires) × (length bus.wires ≤ 6 * length b.wires) × (length bus.ports ≤ length b.wires)
  few = let t = ready.laying.ready in done_few b t.accepted ps t.plan

  -- Its rows are there.
  pub rows_there : length rerouters ≡ length old → length bus_wires ≡ length old_wires → (held.rerouters ≤ length rerouters) × (held.bus_wires ≤ length bus_wires)
  rows_there lr lw =
      let t = ready.laying.ready in
      let f0 = few.0 in let f1 = few.1 in
      let r0 = t.bus_room.0 in let r1 = t.bus_room.1 in let lk = ap length t.wires_are in
      let n = stands.rerouter_count in let k = stands.wires in
      (omega arith, omega arith)

  -- Its hits can be listed.
  pub list_ready : (room : ℕ) → HITS_A_WIRE * length b.wires ≤ room → length rerouters ≡ length old → length bus_wires ≡ length old_wires
      → (length (take held.rerouters rerouters) ≤ 4294967296) × (length (take held.bus_wires bus_wires) ≤ 4294967296)
      × (3 * length (take held.rerouters rerouters) + length (take held.bus_wires bus_wires) ≤ room)
  list_ready room fits lr lw =
      let t = ready.laying.ready in
      let most = t.accepted.few_wires in
      let f0 = few.0 in let f1 = few.1 in
      let n = stands.rerouter_count in let k = stands.wires in
      let there = rows_there lr lw in
      let ln = length-take-le held.rerouters rerouters there.0 in
      let lk = length-take-le held.bus_wires bus_wires there.1 in
      (omega arith, omega arith, omega arith)

  -- The rows, read back, are the plan.
  back : bus_held rerouters held.rerouters bus_wires held.bus_wires ports held.ports ≡ bus
  back =
      let t = ready.laying.ready in
      let r0 = t.bus_room.0 in let r1 = t.bus_room.1 in let lk = ap length t.wires_are in
      (λ i. bus_held (stands.rerouters_are i) (stands.rerouter_count i) (stands.wires_are i) (stands.wires i) (stands.ports_are i) (stands.suppressed i))
      ∙ done_back b t.accepted ps t.plan old old_wires oldPorts (omega arith) (omega arith) ready.port_room

  rerouters_back : view rerouter_in rerouters held.rerouters ≡ bus.rerouters
  unfolding bus_held
  rerouters_back = ap (λ (z : Bus). z.rerouters) back

  wires_back : view wire_in bus_wires held.bus_wires ≡ bus.wires
  unfolding bus_held
  wires_back = ap (λ (z : Bus). z.wires) back

  pub hits_found : (q : PageBox) (call : Routed) → call ≡ plan b ps bus (laid_groups b ps) → (oldHits after : List ℕ) (found : HitCounts) (g : ℕ) (pages : List (List ℕ))
      → (held.rerouters ≤ length rerouters) × (held.bus_wires ≤ length bus_wires)
      → Listed q (view rerouter_in (take held.rerouters rerouters) (length (take held.rerouters rerouters))) (view wire_in (take held.bus_wires bus_wires) (length (take held.bus_wires bus_wires))) oldHits after found → g ≡ laid_groups b ps → pages ≡ map page_row ps ++ drop (length ps) oldAnswers
      → HitsCalled q call oldHits old old_wires oldPorts oldAnswers after rerouters bus_wires ports pages (Ok (record { hits = found; laid = record { bus = held; groups = g } }))
  hits_found q call e oldHits after found g pages there l groups written =
      let s : Listed q bus.rerouters bus.wires oldHits after found =
      rw (view_front rerouter_in rerouters held.rerouters there.0 ∙ rerouters_back, view_front wire_in bus_wires held.bus_wires there.1 ∙ wires_back) at l in
      rw e
      (record {
        answer = λ i. Ok (record { hits = record { rerouters = s.rerouters i; wires = s.wires i }; laid = record { bus = record { rerouters = stands.rerouter_count i; bus_wires = stands.wires i; ports = stands.suppressed i }; groups = groups i } });
        hits_are = s.list;
        rerouters_are = stands.rerouters_are;
        wires_are = stands.wires_are;
        ports_are = stands.ports_are;
        answers_are = written;
      })
