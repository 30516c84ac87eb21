-- From planning a text to its lanes' bus, and from there to `lay_bus`.
use Prim.Native.Nat.{ℕ, ◌+◌, ◌*◌, ◌≤◌}
use native.Mathlib.Omega.{arith}
use mathlib.Core.Path.{◌≡◌, refl, sym, ap, ◌∙◌}
use mathlib.Core.List.{List, [], ◌∷◌}
use lib.ListN.{length, take}
use lib.Seq.{length-take-le}
use borrow.Author.Tests.{le-leb}
use Rattle.std.proofs.Common.{Ok, Err}
use Rattle.base.specs.declared.refusal.Refusal.{Refusal}
use Rattle.sheet.specs.declared.Counts.{Counts}
use Rattle.sheet.specs.Table.{library_most}
use Rattle.board.specs.Board.{Board}
use Rattle.board.specs.Demands.{PageLanes}
use Rattle.board.specs.Planning.{refused, lanes_for, planning, records}
use Rattle.board.specs.Accepted.{Accepted}
use Rattle.board.specs.Sections.{SectionsIn, SectionsCut}
use Rattle.board.specs.Walk.{WithinLibrary, counts_in}
use Rattle.board.proofs.Accepting.{sheet_accepted}
use Rattle.board.proofs.Planning.{lanes_from}
use Rattle.board.specs.Tables.{tap_in}
use Rattle.board_plan.specs.declared.Asked.{Asked}
use Rattle.board_plan.specs.declared.Lent.{Lent}
use Rattle.board_plan.specs.TextPlan.{LINE_MOST, has_room, fits_counts, fits_lent, shortest, WorkLent, lent_of, asked_for}
use Rattle.board_plan.proofs.Fitting.{fits_all}
use Rattle.board_plan.proofs.Surveying.{LanesTold}
use Rattle.board_plan.proofs.Calling.{planning_same}
use Rattle.routes.specs.Plan.{bus_of, laid_groups}
use Rattle.routes.specs.Route.{routed_by, fits_bus, laid}
use Rattle.routes_taps.proofs.Fronts.{view_front}
use Rattle.routes_gutter.specs.Bus.{BusLent, RowsReady, BusStands}
use Rattle.routes_gutter.specs.Calls.{BusCalled, lay_call, bus_fits}
use Rattle.routes_gutter.specs.declared.laying.BusLaid.{BusLaid}

-- Work space stays as long as it is.
pub work_again : (w n : ℕ) {a b c d e f a' b' c' d' e' f' : List (List ℕ)} → WorkLent w n a b c d e f → length a' ≡ length a → length b' ≡ length b → length c' ≡ length c → length d' ≡ length d
    → length e' ≡ length e → length f' ≡ length f → WorkLent w n a' b' c' d' e' f'
work_again w n l p q r s t u =
    record {
      records_lent = l.records_lent;
      facts_lent = rw p l.facts_lent;
      taps_lent = rw q l.taps_lent;
      groups_lent = rw r l.groups_lent;
      demands_lent = rw s l.demands_lent;
      keys_lent = rw t l.keys_lent;
      spare_lent = rw u l.spare_lent;
    }

-- A planned board finds room for its lanes.
module _ (most : Counts) (text : List ℕ) (lent : Lent) (low : WithinLibrary most) (rows facts taps groups demands keys marks rerouters bus_wires ports : List (List ℕ))
    (n : ℕ) (work : WorkLent lent.work n facts taps groups demands keys marks) (bus : BusLent lent marks rerouters bus_wires ports) (c : Counts) (m : ℕ)
    (told : LanesTold rows facts taps groups (planning most (fits_lent lent) text) c m) where
  -- Its records can be cut into sections.
  pub rows_cut : SectionsIn told.on_board rows × (c ≡ counts_in told.on_board) × Accepted told.on_board
  rows_cut =
      let b = told.on_board in
      (told.tables.sections, told.counted, sheet_accepted most text b low (lanes_from most text (fits_lent lent) b told.lanes told.is).accepted)

  -- Its taps are the first of their slice.
  pub taps_front : m ≤ length taps
  unfolding records
  taps_front =
      let b = told.on_board in
      let fw = (fits_all lent b (lanes_from most text (fits_lent lent) b told.lanes told.is).fitting).work in
      let ts = work.taps_lent in
      omega (arith, told.tables.few)

  pub rows_ready : RowsReady told.on_board told.lanes told.on_board.pages told.on_board.nodes told.on_board.wires facts (take m taps) groups demands keys marks rerouters bus_wires
      × (length told.on_board.wires ≤ length ports)
  unfolding records
  rows_ready =
      let b = told.on_board in
      let t = told.tables in
      let from = lanes_from most text (fits_lent lent) b told.lanes told.is in
      let fit = fits_all lent b from.fitting in
      let fw = fit.work in let fr = fit.rerouters in let fb = fit.bus_wires in let fp = fit.ports in
      let fs = work.facts_lent in let ts = work.taps_lent in let gs = work.groups_lent in let ds = work.demands_lent in let ks = work.keys_lent in
      let ml = bus.marks_lent in let rl = bus.rerouters_lent in let bl = bus.wires_lent in let pl = bus.ports_lent in (
        record {
          ready =
              record {
                accepted = rows_cut.2;
                pages_are = refl;
                nodes_are = refl;
                wires_are = refl;
                nodes_known = t.nodes_known;
                wires_known = t.wires_known;
                count = omega (arith, t.few, length-take-le m taps taps_front);
                taps_are = view_front tap_in taps m taps_front ∙ t.taps_are;
                plan = t.lanes_are;
                groups_known = t.groups_known;
                pages_known = t.pages_known;
                node_room = omega arith;
                page_room = omega arith;
                wire_room = (omega arith, omega arith);
                bus_room = (omega arith, omega arith);
              };
          room = record { on_laid = omega arith; on_stops = omega arith; on_marks = omega arith };
        },
        omega arith,
      )

-- A planned board by its sections as they are cut.
pub ready_cut : {b : Board} {ps : List PageLanes} {pages nodes chips inner execs wires facts taps groups laid stops marks rerouters bus_wires : List (List ℕ)} → SectionsCut b pages nodes chips inner execs wires
    → RowsReady b ps b.pages b.nodes b.wires facts taps groups laid stops marks rerouters bus_wires → RowsReady b ps pages nodes wires facts taps groups laid stops marks rerouters bus_wires
ready_cut k r = rw (k.pages_cut, k.nodes_cut, k.wires_cut) r

-- Buffers as long as is asked.
pub bus_lent : {a : ℕ} (asked : Asked) (rows : List ℕ) (marks rerouters bus_wires ports : List (List ℕ)) → asked ≡ asked_for (length rerouters ∷ length bus_wires ∷ length ports ∷ a ∷ []) rows
    → 5 * asked.lent.work ≤ length marks → BusLent asked.lent marks rerouters bus_wires ports
bus_lent asked rows marks rerouters bus_wires ports e h =
    let r = ap (λ (q : Asked). q.lent.rerouters) e in
    let w = ap (λ (q : Asked). q.lent.bus_wires) e in
    let p = ap (λ (q : Asked). q.lent.ports) e in
    record { marks_lent = h; rerouters_lent = omega arith; wires_lent = omega arith; ports_lent = omega arith }

-- What `lay_bus` finds lent. It writes no page answers, and plans as if the most were lent for them: so only the named lengths (S15) decide.
pub bus_fit : (r w p work : ℕ) (b : Board) → length b.wires ≤ library_most.wires → length b.pages ≤ library_most.pages → fits_lent (lent_of r w p 64 work) b ≡ fits_bus r w p work b
unfolding fits_lent fits_counts has_room fits_bus records
bus_fit r w p work b h g =
    rw (le-leb (length b.pages) 64 g, le-leb (LINE_MOST * (length b.pages + 12 * length b.wires + 1)) 12591232 (omega arith)) refl

-- `lay_bus` with what it finds lent.
module _ (text : List ℕ) (asked : Asked) (r w p : ℕ) (rows : List ℕ) (is : asked ≡ asked_for (r ∷ w ∷ p ∷ 64 ∷ []) rows) (old old_wires oldPorts : List (List ℕ)) where
  call_is : lay_call text (bus_fits r w p rows) ≡ routed_by bus_of (planning asked.most (fits_lent asked.lent) text)
  unfolding lay_call laid
  call_is =
      ap (routed_by bus_of)
      (sym (planning_same text (fits_lent (lent_of r w p 64 (shortest rows))) (fits_bus r w p (shortest rows)) (bus_fit r w p (shortest rows)))
      ∙ ap (λ (q : Asked). planning q.most (fits_lent q.lent) text) (sym is))

  pub lay_refused : (e : Refusal) → planning asked.most (fits_lent asked.lent) text ≡ refused e
      → BusCalled (lay_call text (bus_fits r w p rows)) old old_wires oldPorts old old_wires oldPorts (Err e)
  lay_refused e is = rw (call_is ∙ ap (routed_by bus_of) is) (record { answer = refl; rerouters_are = refl; wires_are = refl; ports_are = refl })

  pub lay_done : (b : Board) (ps : List PageLanes) → planning asked.most (fits_lent asked.lent) text ≡ lanes_for b ps → (rerouters bus_wires ports : List (List ℕ)) (done : BusLaid)
      → BusStands (bus_of b ps) old old_wires oldPorts rerouters bus_wires ports done.bus → done.groups ≡ laid_groups b ps
      → BusCalled (lay_call text (bus_fits r w p rows)) old old_wires oldPorts rerouters bus_wires ports (Ok done)
  lay_done b ps e rerouters bus_wires ports done s laid_are =
      rw (call_is ∙ ap (routed_by bus_of) e)
      (record {
        answer = λ i. Ok (record { bus = record { rerouters = s.rerouter_count i; bus_wires = s.wires i; ports = s.suppressed i }; groups = laid_are i });
        rerouters_are = s.rerouters_are;
        wires_are = s.wires_are;
        ports_are = s.ports_are;
      })
