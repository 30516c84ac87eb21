-- From planning a text to `plan_bus`.
use Prim.Native.Nat.{ℕ, zero, suc, ◌+◌, ◌*◌, ◌≤◌, ◌<◌}
use native.Mathlib.Omega.{arith}
use mathlib.Core.Path.{◌≡◌, refl, sym, ap, ◌∙◌, subst}
use mathlib.Core.Bool.{Bool, true, false}
use mathlib.Core.List.{List, [], ◌∷◌, ◌++◌, map}
use lib.ListN.{length, get_or, drop}
use borrow.Author.Tests.{le-leb}
use Rattle.std.proofs.Common.{Ok, Err}
use Rattle.base.specs.declared.refusal.Reason.TheVariants.{NoRoom}
use Rattle.base.specs.declared.refusal.Refusal.{Refusal}
use Rattle.base.specs.Refusal.{refusal}
use Rattle.sheet.specs.declared.Counts.{Counts}
use Rattle.sheet.specs.Table.{library_most}
use Rattle.board.specs.Board.{Board, field}
use Rattle.board.specs.Refusals
use Rattle.board.specs.Refusals.{Judged, board, judged}
use Rattle.board.specs.Demands
use Rattle.board.specs.Demands.{PageLanes, plan_lanes, no_lanes}
use Rattle.board.specs.Planning.{Planning, refused, lanes_for, planning, fits_pages, crowding, records, page_row, pages_after}
use Rattle.board.specs.Walk.{WithinLibrary}
use Rattle.lanes.specs.Lanes.{lane_most}
use Rattle.board_plan.specs.declared.Asked.{Asked}
use Rattle.board_plan.specs.declared.Lent.{Lent}
use Rattle.board_plan.specs.TextPlan.{LINE_MOST, has_room, fits_counts, fits_lent, shortest, WorkLent, work_rows, lent_of, asked_for}
use Rattle.board_plan.specs.PagesPlan.{plan_call, pages_plan, PagesPlanned}
use Rattle.board.proofs.Accepting.{sheet_accepted}
use Rattle.board_plan.proofs.Surveying.{LanesTold}
use Rattle.board_plan.proofs.Planned.{planned_counts}
use Rattle.board_plan.proofs.Fitting.{fits_all}
use Rattle.board.proofs.Planning.{planning_refused, planning_fine, lanes_from}

pub within_library : WithinLibrary library_most
within_library s = omega arith

-- No slice is shorter than the shortest.
shortest_at : (l : List ℕ) (k : ℕ) → k < length l → shortest l ≤ get_or l k 0
unfolding shortest
shortest_at [] k h = absurd (omega arith)
shortest_at (n ∷ []) zero h = omega arith
shortest_at (n ∷ []) (suc k) h = absurd (omega arith)
shortest_at (n ∷ m ∷ l) zero h = omega arith
shortest_at (n ∷ m ∷ l) (suc k) h = let r = shortest_at (m ∷ l) k (omega arith) in omega arith

-- Work space in which there is room for so many records: as many rows stand in each slice, and five times as many in the marks.
pub record WorkRoom (work : ℕ) (records facts taps groups demands keys marks : List (List ℕ)) : Type 0 where
  pub lent : WorkLent work (length records) facts taps groups demands keys marks
  pub fivefold : 5 * work ≤ length marks

pub work_room : (work : ℕ) (records facts taps groups demands keys marks : List (List ℕ)) → work ≡ shortest (work_rows records facts taps groups demands keys marks)
    → WorkRoom work records facts taps groups demands keys marks
work_room work records facts taps groups demands keys marks e =
    let l : List ℕ = work_rows records facts taps groups demands keys marks in
    record {
      lent =
          record {
            records_lent = omega (arith, e, shortest_at l 0 (omega arith));
            facts_lent = omega (arith, e, shortest_at l 1 (omega arith));
            taps_lent = omega (arith, e, shortest_at l 2 (omega arith));
            groups_lent = omega (arith, e, shortest_at l 3 (omega arith));
            demands_lent = omega (arith, e, shortest_at l 4 (omega arith));
            keys_lent = omega (arith, e, shortest_at l 5 (omega arith));
            spare_lent = omega (arith, e, shortest_at l 6 (omega arith));
          };
      fivefold = omega (arith, e, shortest_at l 6 (omega arith));
    }

-- What `plan_text` asks for, of what is asked by the lengths lent.
pub asked_room : {r w p a : ℕ} (asked : Asked) (records facts taps groups demands keys marks : List (List ℕ)) → asked ≡ asked_for (r ∷ w ∷ p ∷ a ∷ []) (work_rows records facts taps groups demands keys marks)
    → WorkRoom asked.lent.work records facts taps groups demands keys marks × WithinLibrary asked.most
asked_room asked records facts taps groups demands keys marks e = (
  work_room asked.lent.work records facts taps groups demands keys marks (ap (λ (q : Asked). q.lent.work) e),
  subst (λ (q : Asked). WithinLibrary q.most) (sym e) within_library,
)

-- `plan_bus` asks for no rerouters, bus wires or ports: it plans as if the most were lent.
abbrev pages_lent : ℕ → ℕ → Lent
pages_lent answers work = lent_of 40960 49152 8192 answers work

pages_fit : (answers work : ℕ) (b : Board) → length b.wires ≤ library_most.wires → length b.pages ≤ library_most.pages → fits_lent (pages_lent answers work) b ≡ fits_pages answers work b
unfolding fits_lent fits_counts has_room fits_pages records
pages_fit answers work b h g =
    let w : ℕ = length b.wires in
    rw (le-leb (5 * w) 40960 (omega arith), le-leb (6 * w) 49152 (omega arith), le-leb w 8192 (omega arith), le-leb (LINE_MOST * (length b.pages + 12 * w + 1)) 12591232 (omega arith)) refl

-- Two tests of what is lent that agree on every board within the limits plan alike.
pub planning_same : (text : List ℕ) (f g : Board → Bool) → ((b : Board) → length b.wires ≤ library_most.wires → length b.pages ≤ library_most.pages → f b ≡ g b)
    → planning library_most f text ≡ planning library_most g text
planning_same text f g same = go (judged library_most text) refl
  where
    go : (j : Judged) → judged library_most text ≡ j → planning library_most f text ≡ planning library_most g text
    go (Refusals.turned_away r) e = planning_refused library_most text f r e ∙ sym (planning_refused library_most text g r e)
    go (board b) e =
        planning_fine library_most text f b e
        ∙ ap (λ (t : Bool). elim t as (λ _. Planning) [ true ↦ crowding b (plan_lanes b) | false ↦ refused (refusal NoRoom 0) ]) (let h = sheet_accepted library_most text b within_library e in same b h.few_wires h.few_pages)
        ∙ sym (planning_fine library_most text g b e)

pages_planning : (text : List ℕ) (answers work : ℕ) → planning library_most (fits_lent (pages_lent answers work)) text ≡ planning library_most (fits_pages answers work) text
pages_planning text answers work = planning_same text (fits_lent (pages_lent answers work)) (fits_pages answers work) (pages_fit answers work)

-- The page answers can be written.
pub pages_ready : (rows facts taps groups : List (List ℕ)) (most : Counts) (text : List ℕ) (lent : Lent) (c : Counts) (m k : ℕ) → LanesTold rows facts taps groups (planning most (fits_lent lent) text) c m → lent.work ≤ length facts → lent.answers ≡ k
    → ((c.pages ≤ length facts) × (c.pages ≤ k)) × ((p : ℕ) → p < c.pages → field facts p 6 ≤ lane_most)
unfolding records
pages_ready rows facts taps groups most text lent c m k t work answers =
    let b = t.on_board in
    let from = lanes_from most text (fits_lent lent) b t.lanes t.is in
    let fit = fits_all lent b from.fitting in
    let counts = planned_counts b t.lanes from.lanes in
    let pages : c.pages ≡ length b.pages = ap (λ (d : Counts). d.pages) t.counted in
    let fw = fit.work in
    let fa = fit.answers in
    ((omega arith, omega arith), λ p h. let inside : p < length t.lanes = omega (arith, counts.0) in omega (arith, t.tables.pages_known p inside, counts.1 p))

-- The call's answers.
module _ (text : List ℕ) (work : List ℕ) (before after : List (List ℕ)) (asked : Asked) (is : asked ≡ asked_for (40960 ∷ 49152 ∷ 8192 ∷ length before ∷ []) work) where
  call : Planning
  call = plan_call text (length before) work

  told : planning asked.most (fits_lent asked.lent) text ≡ call
  unfolding plan_call call
  told = ap (λ (q : Asked). planning q.most (fits_lent q.lent) text) is ∙ pages_planning text (length before) (shortest work)

  pub pages_refused : (r : Refusal) → planning asked.most (fits_lent asked.lent) text ≡ refused r → PagesPlanned (plan_call text (length before) work) before before (Err r)
  unfolding call pages_after
  pages_refused r e =
      let same : plan_call text (length before) work ≡ refused r = sym told ∙ e in
      record { answer = ap pages_plan (sym same); answers = ap (λ (p : Planning). pages_after p before) (sym same) }

  pub pages_laned : (b : Board) (ps : List PageLanes) → planning asked.most (fits_lent asked.lent) text ≡ lanes_for b ps → plan_lanes b ≡ Demands.planned ps
      → after ≡ map page_row ps ++ drop (length b.pages) before → PagesPlanned (plan_call text (length before) work) before after (Ok (length b.pages))
  unfolding call pages_after
  pages_laned b ps e lanes written =
      let same : plan_call text (length before) work ≡ lanes_for b ps = sym told ∙ e in
      record {
        answer = ap pages_plan (sym same);
        answers = written ∙ ap (λ (k : ℕ). map page_row ps ++ drop k before) (sym (planned_counts b ps lanes).0) ∙ ap (λ (p : Planning). pages_after p before) (sym same);
      }
