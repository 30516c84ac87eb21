-- A text that is checked, fitted and read.
use Prim.Native.Nat.{ℕ, ◌≤◌, ◌<◌}
use native.Mathlib.Omega.{arith}
use mathlib.Core.Path.{◌≡◌, refl, sym, ap, ◌∙◌, subst}
use mathlib.Core.Bool.{Bool, true, false, ◌&&◌}
use mathlib.Core.List.{List, [], ◌++◌}
use lib.ListN.{length, take, drop, take-append-drop}
use lib.Seq.{length-take-le, get_or-take, ext_get_or}
use Rattle.sheet.specs.declared.Counts.{Counts}
use Rattle.std.proofs.Common.{Ok, Err}
use Rattle.base.specs.declared.refusal.Reason.TheVariants.{NoRoom}
use Rattle.base.specs.declared.refusal.Refusal.{Refusal}
use Rattle.base.specs.Refusal.{refusal}
use Rattle.sheet.specs.Table.{library_most}
use Rattle.sheet.specs.Reading.{rows_from}
use Rattle.sheet.specs.Answer.{RowsHeld}
use Rattle.board.specs.Board.{Board}
use Rattle.board.specs.Refusals
use Rattle.board.specs.Refusals.{Judged, board, judged}
use Rattle.board.specs.Demands.{plan_lanes}
use Rattle.board.specs.Planning.{Planning, refused, planning, crowding, records, judged_for}
use Rattle.board_lanes.specs.PagePlan.{Room}
use Rattle.board.specs.Walk.{WithinLibrary, counts_in, board_checked, IndexedIf, RowsIf}
use Rattle.base.proofs.Bools.{never}
use Rattle.board.proofs.Planning.{planning_refused, planning_fine}
use Rattle.board_plan.specs.declared.Lent.{Lent}
use Rattle.board_plan.specs.TextPlan.{fits_counts, fits_lent, lent_for, fitting, WorkLent, BoardRead, BoardChecked}
use Rattle.board.specs.Sections.{SectionsIn}
use Rattle.board.specs.Accepted.{Accepted}
use Rattle.board.proofs.Accepting.{from_sheet, sheet_accepted}
use Rattle.board.proofs.Slices.{sections_in, rows_count}
use Rattle.board_plan.proofs.Fitting.{fits_all}

-- The counts of an accepted board are at most the library's.
pub counts_few : (b : Board) (c : Counts) → c ≡ counts_in b → Accepted b
    → (c.pages ≤ library_most.pages) × (c.nodes ≤ library_most.nodes) × (c.chips ≤ library_most.chips) × (c.inner ≤ library_most.inner) × (c.execs ≤ library_most.execs) × (c.wires ≤ library_most.wires)
counts_few b c e a =
    subst (λ (d : Counts). (d.pages ≤ library_most.pages) × (d.nodes ≤ library_most.nodes) × (d.chips ≤ library_most.chips) × (d.inner ≤ library_most.inner) × (d.execs ≤ library_most.execs) × (d.wires ≤ library_most.wires)) (sym e)
    (a.few_pages, a.few_nodes, a.few_chips, a.few_inner, a.few_execs, a.few_wires)

-- What fits by its counts fits as a board.
pub fits_counted : (lent : Lent) (b : Board) (c : Counts) (t : Bool) → c ≡ counts_in b → fits_counts lent c ≡ t → fits_lent lent b ≡ t
unfolding fits_lent
fits_counted lent b c t e f = ap (fits_counts lent) (sym e) ∙ f

module _ (most : Counts) (text : List ℕ) (fits : Board → Bool) where
  -- Refusals 1 to 7.
  pub fitting_refused : (r : Refusal) → judged most text ≡ Refusals.turned_away r → fitting most fits text ≡ Refusals.turned_away r
  unfolding fitting
  fitting_refused r e = ap (lent_for fits) e

  fitting_fine : (b : Board) → judged most text ≡ board b → (t : Bool) → fits b ≡ t → fitting most fits text ≡ elim t as (λ _. Judged) [ true ↦ board b | false ↦ Refusals.turned_away (refusal NoRoom 0) ]
  unfolding fitting
  fitting_fine b e t f = ap (lent_for fits) e ∙ ap (λ (v : Bool). elim v as (λ _. Judged) [ true ↦ board b | false ↦ Refusals.turned_away (refusal NoRoom 0) ]) f

  pub fitting_unfit : (b : Board) → judged most text ≡ board b → fits b ≡ false → fitting most fits text ≡ Refusals.turned_away (refusal NoRoom 0)
  fitting_unfit b e f = fitting_fine b e false f

  pub fitting_fits : (b : Board) → judged most text ≡ board b → fits b ≡ true → fitting most fits text ≡ board b
  fitting_fits b e f = fitting_fine b e true f

  pub fitting_from : (b : Board) → fitting most fits text ≡ board b → (judged most text ≡ board b) × (fits b ≡ true)
  fitting_from b e = go (judged most text) refl
    where
      go : (j : Judged) → judged most text ≡ j → (judged most text ≡ board b) × (fits b ≡ true)
      go (Refusals.turned_away r) is = let d = sym (fitting_refused r is) ∙ e in never cc
      go (board c) is = fit (fits c) refl
        where
          fit : (t : Bool) → fits c ≡ t → (judged most text ≡ board b) × (fits b ≡ true)
          fit true f = let d : board c ≡ board b = sym (fitting_fits c is f) ∙ e in let same : c ≡ b = cc in (is ∙ d, ap fits (sym same) ∙ f)
          fit false f = let d = sym (fitting_unfit c is f) ∙ e in never cc

-- A test in two steps: the second is tried of what the first leaves.
pub planning_then : (most : Counts) (text : List ℕ) (whole first then : Board → Bool) → ((b : Board) → whole b ≡ (first b && then b)) → planning most whole text ≡ judged_for then (fitting most first text)
planning_then most text whole first then both = go (judged most text) refl
  where
    go : (j : Judged) → judged most text ≡ j → planning most whole text ≡ judged_for then (fitting most first text)
    go (Refusals.turned_away r) e = planning_refused most text whole r e ∙ ap (judged_for then) (sym (fitting_refused most text first r e))
    go (board b) e = fit (first b) refl
      where
        tried : (t : Bool) → first b ≡ t → planning most whole text ≡ elim (t && then b) as (λ _. Planning) [ true ↦ crowding b (plan_lanes b) | false ↦ refused (refusal NoRoom 0) ]
        tried t f = planning_fine most text whole b e ∙ ap (λ (v : Bool). elim v as (λ _. Planning) [ true ↦ crowding b (plan_lanes b) | false ↦ refused (refusal NoRoom 0) ]) (both b ∙ ap (λ v. v && then b) f)

        fit : (t : Bool) → first b ≡ t → planning most whole text ≡ judged_for then (fitting most first text)
        fit true f = tried true f ∙ ap (judged_for then) (sym (fitting_fits most text first b e f))
        fit false f = tried false f ∙ ap (judged_for then) (sym (fitting_unfit most text first b e f))

-- 7 of a board.
module _ (fits : Board → Bool) (b : Board) where
  pub lent_unfit : fits b ≡ false → lent_for fits (board b) ≡ Refusals.turned_away (refusal NoRoom 0)
  lent_unfit f = ap (λ (v : Bool). elim v as (λ _. Judged) [ true ↦ board b | false ↦ Refusals.turned_away (refusal NoRoom 0) ]) f

  pub lent_fits : fits b ≡ true → lent_for fits (board b) ≡ board b
  lent_fits f = ap (λ (v : Bool). elim v as (λ _. Judged) [ true ↦ board b | false ↦ Refusals.turned_away (refusal NoRoom 0) ]) f

-- A board in rows, once there is a row for each record.
module _ {b : Board} {rows : List (List ℕ)} {counts : Counts} {bodyIds innerIds : List (List ℕ)} (checked : BoardChecked b rows counts bodyIds innerIds)
    (lent : Lent) (fits : fits_counts lent counts ≡ true) {facts taps groups demands keys spare : List (List ℕ)}
    (work : WorkLent lent.work (length rows) facts taps groups demands keys spare) where
  enough : records b ≤ lent.work
  enough = (fits_all lent b (fits_counted lent b counts true checked.counted fits)).work

  room : Room b.pages b.nodes b.execs b.wires facts taps groups demands keys spare
  unfolding records
  room =
      let n = enough in
      let f = checked.accepted in
      let fs = work.facts_lent in let ts = work.taps_lent in let gs = work.groups_lent in
      let ds = work.demands_lent in let ks = work.keys_lent in let ss = work.spare_lent in
      record {
        few_pages = f.few_pages;
        few_nodes = f.few_nodes;
        few_execs = f.few_execs;
        few_wires = f.few_wires;
        node_room = (omega arith, omega arith, omega arith);
        wire_room = (omega arith, omega arith, omega arith);
        demand_room = (omega arith, omega arith, omega arith);
        page_room = omega arith;
      }

  pub board_read : BoardRead b rows counts bodyIds innerIds facts taps groups demands keys spare
  board_read =
      let n = enough in
      let w = work.records_lent in
      record { sections = checked.sections (omega arith); counted = checked.counted; accepted = checked.accepted; indexes = checked.indexes; room = room }

-- Rows that hold those of a text stand behind them.
rows_front : (text : List ℕ) (rows : List (List ℕ)) → RowsHeld text rows → length (rows_from text) ≤ length rows → rows_from text ++ drop (length (rows_from text)) rows ≡ rows
rows_front text rows held h =
    let n = length (rows_from text) in
    let size : length (take n rows) ≡ n = length-take-le n rows h in
    let front : take n rows ≡ rows_from text =
    ext_get_or [] (take n rows) (rows_from text) size (λ i l. let below : i < n = omega arith in get_or-take n rows i [] below ∙ held i below (omega arith)) in
    ap (λ (l : List (List ℕ)). l ++ drop n rows) (sym front) ∙ take-append-drop n rows

-- What `check_board` answers.
module _ (most : Counts) (text : List ℕ) where
  pub board_refused : (r : Refusal) → Err r ≡ board_checked (judged most text) → judged most text ≡ Refusals.turned_away r
  board_refused r e = go (judged most text) e
    where
      go : (j : Judged) → Err r ≡ board_checked j → j ≡ Refusals.turned_away r
      go (Refusals.turned_away d) q = cc
      go (board b) q = never cc

  sections_held : (b : Board) (rows : List (List ℕ)) → judged most text ≡ board b → RowsIf most text rows → records b ≤ length rows → SectionsIn b rows
  sections_held b rows is held h =
      let k = from_sheet most text b is in
      let size = rows_count b (rows_from text) k.known in
      subst (λ (l : List (List ℕ)). SectionsIn b l) (rows_front text rows (held (rows_from text) k.read) (omega arith))
      (sections_in b (rows_from text) (drop (length (rows_from text)) rows) k.known)

  pub board_fine : (rows bodyIds chipIds innerIds : List (List ℕ)) (c : Counts) → WithinLibrary most → Ok c ≡ board_checked (judged most text)
      → IndexedIf (judged most text) bodyIds chipIds innerIds → RowsIf most text rows
      → (b : Board) × (judged most text ≡ board b) × BoardChecked b rows c bodyIds innerIds
  board_fine rows bodyIds chipIds innerIds c low t x held = go (judged most text) refl t x
    where
      go : (j : Judged) → judged most text ≡ j → Ok c ≡ board_checked j → IndexedIf j bodyIds chipIds innerIds
          → (b : Board) × (judged most text ≡ board b) × BoardChecked b rows c bodyIds innerIds
      go (Refusals.turned_away r) is q y = never cc
      go (board b) is q y =
          let same : c ≡ counts_in b = cc in
          let f = sheet_accepted most text b low is in (
            b,
            is,
            record {
              counted = same;
              accepted = f;
              indexes = record { few = f.few_nodes; few_inner = f.few_inner; body = y.body; inside = y.inner };
              sections = sections_held b rows is held;
            },
          )

  pub fitting_judged : (fits : Board → Bool) (b : Board) → judged most text ≡ board b → fitting most fits text ≡ lent_for fits (board b)
  unfolding fitting
  fitting_judged fits b e = ap (lent_for fits) e
