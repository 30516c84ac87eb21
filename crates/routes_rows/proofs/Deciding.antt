-- A level found by what is booked, a question weighed, and an item decided: what its cell, its answer and the notes then are. Assumes nothing.
use Prim.Native.Nat.{ℕ, zero, suc, ◌+◌, ◌-◌, ◌*◌, ◌≤◌, ◌<◌}
use mathlib.Core.Path.{◌≡◌, refl, ap, sym, subst, ◌∙◌}
use Rattle.std.proofs.Common.{Option, None, Some, unwrap_or, take, drop, length-take-le, ltb-true, ltb-false}
use Rattle.std.specs.Option.{MatchOption}
use mathlib.Core.Bool.{Bool, true, false, not, ◌&&◌}
use mathlib.Core.List.{List, ◌∷◌, ◌++◌}
use native.Mathlib.Omega.{arith}
use lib.Dec.{eqb, ltb, leb}
use lib.ListN.{length, get_or, set}
use borrow.Author.Tests.{lt-ltb, le-ltb}
use Rattle.sheet.specs.Table.{MISSING}
use Rattle.base.specs.Lists.{Found, none, at, any}
use Rattle.base.proofs.Bools.{never, and_false, pick_true, pick_false}
use Rattle.board.specs.Rows.{cells_overlap}
use Rattle.board.specs.Tables.{held}
use Rattle.routes.specs.Levels.{lowest, lighter, lightest}
use Rattle.routes_rows.specs.Booking.{cell_of, item_cell, order_at, no_cell}
use Rattle.routes_rows.specs.Blocked.{count_in, level_no, Spread, NoEnds, NoEndsPast}
use Rattle.routes_rows.specs.Notes.{CLASSES, row_no, Noted, NotesFit, Begun}
use Rattle.routes_rows.specs.Turning.{Entry, corner_y, sink_in, class_in, clear_at, load_at, of_class, level_at, answer_if}
use Rattle.board.specs.Index.{found_of}
use Rattle.routes_rows.specs.Entries.{LEVELS_END, level_in, cell_entry, corner_box, corner_entry, entry_for, row_before, span_of, span_for, BlockedBy, BlockedFor, RowFits, level_by, TellsClear, Askable, Sought, Turnable, Weighed, Laid, Decidable, Decided}
use Rattle.routes_rows.specs.declared.book.Cell.{Cell}
use Rattle.routes_rows.proofs.Blocking.{leb-not, part_all, part_first, part_rest, spread_in}
use Rattle.routes_rows.proofs.Searching.{found_at, found_none, lowest_closed, lightest_closed}
use Rattle.routes_rows.proofs.NoteLaws.{noted_same, notes_fit, blocked_kept, past_kept, ends_kept, noted_more, noted_plain}

-- ---- a level that is found lies in the span
lowest_within : (free : ℕ → Bool) (x n l : ℕ) → lowest free x n ≡ at l → (l + 2 ≤ x + 2 * n) × (0 < n)
lowest_within free x zero l e = never cc
lowest_within free x (suc n) l e = go (free x) e (lowest_within free (x + 2) n l)
  where
    go : (t : Bool) → elim t [ true ↦ at x | false ↦ lowest free (x + 2) n ] ≡ at l → (lowest free (x + 2) n ≡ at l → (l + 2 ≤ x + 2 + 2 * n) × (0 < n)) → (l + 2 ≤ x + 2 * suc n) × (0 < suc n)
    go true q ih = let same : x ≡ l = cc in (omega (arith, same), omega arith)
    go false q ih = let h = (ih q).0 in (omega (arith, h), omega arith)

lightest_within : (ok : ℕ → Bool) (load : ℕ → ℕ) (x n l : ℕ) → lightest ok load x n ≡ at l → (l + 2 ≤ x + 2 * n) × (0 < n)
lightest_within ok load x zero l e = never cc
lightest_within ok load x (suc n) l e = (go (ok x) (lightest ok load (x + 2) n) refl e (λ k q. (lightest_within ok load (x + 2) n k q).0), omega arith)
  where
    Within : Type 0
    Within = (k : ℕ) → lightest ok load (x + 2) n ≡ at k → k + 2 ≤ x + 2 + 2 * n

    chosen : (k : ℕ) (t : Bool) → k + 2 ≤ x + 2 + 2 * n → elim t [ true ↦ at x | false ↦ at k ] ≡ at l → l + 2 ≤ x + 2 * suc n
    chosen k true h q = let same : x ≡ l = cc in omega (arith, same)
    chosen k false h q = let same : k ≡ l = cc in omega (arith, same, h)

    best : (f : Found) → lightest ok load (x + 2) n ≡ f → lighter load x f ≡ at l → Within → l + 2 ≤ x + 2 * suc n
    best none i q w = let same : x ≡ l = cc in omega (arith, same)
    best (at k) i q w = chosen k (leb (load x) (load k)) (w k i) q

    go : (t : Bool) (f : Found) → lightest ok load (x + 2) n ≡ f → elim t [ true ↦ lighter load x (lightest ok load (x + 2) n) | false ↦ lightest ok load (x + 2) n ] ≡ at l → Within → l + 2 ≤ x + 2 * suc n
    go true f i q w = best f i (ap (lighter load x) (sym i) ∙ q) w
    go false f i q w = let h = w l q in omega (arith, h)

module _ (booked : List Entry) (span : Cell) (sink class : ℕ) where
  abbrev low : Found
  low = lowest (λ l. eqb (load_at booked sink l) 0 && clear_at booked span.y0 l) span.x0 (count_in span)

  abbrev light : Found
  light = lightest (clear_at booked span.y0) (load_at booked sink) span.x0 (count_in span)

  ways : (f : Found) → of_class booked class ≡ false → low ≡ f → level_by booked span sink class ≡ elim f [ at l ↦ at l | none ↦ light ]
  unfolding level_by
  ways f o e = pick_false (of_class booked class) none _ o ∙ (λ i. elim (e i) as (λ _. Found) [ at l ↦ at l | none ↦ light ])

  taken : of_class booked class ≡ true → level_by booked span sink class ≡ none
  unfolding level_by
  taken o = pick_true (of_class booked class) none _ o

  pub level_taken : {r : Bool} → r ≡ of_class booked class → r ≡ true → None ≡ found_of (level_by booked span sink class)
  level_taken is o = sym (ap found_of (taken (sym is ∙ o)))

  pub level_lowest : {r : Bool} {found : Option ℕ} {l : ℕ} → r ≡ of_class booked class → r ≡ false → found ≡ found_of low → found ≡ Some l → Some l ≡ found_of (level_by booked span sink class)
  level_lowest {l = l} is o e q = sym (ap found_of (ways (at l) (sym is ∙ o) (found_at low l (sym q ∙ e))))

  pub level_lightest : {r : Bool} {found best : Option ℕ} → r ≡ of_class booked class → r ≡ false → found ≡ found_of low → found ≡ None → best ≡ found_of light → best ≡ found_of (level_by booked span sink class)
  level_lightest is o e q f = f ∙ sym (ap found_of (ways none (sym is ∙ o) (found_none low (sym q ∙ e))))

  pub level_either : {found : Option ℕ} {r : Option ℕ} {P : Type 0} → of_class booked class ≡ false → found ≡ found_of low → MatchOption found P (λ x. r ≡ Some x) → (P → r ≡ found_of light) → r ≡ found_of (level_by booked span sink class)
  level_either {found = Some l} o e m f = m ∙ level_lowest (sym o) refl e refl
  level_either {found = None} o e m f = level_lightest (sym o) refl e refl (f m)

  level_within : (l : ℕ) → Some l ≡ found_of (level_by booked span sink class) → l + 2 ≤ span.x1
  level_within l e = go (of_class booked class) refl low refl (found_at (level_by booked span sink class) l e)
    where
      inside : (l + 2 ≤ span.x0 + 2 * count_in span) × (0 < count_in span) → l + 2 ≤ span.x1
      inside h = let a = h.0 in let b = h.1 in omega (arith, a, b)

      go : (t : Bool) → of_class booked class ≡ t → (f : Found) → low ≡ f → level_by booked span sink class ≡ at l → l + 2 ≤ span.x1
      go true o f q is = let z : none ≡ at l = sym (taken o) ∙ is in never cc
      go false o none q is = inside (lightest_within (clear_at booked span.y0) (load_at booked sink) span.x0 (count_in span) l (sym (ways none o q) ∙ is))
      go false o (at k) q is = inside (lowest_within (λ l. eqb (load_at booked sink l) 0 && clear_at booked span.y0 l) span.x0 (count_in span) l (q ∙ sym (ways (at k) o q) ∙ is))

-- where no level is clear none is found
pub level_closed : (booked : List Entry) (span : Cell) (sink class : ℕ) → ((k : ℕ) → k < count_in span → clear_at booked span.y0 (level_no span k) ≡ false) → None ≡ found_of (level_by booked span sink class)
level_closed booked span sink class h = go (of_class booked class) refl
  where
    free : ℕ → Bool
    free l = eqb (load_at booked sink l) 0 && clear_at booked span.y0 l

    low : lowest free span.x0 (count_in span) ≡ none
    low = lowest_closed free span.x0 (count_in span) (λ k b. ap (λ t. eqb (load_at booked sink (level_no span k)) 0 && t) (h k b) ∙ and_false (eqb (load_at booked sink (level_no span k)) 0))

    light : lightest (clear_at booked span.y0) (load_at booked sink) span.x0 (count_in span) ≡ none
    light = lightest_closed (clear_at booked span.y0) (load_at booked sink) span.x0 (count_in span) h

    go : (t : Bool) → of_class booked class ≡ t → None ≡ found_of (level_by booked span sink class)
    go true o = level_taken booked span sink class (sym o) refl
    go false o = level_lightest booked span sink class (sym o) refl (ap found_of (sym low)) refl (ap found_of (sym light))

level_by_lem : (items : List (List ℕ)) (booked : List Entry) (i : ℕ) → level_at items booked i ≡ level_by booked (span_of items i) (sink_in items i) (class_in items i)
unfolding level_at level_by
level_by_lem items booked i = refl

-- The ends of a span, spread, tell what is clear of the entries.
pub ends_tell : (span : Cell) (booked : List Entry) (ends ends' : List ℕ) (count : ℕ) → span.y1 ≡ span.y0 + 2 → count ≡ count_in span → BlockedBy span booked ends → Spread count ends ends' → TellsClear span (clear_at booked span.y0) ends'
ends_tell span booked ends ends' count high counts b s k low =
    leb-not (get_or ends' k 0) (level_no span k) ∙ ap not (s.tells k (level_no span k) (omega (arith, low, counts)) ∙ b k low)
    ∙ (λ i. not (any (λ e. cells_overlap e.cell (record { x0 = level_no span k; x1 = level_no span k + 2; y0 = span.y0; y1 = high i })) booked))

-- ---- no end past the levels of a question
past_corner : (items : List (List ℕ)) (first i : ℕ) (ends : List ℕ) → first ≤ i → NoEndsPast (count_in (span_for items first i)) ends → NoEndsPast (count_in (span_of items i)) ends
past_corner items first i ends l past = subst (λ (s : Cell). NoEndsPast (count_in s) ends) (pick_false (ltb i first) no_cell (span_of items i) (le-ltb i first l)) past

-- ---- a level told is read again
pub told_back : (f : Found) → ((l : ℕ) → f ≡ at l → l < LEVELS_END) → level_in (held f) ≡ f
told_back none few = pick_false (ltb MISSING LEVELS_END) (at MISSING) none (le-ltb MISSING LEVELS_END (omega arith))
told_back (at l) few = pick_true (ltb l LEVELS_END) (at l) none (lt-ltb l LEVELS_END (few l refl))

-- ---- a question weighed: by the level found in its span, and told
module _ (items : List (List ℕ)) (p first : ℕ) (answers : List ℕ) where
  abbrev here : ℕ
  here = order_at items p

  abbrev answer : Found
  answer = level_at items (row_before items first answers p) here

  pub weighed_by : (notes notes' : List ℕ) (span : Cell) (found : Option ℕ) → span ≡ span_of items here → span.x1 ≤ MISSING
      → found ≡ found_of (level_by (row_before items first answers p) span (sink_in items here) (class_in items here))
      → length notes' ≡ length notes → NoEnds notes' → row_no notes' ≡ row_no notes → Noted (row_before items first answers p) (order_at items p - first) notes' → Weighed items p first answers notes notes' found
  weighed_by notes notes' span found spans top by long zeros rows noted =
      record { told = is; within = few; long = long; no_ends = zeros; rows = rows; noted = noted }
    where
      is : found ≡ found_of answer
      is = by ∙ ap (λ (s : Cell). found_of (level_by (row_before items first answers p) s (sink_in items here) (class_in items here))) spans ∙ sym (ap found_of (level_by_lem items (row_before items first answers p) here))

      few : (k : ℕ) → answer ≡ at k → k < LEVELS_END
      few k q = let h = level_within (row_before items first answers p) span (sink_in items here) (class_in items here) k (sym (ap found_of q) ∙ sym is ∙ by) in omega (arith, h, top)

  answer_held : (f : Found) → unwrap_or (found_of f) MISSING ≡ held f
  answer_held none = refl
  answer_held (at l) = refl

  -- what the calls of a question weighed ask for
  module _ {n : ℕ} {notes : List ℕ} (able : Turnable items p first n notes answers) where
    pub askable : Askable items here
    askable = able.row.asks p (omega arith) able.question

    pub spannable : (order_at items p < length items) × (corner_y items here < 4294967290)
    spannable = (able.row.ordered p (omega arith), askable.low)

    module _ (span : Cell) (spans : span ≡ span_of items here) where
      pub few_levels : count_in span ≤ 1000
      few_levels = let h = askable.few in let e = ap count_in spans in omega (arith, h, e)

      pub blockable : RowFits items p first answers × (count_in span ≤ length notes) × BlockedFor n span (row_before items first answers p) notes
      blockable =
          let h = few_levels in
          let l = able.noted.low.long in
          (able.row, omega (arith, h, l), subst (λ (s : Cell). BlockedFor n s (row_before items first answers p) notes) (sym spans) able.blocks)

      pub room_in : (count : ℕ) → count ≡ count_in span → (ends : List ℕ) → length ends ≡ length notes → count ≤ length ends
      room_in count counts ends long = let h = few_levels in let l = able.noted.low.long in omega (arith, h, l, long, counts)

  -- the ends tell of all of the row, are spread, and are cleared behind the decision
  module _ {n : ℕ} {notes : List ℕ} (able : Turnable items p first n notes answers) (span : Cell) (spans : span ≡ span_of items here) (count : ℕ) (counts : count ≡ count_in span)
      (ends₁ part : List ℕ) (long : length ends₁ ≡ length notes) (blocks : BlockedBy span (row_before items first answers p) ends₁) (rest : (k : ℕ) → count_in span ≤ k → get_or ends₁ k 0 ≡ get_or notes k 0)
      (spreads : Spread (length (take count ends₁)) (take count ends₁) part) where
    abbrev booked : List Entry
    booked = row_before items first answers p

    abbrev ends₂ : List ℕ
    ends₂ = part ++ drop count ends₁

    few : count_in span ≤ 1000
    few = few_levels able span spans

    spread₂ : Spread count ends₁ ends₂
    spread₂ = spread_in (room_in able span spans count counts ends₁ long) spreads

    past₂ : (k : ℕ) → count_in span ≤ k → get_or ends₂ k 0 ≡ get_or notes k 0
    past₂ k high = spread₂.rest k (omega (arith, counts, high)) ∙ rest k high

    noted₂ : Noted booked (here - first) ends₂
    noted₂ = noted_same (spread₂.long ∙ long) (λ k high. let h = few in past₂ k (omega (arith, h, high))) able.noted

    clear₂ : TellsClear span (clear_at booked span.y0) ends₂
    clear₂ = ends_tell span booked ends₁ ends₂ count (ap (λ (s : Cell). s.y1) spans ∙ sym (ap (λ (s : Cell). s.y0 + 2) spans)) counts blocks spread₂

    pub seekable : (count_in span ≤ 1000) × NotesFit ends₂ × (sink_in items here ≡ MISSING → ⊥) × (class_in items here < CLASSES)
    seekable = let m = able.row.few p (omega arith) able.question in (few, notes_fit (omega (arith, m)) noted₂, (askable able).has_sink, (askable able).class_few)

    module _ (found : Option ℕ) (ends₃ : List ℕ) (sought : Sought span (sink_in items here) (class_in items here) ends₂ ends₃ found) where
      pub room : count ≤ length ends₃
      room = room_in able span spans count counts ends₃ (sought.long ∙ spread₂.long ∙ long)

      module _ (zeros : List ℕ) (same : length zeros ≡ length (take count ends₃)) (none : (k : ℕ) → k < length (take count ends₃) → get_or zeros k 0 ≡ 0) where
        abbrev ends₄ : List ℕ
        ends₄ = zeros ++ drop count ends₃

        left : (i : ℕ) → count ≤ i → get_or ends₄ i 0 ≡ get_or ends₃ i 0
        left i high = part_rest ends₃ count zeros room same i high

        ended : NoEnds ends₄
        ended i few_i = go (ltb i count) refl
          where
            go : (t : Bool) → ltb i count ≡ t → get_or ends₄ i 0 ≡ 0
            go true e = let b = ltb-true i count e in let l = length-take-le count ends₃ room in part_first ends₃ count zeros room same i b ∙ none i (omega (arith, b, l))
            go false e =
                let b = ltb-false i count e in
                let f = ap count_in spans in
                left i b ∙ sought.ends i few_i ∙ past₂ i (omega (arith, b, counts)) ∙ able.past i (omega (arith, b, f, counts)) few_i

        pub weighed : span.x1 ≤ MISSING → Weighed items p first answers notes ends₄ found
        weighed top =
            let h = few in
            weighed_by notes ends₄ span found spans top (sought.tells booked (here - first) noted₂ clear₂)
            (part_all ends₃ count zeros room same ∙ sought.long ∙ spread₂.long ∙ long) ended (left 9192 (omega (arith, h, counts)) ∙ sought.rows ∙ past₂ 9192 (omega (arith, h)))
            (noted_same (part_all ends₃ count zeros room same) (λ i high. left i (omega (arith, h, high, counts))) (sought.noted booked (here - first) noted₂))

  -- ---- an item decided: a cell, or a question
  module _ {n : ℕ} {notes notes₁ : List ℕ} (able : Decidable items p first n notes answers) (begun : Begun n notes notes₁) where
    begun_noted : Noted (row_before items first answers p) (order_at items p - first) notes₁
    begun_noted = begun.noted (row_before items first answers p) (order_at items p - first) able.noted able.plain

    pub turnable : first ≤ order_at items p → Turnable items p first n notes₁ answers
    turnable l =
        let asks = able.row.asks p (omega arith) l in
        record {
          row = able.row;
          question = l;
          blocks = blocked_kept notes notes₁ begun.ends asks.few (able.blocks l);
          past = past_kept notes notes₁ begun.ends (past_corner items first here notes l able.past);
          noted = begun_noted;
        }

    pub decided_cell : (c : Cell) → order_at items p < first → cell_of c ≡ item_cell items (order_at items p) → Decided items p first notes answers notes₁ answers c
    decided_cell c l e =
        let b : ltb here first ≡ true = lt-ltb here first l in
        let is : entry_for items first here answer ≡ cell_entry items here = pick_true (ltb here first) (cell_entry items here) (corner_entry items here answer) b in
        record {
          cell = e ∙ sym (ap (λ (x : Entry). x.cell) is);
          long = begun.long;
          no_ends = ends_kept notes notes₁ begun.ends (λ k low. let none : count_in (span_for items first here) ≡ 0 = ap count_in (pick_true (ltb here first) no_cell (span_of items here) b) in able.past k (omega (arith, none)) low);
          rows = begun.rows;
          noted = subst (λ (x : Entry). Noted (x ∷ row_before items first answers p) (suc here - first) notes₁) (sym is) (noted_plain (cell_entry items here) (refl, refl) (noted_more (omega arith) begun_noted));
          told = sym (ap (λ t. answer_if t answers (here - first) (held answer)) b);
          within = λ h. absurd (omega (arith, h, l));
        }

  -- a level found is one that a corner can stand at
  pub level_fits : {notes notes₁ : List ℕ} {found : Option ℕ} → Weighed items p first answers notes notes₁ found → (l : ℕ) → found ≡ Some l → l < LEVELS_END
  level_fits w l e = w.within l (found_at answer l (sym e ∙ w.told))

  pub decided_corner : (notes notes₁ notes' : List ℕ) (c : Cell) (found : Option ℕ) (level : ℕ) → level ≡ unwrap_or found MISSING → first ≤ order_at items p → Weighed items p first answers notes notes₁ found
      → ((f : Found) → found ≡ found_of f → Laid (sink_in items (order_at items p)) (class_in items (order_at items p)) f notes₁ notes') → ((f : Found) → found ≡ found_of f → cell_of c ≡ corner_box (corner_y items (order_at items p)) f)
      → Decided items p first notes answers notes' (set answers (order_at items p - first) level) c
  decided_corner notes notes₁ notes' c found level kept l w lays cells =
      let b : ltb here first ≡ false = le-ltb here first l in
      let is : entry_for items first here answer ≡ corner_entry items here answer = pick_false (ltb here first) (cell_entry items here) (corner_entry items here answer) b in
      let laid = lays answer w.told in
      let rows = w.rows in
      let more = laid.rows in
      record {
        cell = cells answer w.told ∙ sym (ap (λ (x : Entry). x.cell) is);
        long = laid.long ∙ w.long;
        no_ends = ends_kept notes₁ notes' laid.ends w.no_ends;
        rows = omega (arith, rows, more);
        noted = noted_more (omega (arith, l)) (subst (λ (x : Entry). Noted (x ∷ row_before items first answers p) (suc (here - first)) notes') (sym is) (laid.noted (corner_y items here) (row_before items first answers p) (here - first) w.noted));
        told = ap (set answers (here - first)) (kept ∙ ap (λ r. unwrap_or r MISSING) w.told ∙ answer_held answer) ∙ sym (ap (λ t. answer_if t answers (here - first) (held answer)) b);
        within = λ _. w.within;
      }
