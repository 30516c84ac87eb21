-- The laws of the walk that finds refusals 4 to 6.
use Prim.Native.Nat.{ℕ, zero, suc, ◌+◌, ◌≤◌, ◌<◌, max}
use mathlib.Core.Path.{◌≡◌, refl, ap, ap₂, sym, subst, ◌∙◌}
use mathlib.Core.Bool.{Bool, true, false, not, ◌&&◌, ◌||◌}
use mathlib.Core.List.{List, []}
use native.Mathlib.Omega.{arith}
use lib.Dec.{eqb, leb}
use lib.ListN.{length, get_or, set, replicate, length-replicate}
use lib.Seq.{get_or-set_same, get_or-set_other}
use native.Mathlib.Nat.{add-suc}
use borrow.Author.Tests.{eqb-true, eqb-false}
use Rattle.sheet.specs.Table.{library_most}
use Rattle.sheet.specs.Reading.{rows_from}
use Rattle.sheet.specs.Answer.{row_from}
use Rattle.sheet.proofs.Accepted.{Accepted, zeros_at, accepted, accepted_more}
use Rattle.sheet.proofs.Along.{row_of_row, row_of_next}
use Rattle.base.specs.Lists.{Found, none, at, found, or_else, newest, oldest}
use Rattle.board.specs.Board.{Board, field, given, kind_chip, id_of, kind_of, chip_id, parent_of, inner_id}
use Rattle.board.specs.Refusals.{first_line, node_line, chip_line, inner_line, body_of, chip_at, inner_of, body_chip, node_twice, chip_twice, inner_twice, page_missing, parent_missing, chip_missing, row_unplaced, id_twice, not_there, unplaced, turned_away, board, judged_board}
use Rattle.board.specs.Index.{Index, BUCKETS, link, entry_of, found_of, column}
use Rattle.std.proofs.Common.{Result, Ok, Err}
use Rattle.std.specs.Prelude.{Option, Some, None}
use Rattle.std.specs.Bool.{then_some}
use Rattle.std.specs.Option.{option_or}
use Rattle.base.specs.declared.refusal.Reason.TheVariants.{IdTaken, NotThere, Unplaced}
use Rattle.base.specs.declared.refusal.Refusal.{Refusal}
use Rattle.base.specs.Refusal.{refusal}
use Rattle.sheet.specs.declared.Counts.{Counts}
use Rattle.sheet.specs.Answer.{counts_of}
use Rattle.board.specs.Walk.{verdict_of, fault_of, line_from, sheet_board, is_chip, Ids, Entered, Fresh, Ready, LineTwice, ChipsReady, InnerReady}
use Rattle.sheet.specs.declared.RowAt.{RowAt}
use Rattle.board.proofs.BySection.{Part, part_at, part_below, Sections, sections, in_order_lem}
use Rattle.base.proofs.Bools.{never}
use Rattle.board.proofs.Newest.{newest_same, link_below, column_at, column-length}

-- Entries -----------------------------------------------------------------------------------------------------------------------------------

pub entry_below : (ids : List (List ℕ)) (n id i : ℕ) → entry_of ids n id ≡ at i → i < n
unfolding entry_of
entry_below ids n id i e = let h = link_below (λ j. eqb (field ids j 0) id) n in let l = ap link e in omega arith

-- A column of numbers held, with one more.
pub set_same : (held : List ℕ) (at_entry_lem : ℕ → ℕ) (i v : ℕ) → ((j : ℕ) → j < i → get_or held j 0 ≡ at_entry_lem j) → i < length held → v ≡ at_entry_lem i
    → (j : ℕ) → j < suc i → get_or (set held i v) j 0 ≡ at_entry_lem j
set_same held at_entry_lem i v same room e j h = go (eqb j i) refl
  where
    go : (t : Bool) → eqb j i ≡ t → get_or (set held i v) j 0 ≡ at_entry_lem j
    go true is = let here = eqb-true j i is in rw here (get_or-set_same held i v 0 room ∙ e)
    go false is = let other = eqb-false j i is in get_or-set_other held i j v 0 other ∙ same j (omega (arith, other))

module _ {ids : List (List ℕ)} {n : ℕ} {id_at : ℕ → ℕ} where
  -- An index of a section's ids finds what the rules find.
  pub ids_entry : Ids ids n id_at → (id : ℕ) → entry_of ids n id ≡ newest (λ j. eqb (id_at j) id) n
  unfolding entry_of
  ids_entry x id = newest_same _ _ n (λ j h. ap (λ (v : ℕ). eqb v id) (x.same j h))

  pub ids_added : {ids' : List (List ℕ)} (id : ℕ) → Ids ids n id_at → n < length ids → column 0 ids' ≡ set (column 0 ids) n id → Index ids' (suc n) → id ≡ id_at n
      → Ids ids' (suc n) id_at
  ids_added {ids' = ids'} id x room added index same =
      record {
        index = index;
        same = λ j h.
            sym (column_at 0 ids' j) ∙ ap (λ (l : List ℕ). get_or l j 0) added
            ∙ set_same (column 0 ids) id_at n id (λ i l. column_at 0 ids i ∙ x.same i l) (let w = column-length 0 ids in omega arith) same j h;
      }

  pub ids_more : {ids' : List (List ℕ)} {line : ℕ} {r : Result (Unit {0}) Refusal} (id : ℕ) → Ids ids n id_at → n < length ids → Entered ids n id line r ids' → r ≡ Ok tt → id ≡ id_at n
      → Ids ids' (suc n) id_at
  ids_more id x room e fresh same = ids_added id x room (e.added fresh) (e.index fresh) same

-- What entering an id says.
module _ {ids : List (List ℕ)} {n id line : ℕ} {ids' : List (List ℕ)} where
  pub entered_there : Bool.true ≡ found (entry_of ids n id) → Entered ids n id line (Err (refusal IdTaken line)) ids'
  entered_there e = record { answer = rw (← e) refl; added = λ z. never cc; index = λ z. never cc }

  pub entered_new : Bool.false ≡ found (entry_of ids n id) → column 0 ids' ≡ set (column 0 ids) n id → Index ids' (suc n) → Entered ids n id line (Ok tt) ids'
  entered_new e added index = record { answer = rw (← e) refl; added = λ z. added; index = λ z. index }

  module _ {r : Result (Unit {0}) Refusal} (entered : Entered ids n id line r ids') where
    pub was_there : (e : Refusal) → r ≡ Err e → (found (entry_of ids n id) ≡ true) × (e ≡ refusal IdTaken line)
    was_there e is = go (found (entry_of ids n id)) refl (sym is ∙ entered.answer)
      where
        go : (t : Bool) → found (entry_of ids n id) ≡ t → Err e ≡ elim t as (λ x. Result (Unit {0}) Refusal) [ true ↦ Err (refusal IdTaken line) | false ↦ Ok tt ]
            → (found (entry_of ids n id) ≡ true) × (e ≡ refusal IdTaken line)
        go true t q = (t, cc)
        go false t q = never cc

    pub was_new : r ≡ Ok tt → found (entry_of ids n id) ≡ false
    was_new is = go (found (entry_of ids n id)) refl (sym is ∙ entered.answer)
      where
        go : (t : Bool) → found (entry_of ids n id) ≡ t → Ok tt ≡ elim t as (λ x. Result (Unit {0}) Refusal) [ true ↦ Err (refusal IdTaken line) | false ↦ Ok tt ] → found (entry_of ids n id) ≡ false
        go true t q = never cc
        go false t q = t

-- An array of zeros is an index without entries.
zero_rows : (m k c : ℕ) → field (replicate m (replicate {A = ℕ} k 0)) c 2 ≡ 0
zero_rows zero k c = refl
zero_rows (suc m) k zero = zeros_at k 2
zero_rows (suc m) k (suc c) = zero_rows m k c

pub fresh_zeros : (m k most : ℕ) → most ≤ m → BUCKETS ≤ m → Fresh (replicate m (replicate {A = ℕ} k 0)) most
fresh_zeros m k most hm hk =
    let size : length (replicate m (replicate {A = ℕ} k 0)) ≡ m = length-replicate m (replicate {A = ℕ} k 0) in
    record {
      index =
          record {
            room = omega arith;
            chained =
                record {
                  entries = omega arith;
                  width = let w = column-length 2 (replicate m (replicate {A = ℕ} k 0)) in omega arith;
                  head = λ j h. column_at 2 (replicate m (replicate {A = ℕ} k 0)) j ∙ zero_rows m k j;
                  next = λ i h. absurd (omega arith);
                };
          };
      room = omega arith;
    }

pub fresh_fewer : {ids : List (List ℕ)} {most : ℕ} (n : ℕ) → Fresh ids most → n ≤ most → Fresh ids n
fresh_fewer n f h = let r = f.room in record { index = f.index; room = omega arith }

-- First lines -------------------------------------------------------------------------------------------------------------------------------

module _ (p : ℕ → Bool) where
  oldest_pass : (n : ℕ) → oldest p n ≡ none → p n ≡ false → oldest p (suc n) ≡ none
  oldest_pass n e f = rw (e, f)

  oldest_here : (n : ℕ) → oldest p n ≡ none → p n ≡ true → oldest p (suc n) ≡ at n
  oldest_here n e f = rw (e, f)

  oldest_stays : (m n k : ℕ) → oldest p m ≡ at k → m ≤ n → oldest p n ≡ at k
  oldest_stays m zero k e h = let same : m ≡ 0 = omega arith in rw same at e
  oldest_stays m (suc n) k e h = go (eqb m (suc n)) refl (oldest_stays m n k e)
    where
      go : (t : Bool) → eqb m (suc n) ≡ t → (m ≤ n → oldest p n ≡ at k) → oldest p (suc n) ≡ at k
      go true is rec = let same : m ≡ suc n = eqb-true m (suc n) is in rw same at e
      go false is rec = let other = eqb-false m (suc n) is in rw (rec (omega (arith, other)))

or_assoc : (a b c : Option ℕ) → option_or (option_or a b) c ≡ option_or a (option_or b c)
or_assoc None b c = refl
or_assoc (Some l) b c = refl

found_or : (f g : Found) → found_of (or_else f g) ≡ option_or (found_of f) (found_of g)
found_or none g = refl
found_or (at l) g = refl

-- The line of the record found.
abbrev on_line_lem : ℕ → Found → Found
on_line_lem first none = none
on_line_lem first (at k) = at (line_from first k)

module _ (b : Board) (first : ℕ) (p : ℕ → Bool) where
  on_line : (n : ℕ) → first_line b (line_from first) p n ≡ on_line_lem first (oldest p n)
  on_line n = go (oldest p n)
    where
      go : (f : Found) → ◌≡◌ {A = Found} (elim f [ at k ↦ at (line_from first k) | none ↦ none ]) (on_line_lem first f)
      go none = refl
      go (at k) = refl

  first_more : (i : ℕ) → option_or (found_of (first_line b (line_from first) p i)) (then_some (p i) (line_from first i)) ≡ found_of (first_line b (line_from first) p (suc i))
  first_more i = rw (on_line i, on_line (suc i)) (go (oldest p i) (p i))
    where
      go : (f : Found) (t : Bool) → option_or (found_of (on_line_lem first f)) (then_some t (line_from first i))
          ≡ found_of (on_line_lem first (elim f as (λ x. Found) [ at k ↦ at k | none ↦ elim t [ true ↦ at i | false ↦ none ] ]))
      go none true = refl
      go none false = refl
      go (at k) t = refl

  -- One record more, after a line found before.
  pub first_step : (i : ℕ) (m₀ m m' : Option ℕ) → m' ≡ option_or m (then_some (p i) (line_from first i)) → m ≡ option_or m₀ (found_of (first_line b (line_from first) p i))
      → m' ≡ option_or m₀ (found_of (first_line b (line_from first) p (suc i)))
  first_step i m₀ m m' e e₀ =
      e ∙ ap (λ (k : Option ℕ). option_or k (then_some (p i) (line_from first i))) e₀
      ∙ or_assoc m₀ (found_of (first_line b (line_from first) p i)) (then_some (p i) (line_from first i)) ∙ ap (option_or m₀) (first_more i)

-- The walk along one section ------------------------------------------------------------------------------------------------------------------

-- i of the n records are behind, and no id stood there before.
pub record Walking (text : List ℕ) (lent : List (List ℕ)) (first n i : ℕ) (id_at : ℕ → ℕ) (repeats gone : ℕ → Bool) (missing₀ missing : Option ℕ) (place : ℕ) (ids : List (List ℕ)) : Type 0 where
  pub within : i ≤ n
  pub ready : Ready text lent (first + i) place
  pub entered : Ids ids i id_at
  pub once : oldest repeats i ≡ none
  pub so_far : missing ≡ option_or missing₀ (found_of (first_line (sheet_board text) (line_from first) gone i))

module _ (text : List ℕ) (lent : List (List ℕ)) (first n : ℕ) (id_at : ℕ → ℕ) (repeats gone : ℕ → Bool) (missing₀ : Option ℕ) where
  module _ (i : ℕ) (missing : Option ℕ) (place : ℕ) {ids : List (List ℕ)} (w : Walking text lent first n i id_at repeats gone missing₀ missing place ids) (h : i < n) where
    pub walking_more : (place' : ℕ) (missing' : Option ℕ) {ids' : List (List ℕ)} → repeats i ≡ false → Ready text lent (suc (first + i)) place' → Ids ids' (suc i) id_at
        → missing' ≡ option_or missing (then_some (gone i) (line_from first i))
        → Walking text lent first n (suc i) id_at repeats gone missing₀ missing' place' ids'
    walking_more place' missing' once' r x e =
        record {
          within = omega arith;
          ready = rw (add-suc first i) r;
          entered = x;
          once = oldest_pass repeats i w.once once';
          so_far = first_step (sheet_board text) first gone i missing₀ missing missing' e w.so_far;
        }

    pub walking_twice : (e : Refusal) → repeats i ≡ true → e ≡ refusal IdTaken (line_from first i) → LineTwice (sheet_board text) first n repeats e
    walking_twice e again is =
        let found_here : oldest repeats n ≡ at i = oldest_stays repeats (suc i) n i (oldest_here repeats i w.once again) (omega arith) in
        (line_from first i, on_line (sheet_board text) first repeats n ∙ ap (on_line_lem first) found_here, is)

-- What the sheet of a walk says of its rows.
ready_accepted : (text : List ℕ) {lent : List (List ℕ)} {k place : ℕ} → Ready text lent k place → Accepted library_most text (rows_from text)
ready_accepted text r = accepted_more r.most library_most text (rows_from text) r.within (accepted r.most text (rows_from text) r.accepted)

-- The next line.
pub ready_next : (text : List ℕ) {lent : List (List ℕ)} {k place : ℕ} → Ready text lent k place → k < length (rows_from text)
    → Ready text lent (suc k) (row_from text lent k place).next
ready_next text {lent} {k} {place} r h =
    record { most = r.most; within = r.within; accepted = r.accepted; line = row_of_next library_most text (rows_from text) lent (ready_accepted text r) k place r.line h }

-- The same place, as long as no line without a row is between.
pub ready_at : (text : List ℕ) {lent : List (List ℕ)} {k j place : ℕ} → max k (length lent) ≡ max j (length lent) → Ready text lent k place → Ready text lent j place
ready_at text e r =
    record { most = r.most; within = r.within; accepted = r.accepted; line = record { held = r.line.held; line = rw e at r.line.line } }

-- The row of the record at hand.
module _ (text : List ℕ) {lent : List (List ℕ)} {first place : ℕ} {x rest : List (List ℕ)} (p : Part (rows_from text) first x rest) (i : ℕ) (r : Ready text lent (first + i) place) (h : i < length x) where
  pub walk_row : (row_from text lent (first + i) place).row ≡ get_or x i []
  walk_row = row_of_row library_most text (rows_from text) lent (ready_accepted text r) (first + i) place r.line (part_below p i h) ∙ part_at p i h

  pub walk_next : Ready text lent (suc (first + i)) (row_from text lent (first + i) place).next
  walk_next = ready_next text r (part_below p i h)

pub walk_sections : (text : List ℕ) {lent : List (List ℕ)} {k place : ℕ} → Ready text lent k place → Sections library_most (rows_from text) (sheet_board text)
walk_sections text r = sections library_most text (rows_from text) (ready_accepted text r)

-- How many lines stand before a section's records, and how many these are.
module _ (text : List ℕ) {lent : List (List ℕ)} {first n place : ℕ} (r : Ready text lent first place) where
  pub nodes_few : (first ≡ length (sheet_board text).pages) × (n ≡ length (sheet_board text).nodes) → (first ≤ 64) × (n ≤ 4096)
  nodes_few is = let s = walk_sections text r in (omega (arith, is, s.few_pages), omega (arith, is, s.few_nodes))

  pub chips_few : {nodes : ℕ} {bodyIds : List (List ℕ)} {kinds : List ℕ} → ChipsReady (sheet_board text) first n nodes bodyIds kinds → (first ≤ 4160) × (n ≤ 256)
  chips_few is = let s = walk_sections text r in (omega (arith, is.behind, s.few_pages, s.few_nodes), omega (arith, is.count, s.few_chips))

  pub inner_few : {nodes chips : ℕ} {bodyIds chipIds : List (List ℕ)} → InnerReady (sheet_board text) first n nodes chips bodyIds chipIds → (first ≤ 4416) × (n ≤ 4096)
  inner_few is = let s = walk_sections text r in (omega (arith, is.behind, s.few_pages, s.few_nodes, s.few_chips), omega (arith, is.count, s.few_inner))

-- The line at hand has the record at hand, and the next line starts behind it.
module _ (text : List ℕ) {lent : List (List ℕ)} {first n i place : ℕ} (r : Ready text lent (first + i) place) (h : i < n) (line : RowAt) (e : line ≡ row_from text lent (first + i) place) where
  record_here : (x rest : List (List ℕ)) → Part (rows_from text) first x rest → n ≡ length x → (line.row ≡ get_or x i []) × Ready text lent (suc (first + i)) line.next
  record_here x rest p count = let inside : i < length x = omega (arith, h, count) in rw e (walk_row text p i r inside, walk_next text p i r inside)

  pub node_here : (first ≡ length (sheet_board text).pages) × (n ≡ length (sheet_board text).nodes)
      → (line.row ≡ get_or (sheet_board text).nodes i []) × Ready text lent (suc (first + i)) line.next
  node_here is = record_here _ (in_order_lem 2 4 (rows_from text)) (rw is.0 (walk_sections text r).nodes) is.1

  pub chip_here : {nodes : ℕ} {bodyIds : List (List ℕ)} {kinds : List ℕ} → ChipsReady (sheet_board text) first n nodes bodyIds kinds
      → (line.row ≡ get_or (sheet_board text).chips i []) × Ready text lent (suc (first + i)) line.next
  chip_here is = record_here _ (in_order_lem 3 3 (rows_from text)) (rw is.behind (walk_sections text r).chips) is.count

  pub inner_here : {nodes chips : ℕ} {bodyIds chipIds : List (List ℕ)} → InnerReady (sheet_board text) first n nodes chips bodyIds chipIds
      → (line.row ≡ get_or (sheet_board text).inner i []) × Ready text lent (suc (first + i)) line.next
  inner_here is = record_here _ (in_order_lem 4 2 (rows_from text)) (rw is.behind (walk_sections text r).inner) is.count

-- A node found is a Chip by the kinds held, or by the rules.
chips_same : (b : Board) (kinds : List ℕ) (n : ℕ) → ((j : ℕ) → j < n → get_or kinds j 0 ≡ kind_of b j) → (f : Found) → ((i : ℕ) → f ≡ at i → i < n) → is_chip kinds f ≡ body_chip b f
chips_same b kinds n same none h = refl
chips_same b kinds n same (at i) h = ap (λ (v : ℕ). eqb v kind_chip) (same i (h i refl))

-- What an index of a board's ids finds is what the rules find.
module _ (b : Board) {ids : List (List ℕ)} (n : ℕ) where
  pub body_entry : n ≡ length b.nodes → Ids ids n (id_of b) → (id : ℕ) → entry_of ids n id ≡ body_of b id
  unfolding body_of
  body_entry e x id = ids_entry x id ∙ ap (newest (λ j. eqb (id_of b j) id)) e

  pub chip_entry : n ≡ length b.chips → Ids ids n (chip_id b) → (id : ℕ) → entry_of ids n id ≡ chip_at b id (length b.chips)
  unfolding chip_at
  chip_entry e x id = ids_entry x id ∙ ap (newest (λ j. eqb (chip_id b j) id)) e

  pub inner_entry : n ≡ length b.inner → Ids ids n (inner_id b) → (id : ℕ) → entry_of ids n id ≡ inner_of b id
  unfolding inner_of
  inner_entry e x id = ids_entry x id ∙ ap (newest (λ j. eqb (inner_id b j) id)) e

-- The tests of one record, as its row has them ---------------------------------------------------------------------------------------------------

module _ (b : Board) (i : ℕ) (row : List ℕ) where
  module _ (at-node : row ≡ get_or b.nodes i []) where
    pub node_field : (k : ℕ) → get_or row k 0 ≡ field b.nodes i k
    node_field k = ap (λ (r : List ℕ). get_or r k 0) at-node

    pub node_repeats : {ids : List (List ℕ)} → Ids ids i (id_of b) → found (entry_of ids i (get_or row 1 0)) ≡ node_twice b i
    unfolding node_twice
    node_repeats x = ap found (ids_entry x (get_or row 1 0) ∙ ap (λ (v : ℕ). newest (λ j. eqb (id_of b j) v) i) (node_field 1))

    pub node_gone : (pages : ℕ) → pages ≡ length b.pages → (given (get_or row 10 0) && leb pages (get_or row 10 0)) ≡ page_missing b i
    unfolding page_missing
    node_gone pages e = rw (node_field 10, e)

    pub node_unplaced : (given (get_or row 10 0) && not (given (get_or row 8 0))) ≡ row_unplaced b i
    unfolding row_unplaced
    node_unplaced = rw (node_field 10, node_field 8)

  module _ (at-chip : row ≡ get_or b.chips i []) where
    pub chip_field : (k : ℕ) → get_or row k 0 ≡ field b.chips i k
    chip_field k = ap (λ (r : List ℕ). get_or r k 0) at-chip

    pub chip_repeats : {ids : List (List ℕ)} → Ids ids i (chip_id b) → found (entry_of ids i (get_or row 1 0)) ≡ chip_twice b i
    unfolding chip_twice chip_at
    chip_repeats x = ap found (ids_entry x (get_or row 1 0) ∙ ap (λ (v : ℕ). newest (λ j. eqb (chip_id b j) v) i) (chip_field 1))

    pub chip_gone : {ids bodyIds : List (List ℕ)} (kinds : List ℕ) (nodes : ℕ) → nodes ≡ length b.nodes → Ids ids i (chip_id b)
        → Ids bodyIds nodes (id_of b) → ((j : ℕ) → j < nodes → get_or kinds j 0 ≡ kind_of b j)
        → elim (given (get_or row 2 0)) as (λ t. Bool)
        [ true ↦ not (found (entry_of ids i (get_or row 2 0))) | false ↦ not (is_chip kinds (entry_of bodyIds nodes (get_or row 1 0))) ]
        ≡ parent_missing b i
    unfolding parent_missing chip_at
    chip_gone {ids = ids} {bodyIds = bodyIds} kinds nodes e x body same =
        let parent : not (found (entry_of ids i (get_or row 2 0))) ≡ not (found (newest (λ j. eqb (chip_id b j) (parent_of b i)) i)) =
        ap (λ (f : Found). not (found f)) (ids_entry x (get_or row 2 0) ∙ ap (λ (v : ℕ). newest (λ j. eqb (chip_id b j) v) i) (chip_field 2)) in
        let top : not (is_chip kinds (entry_of bodyIds nodes (get_or row 1 0))) ≡ not (body_chip b (body_of b (chip_id b i))) =
        ap not
        (chips_same b kinds nodes same (entry_of bodyIds nodes (get_or row 1 0)) (entry_below bodyIds nodes (get_or row 1 0))
        ∙ ap (body_chip b) (body_entry b nodes e body (get_or row 1 0) ∙ ap (body_of b) (chip_field 1))) in
        λ w. elim (given (chip_field 2 w)) [ true ↦ parent w | false ↦ top w ]

  module _ (at_inner : row ≡ get_or b.inner i []) where
    pub inner_field : (k : ℕ) → get_or row k 0 ≡ field b.inner i k
    inner_field k = ap (λ (r : List ℕ). get_or r k 0) at_inner

    pub inner_repeats : {ids bodyIds : List (List ℕ)} (nodes : ℕ) → nodes ≡ length b.nodes → Ids ids i (inner_id b)
        → Ids bodyIds nodes (id_of b)
        → (found (entry_of bodyIds nodes (get_or row 1 0)) || found (entry_of ids i (get_or row 1 0))) ≡ inner_twice b i
    unfolding inner_twice
    inner_repeats nodes e x body =
        ap₂ ◌||◌ (ap found (body_entry b nodes e body (get_or row 1 0) ∙ ap (body_of b) (inner_field 1)))
        (ap found (ids_entry x (get_or row 1 0) ∙ ap (λ (v : ℕ). newest (λ j. eqb (inner_id b j) v) i) (inner_field 1)))

    pub inner_gone : {chipIds : List (List ℕ)} (chips : ℕ) → chips ≡ length b.chips → Ids chipIds chips (chip_id b)
        → not (found (entry_of chipIds chips (get_or row 2 0))) ≡ chip_missing b i
    unfolding chip_missing
    inner_gone chips e x = ap (λ (f : Found). not (found f)) (chip_entry b chips e x (get_or row 2 0) ∙ ap (λ (v : ℕ). chip_at b v (length b.chips)) (inner_field 2))

-- The answer --------------------------------------------------------------------------------------------------------------------------------------

-- The counts that the walk goes by.
pub record Counted (b : Board) (c : Counts) : Type 0 where
  pub pages : c.pages ≡ length b.pages
  pub nodes : c.nodes ≡ length b.nodes
  pub chips : c.chips ≡ length b.chips
  pub inner : c.inner ≡ length b.inner

pub counted : (text : List ℕ) {lent : List (List ℕ)} {k place : ℕ} (c : Counts) → Ready text lent k place → c ≡ counts_of (rows_from text) → Counted (sheet_board text) c
counted text c r e =
    let same = e ∙ (walk_sections text r).counts in
    record {
      pages = ap (λ (x : Counts). x.pages) same;
      nodes = ap (λ (x : Counts). x.nodes) same;
      chips = ap (λ (x : Counts). x.chips) same;
      inner = ap (λ (x : Counts). x.inner) same;
    }

pub counts_few : (text : List ℕ) {lent : List (List ℕ)} {k place : ℕ} (c : Counts) → Ready text lent k place → c ≡ counts_of (rows_from text)
    → (c.pages ≤ 64) × (c.nodes ≤ 4096) × (c.chips ≤ 256) × (c.inner ≤ 4096)
counts_few text c r e =
    let n = counted text c r e in
    let s = walk_sections text r in
    (omega (arith, n.pages, s.few_pages), omega (arith, n.nodes, s.few_nodes), omega (arith, n.chips, s.few_chips), omega (arith, n.inner, s.few_inner))

-- 4 before 5 before 6, by the first lines of each.
abbrev pub fault_by : Found → Found → Found → Result (Unit {0}) Refusal
fault_by (at line) g h = Err (refusal IdTaken line)
fault_by none g h = verdict_of (found_of g) (found_of h)

judged_by_lem : (b : Board) (f g h : Found)
    → fault_of (elim f [ at l ↦ turned_away (refusal IdTaken l) | none ↦ elim g [ at l ↦ turned_away (refusal NotThere l) | none ↦ elim h [ at l ↦ turned_away (refusal Unplaced l) | none ↦ board b ] ] ])
    ≡ fault_by f g h
judged_by_lem b (at l) g h = refl
judged_by_lem b none (at l) h = refl
judged_by_lem b none none (at l) = refl
judged_by_lem b none none none = refl

module _ (b : Board) (c : Counts) (e : Counted b c) where
  -- The first line of a fault among the nodes, the chips and the nodes inside chips.
  abbrev pub nodes_first : (ℕ → Bool) → Found
  nodes_first p = first_line b (line_from c.pages) p c.nodes

  abbrev pub chips_first : (ℕ → Bool) → Found
  chips_first p = first_line b (line_from (c.pages + c.nodes)) p c.chips

  abbrev pub inner_first : (ℕ → Bool) → Found
  inner_first p = first_line b (line_from (c.pages + c.nodes + c.chips)) p c.inner

  nodes_line : (p : ℕ → Bool) → first_line b (node_line b) p (length b.nodes) ≡ nodes_first p
  nodes_line p w = first_line b (line_from (sym e.pages w)) p (sym e.nodes w)

  chips_line : (p : ℕ → Bool) → first_line b (chip_line b) p (length b.chips) ≡ chips_first p
  chips_line p w = first_line b (line_from (sym e.pages w + sym e.nodes w)) p (sym e.chips w)

  inner_line_lem : (p : ℕ → Bool) → first_line b (inner_line b) p (length b.inner) ≡ inner_first p
  inner_line_lem p w = first_line b (line_from (sym e.pages w + sym e.nodes w + sym e.chips w)) p (sym e.inner w)

  -- The first line of a fault among all of them.
  abbrev pub any_first : (p q r : ℕ → Bool) → Found
  any_first p q r = or_else (nodes_first p) (or_else (chips_first q) (inner_first r))

  any_line : (p q r : ℕ → Bool)
      → or_else (first_line b (node_line b) p (length b.nodes)) (or_else (first_line b (chip_line b) q (length b.chips)) (first_line b (inner_line b) r (length b.inner))) ≡ any_first p q r
  any_line p q r w = or_else (nodes_line p w) (or_else (chips_line q w) (inner_line_lem r w))

  pub fault_by_lem :
      fault_of (judged_board b)
      ≡ fault_by (any_first (node_twice b) (chip_twice b) (inner_twice b)) (any_first (page_missing b) (parent_missing b) (chip_missing b)) (nodes_first (row_unplaced b))
  unfolding judged_board id_twice not_there unplaced
  fault_by_lem =
      judged_by_lem b (id_twice b) (not_there b) (unplaced b)
      ∙ (λ w. fault_by (any_line (node_twice b) (chip_twice b) (inner_twice b) w) (any_line (page_missing b) (parent_missing b) (chip_missing b) w) (nodes_line (row_unplaced b) w))

  -- What each outcome of the walk says.
  fault_four : (l : ℕ) → any_first (node_twice b) (chip_twice b) (inner_twice b) ≡ at l → Err (refusal IdTaken l) ≡ fault_of (judged_board b)
  fault_four l same =
      sym (fault_by_lem ∙ ap (λ (f : Found). fault_by f (any_first (page_missing b) (parent_missing b) (chip_missing b)) (nodes_first (row_unplaced b))) same)

  pub fault_nodes : (r : Refusal) → LineTwice b c.pages c.nodes (node_twice b) r → Err r ≡ fault_of (judged_board b)
  fault_nodes r t = ap Err t.2 ∙ fault_four t.0 (λ w. or_else (t.1 w) (or_else (chips_first (chip_twice b)) (inner_first (inner_twice b))))

  module _ (none₁ : nodes_first (node_twice b) ≡ none) where
    pub fault_chips : (r : Refusal) → LineTwice b (c.pages + c.nodes) c.chips (chip_twice b) r → Err r ≡ fault_of (judged_board b)
    fault_chips r t = ap Err t.2 ∙ fault_four t.0 (λ w. or_else (none₁ w) (or_else (t.1 w) (inner_first (inner_twice b))))

    module _ (none₂ : chips_first (chip_twice b) ≡ none) where
      pub fault_inner : (r : Refusal) → LineTwice b (c.pages + c.nodes + c.chips) c.inner (inner_twice b) r → Err r ≡ fault_of (judged_board b)
      fault_inner r t = ap Err t.2 ∙ fault_four t.0 (λ w. or_else (none₁ w) (or_else (none₂ w) (t.1 w)))

      pub fault_rest : (m₁ m₂ m₃ u : Option ℕ) → inner_first (inner_twice b) ≡ none → m₁ ≡ found_of (nodes_first (page_missing b))
          → m₂ ≡ option_or m₁ (found_of (chips_first (parent_missing b))) → m₃ ≡ option_or m₂ (found_of (inner_first (chip_missing b))) → u ≡ found_of (nodes_first (row_unplaced b))
          → verdict_of m₃ u ≡ fault_of (judged_board b)
      fault_rest m₁ m₂ m₃ u none₃ e₁ e₂ e₃ eu =
          let p : Found = nodes_first (page_missing b) in
          let q : Found = chips_first (parent_missing b) in
          let r : Found = inner_first (chip_missing b) in
          let missing : m₃ ≡ found_of (or_else p (or_else q r)) =
          e₃ ∙ (λ w. option_or ((e₂ ∙ (λ v. option_or (e₁ v) (found_of q))) w) (found_of r)) ∙ or_assoc (found_of p) (found_of q) (found_of r)
          ∙ ap (option_or (found_of p)) (sym (found_or q r)) ∙ sym (found_or p (or_else q r)) in
          let once : any_first (node_twice b) (chip_twice b) (inner_twice b) ≡ none = λ w. or_else (none₁ w) (or_else (none₂ w) (none₃ w)) in
          (λ w. verdict_of (missing w) (eu w)) ∙ sym (fault_by_lem ∙ ap (λ (f : Found). fault_by f (or_else p (or_else q r)) (nodes_first (row_unplaced b))) once)

pub ids_at : {ids : List (List ℕ)} {n m : ℕ} {id_at : ℕ → ℕ} → n ≡ m → Ids ids n id_at → Ids ids m id_at
ids_at {ids} {id_at = id_at} e x = subst (λ (k : ℕ). Ids ids k id_at) e x
