-- What is booked on a row once questions are answered: its bricks, the bus's rerouters beside it, and the corners decided on it. So the levels that the code finds are
-- those by the corners decided before.
use Prim.Native.Nat.{ℕ, suc, ◌+◌, ◌*◌, ◌≤◌, ◌<◌}
use native.Mathlib.Omega.{arith}
use mathlib.Core.Path.{◌≡◌, refl, ap, sym, ◌∙◌}
use mathlib.Core.Bool.{Bool, true, false, not, ◌&&◌, ◌||◌}
use mathlib.Core.List.{List, [], ◌∷◌}
use lib.Dec.{eqb}
use lib.ListN.{length}
use borrow.Author.Tests.{eqb-true, eqb-false, eq-eqb, ne_eqb}
use Rattle.base.specs.Lists.{Found, none, at, any, keep}
use Rattle.base.proofs.Bools.{both}
use Rattle.base.proofs.Lists.{same_two}
use Rattle.board.specs.Board.{Board, x_of, y_of, page_of}
use Rattle.board.specs.Rows.{Cell, cells_overlap, rerouter_cell, brick_cell, row_of}
use Rattle.board.specs.Tables.{NodeFacts}
use Rattle.routes.specs.Levels.{STAGGER_STEP, levels_in, lowest, lightest}
use Rattle.routes.specs.Bus.{Bus, same_port, port_of, beside_row, clear_of_row}
use Rattle.routes.specs.Corners.{corner_rerouter}
use Rattle.routes_beside.specs.Beside.{key_at}
use Rattle.routes_beside.proofs.Keys.{key_tells}
use Rattle.routes_rows.proofs.InTurn.{step_if}
use Rattle.routes_rows.specs.Booking.{key_of}
use Rattle.routes_rows.specs.Turning.{Entry, corner_y, sink_in, class_in, clear_at, load_at, of_class, level_at, book_corner, book_item}
use Rattle.routes_turns.specs.Deciding.{Decided, decide_if, source_of, sink_of, corner_of, clear_by, load_by, muted_by, level_by, decided, turns_in}
use Rattle.routes_turns.specs.CornerItems.{is_row, QuestionItem, QuestionItems, CornerItems}
use Rattle.routes_turns.proofs.Searching.{levels_fit, lowest_same, lightest_same}
use Rattle.routes_turns.proofs.InRow.{within, decide_out, decide_in, level_row}
use Rattle.routes_turns.proofs.Cells.{or_none, entries_among, behind_cells, unloaded, classless, row_there, clear_first}

eqb_swap : (m n : ℕ) → eqb m n ≡ eqb n m
eqb_swap m n = go (eqb n m) refl
  where
    go : (t : Bool) → eqb n m ≡ t → eqb m n ≡ t
    go true e = eq-eqb m n (sym (eqb-true n m e))
    go false e = ne_eqb m n (λ z. eqb-false n m e (sym z))

or_joined : (s t r : Bool) → s || (t || r) ≡ (s || t) || r
or_joined true t r = refl
or_joined false t r = refl

not_or : (s t : Bool) → not (s || t) ≡ not t && not s
not_or true true = refl
not_or true false = refl
not_or false true = refl
not_or false false = refl

-- What holds of each of a list.
abbrev Each : {A : Type 0} → (A → Type 0) → List A → Type 0
Each P [] = Unit {0}
Each P (x ∷ l) = P x × Each P l

each_kept : {A : Type 0} (P : A → Type 0) (q : A → Bool) (l : List A) → Each P l → Each (λ x. (q x ≡ true) × P x) (keep q l)
each_kept P q [] all = tt
each_kept {A} P q (x ∷ l) all = go (q x) refl (each_kept P q l all.1)
  where
    go : (t : Bool) → q x ≡ t → Each (λ x. (q x ≡ true) × P x) (keep q l) → Each (λ x. (q x ≡ true) × P x) (elim t as (λ _. List A) [ true ↦ x ∷ keep q l | false ↦ keep q l ])
    go true e rest = ((e, all.0), rest)
    go false e rest = rest

any_same : {A : Type 0} (P : A → Type 0) (f g : A → Bool) → ((x : A) → P x → f x ≡ g x) → (l : List A) → Each P l → any f l ≡ any g l
any_same P f g same [] all = refl
any_same P f g same (x ∷ l) all = λ i. same x all.0 i || any_same P f g same l all.1 i

module _ (b : Board) (class : ℕ → ℕ) where
  -- A corner as it is booked; corners booked in front of others.
  abbrev corner_entry : Decided → Entry
  corner_entry d = record { cell = rerouter_cell d.level (y_of b (source_of b d.wire)); sink = sink_of b d.wire; class = class d.wire }

  abbrev onto : List Entry → List Decided → List Entry
  onto s [] = s
  onto s (d ∷ l) = corner_entry d ∷ onto s l

  any_onto : (f : Entry → Bool) (s : List Entry) (l : List Decided) → any f (onto s l) ≡ any (λ d. f (corner_entry d)) l || any f s
  any_onto f s [] = refl
  any_onto f s (d ∷ l) = ap (λ t. f (corner_entry d) || t) (any_onto f s l) ∙ or_joined (f (corner_entry d)) (any (λ d. f (corner_entry d)) l) (any f s)

  count_onto : (f : Entry → Bool) (s : List Entry) (l : List Decided) → length (keep f s) ≡ 0 → length (keep f (onto s l)) ≡ length (keep (λ d. f (corner_entry d)) l)
  count_onto f s [] h = h
  count_onto f s (d ∷ l) h = go (f (corner_entry d)) (count_onto f s l h)
    where
      E : List Entry
      E = keep f (onto s l)

      D : List Decided
      D = keep (λ d. f (corner_entry d)) l

      go : (t : Bool) → length E ≡ length D → length {A = Entry} (elim t [ true ↦ corner_entry d ∷ E | false ↦ E ]) ≡ length {A = Decided} (elim t [ true ↦ d ∷ D | false ↦ D ])
      go true e = ap suc e
      go false e = e

-- A corner's wire is one of the board's, and its sink stands in a row.
abbrev Small : Board → Decided → Type 0
Small b d = d.wire < length b.wires

abbrev On : Board → ℕ → ℕ → Decided → Type 0
On b p r d = (turns_in b p r d.wire ≡ true) × Small b d

-- The levels of wires in order, the newest first, each by those before it.
abbrev pub LevelsTold : Board → Bus → List (List ℕ) → ℕ → List ℕ → Type 0
LevelsTold b bus items first [] = Unit {0}
LevelsTold b bus items first (w ∷ l) =
    (level_at items (entries_among items first (key_of items (first + length l)) (first + length l)) (first + length l) ≡ level_by b bus (decided b bus l) w) × LevelsTold b bus items first l

module _ (b : Board) (bus : Bus) (class : ℕ → ℕ) (facts items : List (List ℕ)) (first : ℕ) (ws : List ℕ) (known : NodeFacts b facts) (held : CornerItems b bus class facts items first ws) where
  module _ (p r : ℕ) (there : is_row b p r ≡ true) where
    abbrev key : ℕ
    key = key_at b.nodes p r

    abbrev cells : List Entry
    cells = entries_among items first key first

    -- A question on the row, by the corners decided on it.
    module _ (w i : ℕ) (q : QuestionItem b class items w i) (here : turns_in b p r w ≡ true) (done : List Decided) (all : Each (On b p r) done) where
      abbrev E : List Entry
      E = onto b class cells done

      same_row : (page_of b (sink_of b w) ≡ p) × (row_of b (sink_of b w) ≡ r)
      unfolding turns_in
      same_row = same_two (page_of b (sink_of b w)) p (row_of b (sink_of b w)) r here

      clear_same : (level : ℕ) → level + STAGGER_STEP ≤ (brick_cell b (sink_of b w)).x1 → clear_at E (corner_y items i) level ≡ clear_by b bus done w level
      unfolding clear_by turns_in corner_rerouter
      clear_same level below =
          ap (λ y. clear_at E y level) q.y
          ∙ (ap not (any_onto b class stands cells done ∙ ap (λ t. t || any stands cells) (any_same (On b p r) (λ d. stands (corner_entry b class d)) (λ d. beside_row p r cell (corner_of b d)) one done all))
          ∙ (not_or (any (λ d. beside_row p r cell (corner_of b d)) done) (any stands cells)
          ∙ (ap (λ t. t && not (any (λ d. beside_row p r cell (corner_of b d)) done)) (clear_first b items first p r there bus class facts ws known held level (y_of b (source_of b w)) (let top = q.low in omega arith) q.flat)
          ∙ (λ j. let p' : ℕ = sym same_row.0 j in let r' : ℕ = sym same_row.1 j in clear_of_row b bus p' r' cell && not (any (λ d. beside_row p' r' cell (corner_of b d)) done)))))
        where
          cell : Cell
          cell = rerouter_cell level (y_of b (source_of b w))

          stands : Entry → Bool
          stands e = cells_overlap e.cell cell

          one : (d : Decided) → On b p r d → stands (corner_entry b class d) ≡ beside_row p r cell (corner_of b d)
          one d on = sym (ap (λ t. t && stands (corner_entry b class d)) on.0)

      load_same : (level : ℕ) → load_at E (sink_in items i) level ≡ load_by b done w level
      unfolding load_by
      load_same level =
          ap (λ s. load_at E s level) q.sink
          ∙ count_onto b class (λ e. eqb e.sink (sink_of b w) && eqb e.cell.x0 level) cells done (unloaded items first key (sink_of b w) level q.sink_small)

      muted_same : of_class E (class_in items i) ≡ muted_by b done w
      unfolding muted_by
      muted_same =
          ap (of_class E) q.class_is
          ∙ (any_onto b class (λ e. eqb e.class (class w)) cells done
          ∙ (ap (λ t. any (λ d. eqb (class d.wire) (class w)) done || t) (classless items first key (class w) q.class_small)
          ∙ (or_none (any (λ d. eqb (class d.wire) (class w)) done)
          ∙ any_same (On b p r) (λ d. eqb (class d.wire) (class w)) (λ d. same_port (port_of b w) (port_of b d.wire))
          (λ d on. eqb_swap (class d.wire) (class w) ∙ held.classed w d.wire q.wire on.1) done all)))

      level_same : level_at items E i ≡ level_by b bus done w
      unfolding level_at level_by brick_cell
      level_same =
          (λ j. let n : ℕ = levels_in (q.x j) (q.end j) in
          elim (muted_same j) as (λ _. Found) [
            | true ↦ none
            | false ↦
                elim (lowest (λ l. eqb (load_same l j) 0 && clear l) (q.x j) n) as (λ _. Found)
                [ at l ↦ at l | none ↦ lightest clear (λ l. load_same l j) (q.x j) n ]
          ])
          ∙ (λ j. elim (muted_by b done w) as (λ _. Found) [
            | true ↦ none
            | false ↦ elim (lowly j) as (λ _. Found) [ at l ↦ at l | none ↦ lightly j ]
          ])
        where
          x : ℕ
          x = x_of b (sink_of b w)

          top : ℕ
          top = (brick_cell b (sink_of b w)).x1

          clear : ℕ → Bool
          clear = clear_at E (corner_y items i)

          fits : x + STAGGER_STEP * levels_in x top ≤ top
          fits = levels_fit x top (omega arith)

          lowly : lowest (λ l. eqb (load_by b done w l) 0 && clear l) x (levels_in x top) ≡ lowest (λ l. eqb (load_by b done w l) 0 && clear_by b bus done w l) x (levels_in x top)
          lowly =
              lowest_same (λ l. eqb (load_by b done w l) 0 && clear l) (λ l. eqb (load_by b done w l) 0 && clear_by b bus done w l) top
              (λ l h. ap (λ t. eqb (load_by b done w l) 0 && t) (clear_same l h)) x (levels_in x top) fits

          lightly : lightest clear (load_by b done w) x (levels_in x top) ≡ lightest (clear_by b bus done w) (load_by b done w) x (levels_in x top)
          lightly = lightest_same clear (clear_by b bus done w) (load_by b done w) top clear_same x (levels_in x top) fits

      -- It books a corner where it has a level.
      books_same : (f : Found) → book_corner items i f E ≡ onto b class cells (decide_if f w done)
      books_same none = refl
      books_same (at l) = λ j. record { cell = rerouter_cell l (q.y j); sink = q.sink j; class = q.class_is j } ∷ E

    -- A question has the row's key where its sink stands there.
    key_turns : (w i : ℕ) → QuestionItem b class items w i → eqb (key_of items i) key ≡ turns_in b p r w
    unfolding turns_in
    key_turns w i q =
        ap (λ k. eqb k key) q.key
        ∙ key_tells b.nodes (page_of b (sink_of b w)) (row_of b (sink_of b w)) p r (row_there b (page_of b (sink_of b w)) (row_of b (sink_of b w)) q.on_row) (row_there b p r there)

    all_small : (l : List ℕ) → QuestionItems b class items first l → Each (Small b) (decided b bus l)
    unfolding decided
    all_small [] qs = tt
    all_small (w ∷ l) qs = go (level_by b bus (decided b bus l) w) (all_small l qs.1)
      where
        go : (f : Found) → Each (Small b) (decided b bus l) → Each (Small b) (decide_if f w (decided b bus l))
        go none rest = rest
        go (at level) rest = (qs.0.wire, rest)

    abbrev in_row : List ℕ → List Decided
    in_row l = keep (within b p r) (decided b bus l)

    all_on : (l : List ℕ) → QuestionItems b class items first l → Each (On b p r) (in_row l)
    all_on l qs = each_kept (Small b) (within b p r) (decided b bus l) (all_small l qs)

    -- What is booked before a question, and its level.
    level_on : (w : ℕ) (l : List ℕ) → QuestionItem b class items w (first + length l) → QuestionItems b class items first l → turns_in b p r w ≡ true
        → level_at items (onto b class cells (in_row l)) (first + length l) ≡ level_by b bus (decided b bus l) w
    level_on w l q qs here = level_same w (first + length l) q here (in_row l) (all_on l qs) ∙ sym (level_row b p r bus (decided b bus l) w here)

    entries_told : (l : List ℕ) → QuestionItems b class items first l → entries_among items first key (first + length l) ≡ onto b class cells (in_row l)
    unfolding decided
    entries_told [] qs = ap (entries_among items first key) (let z : first + 0 ≡ first = omega arith in z)
    entries_told (w ∷ l) qs =
        ap (entries_among items first key) (let z : first + suc (length l) ≡ suc i = omega arith in z)
        ∙ (ap (λ t. step_if items [] (book_item items first) t i before) (key_turns w i qs.0) ∙ go (turns_in b p r w) refl (entries_told l qs.1))
      where
        i : ℕ
        i = first + length l

        before : List Entry
        before = entries_among items first key i

        done : List Decided
        done = decided b bus l

        level : Found
        level = level_by b bus done w

        go : (t : Bool) → turns_in b p r w ≡ t → entries_among items first key i ≡ onto b class cells (in_row l)
            → step_if items [] (book_item items first) t i before ≡ onto b class cells (keep (within b p r) (decide_if level w done))
        go true e ih =
            behind_cells items first i before (omega arith)
            ∙ (ap (λ e. book_corner items i (level_at items e i) e) ih
            ∙ (ap (λ f. book_corner items i f (onto b class cells (in_row l))) (level_on w l qs.0 qs.1 e)
            ∙ (books_same w i qs.0 e (in_row l) (all_on l qs.1) level ∙ ap (onto b class cells) (sym (decide_in b p r level w done e)))))
        go false e ih = ih ∙ ap (onto b class cells) (sym (decide_out b p r level w done e))

    level_there : (w : ℕ) (l : List ℕ) → QuestionItem b class items w (first + length l) → QuestionItems b class items first l → turns_in b p r w ≡ true
        → level_at items (entries_among items first key (first + length l)) (first + length l) ≡ level_by b bus (decided b bus l) w
    level_there w l q qs here = ap (λ e. level_at items e (first + length l)) (entries_told l qs) ∙ level_on w l q qs here

  level_told : (w : ℕ) (l : List ℕ) → QuestionItem b class items w (first + length l) → QuestionItems b class items first l
      → level_at items (entries_among items first (key_of items (first + length l)) (first + length l)) (first + length l) ≡ level_by b bus (decided b bus l) w
  unfolding turns_in
  level_told w l q qs =
      ap (λ k. level_at items (entries_among items first k (first + length l)) (first + length l)) q.key
      ∙ level_there p r q.on_row w l q qs (both (eqb p p) (eqb r r) (eq-eqb p p refl) (eq-eqb r r refl))
    where
      p : ℕ
      p = page_of b (sink_of b w)

      r : ℕ
      r = row_of b (sink_of b w)

  all_told : (l : List ℕ) → QuestionItems b class items first l → LevelsTold b bus items first l
  all_told [] qs = tt
  all_told (w ∷ l) qs = (level_told w l qs.0 qs.1, all_told l qs.1)

  pub levels_told : LevelsTold b bus items first ws
  levels_told = all_told ws held.questions
