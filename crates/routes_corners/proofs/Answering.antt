-- The items listed can be put in order and answered, and their answers are the levels.
use Rattle.std.proofs.Common.{◌≡◌, ℕ, suc, ◌+◌, ◌-◌, ◌<◌, ◌≤◌, Bool, true, false, ltb, List, [], ◌∷◌, length, get_or, sym, refl, ap, ◌∙◌, subst, arith, ltb-false, ltb-true, eqb-true}
use borrow.Author.Tests.{not-false}
use Rattle.base.specs.Runs.{key_in, order_in, Ordered, SameButOrder}
use Rattle.base.proofs.Bools.{and_left, and_right}
use Rattle.board.specs.Board.{Board, field, given}
use Rattle.board.specs.Rows.{brick_cell}
use Rattle.board.specs.Tables.{nodes_alone}
use Rattle.routes.specs.Bus
use Rattle.routes.specs.Bus.{Rerouter}
use Rattle.routes.specs.Buffers.{rerouter_in}
use Rattle.routes.specs.Levels.{levels_in}
use Rattle.routes_beside.specs.Beside.{count_on, cell_in, BricksAskable}
use Rattle.routes_beside.proofs.Answered.{item_few}
use Rattle.routes_beside.proofs.Filled.{same_item}
use Rattle.routes_beside.proofs.Keys.{key_below}
use Rattle.routes_rows.specs.Booking.{order_at}
use Rattle.routes_rows.specs.Entries.{Askable, TurnsFit}
use Rattle.routes_rows.specs.Notes.{NOTES}
use Rattle.routes_rows.specs.Turning.{answers_after}
use Rattle.routes_turns.proofs.Answers.{answers_told}
use Rattle.routes_turns.specs.CornerItems.{is_row, is_inside, BesideItems, QuestionItem, QuestionItems, CornerItems, LevelsHeld}
use Rattle.routes_corners.specs.Answering.{DecideRoom}
use Rattle.routes_corners.specs.CornerTables.{EndsThere, firsts}
use Rattle.routes_corners.specs.Listing.{question_row, TurnsListed, ItemsStored, TurnsOf}
use Rattle.routes_corners.proofs.Writing.{length-firsts}

-- Column 7 is no part of what is listed.
module _ (b : Board) (class : ℕ → ℕ) (items items' : List (List ℕ)) (s : SameButOrder items items') where
  same_beside : (l : List Rerouter) → BesideItems b items l → BesideItems b items' l
  same_beside [] its = tt
  same_beside (k ∷ l) its = (
    same_item _ _ _ _ (get_or items (length b.nodes + length l) []) (get_or items' (length b.nodes + length l) []) (s.same (length b.nodes + length l)) its.0,
    same_beside l its.1,
  )

  same_question : (w i : ℕ) → QuestionItem b class items w i → QuestionItem b class items' w i
  same_question w i q =
      record {
        wire = q.wire;
        x = s.same i 0 (omega arith) ∙ q.x;
        end = s.same i 1 (omega arith) ∙ q.end;
        y = s.same i 2 (omega arith) ∙ q.y;
        sink = s.same i 3 (omega arith) ∙ q.sink;
        class_is = s.same i 4 (omega arith) ∙ q.class_is;
        key = s.same i 6 (omega arith) ∙ q.key;
        on_row = q.on_row;
        low = q.low;
        flat = q.flat;
        sink_small = q.sink_small;
        class_small = q.class_small;
      }

  same_questions : (first : ℕ) (l : List ℕ) → QuestionItems b class items first l → QuestionItems b class items' first l
  same_questions first [] qs = tt
  same_questions first (w ∷ l) qs = (same_question w (first + length l) qs.0, same_questions first l qs.1)

  same_corners : (bus : Bus.Bus) (facts : List (List ℕ)) (first : ℕ) (ws : List ℕ) → CornerItems b bus class facts items first ws → CornerItems b bus class facts items' first ws
  same_corners bus facts first ws held =
      record {
        first_is = held.first_is;
        bricks = λ i h. same_item _ _ _ _ (get_or items i []) (get_or items' i []) (s.same i) (held.bricks i h);
        beside = same_beside bus.rerouters held.beside;
        questions = same_questions first ws held.questions;
        classed = held.classed;
      }

module _ (nodes facts : List (List ℕ)) (classes list : List ℕ) (n : ℕ) (rerouters : List (List ℕ)) (m : ℕ) (items : List (List ℕ))
    (ok : BricksAskable nodes facts) (turns : TurnsListed nodes facts classes list n) (stored : ItemsStored nodes facts classes list n rerouters m items) where
  -- Every key is that of a row, or the one that does not come.
  brick_few : (i : ℕ) → i < length nodes → key_in items i ≤ length nodes
  brick_few i h =
      item_few (length nodes) (given (field nodes i 10)) _ _ (get_or items i []) (stored.bricks i h) (λ r. key_below nodes (field nodes i 10) (field facts i 0) (ok.in_range i h r).row)

  beside_few : (i : ℕ) → i < m → key_in items (length nodes + i) ≤ length nodes
  beside_few i h =
      item_few (length nodes) _ _ _ (get_or items (length nodes + i) []) (stored.beside i h)
      (λ r. key_below nodes k.page k.row
      (ltb-true k.row (count_on nodes k.page) (and_right (ltb k.page 64) (ltb k.row (count_on nodes k.page)) (and_left (is_row (nodes_alone nodes) k.page k.row) (is_inside k.x k.y) r))))
    where
      k : Rerouter
      k = rerouter_in (get_or rerouters i [])

  question_few : (q : ℕ) → q < n → key_in items (length nodes + m + q) ≤ length nodes
  question_few q h =
      let e = ap (λ r. get_or r 6 0) (stored.questions q h) in
      let f = brick_few (field facts (get_or list q 0) 3) (turns.there q h).ends.target in
      omega arith

  pub keys_few : (i : ℕ) → i < length nodes + m + n → key_in items i ≤ length nodes
  keys_few i h = go (ltb i (length nodes)) (ltb i (length nodes + m)) refl refl
    where
      go : (t u : Bool) → ltb i (length nodes) ≡ t → ltb i (length nodes + m) ≡ u → key_in items i ≤ length nodes
      go true u e f = brick_few i (ltb-true i (length nodes) e)
      go false true e f =
          let low = ltb-false i (length nodes) e in
          let high = ltb-true i (length nodes + m) f in
          let z : length nodes + (i - length nodes) ≡ i = omega arith in
          subst (λ (j : ℕ). key_in items j ≤ length nodes) z (beside_few (i - length nodes) (omega arith))
      go false false e f =
          let low = ltb-false i (length nodes + m) f in
          let z : length nodes + m + (i - (length nodes + m)) ≡ i = omega arith in
          subst (λ (j : ℕ). key_in items j ≤ length nodes) z (question_few (i - (length nodes + m)) (omega arith))

  module _ (items' : List (List ℕ)) (same : SameButOrder items items') where
    -- A question can be answered.
    askable : (q : ℕ) → q < n → Askable items' (length nodes + m + q)
    unfolding brick_cell
    askable q h =
        record {
          few = few_levels (field items' i 0) (field items' i 1) (field nodes t 8) (brick_cell (nodes_alone nodes) t).x1 begins ends (turns.wide q h);
          low = let e = column 2 (omega arith) in let f = turns.flat q h in omega arith;
          has_sink = λ z. let e = column 3 (omega arith) in let f = there.target in let g = ok.few in omega arith;
          class_few = let e = column 4 (omega arith) in let f = (turns.there q h).class in omega arith;
        }
      where
        i : ℕ
        i = length nodes + m + q

        w : ℕ
        w = get_or list q 0

        t : ℕ
        t = field facts w 3

        there : EndsThere nodes facts w
        there = (turns.there q h).ends

        column : (c : ℕ) → c < 7 → field items' i c ≡ get_or (question_row nodes facts classes items w) c 0
        column c l = same.same i c l ∙ ap (λ r. get_or r c 0) (stored.questions q h)

        cell : cell_in (get_or items t []) ≡ brick_cell (nodes_alone nodes) t
        cell = (stored.bricks t there.target).cell there.on_row

        begins : field items' i 0 ≡ field nodes t 8
        begins = column 0 (omega arith) ∙ ap (λ c. c.x0) cell

        ends : field items' i 1 ≡ (brick_cell (nodes_alone nodes) t).x1
        ends = column 1 (omega arith) ∙ ap (λ c. c.x1) cell

        few_levels : (x top x' top' : ℕ) → x ≡ x' → top ≡ top' → top' ≤ x' + 2000 → levels_in x top ≤ 1000
        few_levels x top x' top' e f l = omega arith

    module _ (count : ℕ) (most : count ≤ length nodes + m + n) (o : Ordered (key_in items) (order_in items') (length nodes) (length nodes + m + n) count) where
      pub turns_fit : (items₀ : List (List ℕ)) (answers : List ℕ) → DecideRoom nodes n rerouters m items₀ answers → length items' ≡ length items₀
          → (notes : List ℕ) → NOTES ≤ length notes → ((k : ℕ) → k < NOTES → get_or notes k 0 ≡ 0) → TurnsFit items' count (length nodes + m) notes answers
      turns_fit items₀ answers room long notes notes_long fresh =
          let few = room.few in
          let on_items = room.on_items in
          let on_answers = room.on_answers in
          record {
            inside = omega arith;
            countable = omega arith;
            ordered = λ p h. let w = o.within p h in omega arith;
            rising = λ p h e.
                o.next p h (sym (same.same (order_at items' p) 6 (omega arith)) ∙ eqb-true (key_in items' (order_at items' p)) (key_in items' (order_at items' (suc p))) (not-false _ e) ∙ same.same (order_at items' (suc p)) 6 (omega arith));
            asks = λ p h l.
                let w = o.within p h in
                let z : length nodes + m + (order_at items' p - (length nodes + m)) ≡ order_at items' p = omega arith in
                subst (λ (j : ℕ). Askable items' j) z (askable (order_at items' p - (length nodes + m)) (omega arith));
            there = λ p h l. let w = o.within p h in omega arith;
            few = λ p h l. let w = o.within p h in let f = turns.few in omega arith;
            notes_long = notes_long;
            fresh = fresh;
          }

      -- The answers are the levels.
      pub levels_held : (b : Board) (bus : Bus.Bus) (pages wires : List (List ℕ)) → TurnsOf b bus pages nodes wires facts classes list n rerouters m
          → CornerItems b bus (λ w. get_or classes w 0) facts items (length nodes + m) (firsts list n) → (answers answers' : List ℕ) → n ≤ length answers
          → answers' ≡ answers_after items' (length nodes + m) count answers → LevelsHeld b bus answers' (firsts list n)
      levels_held b bus pages wires of held answers answers' room e =
          let all : length (firsts list n) ≡ n = length-firsts list n in
          let keys : key_in items ≡ key_in items' = λ w i. sym (same.same i 6 (omega arith)) w in
          subst (λ (a : List ℕ). LevelsHeld b bus a (firsts list n)) (sym e)
          (answers_told b bus (λ w. get_or classes w 0) facts items' (length nodes + m) (firsts list n) of.board.nodes_known
          (same_corners b (λ w. get_or classes w 0) items items' same bus facts (length nodes + m) (firsts list n) held)
          (length nodes + m + n) count
          (subst (λ (ns : List (List ℕ)). Ordered (key_in items') (order_in items') (length ns) (length nodes + m + n) count) (sym of.board.nodes_are)
          (subst (λ (key : ℕ → ℕ). Ordered key (order_in items') (length nodes) (length nodes + m + n) count) keys o))
          (omega arith) answers (omega arith))
