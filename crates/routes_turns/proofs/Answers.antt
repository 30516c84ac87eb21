-- The answers of questions that come in the order of keys are the levels of the wires, each by the corners decided before it.
use Prim.Native.Nat.{ℕ, zero, suc, ◌+◌, ◌-◌, ◌≤◌, ◌<◌}
use native.Mathlib.Omega.{arith}
use mathlib.Core.Path.{◌≡◌, refl, ap, sym, ◌∙◌}
use mathlib.Core.Bool.{Bool, true, false}
use mathlib.Core.List.{List, [], ◌∷◌}
use lib.Dec.{eqb, ltb}
use lib.ListN.{length, get_or, set, length-set}
use lib.Seq.{get_or-set_same, get_or-set_other}
use borrow.Author.Tests.{eqb-true, eqb-false, ltb-true, ltb-false}
use Rattle.base.specs.Lists.{Found}
use Rattle.base.specs.Runs.{Ordered}
use Rattle.board.specs.Board.{Board, page_of}
use Rattle.board.specs.Rows.{row_of}
use Rattle.board.specs.Tables.{held, NodeFacts}
use Rattle.routes.specs.Bus.{Bus}
use Rattle.routes_beside.proofs.Keys.{key_below}
use Rattle.routes_rows.proofs.InTurn.{after, at_its_turn}
use Rattle.routes_rows.specs.Booking.{key_of, order_at, begins}
use Rattle.routes_rows.specs.Turning.{level_at, book_item, entries_on, entries_after, answer_if, answers_after}
use Rattle.routes_turns.specs.Deciding.{sink_of}
use Rattle.routes_turns.specs.CornerItems.{QuestionItems, CornerItems, LevelsHeld}
use Rattle.routes_turns.proofs.Cells.{entries_among, row_there}
use Rattle.routes_turns.proofs.Levels.{LevelsTold, levels_told}

module _ (items : List (List ℕ)) (first : ℕ) where
  -- The level of item i, by what the items before it have booked on its row.
  abbrev level_for : ℕ → Found
  level_for i = level_at items (entries_among items first (key_of items i) i) i

  after_same : (p : ℕ) → entries_after items first p ≡ after items [] (book_item items first) p
  unfolding entries_after
  after_same zero = refl
  after_same (suc p) = ap (λ l. book_item items first (order_at items p) (entries_on (begins items p) l)) (after_same p)

  module _ (keys n count : ℕ) (o : Ordered (key_of items) (order_at items) keys n count) where
    abbrev level_then : ℕ → Found
    level_then p = level_at items (entries_on (begins items p) (entries_after items first p)) (order_at items p)

    at_its_asking : (p : ℕ) → p < count → level_then p ≡ level_for (order_at items p)
    at_its_asking p h =
        ap (λ l. level_at items l (order_at items p)) (ap (entries_on (begins items p)) (after_same p) ∙ at_its_turn items [] (book_item items first) keys n count o p h)

    module _ (answers : List ℕ) (room : n - first ≤ length answers) where
      length_answers : (p : ℕ) → length (answers_after items first p answers) ≡ length answers
      unfolding answers_after
      length_answers zero = refl
      length_answers (suc p) = go (ltb (order_at items p) first) (length_answers p)
        where
          before : List ℕ
          before = answers_after items first p answers

          go : (t : Bool) → length before ≡ length answers → length (answer_if t before (order_at items p - first) (held (level_then p))) ≡ length answers
          go true ih = ih
          go false ih = length-set before (order_at items p - first) (held (level_then p)) ∙ ih

      -- The answer of a question that has come.
      came : (m : ℕ) → m ≤ count → (p : ℕ) → p < m → first ≤ order_at items p → get_or (answers_after items first m answers) (order_at items p - first) 0 ≡ held (level_for (order_at items p))
      unfolding answers_after
      came zero l p h q = absurd (omega arith)
      came (suc m) l p h q = go (ltb i first) (eqb j i) refl refl (λ s. came m (omega arith) p s q)
        where
          i : ℕ
          i = order_at items m

          j : ℕ
          j = order_at items p

          before : List ℕ
          before = answers_after items first m answers

          below : (j ≡ i → ⊥) → p < m
          below other = under p m h (λ z. other (ap (order_at items) z))
            where
              under : (q r : ℕ) → q < suc r → (q ≡ r → ⊥) → q < r
              under q r s apart = omega (arith, apart)

          go : (s t : Bool) → ltb i first ≡ s → eqb j i ≡ t → (p < m → get_or before (j - first) 0 ≡ held (level_for j))
              → get_or (answer_if s before (i - first) (held (level_then m))) (j - first) 0 ≡ held (level_for j)
          go true t d e ih = ih (below (λ z. let k = ltb-true i first d in omega arith))
          go false true d e ih =
              let same : j ≡ i = eqb-true j i e in
              let k = ltb-false i first d in
              let w : i < n = o.within m (omega arith) in
              let long = length_answers m in
              ap (λ a. get_or (set before (i - first) (held (level_then m))) (a - first) 0) same
              ∙ (get_or-set_same before (i - first) (held (level_then m)) 0 (omega arith) ∙ (ap held (at_its_asking m (omega arith)) ∙ ap (λ a. held (level_for a)) (sym same)))
          go false false d e ih =
              let other : j ≡ i → ⊥ = eqb-false j i e in
              let k = ltb-false i first d in
              get_or-set_other before (i - first) (j - first) (held (level_then m)) 0 (λ z. other (let u : j ≡ i = omega arith in u)) ∙ ih (below other)

      answer_there : (k : ℕ) → first + k < n → key_of items (first + k) < keys → get_or (answers_after items first count answers) k 0 ≡ held (level_for (first + k))
      answer_there k h below =
          let c = o.reaches (first + k) h below in
          let same : order_at items c.0 ≡ first + k = c.2 in
          ap (λ a. get_or (answers_after items first count answers) a 0) (let z : k ≡ order_at items c.0 - first = omega arith in z)
          ∙ (came count (omega arith) c.0 c.1 (omega arith) ∙ ap (λ a. held (level_for a)) same)

-- The items hold bricks, rerouters and questions, and come in the order of their keys: the answers are the levels.
pub answers_told : (b : Board) (bus : Bus) (class : ℕ → ℕ) (facts items : List (List ℕ)) (first : ℕ) (ws : List ℕ) → NodeFacts b facts → CornerItems b bus class facts items first ws
    → (n count : ℕ) → Ordered (key_of items) (order_at items) (length b.nodes) n count → n ≡ first + length ws → (answers : List ℕ) → n - first ≤ length answers
    → LevelsHeld b bus (answers_after items first count answers) ws
answers_told b bus class facts items first ws known held' n count o e answers room =
    go ws held'.questions (levels_told b bus class facts items first ws known held') (omega arith)
  where
    go : (l : List ℕ) → QuestionItems b class items first l → LevelsTold b bus items first l → first + length l ≤ n → LevelsHeld b bus (answers_after items first count answers) l
    go [] qs told h = tt
    go (w ∷ l) qs told h = (answer_there items first (length b.nodes) n count o answers room (length l) (omega arith) keyed ∙ ap held told.0, go l qs.1 told.1 (omega arith))
      where
        keyed : key_of items (first + length l) < length b.nodes
        keyed =
            let p : ℕ = page_of b (sink_of b w) in
            let r : ℕ = row_of b (sink_of b w) in
            let key = qs.0.key in
            let below = key_below b.nodes p r (row_there b p r qs.0.on_row) in
            omega arith
