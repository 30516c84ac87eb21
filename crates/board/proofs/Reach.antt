-- How far an accepted board's rows reach.
use Prim.Native.Nat.{ℕ, zero, suc, ◌+◌, ◌*◌, ◌≤◌}
use native.Mathlib.Omega.{arith}
use mathlib.Core.Path.{◌≡◌, refl, ap}
use mathlib.Core.Logic.{◌⊎◌, inl, inr}
use mathlib.Core.Bool.{Bool, true, ◌&&◌}
use mathlib.Core.List.Memᴰ
use mathlib.Core.List.{List, [], ◌∷◌, map, Memᴰ}
use lib.Dec.{eqb, ltb}
use lib.ListN.{length}
use Rattle.sheet.specs.Table.{HALF_MOST}
use Rattle.base.specs.Lists.{keep, fold, upto, greatest}
use Rattle.board.specs.Board.{Board, page_of, down_of, has_row}
use Rattle.board.specs.Rows.{insert_down, position, downs_on, nodes_on, row_of, turned, size_x, brick_cell, bricks_in, row_top}
use Rattle.board.specs.Accepted.{COORDINATE_HIGH, Accepted}
use Rattle.base.proofs.Bools.{and_left}
use Rattle.base.proofs.Lists.{by_test, in_keep, in_map, count_le}

-- What every element of a list has.
abbrev pub All : {A : Type 0} → (A → Type 0) → List A → Type 0
All {A} P l = (x : A) → Memᴰ x l → P x

pub all_none : {A : Type 0} (P : A → Type 0) → All P []
all_none P x m = absurd (Memᴰ.not-nil m)

pub all_more : {A : Type 0} (P : A → Type 0) (y : A) (l : List A) → P y → All P l → All P (y ∷ l)
all_more {A} P y l h k x m = go (Memᴰ.cases_cons m)
  where
    go : (x ≡ y) ⊎ Memᴰ x l → P x
    go (inl e) = rw e h
    go (inr n) = k x n

-- The farthest that a brick of a row reaches.
abbrev pub REACH_MOST : ℕ
REACH_MOST = COORDINATE_HIGH + 2 * HALF_MOST

-- A row's number is at most the count of nodes.
position_most : (d : ℕ) (l : List ℕ) → position d l ≤ length l
position_most d [] = omega arith
position_most d (e ∷ l) = let ih = position_most d l in by_test (λ n. n ≤ suc (length l)) (eqb d e) (λ q. omega arith) (λ q. omega arith)

insert_most : (d : ℕ) (l : List ℕ) → length (insert_down d l) ≤ suc (length l)
insert_most d [] = omega arith
insert_most d (e ∷ l) =
    let ih = insert_most d l in
    by_test (λ (r : List ℕ). length r ≤ suc (suc (length l))) (ltb d e) (λ q. omega arith)
    (λ q. by_test (λ (r : List ℕ). length r ≤ suc (suc (length l))) (eqb d e) (λ s. omega arith) (λ s. omega arith))

module _ (b : Board) where
  downs_most : (l : List ℕ) → length (fold (λ ds i. insert_down (down_of b i) ds) [] l) ≤ length l
  downs_most [] = omega arith
  downs_most (i ∷ l) = omega (arith, insert_most (down_of b i) (fold (λ ds i. insert_down (down_of b i) ds) [] l), downs_most l)

  length-upto : (n : ℕ) → length (upto n) ≡ n
  length-upto zero = refl
  length-upto (suc n) = ap suc (length-upto n)

  pub row_most_lem : (i : ℕ) → row_of b i ≤ length b.nodes
  unfolding row_of downs_on nodes_on
  row_most_lem i =
      let on : ℕ → Bool = λ j. has_row b j && eqb (page_of b j) (page_of b i) in
      omega (
        arith,
        position_most (down_of b i) (downs_on b (page_of b i)),
        downs_most (keep on (upto (length b.nodes))),
        count_le on (upto (length b.nodes)),
        length-upto (length b.nodes),
      )

-- A brick that has a row reaches no farther than the most, and neither does a row.
greatest_most : (m d : ℕ) (l : List ℕ) → d ≤ m → All (λ x. x ≤ m) l → greatest d l ≤ m
greatest_most m d [] h k = h
greatest_most m d (x ∷ l) h k =
    let here = k x (Memᴰ.head refl) in omega (arith, greatest_most m x l here (λ y n. k y (Memᴰ.tail n)))

module _ (b : Board) (r : Accepted b) where
  pub end_most : (i : ℕ) → has_row b i ≡ true → (brick_cell b i).x1 ≤ REACH_MOST
  unfolding brick_cell
  end_most i h =
      let x = r.x i (r.row_placed i h) in
      let half : size_x b i ≤ 2 * HALF_MOST = by_test (λ n. 2 * n ≤ 2 * HALF_MOST) (turned b i) (λ e. omega (arith, r.half_y i)) (λ e. omega (arith, r.half_x i)) in
      omega arith

  pub top_most : (p row : ℕ) → row_top b p row ≤ REACH_MOST
  unfolding row_top bricks_in nodes_on
  top_most p row = greatest_most REACH_MOST 0 (map (λ i. (brick_cell b i).x1) (bricks_in b p row)) (omega arith) each
    where
      each : All (λ x. x ≤ REACH_MOST) (map (λ i. (brick_cell b i).x1) (bricks_in b p row))
      each x m =
          let i = in_map (λ j. (brick_cell b j).x1) (bricks_in b p row) m in
          let on = (in_keep (λ j. eqb (row_of b j) row) (nodes_on b p) i.1).0 in
          let has = and_left (has_row b i.0) _ (in_keep (λ j. has_row b j && eqb (page_of b j) p) (upto (length b.nodes)) on).1 in
          rw i.2 (end_most i.0 has)
