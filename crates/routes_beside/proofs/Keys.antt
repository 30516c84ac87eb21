-- Keys: those of rows that there are lie below the count of nodes, and tell the rows apart.
use Prim.Native.Nat.{ℕ, zero, suc, ◌+◌, ◌≤◌, ◌<◌}
use native.Mathlib.Omega.{arith}
use mathlib.Core.Path.{◌≡◌, refl, ap, sym, ◌∙◌}
use mathlib.Core.Bool.{Bool, true, false, ◌&&◌}
use mathlib.Core.List.{List, [], ◌∷◌}
use lib.Dec.{eqb, ltb}
use lib.ListN.{length}
use borrow.Author.Tests.{ltb-true, ltb-false, eqb-true, eqb-false, eq-eqb, ne_eqb}
use Rattle.base.specs.Lists.{keep, upto}
use Rattle.board.specs.Board.{Board, field, given, has_row, page_of}
use Rattle.board.specs.Rows.{nodes_on, row_of}
use Rattle.board.specs.Tables.{flag}
use Rattle.board_groups.proofs.RowLaws.{row_on_page_lem}
use Rattle.routes_beside.specs.Beside.{count_on, rows_before, key_at}

-- A row's number is below the count of nodes with a row on its page.
pub row_below_page : (b : Board) (i : ℕ) → i < length b.nodes → has_row b i ≡ true → row_of b i < length (nodes_on b (page_of b i))
row_below_page b i h r = row_on_page_lem b i (record { there_is = h; row = r; page = refl })

-- Counting by a test that is one of two others, never both.
pub count_step : (f : ℕ → Bool) (i : ℕ) (l : List ℕ) → length (keep f (i ∷ l)) ≡ flag (f i) + length (keep f l)
count_step f i l = go (f i)
  where
    go : (t : Bool) → length {A = ℕ} (elim t [ true ↦ i ∷ keep f l | false ↦ keep f l ]) ≡ flag t + length (keep f l)
    go true = omega arith
    go false = omega arith

count_split : (f g h : ℕ → Bool) → ((i : ℕ) → flag (h i) ≡ flag (f i) + flag (g i)) → (l : List ℕ) → length (keep h l) ≡ length (keep f l) + length (keep g l)
count_split f g h e [] = refl
count_split f g h e (i ∷ l) =
    let rest = count_split f g h e l in
    let one = e i in
    omega (arith, count_step f i l, count_step g i l, count_step h i l)

pub count_most_lem : (f : ℕ → Bool) (n : ℕ) → length (keep f (upto n)) ≤ n
count_most_lem f zero = omega arith
count_most_lem f (suc n) = go (f n) (count_step f n (upto n)) (count_most_lem f n)
  where
    go : (t : Bool) → length (keep f (n ∷ upto n)) ≡ flag t + length (keep f (upto n)) → length (keep f (upto n)) ≤ n → length (keep f (n ∷ upto n)) ≤ suc n
    go true e h = omega arith
    go false e h = omega arith

one_of_two : (t : Bool) (v p : ℕ) → flag (t && ltb v (suc p)) ≡ flag (t && ltb v p) + flag (t && eqb v p)
one_of_two false v p = refl
one_of_two true v p = go (ltb v (suc p)) (ltb v p) (eqb v p) refl refl refl
  where
    go : (r s t : Bool) → ltb v (suc p) ≡ r → ltb v p ≡ s → eqb v p ≡ t → flag r ≡ flag s + flag t
    go true true true x y z = absurd (omega (arith, ltb-true v p y, eqb-true v p z))
    go true true false x y z = refl
    go true false true x y z = refl
    go true false false x y z = absurd (omega (arith, ltb-true v (suc p) x, ltb-false v p y, eqb-false v p z))
    go false true t x y z = absurd (omega (arith, ltb-false v (suc p) x, ltb-true v p y))
    go false false true x y z = absurd (omega (arith, ltb-false v (suc p) x, eqb-true v p z))
    go false false false x y z = refl

module _ (nodes : List (List ℕ)) where
  pub before_zero : rows_before nodes 0 ≡ 0
  unfolding rows_before
  before_zero = go (upto (length nodes))
    where
      at_none : (t : Bool) (v : ℕ) → flag (t && ltb v 0) ≡ 0
      at_none true v = ap flag (nothing (ltb v 0) refl)
        where
          nothing : (s : Bool) → ltb v 0 ≡ s → s ≡ false
          nothing true e = absurd (omega (arith, ltb-true v 0 e))
          nothing false e = refl
      at_none false v = refl

      go : (l : List ℕ) → length (keep (λ i. given (field nodes i 10) && ltb (field nodes i 10) 0) l) ≡ 0
      go [] = refl
      go (i ∷ l) =
          let rest = go l in
          let one = at_none (given (field nodes i 10)) (field nodes i 10) in
          omega (arith, count_step (λ j. given (field nodes j 10) && ltb (field nodes j 10) 0) i l)

  pub before_next : (p : ℕ) → rows_before nodes (suc p) ≡ rows_before nodes p + count_on nodes p
  unfolding rows_before nodes_on
  before_next p =
      count_split (λ i. given (field nodes i 10) && ltb (field nodes i 10) p) (λ i. given (field nodes i 10) && eqb (field nodes i 10) p) (λ i. given (field nodes i 10) && ltb (field nodes i 10) (suc p))
      (λ i. one_of_two (given (field nodes i 10)) (field nodes i 10) p) (upto (length nodes))

  pub before_most : (p : ℕ) → rows_before nodes p ≤ length nodes
  unfolding rows_before
  before_most p = count_most_lem (λ i. given (field nodes i 10) && ltb (field nodes i 10) p) (length nodes)

  before_rises : (p q : ℕ) → p < q → rows_before nodes p + count_on nodes p ≤ rows_before nodes q
  before_rises p zero h = absurd (omega arith)
  before_rises p (suc q) h = go (eqb p q) refl (before_rises p q)
    where
      go : (t : Bool) → eqb p q ≡ t → (p < q → rows_before nodes p + count_on nodes p ≤ rows_before nodes q) → rows_before nodes p + count_on nodes p ≤ rows_before nodes (suc q)
      go true e ih =
          let same : rows_before nodes p + count_on nodes p ≡ rows_before nodes q + count_on nodes q = ap (λ r. rows_before nodes r + count_on nodes r) (eqb-true p q e) in
          omega (arith, before_next q)
      go false e ih = let l : p < q = omega (arith, eqb-false p q e) in let h = ih l in omega (arith, before_next q)

  pub key_below : (p r : ℕ) → r < count_on nodes p → key_at nodes p r < length nodes
  key_below p r h = omega (arith, before_next p, before_most (suc p))

  -- The keys of two rows are equal where their pages and their numbers are.
  pub key_tells : (p r q s : ℕ) → r < count_on nodes p → s < count_on nodes q → eqb (key_at nodes p r) (key_at nodes q s) ≡ eqb p q && eqb r s
  key_tells p r q s h k = go (ltb p q) (ltb q p) refl refl
    where
      apart : (key_at nodes p r ≡ key_at nodes q s → ⊥) → (p ≡ q → ⊥) → eqb (key_at nodes p r) (key_at nodes q s) ≡ eqb p q && eqb r s
      apart x y = ne_eqb (key_at nodes p r) (key_at nodes q s) x ∙ sym (ap (λ t. t && eqb r s) (ne_eqb p q y))

      rows : (t : Bool) → eqb r s ≡ t → p ≡ q → eqb (key_at nodes p r) (key_at nodes q s) ≡ t
      rows true e same = eq-eqb (key_at nodes p r) (key_at nodes q s) (λ i. key_at nodes (same i) (eqb-true r s e i))
      rows false e same =
          ne_eqb (key_at nodes p r) (key_at nodes q s) (λ z. eqb-false r s e (let b : rows_before nodes p ≡ rows_before nodes q = ap (rows_before nodes) same in omega arith))

      go : (t u : Bool) → ltb p q ≡ t → ltb q p ≡ u → eqb (key_at nodes p r) (key_at nodes q s) ≡ eqb p q && eqb r s
      go true u x y =
          let l = ltb-true p q x in apart (λ z. let b = before_rises p q l in omega arith) (λ z. omega arith)
      go false true x y =
          let l = ltb-true q p y in apart (λ z. let b = before_rises q p l in omega arith) (λ z. omega arith)
      go false false x y =
          let same : p ≡ q = omega (arith, ltb-false p q x, ltb-false q p y) in
          rows (eqb r s) refl same ∙ sym (ap (λ t. t && eqb r s) (eq-eqb p q same))
