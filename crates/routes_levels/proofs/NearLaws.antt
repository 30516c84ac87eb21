-- Rows brought nearly into order by packed keys: sorted all the way they are the same, since no two different rows are equals of the order.
use Prim.Native.Nat.{ℕ, zero, suc, ◌%◌, ◌≤◌, ◌<◌}
use native.Mathlib.Omega.{arith}
use mathlib.Core.Path.{◌≡◌, refl, sym, ap, ◌∙◌}
use mathlib.Core.Bool.{Bool, true, false}
use mathlib.Core.List.{List, [], ◌∷◌, map}
use lib.Dec.{ltb}
use lib.ListN.{length, get_or, take}
use lib.Seq.{take-suc, take_all}
use Rattle.base.specs.Sort.{inserted, sorted, lex_less, sorted_rows, sorted_keys}
use Rattle.base.proofs.Bools.{clash}
use Rattle.base.proofs.Members.{mem_at, at_mem, sorted_from_lem, length-sorted, lex_alone}
use Rattle.base.proofs.SortLaws.{Order, Compared, below, same, above, compared, inserted_past, inserted_here, lex_lt, lex_eq, lex_order}
use Rattle.base.proofs.Views.{map_snoc}
use Rattle.routes_levels.specs.Laying.{WIRES_MOST, row_at, Numbered}

-- A sort does not ask in what order it is given its elements, where elements neither of which is less are the same.
module _ {A : Type 0} (less : A → A → Bool) (o : Order less) (alone : (x : A) → less x x ≡ false)
    (total : (x y : A) → less x y ≡ false → less y x ≡ false → x ≡ y) where
  -- two elements that both go to the front
  front_swap : (x y : A) (l : List A) (s t : Bool) → less y x ≡ s → less x y ≡ t → inserted less x l ≡ x ∷ l → inserted less y l ≡ y ∷ l
      → inserted less x (y ∷ l) ≡ inserted less y (x ∷ l)
  front_swap x y l true true e f p q = clash (o.through x y x f e) (alone x)
  front_swap x y l true false e f p q = rw (inserted_past less x y l e, inserted_here less y x l f, p)
  front_swap x y l false true e f p q = rw (inserted_here less x y l e, inserted_past less y x l f, q)
  front_swap x y l false false e f p q = let same-one : x ≡ y = total x y f e in λ w. inserted less (same-one w) (sym same-one w ∷ l)

  -- z goes before x and not before y, so y goes before x
  between : (x y z : A) → less z x ≡ true → less z y ≡ false → less y x ≡ true
  between x y z h k = go (less y x) refl
    where
      go : (t : Bool) → less y x ≡ t → less y x ≡ true
      go true e = e
      go false e = clash (o.under z y x h e) k

  -- past z goes x, and y does not
  past_one : (x y z : A) (l : List A) → less z x ≡ true → less z y ≡ false
      → inserted less x (inserted less y (z ∷ l)) ≡ inserted less y (inserted less x (z ∷ l))
  past_one x y z l h k =
      rw (inserted_here less y z l k, inserted_past less x z l h, inserted_past less x y (z ∷ l) (between x y z h k), inserted_past less x z l h)
      (sym (inserted_here less y z (inserted less x l) k))

  swapped : (x y : A) (l : List A) → inserted less x (inserted less y l) ≡ inserted less y (inserted less x l)
  unfolding inserted
  swapped x y [] = front_swap x y [] (less y x) (less x y) refl refl refl refl
  swapped x y (z ∷ l) = go (less z x) (less z y) refl refl (swapped x y l)
    where
      go : (s t : Bool) → less z x ≡ s → less z y ≡ t → inserted less x (inserted less y l) ≡ inserted less y (inserted less x l)
          → inserted less x (inserted less y (z ∷ l)) ≡ inserted less y (inserted less x (z ∷ l))
      go true true h k ih =
          rw (inserted_past less y z l k, inserted_past less x z l h, inserted_past less x z (inserted less y l) h, ih)
          (sym (inserted_past less y z (inserted less x l) k))
      go true false h k ih = past_one x y z l h k
      go false true h k ih = sym (past_one y x z l k h)
      go false false h k ih =
          rw (inserted_here less y z l k, inserted_here less x z l h)
          (front_swap x y (z ∷ l) (less y x) (less x y) refl refl (inserted_here less x z l h) (inserted_here less y z l k))

  -- what keys stand for, by any order of the keys
  module _ {K : Type 0} (before : K → K → Bool) (f : K → A) where
    sorted_one : (k : K) (l : List K) → sorted less (map f (inserted before k l)) ≡ inserted less (f k) (sorted less (map f l))
    unfolding inserted sorted
    sorted_one k [] = refl
    sorted_one k (j ∷ l) = go (before j k) refl (sorted_one k l)
      where
        go : (t : Bool) → before j k ≡ t → sorted less (map f (inserted before k l)) ≡ inserted less (f k) (sorted less (map f l))
            → sorted less (map f (inserted before k (j ∷ l))) ≡ inserted less (f k) (sorted less (map f (j ∷ l)))
        go true e ih = rw (inserted_past before k j l e) (ap (inserted less (f j)) ih ∙ swapped (f j) (f k) (sorted less (map f l)))
        go false e ih = rw (inserted_here before k j l e) refl

    pub sorted_again : (l : List K) → sorted less (map f (sorted before l)) ≡ sorted less (map f l)
    unfolding sorted
    sorted_again [] = refl
    sorted_again (k ∷ l) = sorted_one k (sorted before l) ∙ ap (inserted less (f k)) (sorted_again l)

lex_total : (x y : List ℕ) → lex_less x y ≡ false → lex_less y x ≡ false → x ≡ y
unfolding lex_less
lex_total [] [] h k = refl
lex_total [] (y ∷ ys) h k = clash refl h
lex_total (x ∷ xs) [] h k = clash refl k
lex_total (x ∷ xs) (y ∷ ys) h k = go (compared x y) (lex_total xs ys)
  where
    go : Compared x y → (lex_less xs ys ≡ false → lex_less ys xs ≡ false → xs ≡ ys) → x ∷ xs ≡ y ∷ ys
    go (below p) ih = clash (lex_lt x y xs ys p) h
    go (above p) ih = clash (lex_lt y x ys xs p) k
    go (same p) ih = let rest : xs ≡ ys = ih (sym (lex_eq x y xs ys p) ∙ h) (sym (lex_eq y x ys xs (sym p)) ∙ k) in λ w. p w ∷ rest w

-- The rows of numbered keys are the rows as they stand.
rows_stand : (keys : List ℕ) (from : List (List ℕ)) (n : ℕ) → n ≤ length keys → n ≤ length from → Numbered keys n → map (row_at from) (take n keys) ≡ take n from
rows_stand keys from zero h k e = refl
rows_stand keys from (suc n) h k e =
    let before : map (row_at from) (take n keys) ≡ take n from = rows_stand keys from n (omega arith) (omega arith) (λ i l. e i (omega arith)) in
    let here : row_at from (get_or keys n 0) ≡ get_or from n [] = ap (λ (j : ℕ). get_or from j []) (e n (omega arith)) in
    rw (take-suc keys n 0 (omega arith), take-suc from n [] (omega arith), map_snoc (row_at from) (take n keys) (get_or keys n 0), before, here)

-- A key for each row, with its number behind it, and these keys sorted.
module _ (keys front : List ℕ) (from : List (List ℕ)) (long : length keys ≡ length from) (numbered : Numbered keys (length from)) (done : front ≡ sorted_keys keys) where
  front_long : length front ≡ length from
  unfolding sorted_keys
  front_long = ap length done ∙ length-sorted ltb keys ∙ long

  -- each is the key of a row that is there
  pub row_there : (p : ℕ) → p < length front → get_or front p 0 % WIRES_MOST < length from
  unfolding sorted_keys
  row_there p h =
      let r = mem_at 0 keys (sorted_from_lem ltb keys (at_mem 0 (sorted ltb keys) p (omega (arith, length-sorted ltb keys, long, front_long)))) in
      let b = r.1 in
      let inside : r.0 < length from = omega (arith, long) in
      let e : get_or front p 0 % WIRES_MOST ≡ r.0 = ap (λ (l : List ℕ). get_or l p 0 % WIRES_MOST) done ∙ ap (λ (j : ℕ). j % WIRES_MOST) (sym r.2) ∙ numbered r.0 inside in
      omega arith

  -- the rows in their order are sorted to what the rows as they stand are sorted to
  pub near_sorted : (to : List (List ℕ)) → take (length front) to ≡ map (row_at from) front → sorted_rows (take (length from) to) ≡ sorted_rows from
  unfolding sorted_rows sorted_keys
  near_sorted to e =
      let stand : map (row_at from) keys ≡ from = ap (map (row_at from)) (sym (take_all (length from) keys (omega (arith, long)))) ∙ rows_stand keys from (length from) (omega (arith, long)) (omega arith) numbered ∙ take_all (length from) from (omega arith) in
      ap (λ n. sorted lex_less (take n to)) (sym front_long) ∙ ap (sorted lex_less) (e ∙ ap (map (row_at from)) done)
      ∙ sorted_again lex_less lex_order lex_alone lex_total ltb (row_at from) keys ∙ ap (sorted lex_less) stand
