-- Rows: a page's downs rise, each is that of a node with a row there, and where they stand numbers them.
use Prim.Native.Nat.{ℕ, zero, suc, ◌≤◌, ◌<◌, max}
use native.Mathlib.Omega.{arith}
use mathlib.Core.Path.{◌≡◌, refl, sym, ap, ◌∙◌, subst}
use mathlib.Core.Logic.{◌⊎◌, inl, inr, ⊎_elim}
use mathlib.Core.Bool.{Bool, true, false, ◌&&◌}
use mathlib.Core.List.Memᴰ.{cases_cons as cases}
use mathlib.Core.List.Memᴰ.{head as here}
use mathlib.Core.List.Memᴰ.{not-nil as nowhere}
use mathlib.Core.List.Memᴰ.{tail as there}
use mathlib.Core.List.{List, [], ◌∷◌, Memᴰ as Mem}
use lib.Dec.{eqb, ltb}
use lib.ListN.{length}
use borrow.Author.Tests.{ltb-true, ltb-false, eqb-true, eqb-false, eq-eqb, ne_eqb}
use Rattle.base.proofs.Bools.{and_left, and_right}
use Rattle.base.specs.Lists.{keep, upto, fold, greatest}
use Rattle.board.specs.Board.{Board, has_row, page_of, down_of}
use Rattle.board.specs.Rows.{insert_down, position, nodes_on, downs_on, row_of, brick_cell, bricks_in, row_top}
use Rattle.base.proofs.Members.{keep_in, keep_from, map_in, map_from, upto_in, upto_below}

-- Each element is less than every later one.
abbrev pub Rising : List ℕ → Type 0
Rising [] = Unit
Rising (e ∷ l) = ((d : ℕ) → Mem d l → e < d) × Rising l

insert_in : (d : ℕ) (l : List ℕ) {x : ℕ} → Mem x (d ∷ l) → Mem x (insert_down d l)
insert_in d [] m = m
insert_in d (e ∷ l) {x} m = go (ltb d e) (eqb d e) refl (cases m) (λ n. insert_in d l n)
  where
    go : (s t : Bool) → eqb d e ≡ t → (x ≡ d) ⊎ Mem x (e ∷ l) → (Mem x (d ∷ l) → Mem x (insert_down d l))
        → Mem x (elim s [ true ↦ d ∷ e ∷ l | false ↦ elim t [ true ↦ e ∷ l | false ↦ e ∷ insert_down d l ] ])
    go true t q (inl h) ih = here h
    go true t q (inr n) ih = there n
    go false true q (inl h) ih = here (h ∙ eqb-true d e q)
    go false true q (inr n) ih = n
    go false false q (inl h) ih = there (ih (here h))
    go false false q (inr n) ih = ⊎_elim (λ f. here f) (λ k. there (ih (there k))) (cases n)

insert_from : (d : ℕ) (l : List ℕ) {x : ℕ} → Mem x (insert_down d l) → (x ≡ d) ⊎ Mem x l
insert_from d [] m = cases m
insert_from d (e ∷ l) {x} m = go (ltb d e) (eqb d e) (λ n. insert_from d l n) m
  where
    deeper : (x ≡ d) ⊎ Mem x l → (x ≡ d) ⊎ Mem x (e ∷ l)
    deeper (inl h) = inl h
    deeper (inr n) = inr (there n)

    go : (s t : Bool) → (Mem x (insert_down d l) → (x ≡ d) ⊎ Mem x l)
        → Mem x (elim s [ true ↦ d ∷ e ∷ l | false ↦ elim t [ true ↦ e ∷ l | false ↦ e ∷ insert_down d l ] ]) → (x ≡ d) ⊎ Mem x (e ∷ l)
    go true t ih n = cases n
    go false true ih n = inr n
    go false false ih n = ⊎_elim (λ f. inr (here f)) (λ k. deeper (ih k)) (cases n)

insert_rising : (d : ℕ) (l : List ℕ) → Rising l → Rising (insert_down d l)
insert_rising d [] r = ((λ x m. absurd (nowhere m)), tt)
insert_rising d (e ∷ l) r = go (ltb d e) (eqb d e) refl refl (insert_rising d l r.1)
  where
    under : (x : ℕ) → d < e → Mem x (e ∷ l) → d < x
    under x h m = ⊎_elim (λ f. omega arith) (λ n. let k = r.0 x n in omega arith) (cases m)

    go : (s t : Bool) → ltb d e ≡ s → eqb d e ≡ t → Rising (insert_down d l)
        → Rising (elim s [ true ↦ d ∷ e ∷ l | false ↦ elim t [ true ↦ e ∷ l | false ↦ e ∷ insert_down d l ] ])
    go true t p q ih = ((λ x m. under x (ltb-true d e p) m), r)
    go false true p q ih = r
    go false false p q ih =
        ((λ x m. ⊎_elim (λ f. omega (arith, ltb-false d e p, eqb-false d e q)) (λ n. r.0 x n) (insert_from d l m)), ih)

length_insert : (d : ℕ) (l : List ℕ) → length (insert_down d l) ≤ suc (length l)
length_insert d [] = omega arith
length_insert d (e ∷ l) = go (ltb d e) (eqb d e) (length_insert d l)
  where
    go : (s t : Bool) → length (insert_down d l) ≤ suc (length l)
        → length {A = ℕ} (elim s [ true ↦ d ∷ e ∷ l | false ↦ elim t [ true ↦ e ∷ l | false ↦ e ∷ insert_down d l ] ]) ≤ suc (suc (length l))
    go true t ih = omega arith
    go false true ih = omega arith
    go false false ih = omega arith

position_here : (d e : ℕ) (l : List ℕ) → d ≡ e → position d (e ∷ l) ≡ zero
position_here d e l h = rw (eq-eqb d e h, position)

position_past : (d e : ℕ) (l : List ℕ) → (d ≡ e → ⊥) → position d (e ∷ l) ≡ suc (position d l)
position_past d e l h = rw (ne_eqb d e h, position)

position_below : (d : ℕ) (l : List ℕ) → Mem d l → position d l < length l
position_below d [] m = absurd (nowhere m)
position_below d (e ∷ l) m = go (eqb d e) refl (cases m) (λ n. position_below d l n)
  where
    go : (t : Bool) → eqb d e ≡ t → (d ≡ e) ⊎ Mem d l → (Mem d l → position d l < length l) → elim t [ true ↦ zero | false ↦ suc (position d l) ] < suc (length l)
    go true q m ih = omega arith
    go false q (inl f) ih = absurd (eqb-false d e q f)
    go false q (inr n) ih = let h = ih n in omega arith

-- Two downs of one row are equal.
pub position_once : (d e : ℕ) (l : List ℕ) → Mem d l → Mem e l → position d l ≡ position e l → d ≡ e
position_once d e [] m n h = absurd (nowhere m)
position_once d e (f ∷ l) m n h = go (eqb d f) (eqb e f) refl refl (cases m) (cases n) (λ k j. position_once d e l k j) h
  where
    go : (s t : Bool) → eqb d f ≡ s → eqb e f ≡ t → (d ≡ f) ⊎ Mem d l → (e ≡ f) ⊎ Mem e l → (Mem d l → Mem e l → position d l ≡ position e l → d ≡ e)
        → ◌≡◌ {A = ℕ} (elim s [ true ↦ zero | false ↦ suc (position d l) ]) (elim t [ true ↦ zero | false ↦ suc (position e l) ]) → d ≡ e
    go true true p q k j ih h = eqb-true d f p ∙ sym (eqb-true e f q)
    go true false p q k j ih h = absurd (omega arith)
    go false true p q k j ih h = absurd (omega arith)
    go false false p q (inl k) j ih h = absurd (eqb-false d f p k)
    go false false p q (inr k) (inl j) ih h = absurd (eqb-false e f q j)
    go false false p q (inr k) (inr j) ih h = ih k j (omega arith)

-- The least stands first.
pub position_least : (d : ℕ) (l : List ℕ) → Rising l → Mem d l → ((x : ℕ) → Mem x l → d ≤ x) → position d l ≡ zero
position_least d [] r m h = absurd (nowhere m)
position_least d (e ∷ l) r m h =
    position_here d e l
    (⊎_elim (λ f. f) (λ n. let k = r.0 d n in let j = h e (here refl) in omega arith) (cases m))

-- Of two with none between them the greater stands next.
pub position_next : (d e : ℕ) (l : List ℕ) → Rising l → Mem d l → Mem e l → d < e → ((x : ℕ) → Mem x l → d < x → e ≤ x) → position e l ≡ suc (position d l)
position_next d e [] r m n h k = absurd (nowhere m)
position_next d e (f ∷ l) r m n h k = go (cases m) (cases n) (λ i j. position_next d e l r.1 i j h (λ x o. k x (there o)))
  where
    go : (d ≡ f) ⊎ Mem d l → (e ≡ f) ⊎ Mem e l → (Mem d l → Mem e l → position e l ≡ suc (position d l)) → position e (f ∷ l) ≡ suc (position d (f ∷ l))
    go (inl p) (inl q) ih = absurd (omega arith)
    go (inl p) (inr j) ih =
        position_past e f l (λ z. let y : e ≡ f = z in omega arith)
        ∙ ap suc (position_least e l r.1 j (λ x o. k x (there o) (let y = r.0 x o in omega arith)) ∙ sym (position_here d f l p))
    go (inr i) (inl q) ih = absurd (let y = r.0 d i in omega arith)
    go (inr i) (inr j) ih =
        position_past e f l (λ z. let y : e ≡ f = z in let u = r.0 e j in omega arith)
        ∙ ap suc (ih i j ∙ sym (position_past d f l (λ z. let y : d ≡ f = z in let u = r.0 d i in omega arith)))

pub greatest_is : (d m : ℕ) (l : List ℕ) → Mem m l → ((x : ℕ) → Mem x l → x ≤ m) → greatest d l ≡ m
greatest_is d m [] n h = absurd (nowhere n)
greatest_is d m (y ∷ l) n h = go l (cases n) h (λ k. greatest_is y m l k (λ x o. h x (there o)))
  where
    at_most : (b : ℕ) (k : List ℕ) → b ≤ m → ((x : ℕ) → Mem x k → x ≤ m) → greatest b k ≤ m
    at_most b [] j i = j
    at_most b (x ∷ k) j i = let u = at_most x k (i x (here refl)) (λ z o. i z (there o)) in let v = i x (here refl) in omega arith

    go : (k : List ℕ) → (m ≡ y) ⊎ Mem m k → ((x : ℕ) → Mem x (y ∷ k) → x ≤ m) → (Mem m k → greatest y k ≡ m) → max y (greatest y k) ≡ m
    go k (inl e) i ih = let u = at_most y k (i y (here refl)) (λ z o. i z (there o)) in omega arith
    go k (inr o) i ih = let u = ih o in let v = i y (here refl) in omega arith

-- The downs of a list of nodes.
abbrev Downs : Board → List ℕ → List ℕ
Downs b l = fold (λ ds i. insert_down (down_of b i) ds) [] l

module _ (b : Board) where
  -- A node that stands in a row of the page.
  pub record On (p i : ℕ) : Type 0 where
    pub there_is : i < length b.nodes
    pub row : has_row b i ≡ true
    pub page : page_of b i ≡ p

  pub on_in : (p i : ℕ) → On p i → Mem i (nodes_on b p)
  unfolding nodes_on
  on_in p i o = keep_in (λ j. has_row b j && eqb (page_of b j) p) _ (upto_in _ i o.there_is) (rw (o.row, eq-eqb (page_of b i) p o.page))

  pub on_from : (p : ℕ) {i : ℕ} → Mem i (nodes_on b p) → On p i
  unfolding nodes_on
  on_from p {i} m =
      let r = keep_from (λ j. has_row b j && eqb (page_of b j) p) _ m in
      record { there_is = upto_below _ r.0; row = and_left (has_row b i) _ r.1; page = eqb-true (page_of b i) p (and_right (has_row b i) _ r.1) }

  downs_rising' : (l : List ℕ) → Rising (Downs b l)
  downs_rising' [] = tt
  downs_rising' (i ∷ l) = insert_rising (down_of b i) (Downs b l) (downs_rising' l)

  downs_in' : (l : List ℕ) {i : ℕ} → Mem i l → Mem (down_of b i) (Downs b l)
  downs_in' [] m = absurd (nowhere m)
  downs_in' (j ∷ l) m = insert_in (down_of b j) (Downs b l) (⊎_elim (λ e. here (ap (down_of b) e)) (λ n. there (downs_in' l n)) (cases m))

  downs_from' : (l : List ℕ) {d : ℕ} → Mem d (Downs b l) → (i : ℕ) × Mem i l × (d ≡ down_of b i)
  downs_from' [] m = absurd (nowhere m)
  downs_from' (j ∷ l) m =
      ⊎_elim (λ e. (j, here refl, e)) (λ n. let r = downs_from' l n in (r.0, there r.1, r.2)) (insert_from (down_of b j) (Downs b l) m)

  length_downs' : (l : List ℕ) → length (Downs b l) ≤ length l
  length_downs' [] = omega arith
  length_downs' (j ∷ l) = let h = length_downs' l in let k = length_insert (down_of b j) (Downs b l) in omega arith

  pub downs_rising : (p : ℕ) → Rising (downs_on b p)
  unfolding downs_on
  downs_rising p = downs_rising' (nodes_on b p)

  pub downs_in : (p i : ℕ) → On p i → Mem (down_of b i) (downs_on b p)
  unfolding downs_on
  downs_in p i o = downs_in' (nodes_on b p) (on_in p i o)

  pub downs_from : (p : ℕ) {d : ℕ} → Mem d (downs_on b p) → (i : ℕ) × On p i × (d ≡ down_of b i)
  unfolding downs_on
  downs_from p m = let r = downs_from' (nodes_on b p) m in (r.0, on_from p r.1, r.2)

  length-keep : (t : ℕ → Bool) (l : List ℕ) → length (keep t l) ≤ length l
  length-keep t [] = omega arith
  length-keep t (x ∷ l) = go (t x) (length-keep t l)
    where
      go : (s : Bool) → length (keep t l) ≤ length l → length {A = ℕ} (elim s [ true ↦ x ∷ keep t l | false ↦ keep t l ]) ≤ suc (length l)
      go true h = omega arith
      go false h = omega arith

  length-upto : (n : ℕ) → length (upto n) ≡ n
  length-upto zero = refl
  length-upto (suc n) = ap suc (length-upto n)

  -- A row's number is below the count of nodes on its page, and so below that of all.
  pub row_on_page_lem : (i : ℕ) → On (page_of b i) i → row_of b i < length (nodes_on b (page_of b i))
  unfolding row_of downs_on
  row_on_page_lem i o =
      let h = position_below (down_of b i) (downs_on b (page_of b i)) (downs_in (page_of b i) i o) in
      let k = length_downs' (nodes_on b (page_of b i)) in
      omega arith

  pub row_below : (p i : ℕ) → On p i → row_of b i < length b.nodes
  unfolding nodes_on
  row_below p i o =
      let h = row_on_page_lem i (record { there_is = o.there_is; row = o.row; page = refl }) in
      let j = length-keep (λ m. has_row b m && eqb (page_of b m) (page_of b i)) (upto (length b.nodes)) in
      omega (arith, length-upto (length b.nodes))

  -- The first row of a page.
  pub row_first : (p i : ℕ) → On p i → ((j : ℕ) → On p j → down_of b i ≤ down_of b j) → row_of b i ≡ zero
  unfolding row_of
  row_first p i o h =
      subst (λ (q : ℕ). position (down_of b i) (downs_on b q) ≡ zero) (sym o.page)
      (position_least (down_of b i) (downs_on b p) (downs_rising p) (downs_in p i o)
      (λ x m. let r = downs_from p m in let k = h r.0 r.1 in let e = r.2 in omega arith))

  pub row_next : (p i j : ℕ) → On p i → On p j → down_of b i < down_of b j → ((k : ℕ) → On p k → down_of b i < down_of b k → down_of b j ≤ down_of b k) → row_of b j ≡ suc (row_of b i)
  unfolding row_of
  row_next p i j o q h k =
      subst (λ (s : ℕ). position (down_of b j) (downs_on b s) ≡ suc (position (down_of b i) (downs_on b (page_of b i)))) (sym q.page)
      (subst (λ (s : ℕ). position (down_of b j) (downs_on b p) ≡ suc (position (down_of b i) (downs_on b s))) (sym o.page)
      (position_next (down_of b i) (down_of b j) (downs_on b p) (downs_rising p) (downs_in p i o) (downs_in p j q) h
      (λ x m g. let r = downs_from p m in let e = r.2 in let u = k r.0 r.1 (omega arith) in omega arith)))

  pub row_same : (p i j : ℕ) → On p i → On p j → down_of b i ≡ down_of b j → row_of b j ≡ row_of b i
  unfolding row_of
  row_same p i j o q h = let e : page_of b j ≡ page_of b i = q.page ∙ sym o.page in rw (e, h)

  pub down_once : (p i j : ℕ) → On p i → On p j → row_of b i ≡ row_of b j → down_of b i ≡ down_of b j
  unfolding row_of
  down_once p i j o q h =
      position_once (down_of b i) (down_of b j) (downs_on b p) (downs_in p i o) (downs_in p j q)
      (subst (λ (s : ℕ). position (down_of b i) (downs_on b s) ≡ position (down_of b j) (downs_on b p)) o.page
      (subst (λ (s : ℕ). position (down_of b i) (downs_on b (page_of b i)) ≡ position (down_of b j) (downs_on b s)) q.page h))

  -- The highest x end of a row's bricks.
  pub top_is : (p i j : ℕ) → On p i → On p j → down_of b i ≡ down_of b j → ((k : ℕ) → On p k → down_of b i ≡ down_of b k → (brick_cell b k).x1 ≤ (brick_cell b j).x1)
      → row_top b (page_of b i) (row_of b i) ≡ (brick_cell b j).x1
  unfolding row_top bricks_in
  top_is p i j o q e h =
      subst (λ (s : ℕ). row_top b s (row_of b i) ≡ (brick_cell b j).x1) (sym o.page)
      (greatest_is 0 (brick_cell b j).x1 _
      (map_in (λ k. (brick_cell b k).x1) (bricks_in b p (row_of b i)) (keep_in (λ k. eqb (row_of b k) (row_of b i)) _ (on_in p j q) (eq-eqb (row_of b j) (row_of b i) (row_same p i j o q e))))
      (λ x m.
      let r = map_from (λ k. (brick_cell b k).x1) (bricks_in b p (row_of b i)) m in
      let s = keep_from (λ k. eqb (row_of b k) (row_of b i)) (nodes_on b p) r.1 in
      let k : On p r.0 = on_from p s.0 in
      let u = h r.0 k (sym (down_once p r.0 i k o (eqb-true (row_of b r.0) (row_of b i) s.1))) in
      let v = r.2 in
      omega arith))
