-- The newest entry that passes a test, and how a chain of entries finds it.
use Prim.Native.Nat.{ℕ, zero, suc, ◌-◌, ◌≤◌, ◌<◌}
use mathlib.Core.Path.{◌≡◌, refl, ap, sym, subst, ◌∙◌}
use mathlib.Core.Bool.{Bool, true, false}
use mathlib.Core.List.{List, [], ◌∷◌}
use native.Mathlib.Omega.{arith}
use lib.Dec.{eqb}
use lib.ListN.{length, get_or, set, length-set, length-map}
use lib.Seq.{get_or-set_same, get_or-set_other}
use borrow.Author.Tests.{eq-eqb, ne_eqb, eqb-true, eqb-false}
use Rattle.base.specs.Lists.{none, at, newest}
use Rattle.board.specs.Index.{Chained, link, Index, BUCKETS, bucket_of, column}
use Rattle.board.specs.Board.{field}
use Rattle.base.proofs.Bools.{clash, pick_true, pick_false}

abbrev pub Implies : (ℕ → Bool) → (ℕ → Bool) → Type 0
Implies p q = (i : ℕ) → p i ≡ true → q i ≡ true

-- Tests that agree below n find the same entry.
pub newest_same : (p q : ℕ → Bool) (n : ℕ) → ((i : ℕ) → i < n → p i ≡ q i) → newest p n ≡ newest q n
newest_same p q zero e = refl
newest_same p q (suc n) e =
    let top : p n ≡ q n = e n (omega arith) in
    let rest : newest p n ≡ newest q n = newest_same p q n (λ i h. e i (omega arith)) in
    λ w. elim (top w) [ true ↦ at n | false ↦ rest w ]

-- What is found lies below n and passes.
pub link_below : (q : ℕ → Bool) (n : ℕ) → link (newest q n) ≤ n
link_below q zero = omega arith
link_below q (suc n) = go (q n) (link_below q n)
  where
    go : (t : Bool) → link (newest q n) ≤ n → link (elim t [ true ↦ at n | false ↦ newest q n ]) ≤ suc n
    go true h = omega arith
    go false h = omega arith

pub link_held : (q : ℕ → Bool) (n j : ℕ) → link (newest q n) ≡ suc j → q j ≡ true
link_held q zero j e = absurd (omega arith)
link_held q (suc n) j e = go (q n) refl (link_held q n j) e
  where
    go : (t : Bool) → q n ≡ t → (link (newest q n) ≡ suc j → q j ≡ true) → link (elim t [ true ↦ at n | false ↦ newest q n ]) ≡ suc j → q j ≡ true
    go true h rec e = let same : n ≡ j = omega arith in rw (← same) h
    go false h rec e = rec e

-- The key law: where p implies q, what p finds is not above what q finds.
pub newest_through : (p q : ℕ → Bool) → Implies p q → (n : ℕ) → newest p n ≡ newest p (link (newest q n))
newest_through p q i zero = refl
newest_through p q i (suc n) = go (p n) (q n) refl refl (newest_through p q i n)
  where
    go : (s t : Bool) → p n ≡ s → q n ≡ t → newest p n ≡ newest p (link (newest q n))
        → elim s [ true ↦ at n | false ↦ newest p n ] ≡ newest p (link (elim t [ true ↦ at n | false ↦ newest q n ]))
    go s true ps qt rec = rw ps
    go true false ps qt rec = clash (i n ps) qt
    go false false ps qt rec = rec

-- A chain being followed: `l` is the link at hand, of entries that pass q, and nothing above it passes p.
pub record Following (p q : ℕ → Bool) (n l : ℕ) : Type 0 where
  pub below : l ≤ n
  pub same : newest p n ≡ newest p l
  pub held : (j : ℕ) → l ≡ suc j → q j ≡ true

module _ (p q : ℕ → Bool) (n l j : ℕ) (f : Following p q n l) where
  pub follow_found : l ≡ suc j → p j ≡ true → newest p n ≡ at j
  follow_found e yes' = f.same ∙ ap (newest p) e ∙ pick_true (p j) (at j) (newest p j) yes'

  pub follow_end : l ≡ 0 → newest p n ≡ none
  follow_end e = f.same ∙ ap (newest p) e

-- A chained table, followed for a test whose entries all lie in bucket k.
module _ (buckets : ℕ) (bucket : ℕ → ℕ) (nexts heads : List ℕ) (n : ℕ) (c : Chained buckets bucket nexts heads n) where
  pub chain_falls : (j : ℕ) → j < n → get_or nexts j 0 ≤ j
  chain_falls j h = rw (c.next j h) (link_below (λ m. eqb (bucket m) (bucket j)) j)

  module _ (p : ℕ → Bool) (k : ℕ) (i : Implies p (λ j. eqb (bucket j) k)) where
    pub chain_start : k < buckets → Following p (λ j. eqb (bucket j) k) n (get_or heads k 0)
    chain_start h =
        rw (c.head k h)
        (record {
          below = link_below (λ j. eqb (bucket j) k) n;
          same = newest_through p (λ j. eqb (bucket j) k) i n;
          held = link_held (λ j. eqb (bucket j) k) n;
        })

    pub chain_next : (l j : ℕ) → l ≡ suc j → Following p (λ j. eqb (bucket j) k) n l → p j ≡ false → Following p (λ j. eqb (bucket j) k) n (get_or nexts j 0)
    chain_next l j e f not' =
        let q : ℕ → Bool = λ m. eqb (bucket m) k in
        let low = f.below in
        let b : bucket j ≡ k = eqb-true (bucket j) k (f.held j e) in
        let at_next : get_or nexts j 0 ≡ link (newest q j) = c.next j (omega arith) ∙ (λ w. link (newest (λ m. eqb (bucket m) (b w)) j)) in
        rw at_next
        (record {
          below = let h = link_below q j in omega arith;
          same = f.same ∙ ap (newest p) e ∙ pick_false (p j) (at j) (newest p j) not' ∙ newest_through p q i j;
          held = link_held q j;
        })

  -- One more entry, in front of its bucket's chain.
  pub chained_more : (k : ℕ) → n < length nexts → bucket n ≡ k → k < buckets
      → Chained buckets bucket (set nexts n (get_or heads k 0)) (set heads k (suc n)) (suc n)
  chained_more k room b small =
      record {
        entries = simp length-set (omega arith);
        width = simp length-set c.width;
        head = λ m h. heads_at m h (eqb m k) refl;
        next = λ i h. nexts_at i h (eqb i n) refl;
      }
    where
      heads_at : (m : ℕ) → m < buckets → (t : Bool) → eqb m k ≡ t → get_or (set heads k (suc n)) m 0 ≡ link (newest (λ j. eqb (bucket j) m) (suc n))
      heads_at m h true e =
          let same : m ≡ k = eqb-true m k e in
          let inside : k < length heads = let w = c.width in omega arith in
          (rw same (get_or-set_same heads k (suc n) 0 inside))
          ∙ sym (ap link (pick_true (eqb (bucket n) m) (at n) (newest (λ j. eqb (bucket j) m) n) (eq-eqb (bucket n) m (b ∙ sym same))))
      heads_at m h false e =
          get_or-set_other heads k m (suc n) 0 (eqb-false m k e) ∙ c.head m h
          ∙ sym (ap link (pick_false (eqb (bucket n) m) (at n) (newest (λ j. eqb (bucket j) m) n) (ne_eqb (bucket n) m (λ z. eqb-false m k e (sym z ∙ b)))))

      nexts_at : (i : ℕ) → i < suc n → (t : Bool) → eqb i n ≡ t → get_or (set nexts n (get_or heads k 0)) i 0 ≡ link (newest (λ j. eqb (bucket j) (bucket i)) i)
      nexts_at i h true e =
          let same : i ≡ n = eqb-true i n e in
          let to : k ≡ bucket i = sym b ∙ ap bucket (sym same) in
          (rw same (get_or-set_same nexts n (get_or heads k 0) 0 room)) ∙ c.head k small ∙ (λ w. link (newest (λ j. eqb (bucket j) (to w)) (sym same w)))
      nexts_at i h false e =
          let other = eqb-false i n e in
          get_or-set_other nexts n i (get_or heads k 0) 0 other ∙ c.next i (omega (arith, other))

  -- The chains depend on the buckets of their entries alone.
  pub chained_same : (bucket' : ℕ → ℕ) → ((j : ℕ) → j < n → bucket j ≡ bucket' j) → Chained buckets bucket' nexts heads n
  chained_same bucket' e =
      record {
        entries = c.entries;
        width = c.width;
        head = λ k h. c.head k h ∙ ap link (newest_same _ _ n (λ j l. ap (λ x. eqb x k) (e j l)));
        next = λ i h. c.next i h ∙ ap link (newest_same _ _ i (λ j l w. eqb (e j (omega arith) w) (e i h w)));
      }

-- A column of a table, and a store to a row.
pub column_at : (c : ℕ) (rows : List (List ℕ)) (i : ℕ) → get_or (column c rows) i 0 ≡ field rows i c
column_at c [] i = refl
column_at c (r ∷ rows) zero = refl
column_at c (r ∷ rows) (suc i) = column_at c rows i

pub column-set : (c : ℕ) (rows : List (List ℕ)) (i : ℕ) (row : List ℕ) → column c (set rows i row) ≡ set (column c rows) i (get_or row c 0)
column-set c [] i row = refl
column-set c (r ∷ rows) zero row = refl
column-set c (r ∷ rows) (suc i) row = ap (λ (l : List ℕ). get_or r c 0 ∷ l) (column-set c rows i row)

pub column-length : (c : ℕ) (rows : List (List ℕ)) → length (column c rows) ≡ length rows
column-length c rows = length-map rows (λ r. get_or r c 0)

set_own : (l : List ℕ) (i : ℕ) → set l i (get_or l i 0) ≡ l
set_own [] i = refl
set_own (x ∷ l) zero = refl
set_own (x ∷ l) (suc i) = ap (λ (m : List ℕ). x ∷ m) (set_own l i)

column_stays : (c : ℕ) (rows : List (List ℕ)) (i : ℕ) (row : List ℕ) → get_or row c 0 ≡ field rows i c → column c (set rows i row) ≡ column c rows
column_stays c rows i row e = column-set c rows i row ∙ ap (set (column c rows) i) (e ∙ sym (column_at c rows i)) ∙ set_own (column c rows) i

-- An index of ids.
abbrev pub IdChain : List (List ℕ) → ℕ → ℕ → ℕ → Type 0
IdChain ids id n l = Following (λ i. eqb (field ids i 0) id) (λ i. eqb (bucket_of (field ids i 0)) (bucket_of id)) n l

-- One more entry, as `add_id` writes it: its id and its next, and then its bucket's head.
abbrev pub entry_rows : List (List ℕ) → ℕ → ℕ → ℕ → List (List ℕ)
entry_rows ids n id k = set ids n (id ∷ field ids k 2 ∷ field ids n 2 ∷ [])

abbrev pub added_rows : List (List ℕ) → ℕ → ℕ → ℕ → List (List ℕ)
added_rows ids n id k = let e = entry_rows ids n id k in set e k (field e k 0 ∷ field e k 1 ∷ suc n ∷ [])

module _ (ids : List (List ℕ)) (n : ℕ) (x : Index ids n) (id : ℕ) where
  id_implies : Implies (λ i. eqb (field ids i 0) id) (λ i. eqb (bucket_of (field ids i 0)) (bucket_of id))
  id_implies i e = eq-eqb _ _ (ap bucket_of (eqb-true (field ids i 0) id e))

  bucket_small : bucket_of id < BUCKETS
  bucket_small = omega arith

  pub index_width : BUCKETS ≤ length ids
  index_width = let w = x.chained.width in let e = column-length 2 ids in omega arith

  pub index_falls : (j : ℕ) → j < n → field ids j 1 ≤ j
  index_falls j h = let f = chain_falls BUCKETS _ (column 1 ids) (column 2 ids) n x.chained j h in let e = column_at 1 ids j in omega arith

  pub index_start : IdChain ids id n (field ids (bucket_of id) 2)
  index_start = subst (IdChain ids id n) (column_at 2 ids (bucket_of id)) (chain_start BUCKETS _ (column 1 ids) (column 2 ids) n x.chained _ (bucket_of id) id_implies bucket_small)

  -- The entry that a link names.
  pub index_entry : (l : ℕ) → IdChain ids id n l → (l ≡ 0 → ⊥) → (l - 1 < length ids) × (l - 1 < n) × (l ≡ suc (l - 1))
  index_entry l f more = let r = x.room in let b = f.below in (omega (arith, more), omega (arith, more), omega (arith, more))

  pub index_next : (l j : ℕ) → l ≡ suc j → IdChain ids id n l → (field ids j 0 ≡ id → ⊥) → IdChain ids id n (field ids j 1)
  index_next l j e f other =
      subst (IdChain ids id n) (column_at 1 ids j) (chain_next BUCKETS _ (column 1 ids) (column 2 ids) n x.chained _ (bucket_of id) id_implies l j e f (ne_eqb _ _ other))

  module _ (k : ℕ) where
    pub added_ids : column 0 (added_rows ids n id k) ≡ set (column 0 ids) n id
    added_ids = column_stays 0 (entry_rows ids n id k) k _ refl ∙ column-set 0 ids n _

    added_nexts : column 1 (added_rows ids n id k) ≡ set (column 1 ids) n (get_or (column 2 ids) k 0)
    added_nexts = column_stays 1 (entry_rows ids n id k) k _ refl ∙ column-set 1 ids n _ ∙ ap (set (column 1 ids) n) (sym (column_at 2 ids k))

    added_heads : column 2 (added_rows ids n id k) ≡ set (column 2 ids) k (suc n)
    added_heads = column-set 2 (entry_rows ids n id k) k _ ∙ ap (λ (l : List ℕ). set l k (suc n)) (column_stays 2 ids n _ refl)

    added_at : (j : ℕ) → field (added_rows ids n id k) j 0 ≡ get_or (set (column 0 ids) n id) j 0
    added_at j = sym (column_at 0 (added_rows ids n id k) j) ∙ ap (λ (l : List ℕ). get_or l j 0) added_ids

  pub index_more : n < length ids → Index (added_rows ids n id (bucket_of id)) (suc n)
  index_more room =
      let k : ℕ = bucket_of id in
      let new : List (List ℕ) = added_rows ids n id k in
      let wide = column-length 1 ids in
      let same : (j : ℕ) → j < n → bucket_of (field ids j 0) ≡ bucket_of (field new j 0) =
      λ j h. ap bucket_of (sym (added_at k j ∙ get_or-set_other (column 0 ids) n j id 0 (λ z. omega arith) ∙ column_at 0 ids j)) in
      record {
        room = simp length-set (omega arith);
        chained =
            subst (λ (l : List ℕ). Chained BUCKETS (λ i. bucket_of (field new i 0)) l (column 2 new) (suc n)) (sym (added_nexts k))
            (subst (λ (l : List ℕ). Chained BUCKETS (λ i. bucket_of (field new i 0)) (set (column 1 ids) n (get_or (column 2 ids) k 0)) l (suc n)) (sym (added_heads k))
            (chained_more BUCKETS (λ i. bucket_of (field new i 0)) (column 1 ids) (column 2 ids) n
            (chained_same BUCKETS _ (column 1 ids) (column 2 ids) n x.chained (λ i. bucket_of (field new i 0)) same)
            k (omega arith) (ap bucket_of (added_at k n ∙ get_or-set_same (column 0 ids) n id 0 (let z = column-length 0 ids in omega arith))) bucket_small));
      }
