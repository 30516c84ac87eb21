-- The key rows of nodes, sorted: each node's key stands among them, they rise by page, down and falling x end, and a walk over them numbers the rows.
use Prim.Native.Nat.{ℕ, zero, suc, ◌+◌, ◌-◌, ◌≤◌, ◌<◌}
use native.Mathlib.Omega.{arith}
use native.Mathlib.Decide.{dec_lt}
use native.Mathlib.Numerals.{add-one}
use mathlib.Core.Path.{◌≡◌, refl, sym, ap, ◌∙◌, subst}
use mathlib.Core.Bool.{Bool, true, false, not}
use mathlib.Core.List.{List, [], ◌∷◌, Memᴰ}
use lib.Dec.{eqb}
use Rattle.std.specs.Prelude.{Option, Some, None}
use lib.ListN.{length, get_or, set}
use lib.Seq.{get_or-set_same, get_or-set_other}
use borrow.Author.Tests.{eq-eqb, ne_eqb, eqb-true, eqb-false, lt-ltb, le-ltb}
use Rattle.sheet.specs.Table.{MISSING, HALF_MOST}
use Rattle.base.specs.Sort.{lex_less, sorted_rows, sorted}
use Rattle.base.proofs.Bools.{clash}
use Rattle.base.proofs.SortLaws.{lex_order}
use Rattle.board_groups.specs.declared.rows.Run.{Run}
use Rattle.board.specs.Board.{Board, field, given, has_row, page_of, down_of}
use Rattle.board.specs.Accepted.{AcceptedNodes}
use Rattle.board.proofs.Accepting.{nodes_half_x, nodes_half_y, nodes_x}
use Rattle.board.specs.Rows.{turned, brick_cell, bricks_in, nodes_on, downs_on, row_of, row_top}
use Rattle.board.specs.Tables.{nodes_alone, NodeFacts}
use Rattle.board_groups.specs.Collecting.{row_key, END_MOST, Ranked, run_from, next_run, run_after}
use Rattle.base.proofs.Members.{mem_at, at_mem, sorted_in, sorted_from_lem, sorted_ascending, ascending_at, lex_alone}
use Rattle.board_groups.proofs.RowLaws.{On, row_first, row_next, row_same, top_is}

module _ (b : Board) (i : ℕ) where
  pub key_none : has_row b i ≡ false → row_key b i ≡ MISSING ∷ 0 ∷ 0 ∷ i ∷ 0 ∷ 0 ∷ 0 ∷ 0 ∷ []
  unfolding row_key
  key_none h = rw (h, row_key) refl

  pub key_some : has_row b i ≡ true → row_key b i ≡ page_of b i ∷ down_of b i ∷ (END_MOST - (brick_cell b i).x1) ∷ i ∷ (brick_cell b i).x1 ∷ 0 ∷ 0 ∷ 0 ∷ []
  unfolding row_key
  key_some h = rw (h, row_key) refl

  pub key_index : get_or (row_key b i) 3 0 ≡ i
  unfolding row_key
  key_index = go (has_row b i)
    where
      go : (t : Bool) → get_or {A = ℕ} (elim t [ true ↦ page_of b i ∷ down_of b i ∷ (END_MOST - (brick_cell b i).x1) ∷ i ∷ (brick_cell b i).x1 ∷ 0 ∷ 0 ∷ 0 ∷ [] | false ↦ MISSING ∷ 0 ∷ 0 ∷ i ∷ 0 ∷ 0 ∷ 0 ∷ 0 ∷ [] ]) 3 0 ≡ i
      go true = refl
      go false = refl

  -- A key's page is that of its node, or missing.
  pub key_page : get_or (row_key b i) 0 0 ≡ page_of b i
  key_page = go (has_row b i) refl
    where
      missing : (v : ℕ) → given v ≡ false → v ≡ MISSING
      missing v h = eqb-true v MISSING (flip (eqb v MISSING) h)
        where
          flip : (t : Bool) → not t ≡ false → t ≡ true
          flip true e = refl
          flip false e = sym e

      go : (t : Bool) → has_row b i ≡ t → get_or (row_key b i) 0 0 ≡ page_of b i
      go true h = ap (λ (r : List ℕ). get_or r 0 0) (key_some h)
      go false h = ap (λ (r : List ℕ). get_or r 0 0) (key_none h) ∙ sym (missing (page_of b i) h)

-- A half is within the range of both.
pub half_within : (t : Bool) (half x y most : ℕ) → half ≡ elim t [ true ↦ y | false ↦ x ] → x ≤ most → y ≤ most → half ≤ most
half_within true half x y most e h k = omega arith
half_within false half x y most e h k = omega arith

-- What the order of two rows says of their first three numbers.
record Under (p d e p' d' e' : ℕ) : Type 0 where
  page : p ≤ p'
  down : p ≡ p' → d ≤ d'
  end : p ≡ p' → d ≡ d' → e ≤ e'

not_less : (p d e p' d' e' : ℕ) (l l' : List ℕ) → lex_less (p' ∷ d' ∷ e' ∷ l') (p ∷ d ∷ e ∷ l) ≡ false → Under p d e p' d' e'
unfolding lex_less
not_less p d e p' d' e' l l' h = record { page = page'; down = down'; end = end' }
  where
    page' : p ≤ p'
    page' = elim (dec_lt p' p) [ yes k ↦ clash refl (rw (lt-ltb p' p k) at h) | no f ↦ omega arith ]

    down' : p ≡ p' → d ≤ d'
    down' q = elim (dec_lt d' d) [ yes k ↦ clash refl (rw (le-ltb p' p (omega arith), eq-eqb p' p (sym q), lt-ltb d' d k) at h) | no f ↦ omega arith ]

    end' : p ≡ p' → d ≡ d' → e ≤ e'
    end' q r =
        elim (dec_lt e' e)
        [ yes k ↦ clash refl (rw (le-ltb p' p (omega arith), eq-eqb p' p (sym q), le-ltb d' d (omega arith), eq-eqb d' d (sym r), lt-ltb e' e k) at h) | no f ↦ omega arith ]

head_order : (x y : List ℕ) → lex_less y x ≡ false → get_or x 0 0 ≤ get_or y 0 0
unfolding lex_less
head_order [] y h = omega arith
head_order (p ∷ x) [] h = clash refl h
head_order (p ∷ x) (q ∷ y) h = elim (dec_lt q p) [ yes k ↦ clash refl (rw (lt-ltb q p k) at h) | no f ↦ omega arith ]

run_page : (run : Run) (key : List ℕ) → (next_run run key).page ≡ get_or key 0 0
unfolding next_run
run_page run key = go (eqb (get_or key 0 0) run.page) (eqb (get_or key 1 0) run.down) refl
  where
    go : (s t : Bool) → eqb (get_or key 0 0) run.page ≡ s
        → Run.page (elim s as (λ z. Run) [
          | false ↦ record { page = get_or key 0 0; down = get_or key 1 0; row = 0; top = get_or key 4 0 }
          | true ↦ elim t as (λ z. Run) [ false ↦ record { page = get_or key 0 0; down = get_or key 1 0; row = run.row + 1; top = get_or key 4 0 } | true ↦ run ]
        ]) ≡ get_or key 0 0
    go false t e = refl
    go true false e = refl
    go true true e = sym (eqb-true (get_or key 0 0) run.page e)

-- The three cases of a step.
module _ (run : Run) (key : List ℕ) where
  pub run_new_page : (get_or key 0 0 ≡ run.page → ⊥) → next_run run key ≡ record { page = get_or key 0 0; down = get_or key 1 0; row = 0; top = get_or key 4 0 }
  unfolding next_run
  run_new_page h = rw (ne_eqb (get_or key 0 0) run.page h, next_run) refl

  pub run_new_row : get_or key 0 0 ≡ run.page → (get_or key 1 0 ≡ run.down → ⊥) → next_run run key ≡ record { page = get_or key 0 0; down = get_or key 1 0; row = run.row + 1; top = get_or key 4 0 }
  unfolding next_run
  run_new_row e h = rw (eq-eqb (get_or key 0 0) run.page e, ne_eqb (get_or key 1 0) run.down h, next_run) refl

  pub run_same_row : get_or key 0 0 ≡ run.page → get_or key 1 0 ≡ run.down → next_run run key ≡ run
  unfolding next_run
  run_same_row e h = rw (eq-eqb (get_or key 0 0) run.page e, eq-eqb (get_or key 1 0) run.down h, next_run) refl

-- What is known of the row of a key's node.
pub record RowIs (b : Board) (i : ℕ) (run : Run) : Type 0 where
  pub page : run.page ≡ page_of b i
  pub rest : has_row b i ≡ true → (run.down ≡ down_of b i) × (run.row ≡ row_of b i) × (run.top ≡ row_top b (page_of b i) (row_of b i))

-- The row of the last of the first k keys.
pub record Before (b : Board) (keys : List (List ℕ)) (k : ℕ) (run : Run) : Type 0 where
  pub none : k ≡ 0 → run.page ≡ MISSING
  pub last : (j : ℕ) → k ≡ suc j → (i : ℕ) → i < length b.nodes → get_or keys j [] ≡ row_key b i → RowIs b i run

not_missing : {C : Type 0} (v : ℕ) → given v ≡ true → v ≡ MISSING → C
not_missing v h e = clash h (ap not (eq-eqb v MISSING e))

module _ (b : Board) (keys : List (List ℕ)) (ranked : Ranked b keys) where
  -- The keys at j and k, of nodes with a row.
  key_order : (j k x y : ℕ) → j < k → k < length keys → get_or keys j [] ≡ row_key b x → get_or keys k [] ≡ row_key b y → has_row b x ≡ true → has_row b y ≡ true
      → Under (page_of b x) (down_of b x) (END_MOST - (brick_cell b x).x1) (page_of b y) (down_of b y) (END_MOST - (brick_cell b y).x1)
  key_order j k x y h g e f r s =
      not_less _ _ _ _ _ _ _ _
      (subst (λ (u : List ℕ). lex_less (page_of b y ∷ down_of b y ∷ (END_MOST - (brick_cell b y).x1) ∷ y ∷ (brick_cell b y).x1 ∷ 0 ∷ 0 ∷ 0 ∷ []) u ≡ false) (e ∙ key_some b x r)
      (subst (λ (u : List ℕ). lex_less u (get_or keys j []) ≡ false) (f ∙ key_some b y s) (ranked.rising j k h g)))

  -- The keys at j and k, of nodes of one page: the later down is not less.
  down_order : (p j k x y : ℕ) → j ≤ k → k < length keys → get_or keys j [] ≡ row_key b x → get_or keys k [] ≡ row_key b y → On b p x → On b p y → down_of b x ≤ down_of b y
  down_order p j k x y h g e f o q =
      elim (dec_lt j k) [
        | yes l ↦ (key_order j k x y l g e f o.row q.row).down (o.page ∙ sym q.page)
        | no z ↦
            let same : j ≡ k = omega arith in
            let index : x ≡ y = sym (key_index b x) ∙ ap (λ (r : List ℕ). get_or r 3 0) (sym e ∙ ap (λ (m : ℕ). get_or keys m []) same ∙ f) ∙ key_index b y in
            let downs : down_of b x ≡ down_of b y = ap (down_of b) index in
            omega arith
      ]

  end_order : (p j k x y : ℕ) → j ≤ k → k < length keys → get_or keys j [] ≡ row_key b x → get_or keys k [] ≡ row_key b y → On b p x → On b p y → down_of b x ≡ down_of b y
      → (brick_cell b y).x1 ≤ (brick_cell b x).x1
  end_order p j k x y h g e f o q d =
      elim (dec_lt j k) [
        | yes l ↦
            let u = (key_order j k x y l g e f o.row q.row).end (o.page ∙ sym q.page) d in
            let v = ranked.ends x o.there_is o.row in
            let w = ranked.ends y q.there_is q.row in
            omega arith
        | no z ↦
            let same : j ≡ k = omega arith in
            let index : x ≡ y = sym (key_index b x) ∙ ap (λ (r : List ℕ). get_or r 3 0) (sym e ∙ ap (λ (m : ℕ). get_or keys m []) same ∙ f) ∙ key_index b y in
            let ends : (brick_cell b y).x1 ≡ (brick_cell b x).x1 = ap (λ (i : ℕ). (brick_cell b i).x1) (sym index) in
            omega arith
      ]

  page_order : (j k x y : ℕ) → j ≤ k → k < length keys → get_or keys j [] ≡ row_key b x → get_or keys k [] ≡ row_key b y → page_of b x ≤ page_of b y
  page_order j k x y h g e f =
      elim (dec_lt j k) [
        | yes l ↦
            let u : get_or (get_or keys j []) 0 0 ≤ get_or (get_or keys k []) 0 0 = head_order (get_or keys j []) (get_or keys k []) (ranked.rising j k l g) in
            let v : get_or (get_or keys j []) 0 0 ≡ page_of b x = ap (λ (r : List ℕ). get_or r 0 0) e ∙ key_page b x in
            let w : get_or (get_or keys k []) 0 0 ≡ page_of b y = ap (λ (r : List ℕ). get_or r 0 0) f ∙ key_page b y in
            omega arith
        | no z ↦
            let same : j ≡ k = omega arith in
            let pages : page_of b x ≡ page_of b y = sym (key_page b x) ∙ ap (λ (r : List ℕ). get_or r 0 0) (sym e ∙ ap (λ (m : ℕ). get_or keys m []) same ∙ f) ∙ key_page b y in
            omega arith
      ]

  module _ (k i : ℕ) (in-keys : k < length keys) (is-node : i < length b.nodes) (key : get_or keys k [] ≡ row_key b i) (has : has_row b i ≡ true) where
    self : On b (page_of b i) i
    self = record { there_is = is-node; row = has; page = refl }

    -- Where no earlier key of the page has this down, the key's x end is the row's top.
    fresh_top : ((m j : ℕ) → m < k → get_or keys m [] ≡ row_key b j → On b (page_of b i) j → down_of b j < down_of b i) → row_top b (page_of b i) (row_of b i) ≡ (brick_cell b i).x1
    fresh_top fresh = top_is b (page_of b i) i i self self refl (λ j o d. go j o d (ranked.all j o.there_is))
      where
        go : (j : ℕ) → On b (page_of b i) j → down_of b i ≡ down_of b j → (m : ℕ) × (m < length keys) × (get_or keys m [] ≡ row_key b j) → (brick_cell b j).x1 ≤ (brick_cell b i).x1
        go j o d w =
            elim (dec_lt w.0 k) [
              | yes l ↦ absurd (let u = fresh w.0 j l w.2 o in omega arith)
              | no z ↦ end_order (page_of b i) k w.0 i j (omega arith) w.1 key w.2 self o d
            ]

    columns : get_or keys k [] ≡ page_of b i ∷ down_of b i ∷ (END_MOST - (brick_cell b i).x1) ∷ i ∷ (brick_cell b i).x1 ∷ 0 ∷ 0 ∷ 0 ∷ []
    columns = key ∙ key_some b i has

    col : (c : ℕ) → get_or (get_or keys k []) c 0 ≡ get_or (page_of b i ∷ down_of b i ∷ (END_MOST - (brick_cell b i).x1) ∷ i ∷ (brick_cell b i).x1 ∷ 0 ∷ 0 ∷ 0 ∷ []) c 0
    col c = ap (λ (r : List ℕ). get_or r c 0) columns

    module _ (run : Run) (before : Before b keys k run) where
      -- The key before this one, where there is one.
      previous : (j : ℕ) → k ≡ suc j → (x : ℕ) × (x < length b.nodes) × (get_or keys j [] ≡ row_key b x)
      previous j e = ranked.each j (omega arith)

      new_page : (page_of b i ≡ run.page → ⊥) → (m j : ℕ) → m < k → get_or keys m [] ≡ row_key b j → On b (page_of b i) j → ⊥
      new_page h m j l f o = go k refl
        where
          go : (q : ℕ) → k ≡ q → ⊥
          go zero e = omega arith
          go (suc q) e =
              let w = previous q e in
              let u = page_order m q j w.0 (omega arith) (omega arith) f w.2 in
              let v = page_order q k w.0 i (omega arith) in-keys w.2 key in
              let g : page_of b j ≡ page_of b i = o.page in
              let r : run.page ≡ page_of b w.0 = (before.last q e w.0 w.1 w.2).page in
              h (let a : page_of b w.0 ≡ page_of b i = omega arith in sym (r ∙ a))

      in_new_page : (page_of b i ≡ run.page → ⊥) → RowIs b i (record { page = get_or (get_or keys k []) 0 0; down = get_or (get_or keys k []) 1 0; row = 0; top = get_or (get_or keys k []) 4 0 })
      in_new_page h =
          record {
            page = col 0;
            rest = λ r. (
              col 1,
              sym (row_first b (page_of b i) i self (λ j o. go j o (ranked.all j o.there_is))),
              col 4 ∙ sym (fresh_top (λ m j l f o. absurd (new_page h m j l f o))),
            );
          }
        where
          go : (j : ℕ) → On b (page_of b i) j → (m : ℕ) × (m < length keys) × (get_or keys m [] ≡ row_key b j) → down_of b i ≤ down_of b j
          go j o w =
              elim (dec_lt w.0 k)
              [ yes l ↦ absurd (new_page h w.0 j l w.2 o) | no z ↦ down_order (page_of b i) k w.0 i j (omega arith) w.1 key w.2 self o ]

      -- On the same page the key before is that of a node of the page.
      module _ (e : page_of b i ≡ run.page) where
        same_page : (x j : ℕ) → k ≡ suc j → (w : x < length b.nodes) → (f : get_or keys j [] ≡ row_key b x) → On b (page_of b i) x
        same_page x j g w f =
            let pages : page_of b x ≡ page_of b i = sym (before.last j g x w f).page ∙ sym e in
            record { there_is = w; row = ap given pages ∙ has; page = pages }

        rest_of : (x j : ℕ) (g : k ≡ suc j) (w : x < length b.nodes) (f : get_or keys j [] ≡ row_key b x) → (run.down ≡ down_of b x) × (run.row ≡ row_of b x) × (run.top ≡ row_top b (page_of b x) (row_of b x))
        rest_of x j g w f = (before.last j g x w f).rest (same_page x j g w f).row

        in_new_row : (down_of b i ≡ run.down → ⊥) → (j : ℕ) → k ≡ suc j → RowIs b i (record { page = get_or (get_or keys k []) 0 0; down = get_or (get_or keys k []) 1 0; row = run.row + 1; top = get_or (get_or keys k []) 4 0 })
        in_new_row h j g = go (previous j g)
          where
            go : (x : ℕ) × (x < length b.nodes) × (get_or keys j [] ≡ row_key b x) → RowIs b i (record { page = get_or (get_or keys k []) 0 0; down = get_or (get_or keys k []) 1 0; row = run.row + 1; top = get_or (get_or keys k []) 4 0 })
            go w =
                record {
                  page = col 0;
                  rest = λ r. (
                    col 1,
                    ap (λ (z : ℕ). z + 1) known.1 ∙ add-one (row_of b w.0) ∙ sym (row_next b (page_of b i) w.0 i on self less (λ y o d. apart y o d (ranked.all y o.there_is))),
                    col 4 ∙ sym (fresh_top fresh),
                  );
                }
              where
                on : On b (page_of b i) w.0
                on = same_page w.0 j g w.1 w.2

                known : (run.down ≡ down_of b w.0) × (run.row ≡ row_of b w.0) × (run.top ≡ row_top b (page_of b w.0) (row_of b w.0))
                known = rest_of w.0 j g w.1 w.2

                less : down_of b w.0 < down_of b i
                less =
                    let u = down_order (page_of b i) j k w.0 i (omega arith) in-keys w.2 key on self in
                    let v : down_of b i ≡ down_of b w.0 → ⊥ = λ z. h (z ∙ sym known.0) in
                    omega (arith, v)

                fresh : (m y : ℕ) → m < k → get_or keys m [] ≡ row_key b y → On b (page_of b i) y → down_of b y < down_of b i
                fresh m y l f o = let u = down_order (page_of b i) m j y w.0 (omega arith) (omega arith) f w.2 o on in let v = less in omega arith

                apart : (y : ℕ) → On b (page_of b i) y → down_of b w.0 < down_of b y → (m : ℕ) × (m < length keys) × (get_or keys m [] ≡ row_key b y) → down_of b i ≤ down_of b y
                apart y o d s =
                    elim (dec_lt s.0 k) [
                      | yes l ↦ absurd (let u = down_order (page_of b i) s.0 j y w.0 (omega arith) (omega arith) s.2 w.2 o on in omega arith)
                      | no z ↦ down_order (page_of b i) k s.0 i y (omega arith) s.1 key s.2 self o
                    ]

        in_same_row : down_of b i ≡ run.down → (j : ℕ) → k ≡ suc j → RowIs b i run
        in_same_row h j g = go (previous j g)
          where
            go : (x : ℕ) × (x < length b.nodes) × (get_or keys j [] ≡ row_key b x) → RowIs b i run
            go w =
                let on = same_page w.0 j g w.1 w.2 in
                let known = rest_of w.0 j g w.1 w.2 in
                let rows : row_of b i ≡ row_of b w.0 = row_same b (page_of b i) w.0 i on self (sym (h ∙ known.0)) in
                record {
                  page = sym e;
                  rest = λ r. (sym h, known.1 ∙ sym rows, known.2 ∙ (λ z. row_top b (on.page z) (sym rows z)));
                }

      pub row_is : RowIs b i (next_run run (get_or keys k []))
      row_is = go (eqb (page_of b i) run.page) refl (eqb (down_of b i) run.down) refl k refl
        where
          go : (s : Bool) → eqb (page_of b i) run.page ≡ s → (t : Bool) → eqb (down_of b i) run.down ≡ t → (q : ℕ) → k ≡ q → RowIs b i (next_run run (get_or keys k []))
          go false f t g q e =
              subst (RowIs b i) (sym (run_new_page run (get_or keys k []) (λ z. eqb-false (page_of b i) run.page f (sym (col 0) ∙ z)))) (in_new_page (eqb-false (page_of b i) run.page f))
          go true f t g zero e = not_missing (page_of b i) has (eqb-true (page_of b i) run.page f ∙ before.none e)
          go true f false g (suc j) e =
              subst (RowIs b i) (sym (run_new_row run (get_or keys k []) (col 0 ∙ eqb-true (page_of b i) run.page f) (λ z. eqb-false (down_of b i) run.down g (sym (col 1) ∙ z))))
              (in_new_row (eqb-true (page_of b i) run.page f) (eqb-false (down_of b i) run.down g) j e)
          go true f true g (suc j) e =
              subst (RowIs b i) (sym (run_same_row run (get_or keys k []) (col 0 ∙ eqb-true (page_of b i) run.page f) (col 1 ∙ eqb-true (down_of b i) run.down g)))
              (in_same_row (eqb-true (page_of b i) run.page f) (eqb-true (down_of b i) run.down g) j e)

-- The facts of a node.
pub record Known (b : Board) (facts : List (List ℕ)) (i : ℕ) : Type 0 where
  pub row : field facts i 0 ≡ row_of b i
  pub top : field facts i 1 ≡ row_top b (page_of b i) (row_of b i)

-- The facts of the nodes of the first k keys are known, and the row of the last one.
pub record Walked (b : Board) (keys facts : List (List ℕ)) (k : ℕ) (run : Run) : Type 0 where
  pub before : Before b keys k run
  pub known : (j : ℕ) → j < k → (i : ℕ) → i < length b.nodes → get_or keys j [] ≡ row_key b i → has_row b i ≡ true → Known b facts i

-- A run in which no key stands, where none is before.
abbrev pub no_run : Run
no_run = record { page = MISSING; down = 0; row = 0; top = 0 }

abbrev pub run_or_none : Option Run → Run
run_or_none None = no_run
run_or_none (Some run) = run

pub walk_start : (b : Board) (keys facts : List (List ℕ)) → Walked b keys facts 0 no_run
walk_start b keys facts =
    record { before = record { none = λ z. refl; last = λ j z. absurd (omega arith) }; known = λ j h. absurd (omega arith) }

first_run : (b : Board) (i : ℕ) (key : List ℕ) → key ≡ row_key b i → run_from key 0 ≡ next_run no_run key
unfolding next_run
first_run b i key e = go (has_row b i) refl
  where
    go : (t : Bool) → has_row b i ≡ t → run_from key 0 ≡ next_run no_run key
    go true has = sym (run_new_page no_run key (λ z. not_missing (page_of b i) has (sym (ap (λ (r : List ℕ). get_or r 0 0) e ∙ key_page b i) ∙ z)))
    go false h = let is = e ∙ key_none b i h in rw is refl

pub run_told : (b : Board) (keys : List (List ℕ)) → Ranked b keys → (k : ℕ) → k < length keys → (before : Option Run) → run_after before (get_or keys k []) ≡ next_run (run_or_none before) (get_or keys k [])
run_told b keys ranked k h None = let w = ranked.each k h in first_run b w.0 (get_or keys k []) w.2
run_told b keys ranked k h (Some run) = refl

module _ (b : Board) (keys : List (List ℕ)) (ranked : Ranked b keys) (facts : List (List ℕ)) (k : ℕ) (run : Run) (walked : Walked b keys facts k run) (in-keys : k < length keys) where
  row_after_lem : (i : ℕ) → i < length b.nodes → get_or keys k [] ≡ row_key b i → RowIs b i (next_run run (get_or keys k []))
  row_after_lem i h e = go (has_row b i) refl
    where
      go : (t : Bool) → has_row b i ≡ t → RowIs b i (next_run run (get_or keys k []))
      go true has = row_is b keys ranked k i in-keys h e has run walked.before
      go false has =
          record {
            page = run_page run (get_or keys k []) ∙ ap (λ (r : List ℕ). get_or r 0 0) e ∙ key_page b i;
            rest = λ z. clash z has;
          }

  pub walk_more : (next : Run) (at : ℕ) → next ≡ next_run run (get_or keys k []) → at ≡ field keys k 3 → at < length facts
      → Walked b keys (set facts at (next.row ∷ next.top ∷ 0 ∷ 0 ∷ 0 ∷ 0 ∷ 0 ∷ 0 ∷ [])) (k + 1) next
  walk_more next at e f room =
      record {
        before = record { none = λ z. absurd (omega arith); last = λ j z i h g. now' i h (subst (λ (m : ℕ). get_or keys m [] ≡ row_key b i) (let q : j ≡ k = omega arith in q) g) };
        known = λ j h i n g has. elim (dec_lt j k) [ yes l ↦ older i (walked.known j l i n g has) n (eqb i at) refl has (λ q. same i n j g q has) | no z ↦ stored i n (subst (λ (m : ℕ). get_or keys m [] ≡ row_key b i) (let q : j ≡ k = omega arith in q) g) has ];
      }
    where
      now' : (i : ℕ) → i < length b.nodes → get_or keys k [] ≡ row_key b i → RowIs b i next
      now' i h g = subst (RowIs b i) (sym e) (row_after_lem i h g)

      here' : (i : ℕ) → at ≡ i → RowIs b i next → has_row b i ≡ true → Known b (set facts at (next.row ∷ next.top ∷ 0 ∷ 0 ∷ 0 ∷ 0 ∷ 0 ∷ 0 ∷ [])) i
      here' i q r has =
          subst (Known b (set facts at (next.row ∷ next.top ∷ 0 ∷ 0 ∷ 0 ∷ 0 ∷ 0 ∷ 0 ∷ []))) q
          (record {
            row = ap (λ (v : List ℕ). get_or v 0 0) (get_or-set_same facts at _ [] room) ∙ (r.rest has).1 ∙ ap (row_of b) (sym q);
            top = ap (λ (v : List ℕ). get_or v 1 0) (get_or-set_same facts at _ [] room) ∙ (r.rest has).2 ∙ ap (λ (m : ℕ). row_top b (page_of b m) (row_of b m)) (sym q);
          })

      stored : (i : ℕ) → i < length b.nodes → get_or keys k [] ≡ row_key b i → has_row b i ≡ true → Known b (set facts at (next.row ∷ next.top ∷ 0 ∷ 0 ∷ 0 ∷ 0 ∷ 0 ∷ 0 ∷ [])) i
      stored i n g has = here' i (f ∙ ap (λ (r : List ℕ). get_or r 3 0) g ∙ key_index b i) (now' i n g) has

      same : (i : ℕ) → i < length b.nodes → (j : ℕ) → get_or keys j [] ≡ row_key b i → i ≡ at → has_row b i ≡ true → Known b (set facts at (next.row ∷ next.top ∷ 0 ∷ 0 ∷ 0 ∷ 0 ∷ 0 ∷ 0 ∷ [])) i
      same i n j g q has =
          let w = ranked.each k in-keys in
          let x : w.0 ≡ i = sym (key_index b w.0) ∙ ap (λ (r : List ℕ). get_or r 3 0) (sym w.2) ∙ sym f ∙ sym q in
          stored i n (w.2 ∙ ap (row_key b) x) has

      older : (i : ℕ) → Known b facts i → i < length b.nodes → (t : Bool) → eqb i at ≡ t → has_row b i ≡ true
          → (i ≡ at → Known b (set facts at (next.row ∷ next.top ∷ 0 ∷ 0 ∷ 0 ∷ 0 ∷ 0 ∷ 0 ∷ [])) i)
          → Known b (set facts at (next.row ∷ next.top ∷ 0 ∷ 0 ∷ 0 ∷ 0 ∷ 0 ∷ 0 ∷ [])) i
      older i o n true q has s = s (eqb-true i at q)
      older i o n false q has s =
          record {
            row = ap (λ (v : List ℕ). get_or v 0 0) (get_or-set_other facts at i _ [] (eqb-false i at q)) ∙ o.row;
            top = ap (λ (v : List ℕ). get_or v 1 0) (get_or-set_other facts at i _ [] (eqb-false i at q)) ∙ o.top;
          }

pub walk_end : (b : Board) (keys : List (List ℕ)) → Ranked b keys → (facts : List (List ℕ)) (k : ℕ) (run : Run) → Walked b keys facts k run → length keys ≤ k → NodeFacts b facts
walk_end b keys ranked facts k run walked h =
    record {
      rows = λ i n has. let w = ranked.all i n in let l = w.1 in (walked.known w.0 (omega arith) i n w.2 has).row;
      tops = λ i n has. let w = ranked.all i n in let l = w.1 in (walked.known w.0 (omega arith) i n w.2 has).top;
    }

-- The keys of all nodes, sorted.
pub ranked_of : (b : Board) (keys : List (List ℕ)) → length keys ≡ length b.nodes
    → ((i : ℕ) → i < length b.nodes → get_or keys i [] ≡ row_key b i)
    → ((i : ℕ) → i < length b.nodes → has_row b i ≡ true → (brick_cell b i).x1 ≤ END_MOST)
    → Ranked b (sorted_rows keys)
unfolding sorted_rows
ranked_of b keys size filled ends =
    record {
      each = λ k h. from k (mem_at [] keys (sorted_from_lem lex_less keys (at_mem [] (sorted lex_less keys) k h)));
      all = λ i h. to i h (mem_at [] (sorted lex_less keys) (sorted_in lex_less keys (subst (λ (r : List ℕ). Memᴰ r keys) (filled i h) (at_mem [] keys i (omega (arith, size))))));
      rising = λ j k h g. ascending_at lex_less [] (sorted lex_less keys) j k (sorted_ascending lex_less lex_order lex_alone keys) h g;
      ends = ends;
    }
  where
    from : (k : ℕ) → (i : ℕ) × (i < length keys) × (get_or keys i [] ≡ get_or (sorted lex_less keys) k []) → (i : ℕ) × (i < length b.nodes) × (get_or (sorted lex_less keys) k [] ≡ row_key b i)
    from k w = let e = size in let l = w.1 in let h : w.0 < length b.nodes = omega arith in (w.0, h, sym w.2 ∙ filled w.0 h)

    to : (i : ℕ) → i < length b.nodes → (k : ℕ) × (k < length (sorted lex_less keys)) × (get_or (sorted lex_less keys) k [] ≡ row_key b i) → (k : ℕ) × (k < length (sorted lex_less keys)) × (get_or (sorted lex_less keys) k [] ≡ row_key b i)
    to i h w = w

-- Rows and tops are found from the nodes alone.
pub facts_of_nodes : (b : Board) (nodes facts : List (List ℕ)) → b.nodes ≡ nodes → NodeFacts (nodes_alone nodes) facts → NodeFacts b facts
unfolding row_of downs_on nodes_on row_top bricks_in brick_cell
facts_of_nodes b nodes facts e f = let g : NodeFacts (nodes_alone b.nodes) facts = subst (λ (ns : List (List ℕ)). NodeFacts (nodes_alone ns) facts) (sym e) f in record { rows = g.rows; tops = g.tops }

-- The sorted keys.
module _ (nodes keys risen : List (List ℕ)) (room : length keys ≡ length nodes) (accepted : AcceptedNodes nodes)
    (filled : (i : ℕ) → i < length nodes → get_or keys i [] ≡ row_key (nodes_alone nodes) i) (done : risen ≡ sorted_rows keys) where
  end_most : (i : ℕ) → i < length nodes → has_row (nodes_alone nodes) i ≡ true → (brick_cell (nodes_alone nodes) i).x1 ≤ END_MOST
  unfolding brick_cell
  end_most i h has =
      let x = nodes_x accepted i has in
      let half = half_within (turned (nodes_alone nodes) i) _ (field nodes i 5) (field nodes i 6) HALF_MOST refl (nodes_half_x accepted i) (nodes_half_y accepted i) in
      omega arith

  pub keys_ranked : Ranked (nodes_alone nodes) risen
  keys_ranked = subst (Ranked (nodes_alone nodes)) (sym done) (ranked_of (nodes_alone nodes) keys room filled end_most)

  pub keys_index : (k : ℕ) → k < length risen → field risen k 3 < length nodes
  keys_index k h =
      let w = keys_ranked.each k h in
      let l = w.1 in
      let e : field risen k 3 ≡ w.0 = ap (λ (r : List ℕ). get_or r 3 0) w.2 ∙ key_index (nodes_alone nodes) w.0 in
      omega arith
