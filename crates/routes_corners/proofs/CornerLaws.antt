-- The tests on the nodes of a wire: ends found by their anchors. And the flags of suppressed ports, kept by class.
use Rattle.std.proofs.Common.{◌≡◌, ℕ, zero, suc, ◌<◌, ◌≤◌, Bool, true, false, not, ◌&&◌, ◌||◌, eqb, ltb, List, [], length, get_or, set, sym, refl, ap, ◌∙◌, ap₂, arith, get_or-set_other, get_or-set_same, eq-eqb, eqb-true}
use native.Mathlib.Decide.{dec_lt}
use borrow.Author.Tests.{eqb-false}
use Rattle.sheet.specs.Table.{MISSING}
use Rattle.base.specs.Lists.{Found, none, at, newest}
use Rattle.base.proofs.Bools.{never, clash, and_left, and_right}
use Rattle.board.specs.Board.{Board, field, id_of, y_of, page_of, down_of, line_of, rotation_of, has_row, has_line, inner_chip}
use Rattle.board.specs.Groups.{anchor_of, top_chip}
use Rattle.board.specs.Refusals.{body_of, inner_of}
use Rattle.board.specs.Index.{link}
use Rattle.board.specs.Tables.{held}
use Rattle.board.proofs.Newest.{link_below, link_held}
use Rattle.routes.specs.Corners.{turns_down}
use Rattle.routes_corners.specs.CornerTables.{flag_at}

-- The tests on two nodes, over their rows.
abbrev turns_in : List ℕ → List ℕ → Bool
turns_in s t =
    eqb (get_or t 7 0) 1
    && not (eqb (get_or s 12 0) MISSING) && not (eqb (get_or t 12 0) MISSING) && eqb (get_or s 12 0) (get_or t 12 0)
    && not (eqb (get_or s 10 0) MISSING) && not (eqb (get_or t 10 0) MISSING) && eqb (get_or s 10 0) (get_or t 10 0)
    && ltb (get_or s 11 0) (get_or t 11 0) && ltb (get_or t 9 0) (get_or s 9 0)

pub turns_in_lem : (b : Board) (s t : ℕ) (source sink : List ℕ) → get_or b.nodes s [] ≡ source → get_or b.nodes t [] ≡ sink → turns_in source sink ≡ turns_down b s t
unfolding turns_down
turns_in_lem b s t source sink p q = ap₂ turns_in (sym p) (sym q)

-- A source and a sink that pass them have rows.
pub turns_rows : (b : Board) (s t : ℕ) → turns_down b s t ≡ true → (has_row b s ≡ true) × (has_row b t ≡ true)
unfolding turns_down
turns_rows b s t e =
    let lines : Bool = eqb (rotation_of b t) 1 && has_line b s && has_line b t && eqb (line_of b s) (line_of b t) in
    let rows : Bool = lines && has_row b s && has_row b t in
    let pages : Bool = rows && eqb (page_of b s) (page_of b t) in
    let downs : Bool = pages && ltb (down_of b s) (down_of b t) in
    let both' : rows ≡ true = and_left rows (eqb (page_of b s) (page_of b t)) (and_left pages (ltb (down_of b s) (down_of b t)) (and_left downs (ltb (y_of b t) (y_of b s)) e)) in
    (and_right lines (has_row b s) (and_left (lines && has_row b s) (has_row b t) both'), and_right (lines && has_row b s) (has_row b t) both')

-- An end is a body node exactly where its anchor has its id.
newest_none : (p : ℕ → Bool) (n i : ℕ) → newest p n ≡ none → i < n → p i ≡ true → ⊥
newest_none p zero i e h t = omega arith
newest_none p (suc n) i e h t = go (p n) refl e (dec_lt i n) (λ f l. newest_none p n i f l t)
  where
    go : (s : Bool) → p n ≡ s → elim s [ true ↦ at n | false ↦ newest p n ] ≡ none → Dec (i < n) → (newest p n ≡ none → i < n → ⊥) → ⊥
    go true u f d below = never cc
    go false u f (yes l) below = below f l
    go false u f (no o) below = let same : i ≡ n = omega arith in clash {t = p n} (ap p (sym same) ∙ t) u

module _ (b : Board) (id : ℕ) where
  abbrev named : ℕ → Bool
  named i = eqb (id_of b i) id

  -- The body node found is on the board, has the id, and is its own anchor.
  body_found : (i : ℕ) → body_of b id ≡ at i → (i < length b.nodes) × (id_of b i ≡ id) × (held (anchor_of b id) ≡ i)
  unfolding body_of anchor_of
  body_found i e =
      let l : link (newest named (length b.nodes)) ≡ suc i = ap link e in
      let low = link_below named (length b.nodes) in (
        omega arith,
        eqb-true (id_of b i) id (link_held named (length b.nodes) i l),
        (λ j. held (elim (e j) as (λ _. Found) [ at k ↦ at k | none ↦ elim (inner_of b id) as (λ _. Found) [ at f ↦ body_of b (top_chip b (length b.chips) (inner_chip b f)) | none ↦ none ] ])),
      )

  body_none : (i : ℕ) → body_of b id ≡ none → i < length b.nodes → id_of b i ≡ id → ⊥
  unfolding body_of
  body_none i e l same = newest_none named (length b.nodes) i e l (eq-eqb (id_of b i) id same)

  module _ (a : ℕ) (anchor : a ≡ held (anchor_of b id)) where
    pub body_there : a < length b.nodes → id_of b a ≡ id → body_of b id ≡ at a
    body_there l e = go (body_of b id) refl
      where
        go : (f : Found) → body_of b id ≡ f → f ≡ at a
        go (at i) is = ap at (sym (anchor ∙ (body_found i is).2))
        go none is = absurd (body_none a is l e)

    pub body_gone : (a < length b.nodes → id_of b a ≡ id → ⊥) → body_of b id ≡ none
    body_gone o = go (body_of b id) refl
      where
        go : (f : Found) → body_of b id ≡ f → f ≡ none
        go (at i) is =
            let h = body_found i is in
            let same : a ≡ i = anchor ∙ h.2 in
            absurd (o (rw same h.0) (ap (id_of b) same ∙ h.1))
        go none is = refl

    -- The same, of the table that holds the nodes.
    module _ (nodes : List (List ℕ)) (same : b.nodes ≡ nodes) where
      pub body_beyond : length nodes ≤ a → body_of b id ≡ none
      body_beyond l = body_gone (λ h e. let long : length b.nodes ≡ length nodes = ap length same in omega arith)

      pub body_tested : a < length nodes → body_of b id ≡ elim (eqb (field nodes a 1) id) [ true ↦ at a | false ↦ none ]
      body_tested l = go (eqb (field nodes a 1) id) refl
        where
          there : a < length b.nodes
          there = let long : length b.nodes ≡ length nodes = ap length same in omega arith

          ids : id_of b a ≡ field nodes a 1
          ids = λ i. field (same i) a 1

          go : (t : Bool) → eqb (field nodes a 1) id ≡ t → body_of b id ≡ elim t as (λ _. Found) [ true ↦ at a | false ↦ none ]
          go true e = body_there there (ids ∙ eqb-true (field nodes a 1) id e)
          go false e = body_gone (λ h f. eqb-false (field nodes a 1) id e (sym ids ∙ f))

-- The flags of the classes after a port is suppressed.
pub flag-set : (flags : List Bool) (k v : ℕ) (same old : Bool) → k < length flags → eqb v k ≡ same → flag_at flags v ≡ old → flag_at (set flags k true) v ≡ same || old
flag-set flags k v true old room e h =
    ap (flag_at (set flags k true)) (eqb-true v k e) ∙ get_or-set_same flags k true false room
flag-set flags k v false old room e h = get_or-set_other flags k v true false (λ z. eqb-false v k e z) ∙ h
