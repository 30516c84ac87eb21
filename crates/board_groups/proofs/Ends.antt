-- What an id names, and the anchor of a wire's end.
use Prim.Native.Nat.{ℕ, suc, ◌≤◌, ◌<◌}
use native.Mathlib.Omega.{arith}
use mathlib.Core.Path.{◌≡◌, refl, sym, ap, ◌∙◌}
use mathlib.Core.Bool.{Bool, true, false, not}
use mathlib.Core.List.{List}
use lib.Dec.{eqb}
use lib.ListN.{length, get_or, set, replicate, get_or-replicate}
use lib.Seq.{get_or-set_same, get_or-set_other}
use borrow.Author.Tests.{eqb-true, eqb-false}
use mir.Val.{bool_byte}
use Rattle.sheet.specs.Table.{MISSING}
use Rattle.base.specs.Lists.{Found, none, at, newest}
use Rattle.board.specs.Board.{Board, field, class_of, class_inline, inner_class}
use Rattle.board.specs.Refusals.{body_of, inner_of}
use Rattle.board.specs.Groups.{anchor_of, is_bussable, top_chip}
use Rattle.board.specs.Index.{Ids, entry_of, found_of, link}
use Rattle.std.specs.Prelude.{Option, Some, None}
use Rattle.board.specs.Tables.{held, flag}
use Rattle.board_groups.specs.Collecting.{Indexes, inner_anchor, SomeAnchors}
use Rattle.base.proofs.Bools.{never}
use Rattle.board.proofs.Newest.{newest_same, link_below}

pub found_below : (p : ℕ → Bool) (n i : ℕ) → newest p n ≡ at i → i < n
found_below p n i e = let h = link_below p n in let l : link (newest p n) ≡ suc i = ap link e in omega arith

pub held_there : (f : Found) (n i : ℕ) → n ≤ MISSING → held f ≡ i → i < n → f ≡ at i
held_there none n i m e h = absurd (omega arith)
held_there (at j) n i m e h = ap at e

pub entry_is : (ids : List (List ℕ)) (n id : ℕ) (id_at : ℕ → ℕ) → ((j : ℕ) → j < n → field ids j 0 ≡ id_at j) → entry_of ids n id ≡ newest (λ i. eqb (id_at i) id) n
unfolding entry_of
entry_is ids n id id_at same = newest_same _ _ n (λ i h. ap (λ (x : ℕ). eqb x id) (same i h))

module _ (b : Board) (id : ℕ) where
  module _ (i : ℕ) (e : body_of b id ≡ at i) where
    pub anchor_body : anchor_of b id ≡ at i
    unfolding anchor_of
    anchor_body = rw (e, anchor_of)

    pub bussable_body : is_bussable b id ≡ not (eqb (class_of b i) class_inline)
    unfolding is_bussable
    bussable_body = rw (e, is_bussable)

  module _ (e : body_of b id ≡ none) where
    pub anchor_inner : (f : ℕ) → inner_of b id ≡ at f → anchor_of b id ≡ inner_anchor b f
    unfolding anchor_of
    anchor_inner f g = rw (e, g, anchor_of)

    pub bussable_inner : (f : ℕ) → inner_of b id ≡ at f → is_bussable b id ≡ not (eqb (inner_class b f) class_inline)
    unfolding is_bussable
    bussable_inner f g = rw (e, g, is_bussable)

    pub anchor_none : inner_of b id ≡ none → anchor_of b id ≡ none
    unfolding anchor_of
    anchor_none g = rw (e, g, anchor_of)

    pub bussable_none : inner_of b id ≡ none → is_bussable b id ≡ false
    unfolding is_bussable
    bussable_none g = rw (e, g, is_bussable)

-- The body node and the node inside a chip that an id names, by their indexes.
module _ (rows ids : List (List ℕ)) (known : Ids ids (length rows) (λ i. field rows i 1)) (id : ℕ) where
  pub body_entry : (b : Board) → b.nodes ≡ rows → entry_of ids (length rows) id ≡ body_of b id
  unfolding body_of
  body_entry b e = entry_is ids (length rows) id (λ i. field rows i 1) known.same ∙ (λ z. newest (λ i. eqb (field (sym e z) i 1) id) (length (sym e z)))

  pub inner_entry : (b : Board) → b.inner ≡ rows → entry_of ids (length rows) id ≡ inner_of b id
  unfolding inner_of
  inner_entry b e = entry_is ids (length rows) id (λ i. field rows i 1) known.same ∙ (λ z. newest (λ i. eqb (field (sym e z) i 1) id) (length (sym e z)))

-- What a search answered.
pub found_some : (f : Found) (i : ℕ) → Some i ≡ found_of f → f ≡ at i
found_some none i e = never cc
found_some (at j) i e = let z : j ≡ i = cc in ap at z

pub found_nothing : (f : Found) → None ≡ found_of f → f ≡ none
found_nothing none e = refl
found_nothing (at j) e = never cc

-- The anchor of an inner record, as `inner_anchor` finds it.
pub anchor_found : (nodes chips inner bi : List (List ℕ)) → Ids bi (length nodes) (λ i. field nodes i 1) → (f top : ℕ) (r : Option ℕ)
    → ((b : Board) → b.chips ≡ chips → top ≡ top_chip b (length chips) (field inner f 2)) → r ≡ found_of (entry_of bi (length nodes) top)
    → (b : Board) → b.nodes ≡ nodes → b.chips ≡ chips → b.inner ≡ inner → r ≡ found_of (inner_anchor b f)
anchor_found nodes chips inner bi known f top r t e b n c i =
    e ∙ ap found_of (body_entry nodes bi known top b n ∙ ap (body_of b) (t b c ∙ (λ z. top_chip b (length (sym c z)) (field (sym i z) f 2))))

-- A table of anchors: none asked for, and one more entered.
pub none_asked : (b : Board) (n : ℕ) → length b.inner ≤ n → SomeAnchors b (replicate n None)
none_asked b n h f anchor l e = let none : None ≡ Some anchor = sym (get_or-replicate n f None None (omega (arith, h, l))) ∙ e in never cc

pub anchor_entered : (b : Board) (anchors : List (Option (Option ℕ))) (f : ℕ) (r : Option ℕ) → f < length anchors → SomeAnchors b anchors → r ≡ found_of (inner_anchor b f) → SomeAnchors b (set anchors f (Some r))
anchor_entered b anchors f r room some is k anchor l e = go (eqb k f) refl
  where
    go : (t : Bool) → eqb k f ≡ t → anchor ≡ found_of (inner_anchor b k)
    go true q =
        let z : k ≡ f = eqb-true k f q in
        let here : Some r ≡ Some anchor = sym (get_or-set_same anchors f (Some r) None room) ∙ (λ w. get_or (set anchors f (Some r)) (sym z w) None) ∙ e in
        let same : anchor ≡ r = cc in
        same ∙ is ∙ ap (λ (i : ℕ). found_of (inner_anchor b i)) (sym z)
    go false q = some k anchor l (sym (get_or-set_other anchors f k (Some r) None (λ w. eqb-false k f q w)) ∙ e)

-- The end at a node: what `find_end` finds of a board whose body nodes and nodes inside chips are indexed.
module _ (nodes inner bi ii : List (List ℕ)) (known : Indexes nodes inner bi ii) (id : ℕ) (b : Board) (n : b.nodes ≡ nodes) (f : b.inner ≡ inner) where
  pub end_body : (i : ℕ) → Some i ≡ found_of (entry_of bi (length nodes) id) → (Some i ≡ found_of (anchor_of b id)) × (not (eqb (field nodes i 3) 2) ≡ is_bussable b id)
  end_body i e =
      let here : body_of b id ≡ at i = sym (body_entry nodes bi known.body id b n) ∙ found_some _ i e in (
        sym (ap found_of (anchor_body b id i here)),
        (λ z. not (eqb (field (sym n z) i 3) 2)) ∙ sym (bussable_body b id i here),
      )

  module _ (e : None ≡ found_of (entry_of bi (length nodes) id)) where
    no_body : body_of b id ≡ none
    no_body = sym (body_entry nodes bi known.body id b n) ∙ found_nothing _ e

    pub end_inner : (j : ℕ) → Some j ≡ found_of (entry_of ii (length inner) id) → (r : Option ℕ) → r ≡ found_of (inner_anchor b j) → (r ≡ found_of (anchor_of b id)) × (not (eqb (field inner j 3) 2) ≡ is_bussable b id)
    end_inner j g r a =
        let here : inner_of b id ≡ at j = sym (inner_entry inner ii known.inside id b f) ∙ found_some _ j g in (
          a ∙ sym (ap found_of (anchor_inner b id no_body j here)),
          (λ z. not (eqb (field (sym f z) j 3) 2)) ∙ sym (bussable_inner b id no_body j here),
        )

    pub end_none : None ≡ found_of (entry_of ii (length inner) id) → (None ≡ found_of (anchor_of b id)) × (false ≡ is_bussable b id)
    end_none g =
        let gone : inner_of b id ≡ none = sym (inner_entry inner ii known.inside id b f) ∙ found_nothing _ g in
        (sym (ap found_of (anchor_none b id no_body gone)), sym (bussable_none b id no_body gone))

-- A bool cast to a number.
pub byte_flag : (r : Bool) → bool_byte r ≡ flag r
byte_flag true = refl
byte_flag false = refl
