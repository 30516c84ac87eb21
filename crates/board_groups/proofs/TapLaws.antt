-- Which wires become taps, what their facts hold, and the taps as they are appended.
use Prim.Native.Nat.{ℕ, zero, suc, ◌+◌, ◌≤◌, ◌<◌}
use native.Mathlib.Omega.{arith}
use native.Mathlib.Numerals.{add-one}
use native.Mathlib.Decide.{ℕ_discrete}
use mathlib.Core.Path.{◌≡◌, refl, sym, ap, ◌∙◌, subst}
use mathlib.Core.Bool.{Bool, true, false, not, ◌&&◌, ◌||◌}
use mathlib.Core.List.{List, [], ◌∷◌}
use lib.Dec.{eqb}
use lib.ListN.{length, get_or, set}
use lib.Seq.{get_or-set_same, get_or-set_other}
use Rattle.base.proofs.Bools.{never, and_right}
use Rattle.base.specs.Lists.{Found, none, at, any, fold, upto}
use Rattle.board.specs.Board.{Board, field, given, has_row, page_of, source_node, target_node, class_of, kind_of, class_inline, class_storage, kind_chip, kind_input, kind_coerce}
use Rattle.board.specs.Refusals.{body_of, inner_of}
use Rattle.board.specs.Rows.{row_of}
use Rattle.board.specs.Groups.{Tap, anchor_of, top_chip, is_bussable, wire_open, anchors_open, crosses_at, is_bus_worthy, targets_exec, group_for, tap_for, add_wire, taps_of}
use Rattle.base.specs.Views.{view}
use Rattle.std.specs.Prelude.{Option, None}
use Rattle.std.specs.Bool.{then_some}
use Rattle.board.specs.Index.{found_of}
use Rattle.board.specs.Tables.{held, flag, tap_in, tap_target, NodeFacts, WireFacts}
use Rattle.board_groups.specs.Shares.{Wired, new_tap, Shared, Appended}
use Rattle.board_groups.proofs.Ends.{found_below, held_there}
use Rattle.board_groups.proofs.ShareLaws.{group_told}
use Rattle.board_groups.proofs.Facts.{Agree, same_nodes, same_wires_lem, column_kept, column_more}

module _ (b : Board) where
  pub anchor_below : (id i : ℕ) → anchor_of b id ≡ at i → i < length b.nodes
  unfolding anchor_of body_of
  anchor_below id i e = go (body_of b id) (inner_of b id) refl e
    where
      inside : (d : ℕ) → body_of b d ≡ at i → i < length b.nodes
      inside d h = found_below (λ j. eqb (field b.nodes j 1) d) (length b.nodes) i h

      go : (f g : Found) → body_of b id ≡ f
          → ◌≡◌ {A = Found} (elim f [ at j ↦ at j | none ↦ elim g [ at k ↦ body_of b (top_chip b (length b.chips) (field b.inner k 2)) | none ↦ none ] ]) (at i) → i < length b.nodes
      go (at j) g q h = inside id (q ∙ h)
      go none (at k) q h = inside _ h
      go none none q h = never cc

  module _ (w : ℕ) where
    pub target_closed : wire_open b w ≡ false → tap_target b w ≡ none
    unfolding tap_target
    target_closed h = rw (h, tap_target)

    module _ (o : wire_open b w ≡ true) where
      pub target_sourceless : anchor_of b (source_node b w) ≡ none → tap_target b w ≡ none
      unfolding tap_target
      target_sourceless h = rw (o, h, tap_target)

      module _ (s : ℕ) (e : anchor_of b (source_node b w) ≡ at s) where
        pub target_targetless : anchor_of b (target_node b w) ≡ none → tap_target b w ≡ none
        unfolding tap_target
        target_targetless h = rw (o, e, h, tap_target)

        module _ (t : ℕ) (f : anchor_of b (target_node b w) ≡ at t) where
          pub target_open : anchors_open b w s t ≡ true → tap_target b w ≡ at t
          unfolding tap_target
          target_open h = rw (o, e, f, h, tap_target)

          pub target_shut : anchors_open b w s t ≡ false → tap_target b w ≡ none
          unfolding tap_target
          target_shut h = rw (o, e, f, h, tap_target)

    -- A wire with a target has both anchors, and its target anchor a row.
    pub record Carried (t : ℕ) : Type 0 where
      pub source : ℕ
      pub open' : wire_open b w ≡ true
      pub from : anchor_of b (source_node b w) ≡ at source
      pub to : anchor_of b (target_node b w) ≡ at t
      pub tests : anchors_open b w source t ≡ true

    pub carried : (t : ℕ) → tap_target b w ≡ at t → Carried t
    unfolding tap_target
    carried t e = go (wire_open b w) refl (anchor_of b (source_node b w)) refl (anchor_of b (target_node b w)) refl e
      where
        lost : {C : Type 0} → none ≡ at t → C
        lost h = never cc

        test : (s u : ℕ) (a : Bool) → anchors_open b w s u ≡ a → wire_open b w ≡ true → anchor_of b (source_node b w) ≡ at s → anchor_of b (target_node b w) ≡ at u
            → ◌≡◌ {A = Found} (elim a [ true ↦ at u | false ↦ none ]) (at t) → Carried t
        test s u true q o f g h = let same : u ≡ t = cc in record { source = s; open' = o; from = f; to = g ∙ h; tests = subst (λ (v : ℕ). anchors_open b w s v ≡ true) same q }
        test s u false q o f g h = lost h

        go : (o : Bool) → wire_open b w ≡ o → (s : Found) → anchor_of b (source_node b w) ≡ s → (u : Found) → anchor_of b (target_node b w) ≡ u
            → ◌≡◌ {A = Found} (elim o [ false ↦ none | true ↦ elim s [ none ↦ none | at x ↦ elim u [ none ↦ none | at y ↦ elim (anchors_open b w x y) [ true ↦ at y | false ↦ none ] ] ] ]) (at t) → Carried t
        go false p s f u g h = lost h
        go true p none f u g h = lost h
        go true p (at s) f none g h = lost h
        go true p (at s) f (at u) g h = test s u (anchors_open b w s u) refl p f g h

    pub carried_row : (t : ℕ) → tap_target b w ≡ at t → has_row b t ≡ true
    unfolding anchors_open
    carried_row t e =
        let c = carried t e in
        and_right
        ((crosses_at b t (target_node b w) || is_bus_worthy b c.source || not (targets_exec b w))
        && not (eqb (class_of b c.source) class_inline) && not (eqb (class_of b t) class_inline) && not (eqb (kind_of b c.source) kind_coerce))
        (has_row b t) c.tests

    pub carried_below : (t : ℕ) → tap_target b w ≡ at t → t < length b.nodes
    carried_below t e = anchor_below (target_node b w) t (carried t e).to

    module _ (ts : List Tap) where
      add_as : add_wire b ts w ≡ elim (tap_target b w) [ none ↦ ts | at t ↦ tap_for b ts w t ∷ ts ]
      unfolding add_wire tap_target
      add_as = go (wire_open b w) (anchor_of b (source_node b w)) (anchor_of b (target_node b w))
        where
          test : (y : ℕ) (a : Bool) → ◌≡◌ {A = List Tap} (elim a [ true ↦ tap_for b ts w y ∷ ts | false ↦ ts ]) (elim (elim a as (λ z. Found) [ true ↦ at y | false ↦ none ]) [ none ↦ ts | at t ↦ tap_for b ts w t ∷ ts ])
          test y true = refl
          test y false = refl

          go : (o : Bool) (s u : Found)
              → ◌≡◌ {A = List Tap} (elim o [ false ↦ ts | true ↦ elim s [ none ↦ ts | at x ↦ elim u [ none ↦ ts | at y ↦ elim (anchors_open b w x y) [ true ↦ tap_for b ts w y ∷ ts | false ↦ ts ] ] ] ])
              (elim (elim o as (λ z. Found) [ false ↦ none | true ↦ elim s as (λ z. Found) [ none ↦ none | at x ↦ elim u as (λ z. Found) [ none ↦ none | at y ↦ elim (anchors_open b w x y) as (λ z. Found) [ true ↦ at y | false ↦ none ] ] ] ])
              [ none ↦ ts | at t ↦ tap_for b ts w t ∷ ts ])
          go false s u = refl
          go true none u = refl
          go true (at x) none = refl
          go true (at x) (at y) = test y (anchors_open b w x y)

      pub add_none : tap_target b w ≡ none → add_wire b ts w ≡ ts
      add_none e = add_as ∙ (λ z. elim (e z) [ none ↦ ts | at t ↦ tap_for b ts w t ∷ ts ])

      pub add_some : (t : ℕ) → tap_target b w ≡ at t → add_wire b ts w ≡ tap_for b ts w t ∷ ts
      add_some t e = add_as ∙ (λ z. elim (e z) [ none ↦ ts | at u ↦ tap_for b ts w u ∷ ts ])

-- What `tap_target` answers, from a wire's facts.
flag_shut : (t : Bool) (v : ℕ) → v ≡ flag t → v ≡ 0 → t ≡ false
flag_shut true v e h = absurd (omega arith)
flag_shut false v e h = refl

flag_open : (t : Bool) (v : ℕ) → v ≡ flag t → (v ≡ 0 → ⊥) → t ≡ true
flag_open true v e h = refl
flag_open false v e h = absurd (h e)

module _ (b : Board) (w : ℕ) (nodes : List (List ℕ)) (is : b.nodes ≡ nodes) (few : length nodes ≤ 4096) (s t v : ℕ)
    (source : s ≡ held (anchor_of b (source_node b w))) (target : t ≡ held (anchor_of b (target_node b w))) (opens : v ≡ flag (wire_open b w)) where
  same_count : length b.nodes ≡ length nodes
  same_count = ap length is

  gone : (id i : ℕ) → i ≡ held (anchor_of b id) → length nodes ≤ i → anchor_of b id ≡ none
  gone id i e h = go (anchor_of b id) refl
    where
      go : (f : Found) → anchor_of b id ≡ f → f ≡ none
      go none q = refl
      go (at j) q = absurd (let l = anchor_below b id j q in let k : j ≡ i = sym (ap held q) ∙ sym e in let c = same_count in omega arith)

  there : (id i : ℕ) → i ≡ held (anchor_of b id) → i < length nodes → anchor_of b id ≡ at i
  there id i e h = held_there (anchor_of b id) (length nodes) i (omega arith) (sym e) h

  pub answer_closed : v ≡ 0 → None ≡ found_of (tap_target b w)
  answer_closed h = sym (ap found_of (target_closed b w (flag_shut (wire_open b w) v opens h)))

  module _ (n : v ≡ 0 → ⊥) where
    pub answer_sourceless : length nodes ≤ s → None ≡ found_of (tap_target b w)
    answer_sourceless h = sym (ap found_of (target_sourceless b w (flag_open (wire_open b w) v opens n) (gone (source_node b w) s source h)))

    module _ (hs : s < length nodes) where
      pub answer_targetless : length nodes ≤ t → None ≡ found_of (tap_target b w)
      answer_targetless h =
          sym (ap found_of (target_targetless b w (flag_open (wire_open b w) v opens n) s (there (source_node b w) s source hs) (gone (target_node b w) t target h)))

      module _ (ht : t < length nodes) (r : Bool) (tests : r ≡ anchors_open b w s t) where
        pub answer_tested : (o : Option ℕ) → o ≡ then_some r t → o ≡ found_of (tap_target b w)
        answer_tested o is = is ∙ go r tests
          where
            open' : wire_open b w ≡ true
            open' = flag_open (wire_open b w) v opens n

            go : (r : Bool) → r ≡ anchors_open b w s t → then_some r t ≡ found_of (tap_target b w)
            go true q = sym (ap found_of (target_open b w open' s (there (source_node b w) s source hs) t (there (target_node b w) t target ht) (sym q)))
            go false q = sym (ap found_of (target_shut b w open' s (there (source_node b w) s source hs) t (there (target_node b w) t target ht) (sym q)))

-- A view of a table that was stored to.
module _ {A : Type 0} (read : List ℕ → A) (s : List (List ℕ)) (v : List ℕ) where
  pub view_kept : (n i : ℕ) → n ≤ i → view read (set s i v) n ≡ view read s n
  view_kept zero i h = refl
  view_kept (suc n) i h =
      let rest : view read (set s i v) n ≡ view read s n = view_kept n i (omega arith) in
      let top : get_or (set s i v) n [] ≡ get_or s n [] = get_or-set_other s i n v [] (λ e. omega arith) in
      λ z. read (top z) ∷ rest z

  pub view_more : (m : ℕ) → m < length s → view read (set s m v) (m + 1) ≡ read v ∷ view read s m
  view_more m h =
      ap (view read (set s m v)) (add-one m)
      ∙ (λ z. read (get_or-set_same s m v [] h z) ∷ view_kept m m (omega arith) z)

-- The tap of a wire with target t, as `add_tap` writes it.
pub tap_for_lem : (b : Board) (nodes wires facts : List (List ℕ)) (ts : List Tap) (w t g : ℕ) → b.nodes ≡ nodes → b.wires ≡ wires → NodeFacts b facts → tap_target b w ≡ at t
    → g ≡ group_for b ts (field nodes t 10) w
    → tap_in (field nodes t 10 ∷ g ∷ field facts t 0 ∷ field nodes t 9 ∷ field nodes t 8 ∷ field wires w 3 ∷ field wires w 4 ∷ w ∷ []) ≡ tap_for b ts w t
unfolding tap_for
tap_for_lem b nodes wires facts ts w t g n ws known e h =
    let row : field facts t 0 ≡ row_of b t = known.rows t (carried_below b w t e) (carried_row b w t e) in
    let group : g ≡ group_for b ts (page_of b t) w = h ∙ (λ z. group_for b ts (field (sym n z) t 10) w) in
    λ z. record { page = field (sym n z) t 10; group = group z; row = row z; y = field (sym n z) t 9; x = field (sym n z) t 8; node = field (sym ws z) w 3; port = field (sym ws z) w 4; wire = w }

-- The facts of the ends of the first n wires.
pub record EndsUpto (b : Board) (facts : List (List ℕ)) (n : ℕ) : Type 0 where
  pub sources : (w : ℕ) → w < n → field facts w 2 ≡ held (anchor_of b (source_node b w))
  pub targets : (w : ℕ) → w < n → field facts w 3 ≡ held (anchor_of b (target_node b w))
  pub opens : (w : ℕ) → w < n → field facts w 4 ≡ flag (wire_open b w)

-- A wire's row with its ends, as `write_ends` writes it.
abbrev pub ends_row : List (List ℕ) → ℕ → ℕ → ℕ → ℕ → List ℕ
ends_row facts w s t f = field facts w 0 ∷ field facts w 1 ∷ s ∷ t ∷ f ∷ 0 ∷ 0 ∷ 0 ∷ []

module _ (b : Board) (facts : List (List ℕ)) (w s t f : ℕ) (room : w < length facts) where
  pub ends_nodes : NodeFacts b facts → NodeFacts b (set facts w (ends_row facts w s t f))
  ends_nodes = same_nodes b facts (set facts w (ends_row facts w s t f)) (column_kept facts w _ room 0 refl) (column_kept facts w _ room 1 refl)

  module _ (wires : List (List ℕ)) (is : b.wires ≡ wires) (so to r : Bool) where
    pub ends_more : (s ≡ held (anchor_of b (field wires w 1))) × (so ≡ is_bussable b (field wires w 1)) → (t ≡ held (anchor_of b (field wires w 3))) × (to ≡ is_bussable b (field wires w 3))
        → r ≡ (not (eqb (field wires w 2) 0) && not (eqb (field wires w 4) 0) && not (eqb (field wires w 1) (field wires w 3)) && so && to) → f ≡ flag r
        → EndsUpto b facts w → EndsUpto b (set facts w (ends_row facts w s t f)) (w + 1)
    unfolding wire_open
    ends_more p q e g known =
        let source : s ≡ held (anchor_of b (source_node b w)) = p.0 ∙ (λ z. held (anchor_of b (field (sym is z) w 1))) in
        let target : t ≡ held (anchor_of b (target_node b w)) = q.0 ∙ (λ z. held (anchor_of b (field (sym is z) w 3))) in
        let sourceOpen : so ≡ is_bussable b (source_node b w) = p.1 ∙ (λ z. is_bussable b (field (sym is z) w 1)) in
        let targetOpen : to ≡ is_bussable b (target_node b w) = q.1 ∙ (λ z. is_bussable b (field (sym is z) w 3)) in
        let opens : r ≡ wire_open b w =
        e ∙ (λ z. not (eqb (field (sym is z) w 2) 0) && not (eqb (field (sym is z) w 4) 0) && not (eqb (field (sym is z) w 1) (field (sym is z) w 3)) && sourceOpen z && targetOpen z) in
        record {
          sources = column_more facts w _ room 2 (λ k. held (anchor_of b (source_node b k))) source known.sources;
          targets = column_more facts w _ room 3 (λ k. held (anchor_of b (target_node b k))) target known.targets;
          opens = column_more facts w _ room 4 (λ k. flag (wire_open b k)) (g ∙ ap flag opens) known.opens;
        }

-- What is known once the first n wires have their targets.
pub record TargetsUpto (b : Board) (facts : List (List ℕ)) (n : ℕ) : Type 0 where
  pub nodes : NodeFacts b facts
  pub wires : WireFacts b facts
  pub targets : (k : ℕ) → k < n → field facts k 5 ≡ held (tap_target b k)

-- A wire's target beside its ends, as `mark_wires` writes it.
pub targets_more : (b : Board) (facts : List (List ℕ)) (w v : ℕ) → w < length facts → 5 < length (get_or facts w []) → v ≡ held (tap_target b w)
    → TargetsUpto b facts w → TargetsUpto b (set facts w (set (get_or facts w []) 5 v)) (w + 1)
targets_more b facts w v room wide new known =
    record {
      nodes = same_nodes b facts (set facts w row) (kept 0 (λ z. omega arith)) (kept 1 (λ z. omega arith)) known.nodes;
      wires = same_wires_lem b facts (set facts w row) (kept 2 (λ z. omega arith)) (kept 3 (λ z. omega arith)) (kept 4 (λ z. omega arith)) known.wires;
      targets = column_more facts w row room 5 (λ k. held (tap_target b k)) (get_or-set_same (get_or facts w []) 5 v 0 wide ∙ new) known.targets;
    }
  where
    row : List ℕ
    row = set (get_or facts w []) 5 v

    kept : (c : ℕ) → (c ≡ 5 → ⊥) → Agree c facts (set facts w row)
    kept c o = column_kept facts w row room c (get_or-set_other (get_or facts w []) 5 c v 0 o)

-- The tests on a wire's anchors are on their rows, the wire's and the X records.
pub anchors_same : (b : Board) (w : ℕ) (nodes execs : List (List ℕ)) (wire : List ℕ) → b.nodes ≡ nodes → b.execs ≡ execs → get_or b.wires w [] ≡ wire → (s t : ℕ)
    → (((not (eqb (field nodes t 1) (get_or wire 3 0)) || eqb (field nodes t 2) kind_chip)
    || (eqb (field nodes s 2) kind_input || eqb (field nodes s 4) 1 || eqb (field nodes s 3) class_storage)
    || not (any (λ e. eqb (field execs e 1) (get_or wire 3 0) && eqb (field execs e 2) (get_or wire 4 0)) (upto (length execs))))
    && not (eqb (field nodes s 3) class_inline) && not (eqb (field nodes t 3) class_inline)
    && not (eqb (field nodes s 2) kind_coerce)
    && given (field nodes t 10))
    ≡ anchors_open b w s t
unfolding anchors_open crosses_at is_bus_worthy targets_exec
anchors_same b w nodes execs wire n x v s t =
    λ z. (((not (eqb (field (sym n z) t 1) (get_or (sym v z) 3 0)) || eqb (field (sym n z) t 2) kind_chip)
    || (eqb (field (sym n z) s 2) kind_input || eqb (field (sym n z) s 4) 1 || eqb (field (sym n z) s 3) class_storage)
    || not (any (λ e. eqb (field (sym x z) e 1) (get_or (sym v z) 3 0) && eqb (field (sym x z) e 2) (get_or (sym v z) 4 0)) (upto (length (sym x z)))))
    && not (eqb (field (sym n z) s 3) class_inline) && not (eqb (field (sym n z) t 3) class_inline)
    && not (eqb (field (sym n z) s 2) kind_coerce)
    && given (field (sym n z) t 10))

-- One more wire, as `add_tap` goes by its target.
module _ (b : Board) (w t : ℕ) (nodes : List (List ℕ)) (is : b.nodes ≡ nodes) (e : t ≡ held (tap_target b w)) where
  pub target_gone : length nodes ≤ t → tap_target b w ≡ none
  target_gone h = go (tap_target b w) refl
    where
      go : (f : Found) → tap_target b w ≡ f → f ≡ none
      go none q = refl
      go (at j) q = absurd (let l = carried_below b w j q in let k : j ≡ t = sym (ap held q) ∙ sym e in let c = ap length is in omega arith)

  pub target_there : length nodes ≤ 4096 → t < length nodes → tap_target b w ≡ at t
  target_there few h = held_there (tap_target b w) (length nodes) t (omega arith) (sym e) h

-- A tap more: once the taps have their groups, they are those of one wire more.
module _ (b : Board) (nodes wires facts taps : List (List ℕ)) (m w t : ℕ) (n : b.nodes ≡ nodes) (e : b.wires ≡ wires) (known : NodeFacts b facts) (target : t ≡ held (tap_target b w)) (ts : List Tap)
    (old : Appended b taps m ts) where
  pub none_appended : length nodes ≤ t → Appended b taps m (add_wire b ts w)
  none_appended h new s = old new s ∙ sym (add_none b w ts (target_gone b w t nodes n target h))

  pub one_appended : length nodes ≤ 4096 → t < length nodes → m < length taps → Appended b (set taps m (new_tap nodes facts w (get_or wires w []) t)) (m + 1) (add_wire b ts w)
  one_appended few inside room new s =
      ap (view tap_in new) (add-one m) ∙ (λ z. tap z ∷ below z) ∙ sym (add_some b w ts t there)
    where
      row : List ℕ
      row = new_tap nodes facts w (get_or wires w []) t

      there : tap_target b w ≡ at t
      there = target_there b w t nodes n target few inside

      -- The taps before it.
      before : Shared b.wires taps new m
      before =
          record {
            kept = λ k c h l d. s.kept k c (omega arith) l d ∙ ap (λ (r : List ℕ). get_or r c 0) (get_or-set_other taps m k row [] (λ z. omega arith));
            groups = λ k h. s.groups k (omega arith);
          }

      below : view tap_in new m ≡ ts
      below = old new before

      col : (c : ℕ) → c < 8 → (c ≡ 1 → ⊥) → field new m c ≡ get_or row c 0
      col c l d = s.kept m c (omega arith) l d ∙ ap (λ (r : List ℕ). get_or r c 0) (get_or-set_same taps m row [] room)

      page : field new m 0 ≡ field nodes t 10
      page = col 0 (omega arith) (λ z. omega arith)

      own : field new m 7 ≡ w
      own = col 7 (omega arith) (λ z. omega arith)

      group : field new m 1 ≡ group_for b ts (field nodes t 10) w
      group = sym (group_told b new m (λ k h. s.groups k (omega arith))) ∙ (λ z. group_for b (below z) (page z) (own z))

      seen : tap_in (get_or new m []) ≡ tap_in (field nodes t 10 ∷ field new m 1 ∷ field facts t 0 ∷ field nodes t 9 ∷ field nodes t 8 ∷ field wires w 3 ∷ field wires w 4 ∷ w ∷ [])
      seen =
          let row' : field new m 2 ≡ field facts t 0 = col 2 (omega arith) (λ z. omega arith) in
          let y : field new m 3 ≡ field nodes t 9 = col 3 (omega arith) (λ z. omega arith) in
          let x : field new m 4 ≡ field nodes t 8 = col 4 (omega arith) (λ z. omega arith) in
          let node : field new m 5 ≡ field wires w 3 = col 5 (omega arith) (λ z. omega arith) in
          let port : field new m 6 ≡ field wires w 4 = col 6 (omega arith) (λ z. omega arith) in
          λ z. record { page = page z; group = field new m 1; row = row' z; y = y z; x = x z; node = node z; port = port z; wire = own z }

      tap : tap_in (get_or new m []) ≡ tap_for b ts w t
      tap = seen ∙ tap_for_lem b nodes wires facts ts w t (field new m 1) n e known there group

-- A tap more is of a wire that is there.
pub wired_more : (wires taps : List (List ℕ)) (m : ℕ) (row : List ℕ) → m < length taps → get_or row 7 0 < length wires → Wired wires taps m → Wired wires (set taps m row) (m + 1)
wired_more wires taps m row room inside old k h =
    elim (ℕ_discrete k m) [
      | yes e ↦ let here : field (set taps m row) k 7 ≡ get_or row 7 0 = (λ z. field (set taps m row) (e z) 7) ∙ ap (λ (r : List ℕ). get_or r 7 0) (get_or-set_same taps m row [] room) in omega arith
      | no f ↦ let else' : field (set taps m row) k 7 ≡ field taps k 7 = ap (λ (r : List ℕ). get_or r 7 0) (get_or-set_other taps m k row [] f) in let o = old k (omega (arith, f)) in omega arith
    ]

-- The taps of all wires.
pub appended_done : (b : Board) (wires taps : List (List ℕ)) (m w : ℕ) → b.wires ≡ wires → w ≡ length wires → Appended b taps m (fold (add_wire b) [] (upto w)) → Appended b taps m (taps_of b)
unfolding taps_of
appended_done b wires taps m w e f a = subst (λ (n : ℕ). Appended b taps m (fold (add_wire b) [] (upto n))) (f ∙ ap length (sym e)) a

-- Once the taps have their groups they are those of the rules.
pub appended_all : (b : Board) (wires old new : List (List ℕ)) (m : ℕ) (ts : List Tap) → b.wires ≡ wires → Appended b old m ts → Shared wires old new m → view tap_in new m ≡ ts
appended_all b wires old new m ts e a s = a new (subst (λ (ws : List (List ℕ)). Shared ws old new m) (sym e) s)
