-- The wires that turn: what a wire's tests come to, and the wires that pass them, found one after the other.
use Rattle.std.proofs.Common.{◌≡◌, ℕ, zero, suc, ◌<◌, ◌≤◌, Bool, true, false, not, ◌&&◌, eqb, List, ◌∷◌, length, get_or, set, sym, refl, ap, ◌∙◌, subst, arith, get_or-set_other, get_or-set_same, eq-eqb, ne_eqb, eqb-true}
use borrow.Author.Tests.{eqb-false}
use Rattle.base.specs.Lists.{Found, none, at, keep, upto}
use Rattle.base.proofs.Bools.{pick_true, pick_false}
use Rattle.board.specs.Board.{Board, field, source_node, target_node}
use Rattle.board.specs.Groups.{anchor_of, wire_open}
use Rattle.board.specs.Refusals.{body_of}
use Rattle.board.specs.Tables.{flag, held}
use Rattle.routes.specs.Bus
use Rattle.routes.specs.Bus.{muted}
use Rattle.routes.specs.Corners.{turns_down, turns}
use Rattle.routes_corners.specs.CornerTables.{BoardOf, flag_at, Flagged, EndsThere, firsts, TurningBelow}

not_not : (t : Bool) → not (not t) ≡ t
not_not true = refl
not_not false = refl

flag_open : (t : Bool) → eqb (flag t) 1 ≡ t
flag_open true = eq-eqb 1 1 refl
flag_open false = ne_eqb 0 1 (λ z. omega arith)

-- The tests on a wire, one after the other.
module _ (b : Board) (bus : Bus.Bus) (pages nodes wires facts : List (List ℕ)) (h : BoardOf b pages nodes wires facts)
    (classes : List ℕ) (flags : List Bool) (w : ℕ) (there : w < length wires) (flagged : flag_at flags (get_or classes w 0) ≡ muted b bus w) where
  on_board_lem : w < length b.wires
  on_board_lem = let e : length b.wires ≡ length wires = ap length h.wires_are in omega arith

  pub source_anchor_lem : field facts w 2 ≡ held (anchor_of b (field wires w 1))
  source_anchor_lem = h.wires_known.sources w on_board_lem ∙ (λ i. held (anchor_of b (field (h.wires_are i) w 1)))

  pub target_anchor_lem : field facts w 3 ≡ held (anchor_of b (field wires w 3))
  target_anchor_lem = h.wires_known.targets w on_board_lem ∙ (λ i. held (anchor_of b (field (h.wires_are i) w 3)))

  opens : eqb (field facts w 4) 1 ≡ wire_open b w
  opens = ap (λ v. eqb v 1) (h.wires_known.opens w on_board_lem) ∙ flag_open (wire_open b w)

  tests : (o m : Bool) (f g : Found) → eqb (field facts w 4) 1 ≡ o → flag_at flags (get_or classes w 0) ≡ not m → body_of b (field wires w 1) ≡ f → body_of b (field wires w 3) ≡ g
      → turns b bus w ≡ elim (o && m) as (λ _. Bool) [
        | false ↦ false
        | true ↦ elim f as (λ _. Bool) [ none ↦ false | at s ↦ elim g as (λ _. Bool) [ none ↦ false | at t ↦ turns_down b s t ] ]
      ]
  unfolding turns
  tests o m f g eo em ef eg =
      let po : wire_open b w ≡ o = sym opens ∙ eo in
      let pm : not (muted b bus w) ≡ m = ap not (sym flagged ∙ em) ∙ not_not m in
      let pf : body_of b (source_node b w) ≡ f = (λ i. body_of b (field (h.wires_are i) w 1)) ∙ ef in
      let pg : body_of b (target_node b w) ≡ g = (λ i. body_of b (field (h.wires_are i) w 3)) ∙ eg in
      λ i. elim (po i && pm i) as (λ _. Bool) [
        | false ↦ false
        | true ↦ elim (pf i) as (λ _. Bool) [ none ↦ false | at s ↦ elim (pg i) as (λ _. Bool) [ none ↦ false | at t ↦ turns_down b s t ] ]
      ]

  -- A wire that fails a test.
  abbrev Fails : Type 0
  Fails = false ≡ turns b bus w

  pub turn_closed : (field facts w 4 ≡ 1 → ⊥) → Fails
  turn_closed o = sym (tests false (not (flag_at flags (get_or classes w 0))) _ _ (ne_eqb (field facts w 4) 1 o) (sym (not_not (flag_at flags (get_or classes w 0)))) refl refl)

  module _ (o : field facts w 4 ≡ 1) where
    pub turn_muted : flag_at flags (get_or classes w 0) ≡ true → Fails
    turn_muted m = sym (tests true false _ _ (eq-eqb (field facts w 4) 1 o) m refl refl)

    module _ (m : flag_at flags (get_or classes w 0) ≡ false) where
      pub turn_sourceless : body_of b (field wires w 1) ≡ none → Fails
      turn_sourceless f = sym (tests true true none _ (eq-eqb (field facts w 4) 1 o) m f refl)

      module _ (s : ℕ) (f : body_of b (field wires w 1) ≡ at s) where
        pub turn_sinkless : body_of b (field wires w 3) ≡ none → Fails
        turn_sinkless g = sym (tests true true (at s) none (eq-eqb (field facts w 4) 1 o) m f g)

        pub turn_tested : (t : ℕ) → body_of b (field wires w 3) ≡ at t → (d : Bool) → d ≡ turns_down b s t → d ≡ turns b bus w
        turn_tested t g d e = e ∙ sym (tests true true (at s) (at t) (eq-eqb (field facts w 4) 1 o) m f g)

firsts_kept : (list : List ℕ) (n m x : ℕ) → n ≤ m → firsts (set list m x) n ≡ firsts list n
firsts_kept list zero m x h = refl
firsts_kept list (suc n) m x h = λ i. get_or-set_other list m n x 0 (λ z. omega arith) i ∷ firsts_kept list n m x (omega arith) i

-- The wires that turn, found one after the other.
module _ (nodes wires facts : List (List ℕ)) (classes : List ℕ) (flags : List Bool) (list : List ℕ) (n w : ℕ) (t : TurningBelow nodes wires facts classes flags list n w) (there : w < length wires) where
  abbrev Tells : Bool → Type 0
  Tells r =
      (b : Board) (bus : Bus.Bus) (pages : List (List ℕ)) → BoardOf b pages nodes wires facts → flag_at flags (get_or classes w 0) ≡ muted b bus w → r ≡ turns b bus w

  told : (r : Bool) → Tells r → (b : Board) (bus : Bus.Bus) (pages : List (List ℕ)) → BoardOf b pages nodes wires facts → Flagged b bus classes flags → turns b bus w ≡ r
  told r d b bus pages f g = sym (d b bus pages f (g w (let e : length b.wires ≡ length wires = ap length f.wires_are in omega arith)))

  pub turners_passed : (r : Bool) → Tells r → r ≡ false → TurningBelow nodes wires facts classes flags list n (suc w)
  turners_passed r d e =
      record {
        few = let h = t.few in omega arith;
        below = λ k h. let l = t.below k h in omega arith;
        ends = t.ends;
        all = λ b bus pages f g. t.all b bus pages f g ∙ sym (pick_false (turns b bus w) (w ∷ keep (turns b bus) (upto w)) (keep (turns b bus) (upto w)) (told r d b bus pages f g ∙ e));
      }

  pub turners_more : n < length list → (r : Bool) → Tells r → r ≡ true → EndsThere nodes facts w → TurningBelow nodes wires facts classes flags (set list n w) (suc n) (suc w)
  turners_more room r d e own =
      record {
        few = let h = t.few in omega arith;
        below = λ k h. low k h (eqb k n) refl;
        ends = λ k h. ended k h (eqb k n) refl;
        all = λ b bus pages f g.
            (λ i. get_or-set_same list n w 0 room i ∷ (firsts_kept list n n w (omega arith) ∙ t.all b bus pages f g) i)
            ∙ sym (pick_true (turns b bus w) (w ∷ keep (turns b bus) (upto w)) (keep (turns b bus) (upto w)) (told r d b bus pages f g ∙ e));
      }
    where
      ended : (k : ℕ) → k < suc n → (s : Bool) → eqb k n ≡ s → EndsThere nodes facts (get_or (set list n w) k 0)
      ended k h true q =
          subst (λ (v : ℕ). EndsThere nodes facts v) (sym (ap (λ j. get_or (set list n w) j 0) (eqb-true k n q) ∙ get_or-set_same list n w 0 room)) own
      ended k h false q =
          let other = eqb-false k n q in
          subst (λ (v : ℕ). EndsThere nodes facts v) (sym (get_or-set_other list n k w 0 other)) (t.ends k (omega (arith, other)))

      low : (k : ℕ) → k < suc n → (s : Bool) → eqb k n ≡ s → get_or (set list n w) k 0 < suc w
      low k h true q = let z : get_or (set list n w) k 0 ≡ w = ap (λ j. get_or (set list n w) j 0) (eqb-true k n q) ∙ get_or-set_same list n w 0 room in omega arith
      low k h false q =
          let other = eqb-false k n q in
          let z : get_or (set list n w) k 0 ≡ get_or list k 0 = get_or-set_other list n k w 0 other in
          let l = t.below k (omega (arith, other)) in
          omega arith
