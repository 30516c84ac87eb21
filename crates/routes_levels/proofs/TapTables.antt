-- What the tables of a board say of its laid taps: what `lane_stops` is told of them.
use Prim.Native.Nat.{ℕ, zero, suc, ◌≤◌, ◌<◌}
use mathlib.Core.Path.{◌≡◌, refl, ap, sym, subst, ◌∙◌}
use mathlib.Core.Logic.{◌⊎◌, inl, inr}
use mathlib.Core.Bool.{Bool, true, false, not, ◌&&◌, ◌||◌}
use mathlib.Core.List.Memᴰ
use mathlib.Core.List.{List, [], Memᴰ}
use native.Mathlib.Omega.{arith}
use native.Mathlib.Decide.{dec_lt}
use lib.Dec.{eqb}
use lib.ListN.{length, get_or}
use borrow.Author.Tests.{ltb-false}
use Rattle.base.specs.Sort.{lex_less}
use Rattle.base.specs.Lists.{Found, none, at, found, fold, upto, newest}
use Rattle.board.specs.Board.{Board, class_inline, kind_coerce, class_of, kind_of, field, has_row, page_of, source_node, target_node}
use Rattle.board.specs.Refusals.{body_of, inner_of}
use Rattle.board.specs.Rows.{row_of, row_top}
use Rattle.board.specs.Groups.{Tap, crosses_at, is_bus_worthy, targets_exec, anchor_of, anchors_open, add_wire, tap_for, taps_of, wire_open}
use Rattle.board.specs.Demands.{PageLanes, lane_of}
use Rattle.base.specs.Views.{view}
use Rattle.board.specs.Tables.{NodeFacts, held, tap_in}
use Rattle.board.specs.Index.{link}
use Rattle.base.proofs.Bools.{never, and_left, and_right, or_left}
use Rattle.base.proofs.Lists.{Pairs, by_test, by_found}
use Rattle.board.proofs.Taps.{taps_of_lem}
use Rattle.board.proofs.Newest.{link_below}
use Rattle.base.proofs.Views.{view_mem}
use Rattle.routes.specs.Stops.{is_laid, laid_taps, tap_before}
use Rattle.routes.specs.Levels.{lane_for}
use Rattle.routes_levels.specs.Laying.{Tabled, LaidFacts}
use Rattle.routes.proofs.LaidTaps.{of_laid, laid_in}

-- An anchor is one of the nodes.
found_below : (p : ℕ → Bool) (n i : ℕ) → newest p n ≡ at i → i < n
found_below p n i e = let h = link_below p n in let l = ap link e in omega arith

pub anchor_below : (b : Board) (id i : ℕ) → anchor_of b id ≡ at i → i < length b.nodes
unfolding anchor_of body_of
anchor_below b id i =
    by_found (λ f. f ≡ at i → i < length b.nodes) (body_of b id)
    (λ _. by_found (λ f. f ≡ at i → i < length b.nodes) (inner_of b id) (λ _ e. never cc) (λ f _ e. found_below _ _ i e))
    (λ j e h. found_below _ _ i (e ∙ h))

-- A tap stands where its target anchor does.
pub record Anchored (b : Board) (t : Tap) : Type 0 where
  pub anchor : ℕ
  pub is : anchor_of b (target_node b t.wire) ≡ at anchor
  pub rowed : has_row b anchor ≡ true
  pub page : t.page ≡ page_of b anchor
  pub row : t.row ≡ row_of b anchor

module _ (b : Board) where
  -- the tests of `anchors_open` before its last
  abbrev tests : ℕ → ℕ → ℕ → Bool
  tests w s t =
      (crosses_at b t (target_node b w) || is_bus_worthy b s || not (targets_exec b w))
      && not (eqb (class_of b s) class_inline) && not (eqb (class_of b t) class_inline)
      && not (eqb (kind_of b s) kind_coerce)

  with_tap : (n : ℕ) (ts : List Tap) (s a : ℕ) → anchor_of b (target_node b n) ≡ at a → anchors_open b n s a ≡ true → Anchored b (tap_for b ts n a)
  unfolding tap_for anchors_open
  with_tap n ts s a e o = record { anchor = a; is = e; rowed = and_right (tests n s a) (has_row b a) o; page = refl; row = refl }

  Each : List Tap → Type 0
  Each ts = (t : Tap) → Memᴰ t ts → Anchored b t

  add_wire_lem : (n : ℕ) (ts : List Tap) → Each ts → Each (add_wire b ts n)
  unfolding add_wire Each
  add_wire_lem n ts r =
      by_test Each (wire_open b n)
      (λ o. by_found Each (anchor_of b (source_node b n)) (λ e. r)
      (λ s e. by_found Each (anchor_of b (target_node b n)) (λ f. r)
      (λ a f. by_test Each (anchors_open b n s a) (λ q t m. one s a f q t (Memᴰ.cases_cons m)) (λ q. r))))
      (λ o. r)
    where
      one : (s a : ℕ) → anchor_of b (target_node b n) ≡ at a → anchors_open b n s a ≡ true → (t : Tap) → (t ≡ tap_for b ts n a) ⊎ Memᴰ t ts → Anchored b t
      one s a f q t (inl e) = rw e (with_tap n ts s a f q)
      one s a f q t (inr m) = r t m

  anchored_to : (n : ℕ) → Each (fold (add_wire b) [] (upto n))
  unfolding Each
  anchored_to zero t m = absurd (Memᴰ.not-nil m)
  anchored_to (suc n) t m = add_wire_lem n (fold (add_wire b) [] (upto n)) (anchored_to n) t m

  pub taps_anchored : (t : Tap) → Memᴰ t (taps_of b) → Anchored b t
  unfolding taps_of Each
  taps_anchored t m = anchored_to (length b.wires) t m

module _ (b : Board) (ps : List PageLanes) (nodes facts groups laid : List (List ℕ)) (n : ℕ)
    (a : Tabled b (taps_of b) ps nodes facts groups) (rows : NodeFacts b facts) (are : view tap_in laid n ≡ laid_taps b (taps_of b) ps) where
  abbrev tap_at : ℕ → Tap
  tap_at k = tap_in (get_or laid k [])

  member : (k : ℕ) → k < n → Memᴰ (tap_at k) (taps_of b) × (is_laid b (taps_of b) ps (tap_at k) ≡ true)
  member k l = of_laid b (taps_of b) ps (tap_at k) (subst (Memᴰ (tap_at k)) are (view_mem tap_in laid n k l))

  lane_at_lem : (k : ℕ) → k < n → field groups (field laid k 1) 4 ≡ lane_for ps (tap_at k)
  unfolding is_laid
  lane_at_lem k l =
      let t : Tap = tap_at k in
      go (lane_of ps t.page t.group) (and_left _ _ (member k l).1) (a.group_rows.lanes t (member k l).0)
    where
      go : (f : Found) → found f ≡ true → field groups (field laid k 1) 4 ≡ held f → field groups (field laid k 1) 4 ≡ elim f [ at l ↦ l | none ↦ zero ]
      go none h e = never cc
      go (at i) h e = e

  top_at : (k : ℕ) → k < n → field facts (field facts (field laid k 7) 3) 1 ≡ row_top b (field laid k 0) (field laid k 2)
  top_at k l =
      let t : Tap = tap_at k in
      let m = (member k l).0 in
      let x : Anchored b t = taps_anchored b t m in
      let i : ℕ = x.anchor in
      let target : field facts t.wire 3 ≡ i = a.wire_ends.targets t.wire ((taps_of_lem b).below t m) ∙ ap held x.is in
      ap (λ j. field facts j 1) target ∙ rows.tops i (anchor_below b _ i x.is) x.rowed ∙ (λ w. row_top b (sym x.page w) (sym x.row w))

  -- What `lane_stops` asks of the tables.
  pub laid_facts : LaidFacts b ps facts groups laid n
  laid_facts = record { lanes = lane_at_lem; tops = top_at }

-- The pages of the laid taps rise, for they are sorted by page first.
module _ (b : Board) (ps : List PageLanes) (laid : List (List ℕ)) where
  sorted_next : (n k : ℕ) → suc k < n → Pairs (λ t u. tap_before t u ≡ false) (view tap_in laid n) → tap_before (tap_in (get_or laid (suc k) [])) (tap_in (get_or laid k [])) ≡ false
  sorted_next zero k h f = absurd (omega arith)
  sorted_next (suc n) k h f = elim (dec_lt (suc k) n) [
    | yes l ↦ sorted_next n k l f.1
    | no l ↦ let e : n ≡ suc k = omega arith in rw e at (f.0 (tap_in (get_or laid k [])) (view_mem tap_in laid n k (omega arith)))
  ]

  pub pages_rise : (n : ℕ) → view tap_in laid n ≡ laid_taps b (taps_of b) ps → (k : ℕ) → suc k < n → field laid k 0 ≤ field laid (suc k) 0
  unfolding lex_less
  pages_rise n are k h =
      let f = subst (Pairs (λ t u. tap_before t u ≡ false)) (sym are) (laid_in b ps).falls in
      ltb-false (field laid (suc k) 0) (field laid k 0) (or_left _ _ (sorted_next n k h f))
