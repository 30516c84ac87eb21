-- Which groups need a lane, a page's demands, and the lanes written back.
use Prim.Native.Nat.{ℕ, zero, suc, ◌+◌, ◌-◌, ◌≤◌, ◌<◌}
use native.Mathlib.Omega.{arith}
use native.Mathlib.Decide.{dec_lt}
use Rattle.std.proofs.lemmas.List.{get_or-drop, length-drop, length-take, length_push, get_or_push, get_or-take, take-append-drop, take-append-le}
use native.Mathlib.Numerals.{add-one}
use mathlib.Core.Path.{◌≡◌, refl, sym, ap, ◌∙◌, subst}
use mathlib.Core.Logic.{◌⊎◌, inl, inr, ⊎_elim}
use mathlib.Core.Bool.{Bool, true, false, not, ◌&&◌, ◌||◌}
use mathlib.Core.List.Memᴰ.{cases_cons as cases}
use mathlib.Core.List.Memᴰ.{head as here}
use mathlib.Core.List.Memᴰ.{not-nil as nowhere}
use mathlib.Core.List.Memᴰ.{tail as there}
use mathlib.Core.List.{List, [], ◌∷◌, ◌++◌, map, reverse, reverse_aux, reverse-cons, map-append, Memᴰ as Mem}
use lib.Dec.{eqb, ltb}
use lib.ListN.{length, get_or, set, take, drop}
use lib.Seq.{get_or-set_same, get_or-set_other, take-suc, take-append_seam, drop-cons, take_at, take-length, length-take-le}
use borrow.Author.Tests.{eq-eqb, ne_eqb, eqb-true, eqb-false, lt-ltb, le-ltb}
use Rattle.sheet.specs.Table.{MISSING}
use Rattle.lanes.specs.Lanes.{Demand, no_demand, Packed, full, laned, packed, lane_most}
use Rattle.lanes.specs.Apart.{Rising}
use Rattle.std.specs.Prelude.{Result, Ok, Err, Option, None}
use Rattle.std.specs.Bool.{then_some}
use Rattle.board.specs.Index.{found_of}
use Rattle.lanes.specs.declared.pack.LanesFull.{LanesFull}
use Rattle.lanes.specs.LaneCall.{faulty, Sound}
use Rattle.lanes.specs.Keys.{demand_of, lane_column, with_lane, each_with, rows_after, result_of, PackedRows}
use Rattle.base.proofs.Bools.{never, clash, pick_true, pick_false}
use Rattle.lanes.proofs.Promise.{lanes_apart}
use Rattle.base.specs.Lists.{Found, none, at, keep, upto}
use Rattle.board.specs.Board.{Board, field, source_node, target_node, kind_chip, kind_input, class_storage}
use Rattle.board.specs.Groups.{Tap, anchor_of, source_anchor, target_anchor, crosses, crosses_at, is_bus_worthy}
use Rattle.board.specs.Demands.{lane_in, first_row, last_row, needs_lane}
use Rattle.base.specs.Views.{view}
use Rattle.board.specs.Tables.{held, flag, tap_in, tap_target}
use Rattle.board_groups.specs.Collecting.{relaned, head_page, Packable}
use Rattle.board_lanes.specs.PagePlan.{group_demand, order_column, asking, NoneAsks, PageDemands, PagePacked}
use Rattle.base.proofs.Members.{at_mem, keep_from, map_in, map_from, upto_below}
use Rattle.board_groups.proofs.TapLaws.{view_more}
use Rattle.board_lanes.proofs.GroupLaws.{source_held, target_held, source_below, target_below}

-- Tests on an anchor are on its row.
module _ (b : Board) (nodes : List (List ℕ)) (is : b.nodes ≡ nodes) (s a : ℕ) (e : s ≡ a) where
  pub crosses_row : (i id : ℕ) → i ≡ id → (not (eqb (field nodes s 1) i) || eqb (field nodes s 2) kind_chip) ≡ crosses_at b a id
  unfolding crosses_at
  crosses_row i id f = λ z. not (eqb (field (sym is z) (e z) 1) (f z)) || eqb (field (sym is z) (e z) 2) kind_chip

  pub worthy_row : (eqb (field nodes s 2) kind_input || eqb (field nodes s 4) 1 || eqb (field nodes s 3) class_storage) ≡ is_bus_worthy b a
  unfolding is_bus_worthy
  worthy_row = λ z. eqb (field (sym is z) (e z) 2) kind_input || eqb (field (sym is z) (e z) 4) 1 || eqb (field (sym is z) (e z) 3) class_storage

or_true : (x : Bool) → (x || true) ≡ true
or_true true = refl
or_true false = refl

flag_zero : (t : Bool) (v : ℕ) → v ≡ flag t → v ≡ 0 → t ≡ false
flag_zero true v e h = absurd (omega arith)
flag_zero false v e h = refl

flag_one : (t : Bool) (v : ℕ) → v ≡ flag t → (v ≡ 0 → ⊥) → t ≡ true
flag_one true v e h = refl
flag_one false v e h = absurd (h e)

-- D1: whether a group needs a lane, from its row.
module _ (b : Board) (ts : List Tap) (g r0 r1 r3 : ℕ) (first : r0 ≡ first_row b ts g) (last : r1 ≡ last_row b ts g) (crossing : r3 ≡ flag (crosses b ts g)) where
  pub needs_two : r0 < r1 → true ≡ needs_lane b ts g
  unfolding needs_lane
  needs_two h = rw (lt-ltb (first_row b ts g) (last_row b ts g) (omega arith), needs_lane) refl

  pub needs_cross : (r3 ≡ 0 → ⊥) → true ≡ needs_lane b ts g
  unfolding needs_lane
  needs_cross h = rw (flag_one (crosses b ts g) r3 crossing h, or_true (ltb (first_row b ts g) (last_row b ts g)), needs_lane) refl

  pub needs_worthy : (w : Bool) → r1 ≤ r0 → r3 ≡ 0 → w ≡ is_bus_worthy b (source_anchor b g) → w ≡ needs_lane b ts g
  unfolding needs_lane
  needs_worthy w h k e = rw (le-ltb (first_row b ts g) (last_row b ts g) (omega arith), flag_zero (crosses b ts g) r3 crossing k, needs_lane) e

module _ (b : Board) (ts : List Tap) (t : Tap) where
  pub head_later : (t.group ≡ t.wire → ⊥) → None ≡ found_of (head_page b ts t)
  unfolding head_page
  head_later h = rw (ne_eqb t.group t.wire h, head_page) refl

  pub head_needs : t.group ≡ t.wire → (n : Bool) → n ≡ needs_lane b ts t.group → (o : Option ℕ) → o ≡ then_some n t.page → o ≡ found_of (head_page b ts t)
  unfolding head_page
  head_needs e n h o is = is ∙ go n ∙ (λ z. found_of (elim (first z && h z) [ true ↦ at t.page | false ↦ none ]))
    where
      first : true ≡ eqb t.group t.wire
      first = sym (eq-eqb t.group t.wire e)

      go : (n : Bool) → then_some n t.page ≡ found_of (elim n as (λ z. Found) [ true ↦ at t.page | false ↦ none ])
      go true = refl
      go false = refl

  head_asks : (p : ℕ) → p < MISSING → eqb (held (head_page b ts t)) p ≡ (eqb t.group t.wire && eqb t.page p && needs_lane b ts t.group)
  unfolding head_page
  head_asks p h = go (eqb t.group t.wire) (needs_lane b ts t.group)
    where
      away : (q : Bool) → eqb MISSING p ≡ (q && false)
      away true = ne_eqb MISSING p (λ e. omega arith)
      away false = ne_eqb MISSING p (λ e. omega arith)

      with' : (q : Bool) → q ≡ (q && true)
      with' true = refl
      with' false = refl

      go : (s u : Bool) → eqb (held (elim (s && u) [ true ↦ at t.page | false ↦ none ])) p ≡ (s && eqb t.page p && u)
      go true true = with' (eqb t.page p)
      go true false = away (eqb t.page p)
      go false u = ne_eqb MISSING p (λ e. omega arith)

-- The groups that ask for a lane on a page are those of the definition.
module _ (b : Board) (ts : List Tap) (taps : List (List ℕ)) (marks : List ℕ) (m p : ℕ) (low : p < MISSING)
    (heads : (k : ℕ) → k < m → get_or marks k 0 ≡ held (head_page b ts (tap_in (get_or taps k [])))) where
  pub asking_is : (n : ℕ) → n ≤ m → asking taps marks p n ≡ map (λ t. t.group) (keep (λ t. eqb t.group t.wire && eqb t.page p && needs_lane b ts t.group) (view tap_in taps n))
  asking_is zero h = refl
  asking_is (suc n) h = go (eqb (get_or marks n 0) p) _ (ap (λ (v : ℕ). eqb v p) (heads n (omega arith)) ∙ head_asks b ts (tap_in (get_or taps n [])) p low) (asking_is n (omega arith))
    where
      rest : List ℕ
      rest = keep (λ k. eqb (get_or marks k 0) p) (upto n)

      kept : List Tap
      kept = keep (λ t. eqb t.group t.wire && eqb t.page p && needs_lane b ts t.group) (view tap_in taps n)

      go : (s u : Bool) → s ≡ u → map (λ k. field taps k 1) rest ≡ map (λ (t : Tap). t.group) kept
          → map (λ k. field taps k 1) (elim s [ true ↦ n ∷ rest | false ↦ rest ]) ≡ map (λ (t : Tap). t.group) (elim u [ true ↦ tap_in (get_or taps n []) ∷ kept | false ↦ kept ])
      go true true e ih = ap (λ (l : List ℕ). field taps n 1 ∷ l) ih
      go true false e ih = clash (sym e) refl
      go false true e ih = clash refl (sym e)
      go false false e ih = ih

-- Lists turned round.
module _ {A B : Type 0} (f : A → B) where
  pub map-reverse : (l : List A) → map f (reverse l) ≡ reverse (map f l)
  map-reverse [] = refl
  map-reverse (x ∷ l) = ap (map f) (reverse-cons x l) ∙ map-append f (reverse l) (x ∷ []) ∙ ap (λ (r : List B). r ++ (f x ∷ [])) (map-reverse l) ∙ sym (reverse-cons (f x) (map f l))

  pub map_same : (g : A → B) (l : List A) → ((x : A) → Mem x l → f x ≡ g x) → map f l ≡ map g l
  map_same g [] e = refl
  map_same g (x ∷ l) e = λ z. e x (here refl) z ∷ map_same g l (λ y m. e y (there m)) z

pub front_view : {A : Type 0} (read : List ℕ → A) (s : List (List ℕ)) (n : ℕ) → n ≤ length s → map read (take n s) ≡ reverse (view read s n)
front_view read s zero h = refl
front_view {A} read s (suc n) h =
    ap (map read) (take-suc s n [] (omega arith)) ∙ map-append read (take n s) (get_or s n [] ∷ [])
    ∙ ap (λ (r : List A). r ++ (read (get_or s n []) ∷ [])) (front_view read s n (omega arith)) ∙ sym (reverse-cons (read (get_or s n [])) (view read s n))

module _ {A : Type 0} where
  back_from : (l r : List A) {x : A} → Mem x (reverse_aux l r) → Mem x l ⊎ Mem x r
  back_from [] r m = inr m
  back_from (y ∷ l) r {x} m = go (back_from l (y ∷ r) m)
    where
      go : Mem x l ⊎ Mem x (y ∷ r) → Mem x (y ∷ l) ⊎ Mem x r
      go (inl n) = inl (there n)
      go (inr n) = ⊎_elim (λ e. inl (here e)) (λ o. inr o) (cases n)

  pub reverse_from : (l : List A) {x : A} → Mem x (reverse l) → Mem x l
  reverse_from l m = ⊎_elim (λ n. n) (λ n. absurd (nowhere n)) (back_from l [] m)

-- Each group that asks is a tap's.
pub asker : (taps : List (List ℕ)) (marks : List ℕ) (p m : ℕ) {g : ℕ} → Mem g (asking taps marks p m) → (k : ℕ) × (k < m) × (g ≡ field taps k 1)
asker taps marks p m n =
    let r = map_from (λ k. field taps k 1) (keep (λ k. eqb (get_or marks k 0) p) (upto m)) n in
    (r.0, upto_below m (keep_from (λ k. eqb (get_or marks k 0) p) (upto m) r.1).0, r.2)

-- A page's demands are not faulty.
module _ (taps groups : List (List ℕ)) (marks : List ℕ) (m p : ℕ) (packable : Packable taps m groups) where
  group_sound : (g : ℕ) → Mem g (asking taps marks p m) → faulty (group_demand groups g) ≡ false
  unfolding faulty
  group_sound g n = go (asker taps marks p m n)
    where
      go : (k : ℕ) × (k < m) × (g ≡ field taps k 1) → faulty (group_demand groups g) ≡ false
      go r =
          let e = r.2 in
          let first : field groups g 0 ≤ field groups g 1 = subst (λ (j : ℕ). field groups j 0 ≤ field groups j 1) (sym e) (packable.first r.0 r.1) in
          let last : field groups g 1 ≤ 4095 = subst (λ (j : ℕ). field groups j 1 ≤ 4095) (sym e) (packable.last r.0 r.1) in
          let consumers : field groups g 2 ≤ 8192 = subst (λ (j : ℕ). field groups j 2 ≤ 8192) (sym e) (packable.consumers r.0 r.1) in
          let order = packable.order r.0 r.1 in
          rw (le-ltb 4095 (field groups g 0) (omega arith), le-ltb 4095 (field groups g 1) last, le-ltb 8192 (field groups g 2) consumers, le-ltb 8192 g (omega arith), le-ltb (field groups g 1) (field groups g 0) first) refl

  pub page_sound : (rows : List (List ℕ)) → map demand_of rows ≡ map (group_demand groups) (reverse (asking taps marks p m)) → Sound (map demand_of rows)
  page_sound rows e =
      subst Sound (sym e)
      (λ i h.
      let r = map_from (group_demand groups) (reverse (asking taps marks p m)) (at_mem no_demand (map (group_demand groups) (reverse (asking taps marks p m))) i h) in
      ap faulty r.2 ∙ group_sound r.0 (reverse_from (asking taps marks p m) r.1))

  pub page_group : (g : ℕ) → Mem g (reverse (asking taps marks p m)) → g < length groups
  page_group g n = let r = asker taps marks p m (reverse_from (asking taps marks p m) n) in let h = packable.group r.0 r.1 in let e = r.2 in omega arith

-- Lanes written from the last demand to the first: of two demands of one group the first counts.
set_twice : (r : List ℕ) (i x y : ℕ) → set (set r i x) i y ≡ set r i y
set_twice [] i x y = refl
set_twice (v ∷ r) zero x y = refl
set_twice (v ∷ r) (suc i) x y = ap (λ (l : List ℕ). v ∷ l) (set_twice r i x y)

relaned_twice : (l : ℕ) (f : Found) (r : List ℕ) → relaned (at l) (relaned f r) ≡ relaned (at l) r
relaned_twice l none r = refl
relaned_twice l (at k) r = set_twice r 4 k l

abbrev pub LanesFrom : List (List ℕ) → List (List ℕ) → ℕ → List (List ℕ) → Type 0
LanesFrom demands before j after =
    (g : ℕ) → g < length before → get_or after g [] ≡ relaned (lane_in (map order_column (drop j demands)) (map lane_column (drop j demands)) g) (get_or before g [])

module _ (demands before after : List (List ℕ)) (j : ℕ) (inside : j < length demands) (room : field demands j 3 < length before) (same : length after ≡ length before)
    (old : LanesFrom demands before (j + 1) after) where
  pub lanes_more : LanesFrom demands before j (set after (field demands j 3) (relaned (at (field demands j 4)) (get_or after (field demands j 3) [])))
  lanes_more g h =
      subst (λ (l : List (List ℕ)). get_or (set after (field demands j 3) (relaned (at (field demands j 4)) (get_or after (field demands j 3) []))) g [] ≡ relaned (lane_in (map order_column l) (map lane_column l) g) (get_or before g []))
      (sym (drop-cons demands j [] inside)) (go (eqb (field demands j 3) g) refl)
    where
      past : List (List ℕ)
      past = drop (suc j) demands

      earlier : (k : ℕ) → k < length before → get_or after k [] ≡ relaned (lane_in (map order_column past) (map lane_column past) k) (get_or before k [])
      earlier k n = subst (λ (i : ℕ). get_or after k [] ≡ relaned (lane_in (map order_column (drop i demands)) (map lane_column (drop i demands)) k) (get_or before k [])) (add-one j) (old k n)

      go : (s : Bool) → eqb (field demands j 3) g ≡ s
          → get_or (set after (field demands j 3) (relaned (at (field demands j 4)) (get_or after (field demands j 3) []))) g []
          ≡ relaned (elim s [ true ↦ at (field demands j 4) | false ↦ lane_in (map order_column past) (map lane_column past) g ]) (get_or before g [])
      go true e =
          let is : field demands j 3 ≡ g = eqb-true (field demands j 3) g e in
          subst (λ (k : ℕ). get_or (set after (field demands j 3) (relaned (at (field demands j 4)) (get_or after (field demands j 3) []))) k [] ≡ relaned (at (field demands j 4)) (get_or before k [])) is
          (get_or-set_same after (field demands j 3) (relaned (at (field demands j 4)) (get_or after (field demands j 3) [])) [] (omega arith)
          ∙ ap (relaned (at (field demands j 4))) (earlier (field demands j 3) room)
          ∙ relaned_twice (field demands j 4) (lane_in (map order_column past) (map lane_column past) (field demands j 3)) (get_or before (field demands j 3) []))
      go false e = get_or-set_other after (field demands j 3) g (relaned (at (field demands j 4)) (get_or after (field demands j 3) [])) [] (λ q. eqb-false (field demands j 3) g e (sym q)) ∙ earlier g h

-- The walk over the demands from the last to the first: those left are the first ones, and those behind them have their lanes.
abbrev pub LanesLeft : (demands before rest after : List (List ℕ)) → Type 0
LanesLeft demands before rest after = (rest ≡ take (length rest) demands) × LanesFrom demands before (length rest) after

module _ (demands before after new : List (List ℕ)) (d : List ℕ) (same : length after ≡ length before) (all : take (length (new ++ (d ∷ []))) demands ≡ new ++ (d ∷ [])) where
  abbrev n : ℕ
  n = length new

  more : length (new ++ (d ∷ [])) ≡ n + 1
  more = length_push new d

  pub left_inside : n < length demands
  left_inside = let l = ap length all in let m = length-take (length (new ++ (d ∷ []))) demands in omega (arith, l, m, more)

  pub left_last : get_or demands n [] ≡ d
  left_last = sym (get_or-take (length (new ++ (d ∷ []))) demands n [] (omega (arith, more))) ∙ ap (λ (l : List (List ℕ)). get_or l n []) all ∙ get_or_push new d [] n refl

  left_new : new ≡ take n demands
  left_new =
      sym (take-append_seam new (d ∷ [])) ∙ ap (take n) (sym all) ∙ sym (take-append-le n (take (length (new ++ (d ∷ []))) demands) (drop (length (new ++ (d ∷ []))) demands) (omega (arith, ap length all, more)))
      ∙ ap (take n) (take-append-drop (length (new ++ (d ∷ []))) demands)

  pub lanes_less : get_or d 3 0 < length before → LanesFrom demands before (length (new ++ (d ∷ []))) after
      → LanesLeft demands before new (set after (get_or d 3 0) (set (get_or after (get_or d 3 0) []) 4 (get_or d 4 0)))
  lanes_less room old = (
    left_new,
    subst (λ (r : List ℕ). LanesFrom demands before n (set after (get_or r 3 0) (set (get_or after (get_or r 3 0) []) 4 (get_or r 4 0)))) left_last
        (lanes_more demands before after n left_inside (subst (λ (r : List ℕ). get_or r 3 0 < length before) (sym left_last) room) same (subst (λ (k : ℕ). LanesFrom demands before k after) more old)),
  )

-- What `wire_crosses` answers of a wire that became a tap.
module _ (b : Board) (w t : ℕ) (nodes : List (List ℕ)) (is : b.nodes ≡ nodes) (wire : List ℕ) (v : get_or b.wires w [] ≡ wire) (s u : ℕ)
    (source : s ≡ held (anchor_of b (source_node b w))) (target : u ≡ held (anchor_of b (target_node b w))) (e : tap_target b w ≡ at t) where
  pub source_inside : {C : Type 0} → length nodes ≤ s → C
  source_inside h = let l = source_below b w t e in let q = source_held b w t e s source in let c = ap length is in absurd (omega arith)

  pub target_inside : {C : Type 0} → length nodes ≤ u → C
  target_inside h = let l = target_below b w t e in let q = target_held b w t e u target in let c = ap length is in absurd (omega arith)

  at_source : (not (eqb (field nodes s 1) (get_or wire 1 0)) || eqb (field nodes s 2) kind_chip) ≡ crosses_at b (source_anchor b w) (source_node b w)
  at_source = crosses_row b nodes is s (source_anchor b w) (source_held b w t e s source) (get_or wire 1 0) (source_node b w) (ap (λ (r : List ℕ). get_or r 1 0) (sym v))

  at_target : (not (eqb (field nodes u 1) (get_or wire 3 0)) || eqb (field nodes u 2) kind_chip) ≡ crosses_at b (target_anchor b w) (target_node b w)
  at_target = crosses_row b nodes is u (target_anchor b w) (target_held b w t e u target) (get_or wire 3 0) (target_node b w) (ap (λ (r : List ℕ). get_or r 3 0) (sym v))

  module _ (x : Bool) (leaves : x ≡ (not (eqb (field nodes s 1) (get_or wire 1 0)) || eqb (field nodes s 2) kind_chip)) where
    pub crosses_out : x ≡ true → true ≡ (crosses_at b (source_anchor b w) (source_node b w) || crosses_at b (target_anchor b w) (target_node b w))
    crosses_out h = ap (λ (y : Bool). y || crosses_at b (target_anchor b w) (target_node b w)) (sym h ∙ leaves ∙ at_source)

    pub crosses_into : (y : Bool) → y ≡ (not (eqb (field nodes u 1) (get_or wire 3 0)) || eqb (field nodes u 2) kind_chip) → x ≡ false
        → y ≡ (crosses_at b (source_anchor b w) (source_node b w) || crosses_at b (target_anchor b w) (target_node b w))
    crosses_into y enters h =
        enters ∙ at_target ∙ ap (λ (z : Bool). z || crosses_at b (target_anchor b w) (target_node b w)) (sym h ∙ leaves ∙ at_source)

-- A slice from a place to the end is all that stands behind.
pub all_behind : (marks : List ℕ) (j : ℕ) → take (length marks - j) (drop j marks) ≡ drop j marks
all_behind marks j = ap (λ (n : ℕ). take n (drop j marks)) (sym (length-drop j marks)) ∙ take-length (drop j marks)

-- Marks that are passed over: those of a slice's end are those behind, and one run goes on where the other ends.
pub none_behind : (marks : List ℕ) (p j n : ℕ) → NoneAsks (drop j marks) p 0 n → NoneAsks marks p j (j + n)
none_behind marks p j n far i a b e =
    far (i - j) (omega arith) (omega arith) (get_or-drop j marks (i - j) 0 ∙ (let same : j + (i - j) ≡ i = omega arith in ap (λ (k : ℕ). get_or marks k 0) same) ∙ e)

pub none_on : (marks : List ℕ) (p k j n : ℕ) → NoneAsks marks p k j → NoneAsks marks p j n → NoneAsks marks p k n
none_on marks p k j n left right i a b e = elim (dec_lt i j) [ yes l ↦ left i a l e | no f ↦ right i (omega arith) b e ]

-- One more tap's demand.
pub demands_more : (taps groups : List (List ℕ)) (marks : List ℕ) (p k n : ℕ) (before : List (List ℕ)) (row : List ℕ) → PageDemands taps marks k groups p before n → n < length before → get_or marks k 0 ≡ p
    → row ≡ field groups (field taps k 1) 0 ∷ field groups (field taps k 1) 1 ∷ field groups (field taps k 1) 2 ∷ field taps k 1 ∷ 0 ∷ 0 ∷ 0 ∷ 0 ∷ []
    → PageDemands taps marks (k + 1) groups p (set before n row) (n + 1)
unfolding demand_of
demands_more taps groups marks p k n before row old room asks e =
    rw (add-one k)
    (record {
      rows =
          view_more demand_of before row n room ∙ ap (λ (r : List ℕ). demand_of r ∷ view demand_of before n) e
          ∙ ap (λ (l : List Demand). group_demand groups (field taps k 1) ∷ l) old.rows ∙ ap (map (group_demand groups)) (sym one);
      orders =
          view_more order_column before row n room ∙ ap (λ (r : List ℕ). order_column r ∷ view order_column before n) e
          ∙ ap (λ (l : List ℕ). field taps k 1 ∷ l) old.orders ∙ sym one;
    })
  where
    one : asking taps marks p (suc k) ≡ field taps k 1 ∷ asking taps marks p k
    one = ap (map (λ j. field taps j 1)) (pick_true (eqb (get_or marks k 0) p) _ _ (eq-eqb (get_or marks k 0) p asks))

-- Taps that do not ask are passed over.
pub demands_past : (taps groups : List (List ℕ)) (marks : List ℕ) (p k n : ℕ) (demands : List (List ℕ)) → PageDemands taps marks k groups p demands n
    → (r : ℕ) → k ≤ r → NoneAsks marks p k r → PageDemands taps marks r groups p demands n
demands_past taps groups marks p k n demands old r l free = subst (λ (j : ℕ). PageDemands taps marks j groups p demands n) (omega (arith, l)) (past (r - k) (λ j a b. free j a (omega (arith, b, l))))
  where
    past : (d : ℕ) → NoneAsks marks p k (k + d) → PageDemands taps marks (k + d) groups p demands n
    past zero q = subst (λ (j : ℕ). PageDemands taps marks j groups p demands n) (omega arith) old
    past (suc d) q =
        let e : eqb (get_or marks (k + d) 0) p ≡ false = ne_eqb (get_or marks (k + d) 0) p (q (k + d) (omega arith) (omega arith)) in
        let h = past d (λ j a b. q j a (omega (arith, b))) in
        let z : k + suc d ≡ suc (k + d) = omega arith in
        let same : asking taps marks p (suc (k + d)) ≡ asking taps marks p (k + d) = ap (map (λ j. field taps j 1)) (pick_false (eqb (get_or marks (k + d) 0) p) _ _ e) in
        subst (λ (j : ℕ). PageDemands taps marks j groups p demands n) (sym z) (record { rows = h.rows ∙ ap (map (group_demand groups)) (sym same); orders = h.orders ∙ sym same })

-- A page's demands, packed and written back.
each_orders : (rows : List (List ℕ)) (ls : List ℕ) → map order_column (each_with with_lane rows ls) ≡ map order_column rows
unfolding each_with
each_orders [] ls = refl
each_orders (r ∷ rows) [] = refl
each_orders (r ∷ rows) (l ∷ ls) = λ z. get_or-set_other r 4 3 l 0 (λ e. omega arith) z ∷ each_orders rows ls z

orders_kept : (p : Packed) (rows : List (List ℕ)) → map order_column (rows_after p rows) ≡ map order_column rows
unfolding rows_after
orders_kept (full i) rows = refl
orders_kept (laned ls count) rows = each_orders rows ls

module _ (taps groups : List (List ℕ)) (marks : List ℕ) (m p : ℕ) (packable : Packable taps m groups) (demands : List (List ℕ)) (n : ℕ) (room : n ≤ length demands)
    (asked : PageDemands taps marks m groups p demands n) where
  pub rows_are : map demand_of (take n demands) ≡ map (group_demand groups) (reverse (asking taps marks p m))
  rows_are = front_view demand_of demands n room ∙ ap reverse asked.rows ∙ sym (map-reverse (group_demand groups) (asking taps marks p m))

  pub rows_sound : Sound (map demand_of (take n demands))
  rows_sound = page_sound taps groups marks m p packable (take n demands) rows_are

  module _ (left : List (List ℕ)) (r : Result ℕ LanesFull) (packs : PackedRows (take n demands) left r) (kept : length left ≡ length (take n demands)) where
    pub left_lent : take n (left ++ drop n demands) ≡ left
    left_lent = take_at left (drop n demands) n (kept ∙ length-take-le n demands room)

    pub left_length : length (take n (left ++ drop n demands)) ≡ n
    left_length = ap length left_lent ∙ kept ∙ length-take-le n demands room

    orders_are : map order_column left ≡ reverse (asking taps marks p m)
    orders_are = ap (map order_column) packs.after ∙ orders_kept (packed (map demand_of (take n demands))) (take n demands) ∙ front_view order_column demands n room ∙ ap reverse asked.orders

    pub order_inside : (j : ℕ) → j < length (take n (left ++ drop n demands)) → field (take n (left ++ drop n demands)) j 3 < length groups
    order_inside j h =
        subst (λ (l : List (List ℕ)). j < length l → field l j 3 < length groups) (sym left_lent)
        (λ k. page_group taps groups marks m p packable (field left j 3) (subst (Mem (field left j 3)) orders_are (map_in order_column left (at_mem [] left j k)))) h

    pub page_full : (crowd : LanesFull) → r ≡ Err crowd → packed (map (group_demand groups) (reverse (asking taps marks p m))) ≡ full crowd.index
    page_full crowd e = ap packed (sym rows_are) ∙ packs.result ∙ ap (λ (q : Result ℕ LanesFull). result_of q (map lane_column left)) e

    pub page_laned : (count : ℕ) (after : List (List ℕ)) → r ≡ Ok count
        → ((g : ℕ) → g < length groups → get_or after g [] ≡ relaned (lane_in (map order_column (take n (left ++ drop n demands))) (map lane_column (take n (left ++ drop n demands))) g) (get_or groups g []))
        → PagePacked taps marks m p groups after (Ok count)
    page_laned count after e placed = (
      map lane_column left,
      ap packed (sym rows_are) ∙ packs.result ∙ ap (λ (q : Result ℕ LanesFull). result_of q (map lane_column left)) e,
      λ g h. placed g h ∙ (λ z. relaned (lane_in (map order_column (left_lent z)) (map lane_column (left_lent z)) g) (get_or groups g [])) ∙ (λ z. relaned (lane_in (orders_are z) (map lane_column left) g) (get_or groups g [])),
    )

-- A page opens at most so many lanes.
module _ (taps groups : List (List ℕ)) (marks : List ℕ) (m p : ℕ) (packable : Packable taps m groups) where
  page_rising : Rising (map (group_demand groups) (reverse (asking taps marks p m)))
  page_rising i h =
      let r = map_from (group_demand groups) (reverse (asking taps marks p m)) (at_mem no_demand (map (group_demand groups) (reverse (asking taps marks p m))) i h) in
      let k = asker taps marks p m (reverse_from (asking taps marks p m) r.1) in
      subst (λ (d : Demand). d.first ≤ d.last) (sym r.2) (subst (λ (g : ℕ). field groups g 0 ≤ field groups g 1) (sym k.2) (packable.first k.0 k.1))

  pub page_few : (after : List (List ℕ)) (r : Result ℕ LanesFull) → PagePacked taps marks m p groups after r → (count : ℕ) → r ≡ Ok count → count ≤ lane_most
  page_few after (Ok k) packs count e =
      let same : k ≡ count = cc in
      let most = (lanes_apart (map (group_demand groups) (reverse (asking taps marks p m))) page_rising packs.0 k packs.1).most in
      omega arith
  page_few after (Err crowd) packs count e = never cc
