-- What is known of every tap, and what the taps of a group add up to.
use Prim.Native.Nat.{ℕ, zero, suc, ◌+◌, ◌≤◌, ◌<◌, min, max}
use native.Mathlib.Omega.{arith}
use native.Mathlib.Numerals.{add-one}
use mathlib.Core.Path.{◌≡◌, refl, sym, ap, ◌∙◌, subst}
use mathlib.Core.Logic.{◌⊎◌, inl, inr, ⊎_elim}
use mathlib.Core.Bool.{Bool, true, false, ◌&&◌, ◌||◌}
use mathlib.Core.List.Memᴰ.{cases_cons as cases}
use mathlib.Core.List.Memᴰ.{head as here}
use mathlib.Core.List.Memᴰ.{not-nil as nowhere}
use mathlib.Core.List.Memᴰ.{tail as there}
use mathlib.Core.List.{List, [], ◌∷◌, map, Memᴰ as Mem}
use lib.Dec.{eqb}
use lib.ListN.{length, get_or, set}
use lib.Seq.{get_or-set_same, get_or-set_other}
use borrow.Author.Tests.{eq-eqb, ne_eqb, eqb-true, eqb-false}
use Rattle.sheet.specs.Table.{MISSING}
use Rattle.base.specs.Lists.{Found, none, at, any, keep, fold, upto, least, greatest}
use Rattle.board.specs.Board.{Board, field, page_of, source_node, target_node}
use Rattle.board.specs.Rows.{row_of}
use Rattle.board.specs.Groups.{Tap, anchor_of, group_for, tap_for, add_wire, taps_of, taps_in, source_anchor, target_anchor, crosses, crosses_at}
use Rattle.board.specs.Demands.{first_row, last_row}
use Rattle.base.specs.Views.{view}
use Rattle.board.specs.Tables.{held, flag, tap_in, tap_target, group_row}
use Rattle.base.proofs.Members.{keep_in, keep_from, map_in, map_from}
use Rattle.board_groups.proofs.RowLaws.{On, row_below}
use Rattle.board_groups.proofs.TapLaws.{carried, carried_row, carried_below, add_none, add_some, anchor_below}

-- A tap of one of the first n wires: where its wire goes, and where the first wire of its group goes.
pub record Known (b : Board) (n : ℕ) (t : Tap) : Type 0 where
  pub target : ℕ
  pub carries : tap_target b t.wire ≡ at target
  pub page : t.page ≡ page_of b target
  pub row : t.row ≡ row_of b target
  pub wire : t.wire < n
  pub group : t.group ≤ t.wire
  pub first : ℕ
  pub leads : tap_target b t.group ≡ at first
  pub home : t.page ≡ page_of b first

module _ (b : Board) where
  group_cases : (ts : List Tap) (p w : ℕ) → (group_for b ts p w ≡ w) ⊎ ((u : Tap) × Mem u ts × (u.page ≡ p) × (group_for b ts p w ≡ u.group))
  unfolding group_for
  group_cases [] p w = inl refl
  group_cases (t ∷ ts) p w = go (eqb t.page p) refl (eqb (field b.wires t.wire 1) (field b.wires w 1)) (eqb (field b.wires t.wire 2) (field b.wires w 2)) (group_cases ts p w)
    where
      deeper : (v : ℕ) → (v ≡ w) ⊎ ((u : Tap) × Mem u ts × (u.page ≡ p) × (v ≡ u.group)) → (v ≡ w) ⊎ ((u : Tap) × Mem u (t ∷ ts) × (u.page ≡ p) × (v ≡ u.group))
      deeper v (inl e) = inl e
      deeper v (inr r) = inr (r.0, there r.1, r.2, r.3)

      go : (x : Bool) → eqb t.page p ≡ x → (y z : Bool) → (group_for b ts p w ≡ w) ⊎ ((u : Tap) × Mem u ts × (u.page ≡ p) × (group_for b ts p w ≡ u.group))
          → (◌≡◌ {A = ℕ} (elim (x && y && z) [ true ↦ t.group | false ↦ group_for b ts p w ]) w)
          ⊎ ((u : Tap) × Mem u (t ∷ ts) × (u.page ≡ p) × (◌≡◌ {A = ℕ} (elim (x && y && z) [ true ↦ t.group | false ↦ group_for b ts p w ]) u.group))
      go true e true true ih = inr (t, here refl, eqb-true t.page p e, refl)
      go true e true false ih = deeper (group_for b ts p w) ih
      go true e false z ih = deeper (group_for b ts p w) ih
      go false e y z ih = deeper (group_for b ts p w) ih

  known_more : (n : ℕ) (t : Tap) → Known b n t → Known b (suc n) t
  known_more n t k =
      let h = k.wire in
      record { target = k.target; carries = k.carries; page = k.page; row = k.row; wire = omega arith; group = k.group; first = k.first; leads = k.leads; home = k.home }

  known_new : (n : ℕ) (ts : List Tap) → ((t : Tap) → Mem t ts → Known b n t) → (x : ℕ) → tap_target b n ≡ at x → Known b (suc n) (tap_for b ts n x)
  unfolding tap_for
  known_new n ts old x e = go (group_cases ts (page_of b x) n)
    where
      go : (group_for b ts (page_of b x) n ≡ n) ⊎ ((u : Tap) × Mem u ts × (u.page ≡ page_of b x) × (group_for b ts (page_of b x) n ≡ u.group)) → Known b (suc n) (tap_for b ts n x)
      go (inl g) =
          record {
            target = x;
            carries = e;
            page = refl;
            row = refl;
            wire = omega arith;
            group = omega arith;
            first = x;
            leads = ap (tap_target b) g ∙ e;
            home = refl;
          }
      go (inr r) =
          let k = old r.0 r.1 in
          let h = k.wire in
          let g = k.group in
          let f = r.3 in
          record {
            target = x;
            carries = e;
            page = refl;
            row = refl;
            wire = omega arith;
            group = omega arith;
            first = k.first;
            leads = ap (tap_target b) r.3 ∙ k.leads;
            home = sym r.2 ∙ k.home;
          }

  pub known_upto : (n : ℕ) (t : Tap) → Mem t (fold (add_wire b) [] (upto n)) → Known b n t
  known_upto zero t m = absurd (nowhere m)
  known_upto (suc n) t m = go (tap_target b n) refl (known_upto n)
    where
      go : (f : Found) → tap_target b n ≡ f → ((u : Tap) → Mem u (fold (add_wire b) [] (upto n)) → Known b n u) → Known b (suc n) t
      go none e ih = known_more n t (ih t (subst (Mem t) (add_none b n (fold (add_wire b) [] (upto n)) e) m))
      go (at x) e ih =
          ⊎_elim (λ q. subst (Known b (suc n)) (sym q) (known_new n (fold (add_wire b) [] (upto n)) ih x e)) (λ o. known_more n t (ih t o))
          (cases (subst (Mem t) (add_some b n (fold (add_wire b) [] (upto n)) x e) m))

  pub known : (t : Tap) → Mem t (taps_of b) → Known b (length b.wires) t
  unfolding taps_of
  known t m = known_upto (length b.wires) t m

  -- The anchors of a wire that became a tap.
  module _ (w t : ℕ) (e : tap_target b w ≡ at t) where
    pub source_is : source_anchor b w ≡ (carried b w t e).source
    unfolding source_anchor
    source_is = rw ((carried b w t e).from, source_anchor)

    pub target_is : target_anchor b w ≡ t
    unfolding target_anchor
    target_is = rw ((carried b w t e).to, target_anchor)

    pub source_held : (s : ℕ) → s ≡ held (anchor_of b (source_node b w)) → s ≡ source_anchor b w
    source_held s h = h ∙ ap held (carried b w t e).from ∙ sym source_is

    pub target_held : (s : ℕ) → s ≡ held (anchor_of b (target_node b w)) → s ≡ target_anchor b w
    target_held s h = h ∙ ap held (carried b w t e).to ∙ sym target_is

    pub source_below : source_anchor b w < length b.nodes
    source_below = subst (λ (s : ℕ). s < length b.nodes) (sym source_is) (anchor_below b (source_node b w) (carried b w t e).source (carried b w t e).from)

    pub target_below : target_anchor b w < length b.nodes
    target_below = subst (λ (s : ℕ). s < length b.nodes) (sym target_is) (carried_below b w t e)

  pub known_row : (n : ℕ) (t : Tap) → Known b n t → t.row < length b.nodes
  known_row n t k =
      let on : On b (page_of b k.target) k.target = record { there_is = carried_below b t.wire k.target k.carries; row = carried_row b t.wire k.target k.carries; page = refl } in
      let h = row_below b (page_of b k.target) k.target on in
      let e = k.row in
      omega arith

-- Least and greatest, one number at a time.
pub least_in : (x : ℕ) (l : List ℕ) → x ≤ MISSING → least MISSING (x ∷ l) ≡ min x (least MISSING l)
least_in x [] h = omega arith
least_in x (y ∷ l) h = refl

pub greatest_in : (x : ℕ) (l : List ℕ) → greatest 0 (x ∷ l) ≡ max x (greatest 0 l)
greatest_in x [] = omega arith
greatest_in x (y ∷ l) = refl

pub least_any : (d e : ℕ) (l : List ℕ) (x : ℕ) → Mem x l → least d l ≡ least e l
least_any d e [] x m = absurd (nowhere m)
least_any d e (y ∷ l) x m = refl

flag_or : (s t : Bool) → flag (s || t) ≡ max (flag s) (flag t)
flag_or true true = refl
flag_or true false = refl
flag_or false true = refl
flag_or false false = refl

-- Whether a tap's wire enters a chip or leaves one.
abbrev pub Crossing : Board → Tap → Bool
Crossing b t = crosses_at b (source_anchor b t.wire) (source_node b t.wire) || crosses_at b (target_anchor b t.wire) (target_node b t.wire)

module _ (b : Board) (t : Tap) (ts : List Tap) (g : ℕ) where
  taps_in_lem : t.group ≡ g → taps_in b (t ∷ ts) g ≡ t ∷ taps_in b ts g
  unfolding taps_in
  taps_in_lem e = rw (eq-eqb t.group g e, keep) refl

  taps_out : (t.group ≡ g → ⊥) → taps_in b (t ∷ ts) g ≡ taps_in b ts g
  unfolding taps_in
  taps_out e = rw (ne_eqb t.group g e, keep) refl

pub row_none : (b : Board) (g lane : ℕ) → group_row b [] g lane ≡ MISSING ∷ 0 ∷ 0 ∷ 0 ∷ lane ∷ MISSING ∷ 0 ∷ 0 ∷ []
unfolding group_row taps_in crosses
row_none b g lane = refl

-- The row of a list of taps alone.
row_in : Board → List Tap → ℕ → List ℕ
row_in b l lane =
    least MISSING (map (λ t. t.row) l) ∷ greatest 0 (map (λ t. t.row) l) ∷ length l ∷ flag (any (Crossing b) l) ∷ lane
    ∷ least MISSING (map (λ t. t.x) l) ∷ greatest 0 (map (λ t. t.x) l) ∷ 0 ∷ []

row_of_lem : (b : Board) (ts : List Tap) (g lane : ℕ) → group_row b ts g lane ≡ row_in b (taps_in b ts g) lane
unfolding group_row crosses row_in
row_of_lem b ts g lane = refl

pub row_out : (b : Board) (t : Tap) (ts : List Tap) (g lane : ℕ) → (t.group ≡ g → ⊥) → group_row b ts g lane ≡ group_row b (t ∷ ts) g lane
row_out b t ts g lane h = row_of_lem b ts g lane ∙ ap (λ (l : List Tap). row_in b l lane) (sym (taps_out b t ts g h)) ∙ sym (row_of_lem b (t ∷ ts) g lane)

pub row_in_lem : (b : Board) (t : Tap) (ts : List Tap) (g lane : ℕ) (c : Bool) (r : List ℕ) → t.group ≡ g → t.row ≤ MISSING → t.x ≤ MISSING → c ≡ Crossing b t → r ≡ group_row b ts g lane
    → ◌≡◌ {A = List ℕ} (min t.row (get_or r 0 0) ∷ max t.row (get_or r 1 0) ∷ (get_or r 2 0 + 1) ∷ max (flag c) (get_or r 3 0) ∷ get_or r 4 0 ∷ min t.x (get_or r 5 0) ∷ max t.x (get_or r 6 0) ∷ 0 ∷ [])
    (group_row b (t ∷ ts) g lane)
unfolding row_in
row_in_lem b t ts g lane c r e hr hx crossing is =
    let l : List Tap = taps_in b ts g in
    let old : r ≡ row_in b l lane = is ∙ row_of_lem b ts g lane in
    let rows : List ℕ = map (λ u. u.row) l in
    let xs : List ℕ = map (λ u. u.x) l in
    let c0 : min t.row (get_or r 0 0) ≡ least MISSING (t.row ∷ rows) = ap (λ (q : List ℕ). min t.row (get_or q 0 0)) old ∙ sym (least_in t.row rows hr) in
    let c1 : max t.row (get_or r 1 0) ≡ greatest 0 (t.row ∷ rows) = ap (λ (q : List ℕ). max t.row (get_or q 1 0)) old ∙ sym (greatest_in t.row rows) in
    let c2 : get_or r 2 0 + 1 ≡ suc (length l) = ap (λ (q : List ℕ). get_or q 2 0 + 1) old ∙ add-one (length l) in
    let c3 : max (flag c) (get_or r 3 0) ≡ flag (Crossing b t || any (Crossing b) l) = (λ z. max (flag (crossing z)) (get_or (old z) 3 0)) ∙ sym (flag_or (Crossing b t) (any (Crossing b) l)) in
    let c4 : get_or r 4 0 ≡ lane = ap (λ (q : List ℕ). get_or q 4 0) old in
    let c5 : min t.x (get_or r 5 0) ≡ least MISSING (t.x ∷ xs) = ap (λ (q : List ℕ). min t.x (get_or q 5 0)) old ∙ sym (least_in t.x xs hx) in
    let c6 : max t.x (get_or r 6 0) ≡ greatest 0 (t.x ∷ xs) = ap (λ (q : List ℕ). max t.x (get_or q 6 0)) old ∙ sym (greatest_in t.x xs) in
    (λ z. c0 z ∷ c1 z ∷ c2 z ∷ c3 z ∷ c4 z ∷ c5 z ∷ c6 z ∷ 0 ∷ [])
    ∙ ap (λ (k : List Tap). row_in b k lane) (sym (taps_in_lem b t ts g e)) ∙ sym (row_of_lem b (t ∷ ts) g lane)

-- A group of taps is not empty where one of them is in it.
pub in_group : (b : Board) (ts : List Tap) (t : Tap) → Mem t ts → Mem t (taps_in b ts t.group)
unfolding taps_in
in_group b ts t m = keep_in (λ u. eqb u.group t.group) ts m (eq-eqb t.group t.group refl)

module _ (b : Board) (ts : List Tap) (t : Tap) (m : Mem t ts) (lane : ℕ) (r : List ℕ) (is : r ≡ group_row b ts t.group lane) where
  pub row_first : get_or r 0 0 ≡ first_row b ts t.group
  unfolding group_row first_row
  row_first = ap (λ (q : List ℕ). get_or q 0 0) is ∙ least_any MISSING 0 (map (λ u. u.row) (taps_in b ts t.group)) t.row (map_in (λ u. u.row) (taps_in b ts t.group) (in_group b ts t m))

  pub row_last : get_or r 1 0 ≡ last_row b ts t.group
  unfolding group_row last_row
  row_last = ap (λ (q : List ℕ). get_or q 1 0) is

  pub row_consumers : get_or r 2 0 ≡ length (taps_in b ts t.group)
  unfolding group_row
  row_consumers = ap (λ (q : List ℕ). get_or q 2 0) is

  pub row_crosses : get_or r 3 0 ≡ flag (crosses b ts t.group)
  unfolding group_row
  row_crosses = ap (λ (q : List ℕ). get_or q 3 0) is

-- What a view's rows are.

-- One more tap added to its group's row.
module _ (b : Board) (taps groups : List (List ℕ)) (count k : ℕ) (row : List ℕ) where
  pub sums_more : (room : field taps k 1 < length groups) → ((g : ℕ) → g < count → get_or groups g [] ≡ group_row b (view tap_in taps k) g MISSING)
      → row ≡ group_row b (tap_in (get_or taps k []) ∷ view tap_in taps k) (field taps k 1) MISSING
      → (g : ℕ) → g < count → get_or (set groups (field taps k 1) row) g [] ≡ group_row b (view tap_in taps (k + 1)) g MISSING
  sums_more room old new g h = subst (λ (n : ℕ). get_or (set groups (field taps k 1) row) g [] ≡ group_row b (view tap_in taps n) g MISSING) (sym (add-one k)) (go (eqb g (field taps k 1)) refl)
    where
      go : (s : Bool) → eqb g (field taps k 1) ≡ s → get_or (set groups (field taps k 1) row) g [] ≡ group_row b (tap_in (get_or taps k []) ∷ view tap_in taps k) g MISSING
      go true e =
          let same : g ≡ field taps k 1 = eqb-true g (field taps k 1) e in
          subst (λ (j : ℕ). get_or (set groups (field taps k 1) row) j [] ≡ group_row b (tap_in (get_or taps k []) ∷ view tap_in taps k) j MISSING) (sym same)
          (get_or-set_same groups (field taps k 1) row [] room ∙ new)
      go false e =
          let other = eqb-false g (field taps k 1) e in
          get_or-set_other groups (field taps k 1) g row [] other ∙ old g h ∙ row_out b (tap_in (get_or taps k [])) (view tap_in taps k) g MISSING (λ q. other (sym q))

pub counts_more : (groups : List (List ℕ)) (count a k : ℕ) (row : List ℕ) → a < length groups → ((g : ℕ) → g < count → field groups g 2 ≤ k) → get_or row 2 0 ≤ k + 1
    → (g : ℕ) → g < count → field (set groups a row) g 2 ≤ k + 1
counts_more groups count a k row room old new g h = go (eqb g a) refl
  where
    go : (s : Bool) → eqb g a ≡ s → field (set groups a row) g 2 ≤ k + 1
    go true e =
        let same : field (set groups a row) g 2 ≡ get_or row 2 0 = (λ z. field (set groups a row) (eqb-true g a e z) 2) ∙ ap (λ (r : List ℕ). get_or r 2 0) (get_or-set_same groups a row [] room) in
        omega arith
    go false e =
        let other : field (set groups a row) g 2 ≡ field groups g 2 = ap (λ (r : List ℕ). get_or r 2 0) (get_or-set_other groups a g row [] (eqb-false g a e)) in
        let o = old g h in
        omega arith

-- Bounds of a group's rows and of its taps.
least_most : (d x : ℕ) (l : List ℕ) → Mem x l → least d l ≤ x
least_most d x [] m = absurd (nowhere m)
least_most d x (y ∷ l) m = ⊎_elim (λ e. omega arith) (λ n. let h = least_most y x l n in omega arith) (cases m)

greatest_least : (d x : ℕ) (l : List ℕ) → Mem x l → x ≤ greatest d l
greatest_least d x [] m = absurd (nowhere m)
greatest_least d x (y ∷ l) m = ⊎_elim (λ e. omega arith) (λ n. let h = greatest_least y x l n in omega arith) (cases m)

greatest_most : (d k : ℕ) (l : List ℕ) → d ≤ k → ((x : ℕ) → Mem x l → x ≤ k) → greatest d l ≤ k
greatest_most d k [] h f = h
greatest_most d k (y ∷ l) h f = let u = greatest_most y k l (f y (here refl)) (λ x m. f x (there m)) in let v = f y (here refl) in omega arith

pub first_last : (b : Board) (ts : List Tap) (t : Tap) → Mem t ts → first_row b ts t.group ≤ last_row b ts t.group
unfolding first_row last_row
first_last b ts t m =
    let n = map_in (λ u. u.row) (taps_in b ts t.group) (in_group b ts t m) in
    let u = least_most 0 t.row (map (λ u. u.row) (taps_in b ts t.group)) n in
    let v = greatest_least 0 t.row (map (λ u. u.row) (taps_in b ts t.group)) n in
    omega arith

pub last_most : (b : Board) (ts : List Tap) (g k : ℕ) → ((t : Tap) → Mem t ts → t.row ≤ k) → last_row b ts g ≤ k
unfolding last_row taps_in
last_most b ts g k h =
    greatest_most 0 k (map (λ u. u.row) (taps_in b ts g)) (omega arith)
    (λ x m. let r = map_from (λ (u : Tap). u.row) (taps_in b ts g) m in let e = r.2 in let l = h r.0 (keep_from (λ u. eqb u.group g) ts r.1).0 in omega arith)

pub length_group : (b : Board) (ts : List Tap) (g : ℕ) → length (taps_in b ts g) ≤ length ts
unfolding taps_in
length_group b [] g = omega arith
length_group b (t ∷ ts) g = go (eqb t.group g) (length_group b ts g)
  where
    go : (s : Bool) → length (keep (λ u. eqb u.group g) ts) ≤ length ts → length {A = Tap} (elim s [ true ↦ t ∷ keep (λ u. eqb u.group g) ts | false ↦ keep (λ u. eqb u.group g) ts ]) ≤ suc (length ts)
    go true h = omega arith
    go false h = omega arith
