-- The taps in the order of laying: each wire once, and a group, a row and a column each in one run.
use Rattle.std.proofs.Common.{◌≡◌, ℕ, zero, suc, ◌≤◌, Bool, true, false, ◌&&◌, eqb, ltb, leb, ◌⊎◌, List, [], ◌∷◌, map, reverse, length, take, sym, refl, ap, ◌∙◌, inl, inr, arith, ltb-false, le-ltb, eq-eqb, eqb-true, le-leb}
use mathlib.Core.List.Memᴰ
use mathlib.Core.List.{Memᴰ}
use lib.ListN.{length-reverse}
use borrow.Author.Tests.{not-false}
use Rattle.base.specs.Sort.{sorted, lex_less}
use Rattle.base.proofs.SortLaws.{Order, lex_order}
use Rattle.base.specs.Lists.{found, any, keep}
use Rattle.board.specs.Board.{Board, page_of}
use Rattle.board.specs.Groups.{Tap, taps_of, target_anchor}
use Rattle.board.specs.Demands.{PageLanes, lane_of}
use Rattle.base.proofs.Bools.{never, clash, and_left, both, or_left, or_right}
use Rattle.base.proofs.Lists.{same_two, same_three, none_at_all, in_keep, to_keep, in_map, to_map, keep_yes, none_counted, count_tail, count_kept, count_le, Pairs, pairs_reverse, in_reverse, count_reverse, in_sorted, count_sorted, length-sorted, rises_sorted}
use Rattle.board.proofs.Taps.{wire_is, taps_of_lem}
use Rattle.routes.specs.Stops.{tap_key, tap_before, laid_taps, is_laid, new_group, new_row, new_column}
use Rattle.routes.specs.Demand3.{distinct, rows_up_to, columns_on}
use Rattle.routes.proofs.Distinct.{distinct_old, distinct_new, distinct_le, found_in}

-- Rows of numbers in order.
lex_strict : (u : List ℕ) → lex_less u u ≡ false
unfolding lex_less
lex_strict [] = refl
lex_strict (x ∷ u) = rw (le-ltb x x (omega arith), eq-eqb x x refl) (lex_strict u)

-- u ≤ v by their first numbers, and by the next where those are equal
lex_first : (x y : ℕ) (u v : List ℕ) → lex_less (y ∷ v) (x ∷ u) ≡ false → (x ≤ y) × (x ≡ y → lex_less v u ≡ false)
unfolding lex_less
lex_first x y u v h = (ltb-false y x (or_left (ltb y x) (eqb y x && lex_less v u) h), λ e. next e (or_right (ltb y x) (eqb y x && lex_less v u) h))
  where
    next : x ≡ y → (eqb y x && lex_less v u) ≡ false → lex_less v u ≡ false
    next e r = rw (eq-eqb y x (sym e)) at r

-- Between two rows that begin alike stand rows that begin so too.
lex_between : (n : ℕ) (u v t : List ℕ) → lex_less v u ≡ false → lex_less t v ≡ false → take n u ≡ take n t → take n v ≡ take n t
unfolding lex_less
lex_between zero u v t h k e = refl
lex_between (suc n) [] [] [] h k e = refl
lex_between (suc n) [] (y ∷ v) [] h k e = clash refl k
lex_between (suc n) [] v (z ∷ t) h k e = never cc
lex_between (suc n) (x ∷ u) v [] h k e = never cc
lex_between (suc n) (x ∷ u) [] (z ∷ t) h k e = clash refl h
lex_between (suc n) (x ∷ u) (y ∷ v) (z ∷ t) h k e =
    let p : x ≡ z = cc in
    let q : take n u ≡ take n t = cc in
    let a = lex_first x y u v h in
    let c = lex_first y z v t k in
    let r : y ≡ z = omega (arith, a.0, c.0) in
    rw (r, lex_between n u v t (a.1 (omega arith)) (c.1 r) q)

tap_order : Order tap_before
tap_order =
    record {
      through = λ t u v. lex_order.through (tap_key t) (tap_key u) (tap_key v);
      under = λ t u v. lex_order.under (tap_key t) (tap_key u) (tap_key v);
    }

-- Distinct numbers f of the taps that pass a test.
abbrev pub seen : (Tap → ℕ) → (Tap → Bool) → List Tap → ℕ
seen f p l = length (distinct (map f (keep p l)))

module _ (f : Tap → ℕ) (p : Tap → Bool) where
  pub seen_new : (t : Tap) (l : List Tap) → p t ≡ true → ((u : Tap) → Memᴰ u l → p u ≡ true → f t ≡ f u → ⊥) → seen f p (t ∷ l) ≡ suc (seen f p l)
  seen_new t l h k =
      rw
      (keep_yes p t l h, distinct_new (f t) (map f (keep p l)) (none_at_all (eqb (f t)) (map f (keep p l)) (λ x m. go x (in_map f (keep p l) m) (eqb (f t) x) refl)))
    where
      go : (x : ℕ) → (u : Tap) × Memᴰ u (keep p l) × (x ≡ f u) → (s : Bool) → eqb (f t) x ≡ s → eqb (f t) x ≡ false
      go x r true e = let q = in_keep p l r.1 in absurd (k r.0 q.0 q.1 (eqb-true (f t) x e ∙ r.2))
      go x r false e = e

  pub seen_old : (t u : Tap) (l : List Tap) → p t ≡ true → Memᴰ u l → p u ≡ true → f t ≡ f u → seen f p (t ∷ l) ≡ seen f p l
  seen_old t u l h m k e = rw (keep_yes p t l h, distinct_old (f t) (map f (keep p l)) (found_in (f t) (map f (keep p l)) (rw e (to_map f (to_keep p m k)))))

  pub seen_le : (q : Tap → Bool) (l r : List Tap) → ((u : Tap) → Memᴰ u l → p u ≡ true → Memᴰ u r × (q u ≡ true)) → seen f p l ≤ seen f q r
  seen_le q l r h = distinct_le (map f (keep q r)) (map f (keep p l)) (λ x m. go x (in_map f (keep p l) m))
    where
      go : (x : ℕ) → (u : Tap) × Memᴰ u (keep p l) × (x ≡ f u) → Memᴰ x (map f (keep q r))
      go x s = let k = in_keep p l s.1 in let i = h s.0 k.0 k.1 in rw s.2 (to_map f (to_keep q i.0 i.1))

abbrev pub in_group_lem : ℕ → Tap → Bool
in_group_lem g u = eqb u.group g

abbrev pub in_row : Tap → Tap → Bool
in_row t u = eqb u.group t.group && eqb u.row t.row

of_row : (t u : Tap) → u.group ≡ t.group → u.row ≡ t.row → in_row t u ≡ true
of_row t u g r = both (eqb u.group t.group) (eqb u.row t.row) (eq-eqb u.group t.group g) (eq-eqb u.row t.row r)

abbrev pub rows_seen : List Tap → ℕ → ℕ
rows_seen l g = seen (λ u. u.row) (in_group_lem g) l

abbrev pub columns_seen : List Tap → Tap → ℕ
columns_seen l t = seen (λ u. u.y) (in_row t) l

-- A tap on the row of the one before it is of its group.
pub row_of_group : (t : Tap) (l : List Tap) → new_row l t ≡ false → new_group l t ≡ false
row_of_group t [] n = clash refl n
row_of_group t (v ∷ l) n = rw (eq-eqb v.group t.group (same_two v.group t.group v.row t.row (not-false _ n)).0)

-- The laid taps, or those up to one of them, newest first.
pub record LaidIn (b : Board) (ps : List PageLanes) (l : List Tap) : Type 0 where
  pub falls : Pairs (λ t u. tap_before t u ≡ false) l
  pub once : (k : ℕ) → length (keep (wire_is k) l) ≤ 1
  pub in_taps : (t : Tap) → Memᴰ t l → Memᴰ t (taps_of b)
  pub laned : (t : Tap) → Memᴰ t l → found (lane_of ps t.page t.group) ≡ true

module _ (b : Board) (ps : List PageLanes) where
  pub laid_in : LaidIn b ps (laid_taps b (taps_of b) ps)
  unfolding laid_taps is_laid
  laid_in =
      record {
        falls = pairs_reverse _ kept_sorted (rises_sorted tap_before tap_order (λ t. lex_strict (tap_key t)) kept);
        once = once;
        in_taps = λ t m. (from t m).0;
        laned = λ t m. and_left _ _ (from t m).1;
      }
    where
      kept : List Tap
      kept = keep (is_laid b (taps_of b) ps) (taps_of b)

      kept_sorted : List Tap
      kept_sorted = sorted tap_before kept

      once : (k : ℕ) → length (keep (wire_is k) (reverse kept_sorted)) ≤ 1
      once k =
          let same = count_reverse (wire_is k) kept_sorted ∙ count_sorted tap_before (wire_is k) kept in
          omega (arith, count_kept (wire_is k) (is_laid b (taps_of b) ps) (taps_of b), (taps_of_lem b).once k)

      from : (t : Tap) → Memᴰ t (reverse kept_sorted) → Memᴰ t (taps_of b) × (is_laid b (taps_of b) ps t ≡ true)
      from t m = in_keep (is_laid b (taps_of b) ps) (taps_of b) (in_sorted tap_before kept (in_reverse kept_sorted m))

  pub laid_short : length (laid_taps b (taps_of b) ps) ≤ length b.wires
  unfolding laid_taps
  laid_short =
      let kept = keep (is_laid b (taps_of b) ps) (taps_of b) in
      omega (arith, length-reverse (sorted tap_before kept), length-sorted tap_before kept, count_le (is_laid b (taps_of b) ps) (taps_of b), (taps_of_lem b).short)

  pub laid_tail : (t : Tap) (l : List Tap) → LaidIn b ps (t ∷ l) → LaidIn b ps l
  laid_tail t l h =
      record {
        falls = h.falls.1;
        once = λ k. omega (arith, h.once k, count_tail (wire_is k) t l);
        in_taps = λ u m. h.in_taps u (Memᴰ.tail m);
        laned = λ u m. h.laned u (Memᴰ.tail m);
      }

  module _ (t : Tap) (l : List Tap) (h : LaidIn b ps (t ∷ l)) where
    -- A tap's wire is that of no tap before it.
    pub new_wire : any (wire_is t.wire) l ≡ false
    new_wire =
        none_counted (wire_is t.wire) l
        (let e = ap length (keep_yes (wire_is t.wire) t l (eq-eqb t.wire t.wire refl)) in omega (arith, h.once t.wire))

    same_page : (u : Tap) → Memᴰ u l → u.group ≡ t.group → u.page ≡ t.page
    same_page u m e =
        ((taps_of_lem b).grouped u (h.in_taps u (Memᴰ.tail m))).page ∙
        (ap (λ g. page_of b (target_anchor b g)) e ∙ sym ((taps_of_lem b).grouped t (h.in_taps t (Memᴰ.head refl))).page)

    -- Rows do not rise towards the older taps of a group.
    pub row_below : (u : Tap) → Memᴰ u l → u.group ≡ t.group → u.row ≤ t.row
    row_below u m e =
        let page = lex_first u.page t.page _ _ (h.falls.0 u m) in
        let group = lex_first u.group t.group _ _ (page.1 (same_page u m e)) in
        (lex_first u.row t.row _ _ (group.1 e)).0

  -- The newest tap before t begins as t does, if any before it does.
  newest_like : (t v : Tap) (l : List Tap) → LaidIn b ps (t ∷ v ∷ l) → (n : ℕ) (u : Tap) → Memᴰ u (v ∷ l) → take n (tap_key u) ≡ take n (tap_key t)
      → take n (tap_key v) ≡ take n (tap_key t)
  newest_like t v l h n u m e = go (Memᴰ.cases_cons m)
    where
      go : (u ≡ v) ⊎ Memᴰ u l → take n (tap_key v) ≡ take n (tap_key t)
      go (inl d) = ap (λ w. take n (tap_key w)) (sym d) ∙ e
      go (inr i) = lex_between n (tap_key u) (tap_key v) (tap_key t) (h.falls.1.0 u i) (h.falls.0 v (Memᴰ.head refl)) e

  pub new_group_lem : (t : Tap) (l : List Tap) → LaidIn b ps (t ∷ l) → new_group l t ≡ true → (u : Tap) → Memᴰ u l → u.group ≡ t.group → ⊥
  new_group_lem t [] h n u m g = Memᴰ.not-nil m
  new_group_lem t (v ∷ l) h n u m g =
      let key = newest_like t v l h 2 u m (rw (same_page t (v ∷ l) h u m g, g)) in
      let e : v.group ≡ t.group = cc in
      clash n (rw (eq-eqb v.group t.group e))

  pub new_row_lem : (t : Tap) (l : List Tap) → LaidIn b ps (t ∷ l) → new_row l t ≡ true → (u : Tap) → Memᴰ u l → u.group ≡ t.group → u.row ≡ t.row → ⊥
  new_row_lem t [] h n u m g r = Memᴰ.not-nil m
  new_row_lem t (v ∷ l) h n u m g r =
      let key = newest_like t v l h 3 u m (rw (same_page t (v ∷ l) h u m g, g, r)) in
      let e : v.group ≡ t.group = cc in
      let f : v.row ≡ t.row = cc in
      clash n (rw (eq-eqb v.group t.group e, eq-eqb v.row t.row f))

  pub new_column_lem : (t : Tap) (l : List Tap) → LaidIn b ps (t ∷ l) → new_column l t ≡ true → (u : Tap) → Memᴰ u l → u.group ≡ t.group → u.row ≡ t.row
      → u.y ≡ t.y → ⊥
  new_column_lem t [] h n u m g r y = Memᴰ.not-nil m
  new_column_lem t (v ∷ l) h n u m g r y =
      let key = newest_like t v l h 4 u m (rw (same_page t (v ∷ l) h u m g, g, r, y)) in
      let e : v.group ≡ t.group = cc in
      let f : v.row ≡ t.row = cc in
      let d : v.y ≡ t.y = cc in
      clash n (rw (eq-eqb v.group t.group e, eq-eqb v.row t.row f, eq-eqb v.y t.y d))

  -- Rows and columns counted as the taps come.
  pub rows_new : (t : Tap) (l : List Tap) → LaidIn b ps (t ∷ l) → new_row l t ≡ true → rows_seen (t ∷ l) t.group ≡ suc (rows_seen l t.group)
  rows_new t l h n =
      seen_new (λ u. u.row) (in_group_lem t.group) t l (eq-eqb t.group t.group refl)
      (λ u m g r. new_row_lem t l h n u m (eqb-true u.group t.group g) (sym r))

  pub rows_old : (t : Tap) (l : List Tap) → new_row l t ≡ false → rows_seen (t ∷ l) t.group ≡ rows_seen l t.group
  rows_old t [] n = clash refl n
  rows_old t (v ∷ l) n =
      let e = same_two v.group t.group v.row t.row (not-false _ n) in
      seen_old (λ u. u.row) (in_group_lem t.group) t v (v ∷ l) (eq-eqb t.group t.group refl) (Memᴰ.head refl)
      (eq-eqb v.group t.group e.0) (sym e.1)

  pub columns_new : (t : Tap) (l : List Tap) → LaidIn b ps (t ∷ l) → new_column l t ≡ true → columns_seen (t ∷ l) t ≡ suc (columns_seen l t)
  columns_new t l h n =
      seen_new (λ u. u.y) (in_row t) t l (of_row t t refl refl)
      (λ u m g y. let e = same_two u.group t.group u.row t.row g in new_column_lem t l h n u m e.0 e.1 (sym y))

  pub columns_old : (t : Tap) (l : List Tap) → new_column l t ≡ false → columns_seen (t ∷ l) t ≡ columns_seen l t
  columns_old t [] n = clash refl n
  columns_old t (v ∷ l) n =
      let e = same_three v.group t.group v.row t.row v.y t.y (not-false _ n) in
      seen_old (λ u. u.y) (in_row t) t v (v ∷ l) (of_row t t refl refl) (Memᴰ.head refl) (of_row t v e.0 e.1) (sym e.2)

  -- They are among the group's rows up to the tap's own, and its columns on that row.
  pub rows_bound : (t : Tap) (l : List Tap) → LaidIn b ps (t ∷ l) → rows_seen (t ∷ l) t.group ≤ rows_up_to (taps_of b) t
  unfolding rows_up_to
  rows_bound t l h =
      seen_le (λ u. u.row) (in_group_lem t.group) (λ u. eqb u.group t.group && leb u.row t.row) (t ∷ l) (taps_of b)
      (λ u m g. (h.in_taps u m, both (eqb u.group t.group) _ g (le-leb u.row t.row (below u (eqb-true _ _ g) (Memᴰ.cases_cons m)))))
    where
      below : (u : Tap) → u.group ≡ t.group → (u ≡ t) ⊎ Memᴰ u l → u.row ≤ t.row
      below u g (inl e) = rw e (omega arith)
      below u g (inr m) = row_below t l h u m g

  pub columns_bound : (t : Tap) (l : List Tap) → LaidIn b ps (t ∷ l) → columns_seen (t ∷ l) t ≤ columns_on (taps_of b) t
  unfolding columns_on
  columns_bound t l h = seen_le (λ u. u.y) (in_row t) (in_row t) (t ∷ l) (taps_of b) (λ u m g. (h.in_taps u m, g))

-- A laid tap is a tap of the board, and its group has a lane.
pub of_laid : (b : Board) (ts : List Tap) (ps : List PageLanes) (t : Tap) → Memᴰ t (laid_taps b ts ps) → Memᴰ t ts × (is_laid b ts ps t ≡ true)
unfolding laid_taps
of_laid b ts ps t m = in_keep (is_laid b ts ps) ts (in_sorted tap_before (keep (is_laid b ts ps) ts) (in_reverse (sorted tap_before (keep (is_laid b ts ps) ts)) m))
