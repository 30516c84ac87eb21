-- The numbers of the taps and of the levels of their stops.
use Rattle.std.proofs.Common.{◌≡◌, ℕ, zero, suc, ◌+◌, ◌*◌, ◌<◌, ◌≤◌, Bool, true, not, ◌&&◌, ◌||◌, eqb, leb, List, [], ◌∷◌, length, refl, ◌∙◌, arith}
use mathlib.Core.List.Memᴰ
use Rattle.sheet.specs.Table.{PAGE_MOST}
use Rattle.board.specs.Accepted.{COORDINATE_HIGH, Y_HIGH, Accepted}
use Rattle.base.specs.Lists.{Found, none, at, found, fold, upto}
use Rattle.board.specs.Board.{Board, class_inline, kind_coerce, class_of, kind_of, has_row, source_node, target_node}
use Rattle.board.specs.Rows.{row_top}
use Rattle.board.specs.Groups.{Tap, taps_of, tap_for, add_wire, wire_open, anchor_of, anchors_open, crosses_at, is_bus_worthy, targets_exec}
use Rattle.board.specs.Demands.{PageLanes}
use Rattle.base.proofs.Bools.{never, and_right}
use Rattle.base.proofs.Lists.{by_test, by_found}
use Rattle.routes.specs.Stops.{new_row, near, stop_x}
use Rattle.routes.specs.Levels.{Level, dropped, shared, own, Stop, STAGGER_STEP, kept_at, levels_in, lowest, lighter, lightest, previous_stop, level_with_base, find_level, free_level, load_at, unclaimed, own_level, level_of, stop_for, stops_of, lane_for}
use Rattle.routes.specs.Rerouters.{level_here}
use Rattle.board.proofs.Reach.{All, all_none, all_more, REACH_MOST, row_most_lem, top_most}

-- The numbers of a tap: it stands where its target does, which has a row.
pub record TapInRange (b : Board) (t : Tap) : Type 0 where
  pub x : t.x ≤ COORDINATE_HIGH
  pub y : t.y ≤ Y_HIGH
  pub page : t.page ≤ PAGE_MOST
  pub row : t.row ≤ length b.nodes
  pub wire : t.wire < length b.wires

module _ (b : Board) (r : Accepted b) where
  tap_in_lem : (n : ℕ) (ts : List Tap) (s a : ℕ) → n < length b.wires → anchors_open b n s a ≡ true → TapInRange b (tap_for b ts n a)
  unfolding tap_for anchors_open
  tap_in_lem n ts s a h o =
      let row : has_row b a ≡ true =
      and_right
      ((crosses_at b a (target_node b n) || is_bus_worthy b s || not (targets_exec b n))
      && not (eqb (class_of b s) class_inline) && not (eqb (class_of b a) class_inline) && not (eqb (kind_of b s) kind_coerce))
      (has_row b a) o in
      record { x = r.x a (r.row_placed a row); y = r.y a (r.row_placed a row); page = r.page a row; row = row_most_lem b a; wire = h }

  taps_to : (n : ℕ) → n ≤ length b.wires → All (TapInRange b) (fold (add_wire b) [] (upto n))
  unfolding add_wire
  taps_to zero h = all_none (TapInRange b)
  taps_to (suc n) h =
      let before : All (TapInRange b) (fold (add_wire b) [] (upto n)) = taps_to n (omega arith) in
      by_test (All (TapInRange b)) (wire_open b n)
      (λ o. by_found (All (TapInRange b)) (anchor_of b (source_node b n)) (λ e. before)
      (λ s e. by_found (All (TapInRange b)) (anchor_of b (target_node b n)) (λ f. before)
      (λ a f. by_test (All (TapInRange b)) (anchors_open b n s a) (λ q. all_more (TapInRange b) _ _ (tap_in_lem n _ s a (omega arith) q) before) (λ q. before))))
      (λ o. before)

  pub taps_in_range : All (TapInRange b) (taps_of b)
  unfolding taps_of
  taps_in_range = taps_to (length b.wires) (omega arith)

-- The two finders stay within the levels that they try.
pub lowest_most : (free : ℕ → Bool) (level n x : ℕ) → lowest free level n ≡ at x → x ≤ level + STAGGER_STEP * n
lowest_most free level zero x e = never cc
lowest_most free level (suc n) x e =
    by_test (λ f. f ≡ at x → x ≤ level + STAGGER_STEP * suc n) (free level) (λ h d. let q : level ≡ x = cc in omega arith)
    (λ h d. omega (arith, lowest_most free (level + STAGGER_STEP) n x d)) e

pub lightest_most : (ok : ℕ → Bool) (load : ℕ → ℕ) (level n x : ℕ) → lightest ok load level n ≡ at x → x ≤ level + STAGGER_STEP * n
lightest_most ok load level zero x e = never cc
lightest_most ok load level (suc n) x e =
    by_test (λ f. f ≡ at x → x ≤ level + STAGGER_STEP * suc n) (ok level)
    (λ h d. pick (lightest ok load (level + STAGGER_STEP) n) refl d (lightest_most ok load (level + STAGGER_STEP) n x))
    (λ h d. omega (arith, lightest_most ok load (level + STAGGER_STEP) n x d)) e
  where
    this : at level ≡ at x → x ≤ level + STAGGER_STEP * suc n
    this d = let q : level ≡ x = cc in omega arith

    pick : (f : Found) → lightest ok load (level + STAGGER_STEP) n ≡ f → lighter load level f ≡ at x
        → (lightest ok load (level + STAGGER_STEP) n ≡ at x → x ≤ level + STAGGER_STEP + STAGGER_STEP * n) → x ≤ level + STAGGER_STEP * suc n
    pick none q d ih = this d
    pick (at other) q d ih =
        by_test (λ f. f ≡ at x → x ≤ level + STAGGER_STEP * suc n) (leb (load level) (load other)) (λ i c. this c) (λ i c. omega (arith, ih (q ∙ c))) d

pub levels_most : (base top m : ℕ) → base ≤ m → top ≤ m → base + STAGGER_STEP * levels_in base top ≤ m
levels_most base top m h k = omega arith

found_most : (stops : List Stop) (p lane r base top m x : ℕ) → base ≤ m → top ≤ m → find_level stops p lane r base top ≡ at x → x ≤ m
unfolding find_level
found_most stops p lane r base top m x h k e =
    by_found P (lowest (free_level stops p lane r) base (levels_in base top))
    (λ a. by_found P (lightest (unclaimed stops p lane) (load_at stops p r) base (levels_in base top))
    (λ c. by_test P (unclaimed stops p lane base) (λ u d. let q : base ≡ x = cc in omega arith) (λ u d. never cc))
    (λ l c d. omega (arith, levels_most base top m h k, lightest_most (unclaimed stops p lane) (load_at stops p r) base (levels_in base top) x (c ∙ d))))
    (λ l a d. omega (arith, levels_most base top m h k, lowest_most (free_level stops p lane r) base (levels_in base top) x (a ∙ d)))
    e
  where
    P : Found → Type 0
    P f = f ≡ at x → x ≤ m

-- A level is within the reach of its row's bricks.
abbrev pub LevelInRange : Level → Type 0
LevelInRange dropped = Unit {0}
LevelInRange (shared x) = x ≤ REACH_MOST
LevelInRange (own x) = x ≤ REACH_MOST

record StopInRange (s : Stop) : Type 0 where
  base : s.base ≤ REACH_MOST
  level : LevelInRange s.level

abbrev FoundInRange : Found → Type 0
FoundInRange none = Unit {0}
FoundInRange (at x) = x ≤ REACH_MOST

kept_in : (l : Level) → LevelInRange l → FoundInRange (kept_at l)
kept_in dropped h = tt
kept_in (shared x) h = h
kept_in (own x) h = h

previous_in : (l : List Stop) (g : ℕ) → All StopInRange l → FoundInRange (previous_stop l g)
previous_in [] g h = tt
previous_in (s ∷ l) g h =
    by_test FoundInRange (eqb s.group g) (λ e. (h s (Memᴰ.head refl)).base) (λ e. previous_in l g (λ x m. h x (Memᴰ.tail m)))

with_base_in : (l : List Stop) (g base : ℕ) → All StopInRange l → FoundInRange (level_with_base l g base)
with_base_in [] g base h = tt
with_base_in (s ∷ l) g base h =
    by_test FoundInRange (eqb s.group g && found (kept_at s.level))
    (λ e. by_test FoundInRange (eqb s.base base) (λ d. kept_in s.level (h s (Memᴰ.head refl)).level) (λ d. tt))
    (λ e. with_base_in l g base (λ x m. h x (Memᴰ.tail m)))

stop_x_in : (f : Found) (x : ℕ) → FoundInRange f → x ≤ REACH_MOST → stop_x f x ≤ REACH_MOST
stop_x_in none x h k = k
stop_x_in (at p) x h k = by_test (λ n. n ≤ REACH_MOST) (near x p) (λ e. h) (λ e. k)

module _ (b : Board) (r : Accepted b) where
  level_in_lem : (stops : List Stop) (lane base : ℕ) (t : Tap) → All StopInRange stops → base ≤ REACH_MOST → LevelInRange (level_of b stops lane base t)
  unfolding level_of
  level_in_lem stops lane base t h low =
      with_base (level_with_base stops t.group base) (with_base_in stops t.group base h)
    where
      top : ℕ
      top = row_top b t.page t.row

      owned : (f : Found) → find_level stops t.page lane t.row base top ≡ f → LevelInRange (own_level f)
      owned none e = tt
      owned (at x) e = found_most stops t.page lane t.row base top REACH_MOST x low (top_most b r t.page t.row) e

      with_base : (f : Found) → FoundInRange f
          → LevelInRange (elim f as (λ _. Level) [ at l ↦ shared l | none ↦ own_level (find_level stops t.page lane t.row base (row_top b t.page t.row)) ])
      with_base none i = owned (find_level stops t.page lane t.row base top) refl
      with_base (at x) i = i

  stop_in_lem : (stops : List Stop) (lane : ℕ) (t : Tap) → All StopInRange stops → TapInRange b t → StopInRange (stop_for b stops lane t)
  unfolding stop_for
  stop_in_lem stops lane t h k =
      let base : stop_x (previous_stop stops t.group) t.x ≤ REACH_MOST =
      stop_x_in (previous_stop stops t.group) t.x (previous_in stops t.group h) (omega (arith, k.x)) in
      record { base = base; level = level_in_lem stops lane (stop_x (previous_stop stops t.group) t.x) t h base }

  stops_in : (ps : List PageLanes) (l : List Tap) → All (TapInRange b) l → All StopInRange (stops_of b ps l)
  unfolding stops_of
  stops_in ps [] h = all_none StopInRange
  stops_in ps (t ∷ l) h =
      let before : All StopInRange (stops_of b ps l) = stops_in ps l (λ u m. h u (Memᴰ.tail m)) in
      by_test (All StopInRange) (new_row l t)
      (λ e. all_more StopInRange _ (stops_of b ps l) (stop_in_lem (stops_of b ps l) (lane_for ps t) t before (h t (Memᴰ.head refl))) before) (λ e. before)

  -- The level at which the newest tap's row stands.
  pub level_in_range : (ps : List PageLanes) (l : List Tap) → All (TapInRange b) l → LevelInRange (level_here (stops_of b ps l))
  level_in_range ps l h = go (stops_of b ps l) (stops_in ps l h)
    where
      go : (s : List Stop) → All StopInRange s → LevelInRange (level_here s)
      go [] k = tt
      go (s ∷ l) k = (k s (Memᴰ.head refl)).level
