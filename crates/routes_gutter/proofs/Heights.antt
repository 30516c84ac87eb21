-- How high levels can be: none is above the highest base and the highest row top.
use Prim.Native.Nat.{ℕ, zero, suc, ◌+◌, ◌*◌, ◌≤◌}
use native.Mathlib.Omega.{arith}
use mathlib.Core.Path.{◌≡◌, refl, sym, subst, ◌∙◌}
use mathlib.Core.Logic.{◌⊎◌, inl, inr}
use mathlib.Core.Bool.{Bool, ◌&&◌}
use mathlib.Core.List.Memᴰ.{cases_cons as cases}
use mathlib.Core.List.Memᴰ.{head as here}
use mathlib.Core.List.Memᴰ.{not-nil as nowhere}
use mathlib.Core.List.Memᴰ.{tail as there}
use mathlib.Core.List.{List, [], ◌∷◌, Memᴰ as Mem}
use lib.Dec.{eqb, leb}
use Rattle.base.specs.Lists.{Found, none, at, found}
use Rattle.board.specs.Board.{Board}
use Rattle.board.specs.Rows.{row_top}
use Rattle.board.specs.Groups.{Tap}
use Rattle.board.specs.Demands.{PageLanes}
use Rattle.base.proofs.Bools.{never}
use Rattle.base.proofs.Lists.{by_test, by_found}
use Rattle.routes.specs.Stops.{new_row, near, stop_x}
use Rattle.routes.specs.Levels.{Stop, kept_at, previous_stop, level_with_base, lowest, lighter, lightest, levels_in, STAGGER_STEP, free_level, load_at, unclaimed, find_level, own_level, level_of, stop_for, stops_of, lane_for}

-- The finders stay below the last of their levels.
lowest_below : (free : ℕ → Bool) (level n x : ℕ) → lowest free level n ≡ at x → x + 2 ≤ level + 2 * n
lowest_below free level zero x e = never cc
lowest_below free level (suc n) x e =
    by_test (λ f. f ≡ at x → x + 2 ≤ level + 2 * suc n) (free level)
    (λ h d. let q : level ≡ x = cc in omega arith)
    (λ h d. let l = lowest_below free (level + STAGGER_STEP) n x d in omega arith)
    e

lightest_below : (ok : ℕ → Bool) (load : ℕ → ℕ) (level n x : ℕ) → lightest ok load level n ≡ at x → x + 2 ≤ level + 2 * n
lightest_below ok load level zero x e = never cc
lightest_below ok load level (suc n) x e =
    by_test P (ok level) (λ h d. pick (lightest ok load (level + STAGGER_STEP) n) refl d (lightest_below ok load (level + STAGGER_STEP) n x))
    (λ h d. let l = lightest_below ok load (level + STAGGER_STEP) n x d in omega arith)
    e
  where
    P : Found → Type 0
    P f = f ≡ at x → x + 2 ≤ level + 2 * suc n

    this : P (at level)
    this d = let q : level ≡ x = cc in omega arith

    pick : (r : Found) → lightest ok load (level + STAGGER_STEP) n ≡ r → lighter load level r ≡ at x
        → (lightest ok load (level + STAGGER_STEP) n ≡ at x → x + 2 ≤ level + STAGGER_STEP + 2 * n) → x + 2 ≤ level + 2 * suc n
    pick none q d ih = this d
    pick (at other) q d ih = by_test P (leb (load level) (load other)) (λ i. this) (λ i c. let l = ih (q ∙ c) in omega arith) d

find_below : (stops : List Stop) (p lane r base high most x : ℕ) → base ≤ most → high ≤ most → find_level stops p lane r base high ≡ at x → x ≤ most
unfolding find_level
find_below stops p lane r base high most x h k =
    by_found P (lowest (free_level stops p lane r) base (levels_in base high))
    (λ n. by_found P (lightest (unclaimed stops p lane) (load_at stops p r) base (levels_in base high))
    (λ o. by_test P (unclaimed stops p lane base) (λ u d. let q : base ≡ x = cc in omega arith) (λ u d. never cc))
    (λ l o d. let c = lightest_below (unclaimed stops p lane) (load_at stops p r) base (levels_in base high) x (o ∙ d) in omega arith))
    (λ l n d. let c = lowest_below (free_level stops p lane r) base (levels_in base high) x (n ∙ d) in omega arith)
  where
    P : Found → Type 0
    P f = f ≡ at x → x ≤ most

module _ (most : ℕ) where
  pub record Low (s : Stop) : Type 0 where
    pub base : s.base ≤ most
    pub level : (x : ℕ) → kept_at s.level ≡ at x → x ≤ most

  abbrev AllLow : List Stop → Type 0
  AllLow ss = (s : Stop) → Mem s ss → Low s

  previous_low : (ss : List Stop) (g p : ℕ) → AllLow ss → previous_stop ss g ≡ at p → p ≤ most
  previous_low [] g p low e = never cc
  previous_low (s ∷ l) g p low e =
      by_test (λ f. f ≡ at p → p ≤ most) (eqb s.group g)
      (λ h d. let q : s.base ≡ p = cc in let b = (low s (here refl)).base in omega arith)
      (λ h d. previous_low l g p (λ u m. low u (there m)) d)
      e

  with_base_low : (ss : List Stop) (g base x : ℕ) → AllLow ss → level_with_base ss g base ≡ at x → x ≤ most
  with_base_low [] g base x low e = never cc
  with_base_low (s ∷ l) g base x low e =
      by_test P (eqb s.group g && found (kept_at s.level))
      (λ h. by_test P (eqb s.base base) (λ q d. (low s (here refl)).level x d) (λ q d. never cc))
      (λ h d. with_base_low l g base x (λ u m. low u (there m)) d)
      e
    where
      P : Found → Type 0
      P f = f ≡ at x → x ≤ most

  stop_x_low : (f : Found) (x : ℕ) → ((p : ℕ) → f ≡ at p → p ≤ most) → x ≤ most → stop_x f x ≤ most
  stop_x_low none x h l = l
  stop_x_low (at p) x h l = by_test (λ y. y ≤ most) (near x p) (λ _. h p refl) (λ _. l)

  kept_own : (f : Found) (x : ℕ) → kept_at (own_level f) ≡ at x → f ≡ at x
  kept_own none x e = e
  kept_own (at l) x e = e

  module _ (b : Board) (ps : List PageLanes) (tops : (p r : ℕ) → row_top b p r ≤ most) where
    stop_low : (ss : List Stop) (lane : ℕ) (t : Tap) → AllLow ss → t.x ≤ most → Low (stop_for b ss lane t)
    unfolding stop_for level_of
    stop_low ss lane t low l = record { base = base_low; level = level_low }
      where
        base : ℕ
        base = stop_x (previous_stop ss t.group) t.x

        base_low : base ≤ most
        base_low = stop_x_low (previous_stop ss t.group) t.x (λ p e. previous_low ss t.group p low e) l

        level_low : (x : ℕ) → kept_at (level_of b ss lane base t) ≡ at x → x ≤ most
        level_low x =
            by_found (λ v. kept_at v ≡ at x → x ≤ most) (level_with_base ss t.group base)
            (λ h d. find_below ss t.page lane t.row base (row_top b t.page t.row) most x base_low (tops t.page t.row) (kept_own _ x d))
            (λ y h d. with_base_low ss t.group base x low (h ∙ d))

    pub stops_low : (l : List Tap) → ((t : Tap) → Mem t l → t.x ≤ most) → (s : Stop) → Mem s (stops_of b ps l) → Low s
    unfolding stops_of
    stops_low [] h s m = absurd (nowhere m)
    stops_low (t ∷ l) h s m =
        let older : AllLow (stops_of b ps l) = stops_low l (λ u n. h u (there n)) in
        by_test (λ ss. Mem s ss → Low s) (new_row l t) (λ e n. first (cases n) older) (λ e n. older s n) m
      where
        first : (s ≡ stop_for b (stops_of b ps l) (lane_for ps t) t) ⊎ Mem s (stops_of b ps l) → AllLow (stops_of b ps l) → Low s
        first (inl e) low = subst Low (sym e) (stop_low (stops_of b ps l) (lane_for ps t) t low (h t (here refl)))
        first (inr n) low = low s n
