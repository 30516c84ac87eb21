-- The levels of stops: a level of its own is found where the column was unclaimed, a shared one follows a kept stop of the group.
use Rattle.std.proofs.Common.{◌≡◌, ℕ, zero, suc, ◌+◌, Bool, true, false, ◌&&◌, ◌||◌, eqb, ltb, leb, ◌⊎◌, List, [], ◌∷◌, refl, ap, ◌∙◌, inl, inr}
use mathlib.Core.List.Memᴰ
use mathlib.Core.List.{Memᴰ}
use borrow.Author.Tests.{not-true}
use Rattle.base.specs.Lists.{Found, none, at, found, any}
use Rattle.board.specs.Board.{Board}
use Rattle.board.specs.Rows.{row_top}
use Rattle.board.specs.Groups.{Tap}
use Rattle.board.specs.Demands.{PageLanes}
use Rattle.base.proofs.Bools.{never, clash, and_left, and_right, both, or_left, or_right}
use Rattle.base.proofs.Lists.{by_test, by_found}
use Rattle.routes.specs.Stops.{new_row, near}
use Rattle.routes.specs.Levels.{dropped, shared, own, Stop, kept_at, lowest, lighter, lightest, levels_in, STAGGER_STEP, free_level, load_at, unclaimed, claim_near, find_level, own_level, level_with_base, level_of, stop_for, stops_of, lane_for}
use Rattle.routes.specs.Rerouters.{stops_before}

-- Cases of a search and of a level exclude one another.
at_none : {C : Type 0} {f : Found} {n : ℕ} → f ≡ at n → f ≡ none → C
at_none h k = never cc

-- The two finders, and the last resort, find what passes.
lowest_free : (free : ℕ → Bool) (level n x : ℕ) → lowest free level n ≡ at x → free x ≡ true
lowest_free free level zero x e = at_none e refl
lowest_free free level (suc n) x e =
    by_test (λ f. f ≡ at x → free x ≡ true) (free level) (λ h d. let q : level ≡ x = cc in rw (← q) h) (λ h d. lowest_free free (level + STAGGER_STEP) n x d) e

lightest_ok : (ok : ℕ → Bool) (load : ℕ → ℕ) (level n x : ℕ) → lightest ok load level n ≡ at x → ok x ≡ true
lightest_ok ok load level zero x e = at_none e refl
lightest_ok ok load level (suc n) x e =
    by_test (λ f. f ≡ at x → ok x ≡ true) (ok level)
    (λ h d. pick h (lightest ok load (level + STAGGER_STEP) n) refl d (lightest_ok ok load (level + STAGGER_STEP) n x))
    (λ h d. lightest_ok ok load (level + STAGGER_STEP) n x d) e
  where
    this : ok level ≡ true → at level ≡ at x → ok x ≡ true
    this h d = let q : level ≡ x = cc in rw (← q) h

    pick : ok level ≡ true → (r : Found) → lightest ok load (level + STAGGER_STEP) n ≡ r → lighter load level r ≡ at x
        → (lightest ok load (level + STAGGER_STEP) n ≡ at x → ok x ≡ true) → ok x ≡ true
    pick h none q d ih = this h d
    pick h (at other) q d ih = by_test (λ f. f ≡ at x → ok x ≡ true) (leb (load level) (load other)) (λ i c. this h c) (λ i c. ih (q ∙ c)) d

found_unclaimed : (stops : List Stop) (p lane r base top x : ℕ) → find_level stops p lane r base top ≡ at x → unclaimed stops p lane x ≡ true
unfolding find_level free_level
found_unclaimed stops p lane r base top x e =
    by_found P (lowest (free_level stops p lane r) base (levels_in base top))
    (λ h. by_found P (lightest (unclaimed stops p lane) (load_at stops p r) base (levels_in base top))
    (λ k. by_test P (unclaimed stops p lane base) (λ u d. let q : base ≡ x = cc in rw (← q) u) (λ u d. at_none d refl))
    (λ l k d. lightest_ok (unclaimed stops p lane) (load_at stops p r) base (levels_in base top) x (k ∙ d)))
    (λ l h d. and_right (eqb (load_at stops p r x) 0) (unclaimed stops p lane x) (lowest_free (free_level stops p lane r) base (levels_in base top) x (h ∙ d)))
    e
  where
    P : Found → Type 0
    P f = f ≡ at x → unclaimed stops p lane x ≡ true

-- A kept stop of the group.
abbrev pub kept_in_lem : ℕ → Stop → Bool
kept_in_lem g s = eqb s.group g && found (kept_at s.level)

kept_before : (stops : List Stop) (g base x : ℕ) → level_with_base stops g base ≡ at x → any (kept_in_lem g) stops ≡ true
kept_before [] g base x e = at_none e refl
kept_before (s ∷ l) g base x e = go (kept_in_lem g s) refl (kept_before l g base x)
  where
    go : (t : Bool) → kept_in_lem g s ≡ t → (level_with_base l g base ≡ at x → any (kept_in_lem g) l ≡ true) → (kept_in_lem g s || any (kept_in_lem g) l) ≡ true
    go true h ih = rw h
    go false h ih = rw h (ih (rw (h, level_with_base) at e))

-- A dropped stop is none.
pub kept_later : (g : ℕ) (s : Stop) (l : List Stop) → s.level ≡ dropped → any (kept_in_lem g) (s ∷ l) ≡ true → any (kept_in_lem g) l ≡ true
kept_later g s l e h = go (eqb s.group g) refl
  where
    go : (t : Bool) → eqb s.group g ≡ t → any (kept_in_lem g) l ≡ true
    go true d = rw (d, e) at h
    go false d = rw d at h

module _ (b : Board) (stops : List Stop) (lane base : ℕ) (t : Tap) (x : ℕ) where
  pub own_unclaimed : level_of b stops lane base t ≡ own x → unclaimed stops t.page lane x ≡ true
  unfolding level_of
  own_unclaimed e =
      by_found (λ v. v ≡ own x → unclaimed stops t.page lane x ≡ true) (level_with_base stops t.group base)
      (λ h d. found_unclaimed stops t.page lane t.row base top x (own_at (find_level stops t.page lane t.row base top) d))
      (λ l h d. never cc)
      e
    where
      top : ℕ
      top = row_top b t.page t.row

      own_at : (f : Found) → own_level f ≡ own x → f ≡ at x
      own_at none d = never cc
      own_at (at l) d = let q : l ≡ x = cc in ap at q

  pub shared_kept : level_of b stops lane base t ≡ shared x → any (kept_in_lem t.group) stops ≡ true
  unfolding level_of
  shared_kept e =
      by_found (λ v. v ≡ shared x → any (kept_in_lem t.group) stops ≡ true) (level_with_base stops t.group base)
      (λ h d. absurd (not_shared (find_level stops t.page lane t.row base (row_top b t.page t.row)) d))
      (λ l h d. kept_before stops t.group base l h)
      e
    where
      not_shared : (f : Found) → own_level f ≡ shared x → ⊥
      not_shared none d = never cc
      not_shared (at l) d = never cc

-- Claims, stop by stop.
pub claimed_more : (s : Stop) (o : List Stop) (p lane x : ℕ) → unclaimed (s ∷ o) p lane x ≡ true
    → (claim_near p lane x s ≡ false) × (unclaimed o p lane x ≡ true)
unfolding unclaimed
claimed_more s o p lane x h =
    let n = not-true (any (claim_near p lane x) (s ∷ o)) h in
    (or_left (claim_near p lane x s) (any (claim_near p lane x) o) n, rw (or_right (claim_near p lane x s) (any (claim_near p lane x) o) n))

pub still_claimed : (s : Stop) (o : List Stop) (p lane x : ℕ) → unclaimed o p lane x ≡ false → unclaimed (s ∷ o) p lane x ≡ false
still_claimed s o p lane x h = go (unclaimed (s ∷ o) p lane x) refl
  where
    go : (t : Bool) → unclaimed (s ∷ o) p lane x ≡ t → unclaimed (s ∷ o) p lane x ≡ false
    go true e = clash (claimed_more s o p lane x e).1 h
    go false e = e

pub near_turned : (x y : ℕ) → near x y ≡ true → near y x ≡ true
near_turned x y h = both (ltb y (x + 2)) (ltb x (y + 2)) (and_right (ltb x (y + 2)) (ltb y (x + 2)) h) (and_left (ltb x (y + 2)) (ltb y (x + 2)) h)

module _ (b : Board) (ps : List PageLanes) where
  pub stops_more : (t : Tap) (l : List Tap) → new_row l t ≡ true → stops_of b ps (t ∷ l) ≡ stop_for b (stops_of b ps l) (lane_for ps t) t ∷ stops_of b ps l
  unfolding stops_of
  stops_more t l h = rw (h, stops_of)

  pub stops_same : (t : Tap) (l : List Tap) → new_row l t ≡ false → stops_of b ps (t ∷ l) ≡ stops_of b ps l
  unfolding stops_of
  stops_same t l h = rw (h, stops_of)

  pub stops_before_lem : (t : Tap) (l : List Tap) → stops_before (new_row l t) (stops_of b ps (t ∷ l)) ≡ stops_of b ps l
  stops_before_lem t l = go (new_row l t) refl
    where
      go : (s : Bool) → new_row l t ≡ s → stops_before (new_row l t) (stops_of b ps (t ∷ l)) ≡ stops_of b ps l
      go true e = rw (e, stops_more t l e)
      go false e = rw (e, stops_same t l e)

  -- What is unclaimed in the end was unclaimed before.
  pub claimed_before : (t : Tap) (l : List Tap) (p lane x : ℕ) → unclaimed (stops_of b ps (t ∷ l)) p lane x ≡ true → unclaimed (stops_of b ps l) p lane x ≡ true
  claimed_before t l p lane x h = go (new_row l t) refl
    where
      go : (s : Bool) → new_row l t ≡ s → unclaimed (stops_of b ps l) p lane x ≡ true
      go true e = (claimed_more _ (stops_of b ps l) p lane x (rw (stops_more t l e) at h)).1
      go false e = rw (stops_same t l e) at h

  -- A stop is of a group of the taps.
  pub stop_group : (l : List Tap) (s : Stop) → Memᴰ s (stops_of b ps l) → (u : Tap) × Memᴰ u l × (s.group ≡ u.group)
  unfolding stops_of stop_for
  stop_group [] s m = absurd (Memᴰ.not-nil m)
  stop_group (t ∷ l) s m =
      by_test (λ r. Memᴰ s r → (u : Tap) × Memᴰ u (t ∷ l) × (s.group ≡ u.group)) (new_row l t)
      (λ e n. first (Memᴰ.cases_cons n) (λ i. stop_group l s i)) (λ e n. later (stop_group l s n)) m
    where
      later : (u : Tap) × Memᴰ u l × (s.group ≡ u.group) → (u : Tap) × Memᴰ u (t ∷ l) × (s.group ≡ u.group)
      later r = (r.0, Memᴰ.tail r.1, r.2)

      first : (s ≡ stop_for b (stops_of b ps l) (lane_for ps t) t) ⊎ Memᴰ s (stops_of b ps l)
          → (Memᴰ s (stops_of b ps l) → (u : Tap) × Memᴰ u l × (s.group ≡ u.group)) → (u : Tap) × Memᴰ u (t ∷ l) × (s.group ≡ u.group)
      first (inl e) ih = (t, Memᴰ.head refl, ap (λ k. k.group) e)
      first (inr i) ih = later (ih i)
