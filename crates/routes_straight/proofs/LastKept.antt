-- The level of a group's last kept stop, as stops are added: a shared level is that one.
use Prim.Native.Nat.{ℕ}
use mathlib.Core.Path.{◌≡◌, refl, ap, ◌∙◌}
use mathlib.Core.Bool.{Bool, true, false, ◌&&◌}
use mathlib.Core.List.{List, [], ◌∷◌, Memᴰ}
use lib.Dec.{eqb}
use borrow.Author.Tests.{eqb-true, eq-eqb}
use Rattle.base.specs.Lists.{Found, none, at, found}
use Rattle.base.proofs.Bools.{never, and_left}
use Rattle.base.proofs.Lists.{by_test}
use Rattle.board.specs.Board.{Board}
use Rattle.board.specs.Rows.{row_top}
use Rattle.board.specs.Groups.{Tap}
use Rattle.routes.specs.Levels.{dropped, shared, Stop, kept_at, find_level, own_level, level_with_base, level_of}

-- The level is that of a stop of the group.
pub kept_of_group : (stops : List Stop) (g base x : ℕ) → level_with_base stops g base ≡ at x → (s : Stop) × Memᴰ s stops × (s.group ≡ g)
kept_of_group [] g base x e = never cc
kept_of_group (s ∷ l) g base x e = go (eqb s.group g && found (kept_at s.level)) refl (kept_of_group l g base x)
  where
    go : (t : Bool) → (eqb s.group g && found (kept_at s.level)) ≡ t → (level_with_base l g base ≡ at x → (u : Stop) × Memᴰ u l × (u.group ≡ g))
        → (u : Stop) × Memᴰ u (s ∷ l) × (u.group ≡ g)
    go true h ih = (s, Memᴰ.head refl, eqb-true s.group g (and_left (eqb s.group g) (found (kept_at s.level)) h))
    go false h ih = let r = ih (rw (h, level_with_base) at e) in (r.0, Memᴰ.tail r.1, r.2)

-- With one more stop of the group it is that stop's, where that is kept.
pub kept_this : (s : Stop) (l : List Stop) (g base x y : ℕ) → s.group ≡ g → kept_at s.level ≡ at y → level_with_base (s ∷ l) g base ≡ at x → y ≡ x
kept_this s l g base x y e k h =
    by_test (λ f. f ≡ at x → y ≡ x) (eqb s.base base) (λ t d. cc) (λ t d. never cc) (rw (eq-eqb s.group g e, k, level_with_base) at h)

-- A dropped one leaves it.
pub kept_before : (s : Stop) (l : List Stop) (g base x : ℕ) → s.level ≡ dropped → level_with_base (s ∷ l) g base ≡ at x → level_with_base l g base ≡ at x
kept_before s l g base x e h = go (eqb s.group g) refl
  where
    go : (t : Bool) → eqb s.group g ≡ t → level_with_base l g base ≡ at x
    go true d = rw (d, e, level_with_base) at h
    go false d = rw (d, level_with_base) at h

-- V2: a shared level is that of the group's last kept stop.
pub shared_last : (b : Board) (stops : List Stop) (lane base : ℕ) (t : Tap) (x : ℕ) → level_of b stops lane base t ≡ shared x
    → level_with_base stops t.group base ≡ at x
unfolding level_of
shared_last b stops lane base t x e =
    go (level_with_base stops t.group base) refl (find_level stops t.page lane t.row base (row_top b t.page t.row)) e
  where
    go : (f : Found) → level_with_base stops t.group base ≡ f → (r : Found) → elim f [ at l ↦ shared l | none ↦ own_level r ] ≡ shared x
        → level_with_base stops t.group base ≡ at x
    go none d none h = never cc
    go none d (at l) h = never cc
    go (at l) d r h = let q : l ≡ x = cc in d ∙ ap at q
