-- The lowest free level, else the lightest: by the two searches, and of a list of stops.
use Rattle.std.proofs.Common.{None, Option, Some}
use Rattle.std.specs.Bool.{then_some}
use Prim.Native.Nat.{ℕ, ◌≤◌}
use mathlib.Core.Path.{◌≡◌, refl, ap, sym, ◌∙◌}
use mathlib.Core.Bool.{Bool, true, false}
use mathlib.Core.List.{List}
use Rattle.base.specs.Lists.{Found, none, at}
use Rattle.base.proofs.Bools.{never}
use Rattle.routes.specs.Levels.{Stop, levels_in, lowest, lightest, load_at, unclaimed, free_level, find_level}
use Rattle.board.specs.Index.{found_of}
use Rattle.routes_levels.specs.Search.{load_in, open_in, free_in, picked, Walked}
use Rattle.routes_levels.proofs.LevelLaws.{find_lowest, find_lightest, find_base, find_nothing}
use Rattle.routes_levels.proofs.Searches.{found_at, found_none}
use Rattle.routes_levels.proofs.WindowLaws.{in_window, walked_low, walked_light}

module _ (row lane : List ℕ) (base count : ℕ) where
  abbrev low : Found
  low = lowest (free_in row lane) base count

  abbrev light : Found
  light = lightest (open_in lane) (load_in row) base count

  picked_by : (f : Found) → low ≡ f → picked row lane base count ≡ elim f [ at l ↦ at l | none ↦ light ]
  unfolding picked
  picked_by f e = λ w. elim (e w) [ at l ↦ at l | none ↦ light ]

  pub picked_low : (l : ℕ) → Some l ≡ found_of low → Some l ≡ found_of (picked row lane base count)
  picked_low l e = sym (ap found_of (picked_by (at l) (found_at low l e)))

  pub picked_light : {best : Option ℕ} → None ≡ found_of low → best ≡ found_of light → best ≡ found_of (picked row lane base count)
  picked_light e f = f ∙ sym (ap found_of (picked_by none (found_none low e)))

  -- one of the first levels, of which there are more
  pub picked_first : (size l : ℕ) → size ≤ count → Some l ≡ found_of (lowest (free_in row lane) base size) → Some l ≡ found_of (picked row lane base count)
  picked_first size l h e = picked_low l (sym (ap found_of (in_window (free_in row lane) base size count h l (found_at (lowest (free_in row lane) base size) l e))))

  picked_none : None ≡ found_of (picked row lane base count) → (None ≡ found_of low) × (None ≡ found_of light)
  picked_none e = go low refl
    where
      go : (f : Found) → low ≡ f → (None ≡ found_of low) × (None ≡ found_of light)
      go none q = (sym (ap found_of q), e ∙ ap found_of (picked_by none q))
      go (at k) q = let z : none ≡ at k = sym (found_none (picked row lane base count) e) ∙ picked_by (at k) q in never cc

  module _ {ss : List Stop} {p l r : ℕ} (h : Walked row lane ss p l r) (top : ℕ) (c : count ≡ levels_in base top) where
    pub find_picked : (x : ℕ) → Some x ≡ found_of (picked row lane base count) → Some x ≡ found_of (find_level ss p l r base top)
    find_picked x e = go low refl
      where
        is : (f : Found) → low ≡ f → elim f [ at y ↦ at y | none ↦ light ] ≡ at x
        is f q = sym (picked_by f q) ∙ found_at (picked row lane base count) x e

        go : (f : Found) → low ≡ f → Some x ≡ found_of (find_level ss p l r base top)
        go (at y) q = find_lowest ss p l r base top x (sym (ap found_of (q ∙ is (at y) q)) ∙ walked_low h base top count c)
        go none q = find_lightest ss p l r base top (sym (ap found_of q) ∙ walked_low h base top count c) x (sym (ap found_of (is none q)) ∙ walked_light h base top count c)

    module _ (e : None ≡ found_of (picked row lane base count)) where
      no_low : None ≡ found_of (lowest (free_level ss p l r) base (levels_in base top))
      no_low = (picked_none e).0 ∙ walked_low h base top count c

      no_light : None ≡ found_of (lightest (unclaimed ss p l) (load_at ss p r) base (levels_in base top))
      no_light = (picked_none e).1 ∙ walked_light h base top count c

      -- base, where it can be claimed
      pub find_at_base : (t : Bool) → t ≡ open_in lane base → then_some t base ≡ found_of (find_level ss p l r base top)
      find_at_base true o = find_base ss p l r base top no_low no_light (h.claims base ∙ sym o)
      find_at_base false o = find_nothing ss p l r base top no_low no_light (h.claims base ∙ sym o)
