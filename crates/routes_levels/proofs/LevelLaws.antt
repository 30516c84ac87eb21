-- The finder's three ways, and two tests that are the same.
use Rattle.std.proofs.Common.{None, Some}
use Prim.Native.Nat.{ℕ}
use mathlib.Core.Path.{◌≡◌, refl, ap, sym, ◌∙◌}
use mathlib.Core.Bool.{Bool, true, false}
use mathlib.Core.List.{List}
use Rattle.base.specs.Lists.{Found, none, at}
use Rattle.base.proofs.Bools.{pick_true, pick_false}
use Rattle.routes_levels.proofs.Searches.{found_at, found_none}
use Rattle.routes.specs.Levels.{Stop, load_at, unclaimed, free_level, find_level, lowest, lightest, levels_in}
use Rattle.board.specs.Index.{found_of}

-- Two tests that hold together are the same.
pub same_test : (s t : Bool) → (s ≡ true → t ≡ true) → (t ≡ true → s ≡ true) → s ≡ t
same_test true t f g = sym (f refl)
same_test false true f g = g refl
same_test false false f g = refl

-- The finder's three ways.
module _ (ss : List Stop) (p lane r base top : ℕ) where
  abbrev low : Found
  low = lowest (free_level ss p lane r) base (levels_in base top)

  abbrev light : Found
  light = lightest (unclaimed ss p lane) (load_at ss p r) base (levels_in base top)

  ways : (f g : Found) → low ≡ f → light ≡ g
      → find_level ss p lane r base top ≡ elim f [ at l ↦ at l | none ↦ elim g [ at l ↦ at l | none ↦ elim (unclaimed ss p lane base) [ true ↦ at base | false ↦ none ] ] ]
  unfolding find_level
  ways f g e h = λ w. elim (e w) [ at l ↦ at l | none ↦ elim (h w) [ at l ↦ at l | none ↦ elim (unclaimed ss p lane base) [ true ↦ at base | false ↦ none ] ] ]

  pub find_lowest : (l : ℕ) → Some l ≡ found_of low → Some l ≡ found_of (find_level ss p lane r base top)
  find_lowest l e = sym (ap found_of (ways (at l) light (found_at low l e) refl))

  module _ (no_low : None ≡ found_of low) where
    pub find_lightest : (l : ℕ) → Some l ≡ found_of light → Some l ≡ found_of (find_level ss p lane r base top)
    find_lightest l e = sym (ap found_of (ways none (at l) (found_none low no_low) (found_at light l e)))

    module _ (no_light : None ≡ found_of light) where
      last : find_level ss p lane r base top ≡ elim (unclaimed ss p lane base) [ true ↦ at base | false ↦ none ]
      last = ways none none (found_none low no_low) (found_none light no_light)

      pub find_base : unclaimed ss p lane base ≡ true → Some base ≡ found_of (find_level ss p lane r base top)
      find_base t = sym (ap found_of (last ∙ pick_true (unclaimed ss p lane base) _ _ t))

      pub find_nothing : unclaimed ss p lane base ≡ false → None ≡ found_of (find_level ss p lane r base top)
      find_nothing t = sym (ap found_of (last ∙ pick_false (unclaimed ss p lane base) _ _ t))
