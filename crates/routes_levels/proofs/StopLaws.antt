-- What the tables say of a group: where its source anchor stands, and whether it is laid.
use Prim.Native.Nat.{ℕ, min, max, ◌-◌, ◌<◌}
use mathlib.Core.Path.{◌≡◌, refl, ap, sym, ◌∙◌}
use mathlib.Core.Bool.{Bool, true, false, not, ◌&&◌}
use mathlib.Core.List.{List, [], ◌∷◌, map, Memᴰ}
use native.Mathlib.Omega.{arith}
use lib.Dec.{eqb, leb}
use lib.ListN.{length}
use borrow.Author.Tests.{eq-eqb, ne_eqb}
use Rattle.sheet.specs.Table.{MISSING}
use Rattle.base.specs.Lists.{Found, none, at, found, keep, least, greatest}
use Rattle.board.specs.Board.{Board, field, x_of, source_node}
use Rattle.board.specs.Groups.{Tap, taps_in, anchor_of, source_anchor}
use Rattle.board.specs.Demands.{PageLanes, lane_of}
use Rattle.board.specs.Tables.{held}
use Rattle.routes.specs.Stops.{MIN_LANE_TRAVEL, spread, long_enough, is_laid}
use Rattle.routes_levels.specs.Laying.{GroupFits, Tabled}
use Rattle.base.proofs.Lists.{to_keep, to_map}

-- Of a list that is not empty the least and the greatest have no other value to fall back on.
least_there : (d u : ℕ) (l : List ℕ) → Memᴰ u l → least d l ≡ least 0 l
least_there d u [] m = absurd (mathlib.Core.List.Memᴰ.not-nil m)
least_there d u (x ∷ l) m = refl

greatest_there : (d u : ℕ) (l : List ℕ) → Memᴰ u l → greatest d l ≡ greatest 0 l
greatest_there d u [] m = absurd (mathlib.Core.List.Memᴰ.not-nil m)
greatest_there d u (x ∷ l) m = refl

held_small : (f : Found) (i : ℕ) → held f ≡ i → i < MISSING → f ≡ at i
held_small none i e h = absurd (omega arith)
held_small (at j) i e h = ap at e

found_held : (f : Found) → ((l : ℕ) → f ≡ at l → l < MISSING) → found f ≡ not (eqb (held f) MISSING)
found_held none few = sym (ap not (eq-eqb MISSING MISSING refl))
found_held (at l) few = sym (ap not (ne_eqb l MISSING (λ e. let h : l < MISSING = few l refl in omega arith)))

module _ (b : Board) (ts : List Tap) (ps : List PageLanes) (nodes facts groups : List (List ℕ)) (a : Tabled b ts ps nodes facts groups)
    (t : Tap) (m : Memᴰ t ts) (g : ℕ) (same : t.group ≡ g) (fits : GroupFits nodes facts groups g) where
  abbrev source_x : ℕ
  source_x = field nodes (field facts g 2) 8

  source_at : source_anchor b g ≡ field facts g 2
  unfolding source_anchor
  source_at =
      let s : ℕ = field facts g 2 in
      let few = fits.nodes_few in
      let small = fits.source in
      let wired : g < length b.wires = rw same at (a.wired t m) in
      let e : anchor_of b (source_node b g) ≡ at s = held_small _ s (sym (a.wire_ends.sources g wired)) (omega arith) in
      rw (e, source_anchor) refl

  source_x_lem : x_of b (source_anchor b g) ≡ source_x
  source_x_lem = rw (source_at, a.node_rows) refl

  spread_at : (x : ℕ) → spread (x ∷ map (λ u. u.x) (taps_in b ts g)) ≡ max x (field groups g 6) - min x (field groups g 5)
  unfolding spread taps_in
  spread_at x =
      let xs : ℕ → List ℕ = λ h. map (λ (u : Tap). u.x) (keep (λ u. eqb u.group h) ts) in
      let there : Memᴰ t.x (xs g) = to_map (λ u. u.x) (to_keep (λ u. eqb u.group g) m (eq-eqb t.group g same)) in
      let lows : field groups g 5 ≡ least 0 (xs g) = rw same at (a.group_rows.lows t m) in
      let highs : field groups g 6 ≡ greatest 0 (xs g) = rw same at (a.group_rows.highs t m) in
      let low : least x (xs g) ≡ field groups g 5 = least_there x t.x (xs g) there ∙ sym lows in
      let high : greatest x (xs g) ≡ field groups g 6 = greatest_there x t.x (xs g) there ∙ sym highs in
      λ w. max x (high w) - min x (low w)

  pub long_unplaced : source_x ≡ MISSING → true ≡ long_enough b ts g
  unfolding long_enough
  long_unplaced e = let x : eqb (x_of b (source_anchor b g)) MISSING ≡ true = eq-eqb _ _ (source_x_lem ∙ e) in rw (x, long_enough) refl

  pub long_placed : (source_x ≡ MISSING → ⊥) → (low high : ℕ) → low ≡ min source_x (field groups g 5) → high ≡ max source_x (field groups g 6)
      → leb MIN_LANE_TRAVEL (high - low) ≡ long_enough b ts g
  unfolding long_enough
  long_placed there low high l h =
      let x : eqb (x_of b (source_anchor b g)) MISSING ≡ false = ne_eqb _ _ (λ e. there (sym source_x_lem ∙ e)) in
      let s : high - low ≡ spread (x_of b (source_anchor b g) ∷ map (λ u. u.x) (taps_in b ts g))
      = (λ w. h w - l w) ∙ sym (spread_at source_x) ∙ sym (ap (λ v. spread (v ∷ map (λ u. u.x) (taps_in b ts g))) source_x_lem) in
      rw (x, long_enough) (ap (leb MIN_LANE_TRAVEL) s)

  lane_found : found (lane_of ps t.page t.group) ≡ not (eqb (field groups g 4) MISSING)
  lane_found =
      let lanes : field groups g 4 ≡ held (lane_of ps t.page t.group) = ap (λ h. field groups h 4) (sym same) ∙ a.group_rows.lanes t m in
      found_held (lane_of ps t.page t.group) (a.lanes_few t.page t.group) ∙ ap (λ v. not (eqb v MISSING)) (sym lanes)

  pub laid_none : field groups g 4 ≡ MISSING → false ≡ is_laid b ts ps t
  unfolding is_laid
  laid_none e = let f : found (lane_of ps t.page t.group) ≡ false = lane_found ∙ ap not (eq-eqb _ _ e) in sym (ap (λ v. v && long_enough b ts t.group) f)

  pub laid_long : (field groups g 4 ≡ MISSING → ⊥) → (r : Bool) → r ≡ long_enough b ts g → r ≡ is_laid b ts ps t
  unfolding is_laid
  laid_long e r l =
      let f : found (lane_of ps t.page t.group) ≡ true = lane_found ∙ ap not (ne_eqb _ _ e) in
      l ∙ ap (long_enough b ts) (sym same) ∙ sym (ap (λ v. v && long_enough b ts t.group) f)
