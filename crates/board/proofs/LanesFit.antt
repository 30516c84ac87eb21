-- What the planned lanes, by the promise of the lane crate, give the routes: a group's lane is one of its page's open lanes, there are at most
-- `lane_most`, the page has a gutter, and two lanes of a gutter that is high enough lie a rerouter apart.
use Prim.Native.Nat.{ℕ, zero, suc, ◌+◌, ◌*◌, ◌≤◌, ◌<◌}
use native.Mathlib.Omega.{arith}
use native.Mathlib.Decide.{dec_lt}
use mathlib.Core.Path.{◌≡◌, refl}
use mathlib.Core.Bool.{Bool, true, false}
use mathlib.Core.List.{List, [], ◌∷◌, ◌++◌, map}
use lib.Dec.{eqb}
use lib.ListN.{length, get_or, length-append, length-map, get_or-eq_default}
use Rattle.lanes.specs.Apart.{Rising}
use Rattle.lanes.proofs.Promise.{lanes_apart}
use Rattle.lanes.specs.Lanes.{Packed, full, laned, lane_most}
use Rattle.base.specs.Lists.{Found, none, at, least, greatest}
use Rattle.board.specs.Board.{Board, has_gutter}
use Rattle.board.specs.Rows.{REROUTER_SIZE}
use Rattle.board.specs.Groups.{Tap, taps_of, taps_in}
use Rattle.board.specs.Demands.{PageLanes, no_lanes, lane_in, lane_of, lane_y, BUS_BAND_GUTTER, LANE_PITCH, Planned, crowded, planned, plan_lanes, plan_upto, packed_on, groups_on, demand_of, first_row, last_row}
use Rattle.base.proofs.Bools.{never}
use Rattle.base.proofs.Lists.{by_test}

-- A lane's height, without differences.
height : (low n u : ℕ) → BUS_BAND_GUTTER + LANE_PITCH * lane_most ≤ low → n ≤ lane_most → u < n
    → lane_y low n u + (BUS_BAND_GUTTER + LANE_PITCH * n) ≡ low + LANE_PITCH * u
unfolding lane_y
height low n u h k l = omega arith

pub heights_apart : (low n u v : ℕ) → BUS_BAND_GUTTER + LANE_PITCH * lane_most ≤ low → n ≤ lane_most → u < n → v < n
    → lane_y low n u < lane_y low n v + REROUTER_SIZE → lane_y low n v < lane_y low n u + REROUTER_SIZE → u ≡ v
heights_apart low n u v h k a c p q = omega (arith, height low n u h k a, height low n v h k c)

-- Lanes of a page.
pub record Laned (b : Board) (p : ℕ) (l : PageLanes) (lane : ℕ) : Type 0 where
  pub inside : lane < l.count
  pub most : l.count ≤ lane_most
  pub gutter : has_gutter b p ≡ true

-- The place of a group's lane.
lane_in_lem : (gs ls : List ℕ) (g lane : ℕ) → lane_in gs ls g ≡ at lane → (i : ℕ) × (i < length gs) × (get_or ls i 0 ≡ lane)
lane_in_lem [] ls g lane e = never cc
lane_in_lem (h ∷ gs) [] g lane e = never cc
lane_in_lem (h ∷ gs) (l ∷ ls) g lane e =
    by_test (λ f. f ≡ at lane → (i : ℕ) × (i < suc (length gs)) × (get_or (l ∷ ls) i 0 ≡ lane)) (eqb h g)
    (λ q d. (zero, omega arith, let r : l ≡ lane = cc in r))
    (λ q d. let r = lane_in_lem gs ls g lane d in (suc r.0, omega (arith, r.1), r.2))
    e

-- A demand's last row is not before its first.
least_greatest : (d : ℕ) (l : List ℕ) → least d l ≤ greatest d l
least_greatest d [] = omega arith
least_greatest d (x ∷ l) = omega arith

get_d_snoc : {A : Type 0} (d : A) (P : ℕ → A → Type 0) (l : List A) (x : A) → ((p : ℕ) → P p (get_or l p d)) → P (length l) x → (p : ℕ)
    → P p (get_or (l ++ (x ∷ [])) p d)
get_d_snoc d P [] x h k zero = k
get_d_snoc d P [] x h k (suc p) = h (suc p)
get_d_snoc d P (y ∷ l) x h k zero = h zero
get_d_snoc d P (y ∷ l) x h k (suc p) = get_d_snoc d (λ q. P (suc q)) l x (λ q. h (suc q)) k p

module _ (b : Board) (ts : List Tap) where
  abbrev PageFits : ℕ → PageLanes → Type 0
  PageFits p l = (g lane : ℕ) → lane_in l.groups l.lane_list g ≡ at lane → Laned b p l lane

  has_gutter_lem : (p : ℕ) (ls : List ℕ) (g lane : ℕ) → lane_in (groups_on b ts p) ls g ≡ at lane → has_gutter b p ≡ true
  unfolding groups_on
  has_gutter_lem p ls g lane e = go (has_gutter b p) refl
    where
      go : (t : Bool) → has_gutter b p ≡ t → has_gutter b p ≡ true
      go true q = q
      go false q = let r : ◌≡◌ {A = Found} none (at lane) = rw (q, groups_on) at e in never cc

  pub rising : (gs : List ℕ) → Rising (map (demand_of b ts) gs)
  unfolding demand_of first_row last_row
  rising [] i h = absurd (omega arith)
  rising (g ∷ gs) zero h = least_greatest 0 (map (λ t. t.row) (taps_in b ts g))
  rising (g ∷ gs) (suc i) h = rising gs i (omega arith)

  page_fits : (p : ℕ) (ls : List ℕ) (n : ℕ) → packed_on b ts p ≡ laned ls n → PageFits p (record { groups = groups_on b ts p; lane_list = ls; count = n })
  unfolding packed_on
  page_fits p ls n e g lane h =
      let gs = groups_on b ts p in
      let ds = map (demand_of b ts) gs in
      let apart = lanes_apart ds (rising gs) ls n e in
      let i = lane_in_lem gs ls g lane h in
      let below = apart.below i.0 (omega (arith, i.1, length-map gs (demand_of b ts))) in
      record { inside = omega (arith, i.2); most = apart.most; gutter = has_gutter_lem p ls g lane h }

  plan_fits_lem : (n : ℕ) (ps : List PageLanes) → plan_upto b ts n ≡ planned ps → (length ps ≡ n) × ((p : ℕ) → PageFits p (get_or ps p no_lanes))
  unfolding plan_upto
  plan_fits_lem zero ps e = let q : ◌≡◌ {A = List PageLanes} [] ps = cc in rw (← q) (refl, λ p g lane h. no_lane p g lane h)
    where
      no_lane : (p g lane : ℕ) → ◌≡◌ {A = Found} none (at lane) → Laned b p (get_or [] p no_lanes) lane
      no_lane p g lane h = never cc
  plan_fits_lem (suc n) ps e = go (plan_upto b ts n) refl (packed_on b ts n) refl (plan_fits_lem n)
    where
      Goal : Type 0
      Goal = (length ps ≡ suc n) × ((p : ℕ) → PageFits p (get_or ps p no_lanes))

      go : (r : Planned) → plan_upto b ts n ≡ r → (k : Packed) → packed_on b ts n ≡ k
          → ((qs : List PageLanes) → plan_upto b ts n ≡ planned qs → (length qs ≡ n) × ((p : ℕ) → PageFits p (get_or qs p no_lanes))) → Goal
      go (crowded q) r k f ih = let d : crowded q ≡ planned ps = rw (r, plan_upto) at e in never cc
      go (planned qs) r (full i) f ih = let d : crowded n ≡ planned ps = rw (r, f, plan_upto) at e in never cc
      go (planned qs) r (laned ls c) f ih =
          let page : PageLanes = record { groups = groups_on b ts n; lane_list = ls; count = c } in
          let d : planned (qs ++ (page ∷ [])) ≡ planned ps = rw (r, f, plan_upto) at e in
          let q : qs ++ (page ∷ []) ≡ ps = cc in
          let h = ih qs r in
          rw (← q) (omega (arith, h.0, length-append qs (page ∷ [])), get_d_snoc no_lanes PageFits qs page h.1 (rw h.0 (page_fits n ls c f)))

pub planned_fits : (b : Board) (ps : List PageLanes) → plan_lanes b ≡ planned ps → (p g lane : ℕ) → lane_of ps p g ≡ at lane
    → (p < length b.pages) × Laned b p (get_or ps p no_lanes) lane
unfolding plan_lanes
planned_fits b ps e p g lane h = (page (dec_lt p (length ps)), fits.1 p g lane h)
  where
    fits : (length ps ≡ length b.pages) × ((q : ℕ) → PageFits b (taps_of b) q (get_or ps q no_lanes))
    fits = plan_fits_lem b (taps_of b) (length b.pages) ps e

    page : Dec (p < length ps) → p < length b.pages
    page (yes i) = omega (arith, fits.0)
    page (no i) = let d : ◌≡◌ {A = Found} none (at lane) = rw (get_or-eq_default ps no_lanes {n = p} (omega arith)) at h in never cc
