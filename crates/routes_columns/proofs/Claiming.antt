-- The claims of each lane in its run: what the stops put there, what is asked of it, and what is added.
use Prim.Native.Nat.{ℕ, zero, suc, ◌+◌, ◌-◌, ◌*◌, ◌≤◌, ◌<◌}
use mathlib.Core.Path.{◌≡◌, refl, ap, ap₂, sym, subst, ◌∙◌}
use mathlib.Core.Bool.{Bool, true, false, not, ◌&&◌, ◌||◌}
use mathlib.Core.List.{List, [], ◌∷◌}
use native.Mathlib.Omega.{arith}
use native.Mathlib.Decide.{ℕ_discrete}
use lib.Dec.{eqb, ltb}
use lib.ListN.{length, get_or, take, drop, length-drop}
use lib.Seq.{get_or-set_same, get_or-set_other, get_or-take, get_or-drop, length-take-le}
use borrow.Author.Tests.{eq-eqb, ne_eqb, ltb-true, ltb-false}
use Rattle.base.specs.Lists.{any}
use Rattle.base.specs.Growing.{stretch, run_in, values_of, Put, Filled}
use Rattle.base.specs.Views.{view}
use Rattle.base.proofs.Bools.{and_false, false_first}
use Rattle.base.proofs.GrowLaws.{still_growing, run_more, run_same}
use Rattle.routes.specs.Stops.{near}
use Rattle.routes.specs.Levels.{Level, dropped, shared, own, Stop, claim_near, unclaimed}
use Rattle.routes.specs.Tables.{stop_in}
use Rattle.routes_taps.specs.declared.taps.Tap.{Tap}
use Rattle.routes_columns.specs.Columns.{lane_key, keys_of, stop_key, level_at, PutIf, Claiming, claim_at, claimed_if, with_own, own_levels, ClaimsHeld}

-- A stretch is that of the slice that it is.
pub stretch_slice : (xs : List ℕ) (a n c : ℕ) → c ≤ n → stretch (take n (drop a xs)) 0 c ≡ stretch xs a c
stretch_slice xs a n zero h = refl
stretch_slice xs a n (suc c) h =
    let from : 0 + c ≡ c = omega arith in
    let one : get_or (take n (drop a xs)) (0 + c) 0 ≡ get_or xs (a + c) 0 = ap (λ j. get_or (take n (drop a xs)) j 0) from ∙ get_or-take n (drop a xs) c 0 (omega arith) ∙ get_or-drop a xs c 0 in
    let rest : stretch (take n (drop a xs)) 0 c ≡ stretch xs a c = stretch_slice xs a n c (omega arith) in
    λ i. one i ∷ rest i

pub slice_run : (xs : List ℕ) (a e : ℕ) → a ≤ e → e ≤ length xs → stretch (take (e - a) (drop a xs)) 0 (length (take (e - a) (drop a xs))) ≡ stretch xs a (e - a)
slice_run xs a e h k =
    let rest = length-drop a xs in
    let long : length (take (e - a) (drop a xs)) ≡ e - a = length-take-le (e - a) (drop a xs) (omega arith) in
    stretch_slice xs a (e - a) (length (take (e - a) (drop a xs))) (omega arith) ∙ ap (stretch xs a) long

-- Two lanes have two runs.
lanes_apart : (a b p lane : ℕ) → b < 512 → lane < 512 → eqb (lane_key a b) (lane_key p lane) ≡ eqb a p && eqb b lane
lanes_apart a b p lane hb hl = elim (ℕ_discrete a p) [
  | yes e ↦ elim (ℕ_discrete b lane) [
    | yes f ↦ eq-eqb (lane_key a b) (lane_key p lane) (omega arith) ∙ sym (ap₂ (λ s t. s && t) (eq-eqb a p e) (eq-eqb b lane f))
    | no f ↦ ne_eqb (lane_key a b) (lane_key p lane) (λ z. omega (arith, f)) ∙ sym (ap₂ (λ s t. s && t) (eq-eqb a p e) (ne_eqb b lane f))
  ]
  | no e ↦ ne_eqb (lane_key a b) (lane_key p lane) (λ z. omega (arith, e)) ∙ sym (false_first (eqb a p) (eqb b lane) (ne_eqb a p e))
]

-- What a stop's row puts into a lane's run is the stop's own level there.
either_way : (t : Bool) (l : List ℕ) → l ≡ elim t [ true ↦ l | false ↦ l ]
either_way true l = refl
either_way false l = refl

put_own : (pages p lane a b x : ℕ) (dropped? shared? : Bool) (l : List ℕ) → p < pages → lane < 512
    → ◌≡◌ {A = List ℕ}
    (elim (eqb (elim (not dropped? && not shared? && ltb a pages && ltb b 512) [ true ↦ lane_key a b | false ↦ pages * 512 ]) (lane_key p lane)) [ true ↦ x ∷ l | false ↦ l ])
    (elim (eqb a p && eqb b lane)
    [ true ↦ elim (elim dropped? as (λ _. Level) [ true ↦ dropped | false ↦ elim shared? [ true ↦ shared x | false ↦ own x ] ]) [ own y ↦ y ∷ l | shared y ↦ l | dropped ↦ l ] | false ↦ l ])
put_own pages p lane a b x dropped? shared? l hp hl = kinds dropped? shared?
  where
    behind : eqb (pages * 512) (lane_key p lane) ≡ false
    behind = ne_eqb (pages * 512) (lane_key p lane) (λ z. omega arith)

    got : Bool → List ℕ
    got t = elim t [ true ↦ x ∷ l | false ↦ l ]

    own_one : (s t : Bool) → ltb a pages ≡ s → ltb b 512 ≡ t → got (eqb (elim (s && t) [ true ↦ lane_key a b | false ↦ pages * 512 ]) (lane_key p lane)) ≡ got (eqb a p && eqb b lane)
    own_one true true e f = ap got (lanes_apart a b p lane (ltb-true b 512 f) hl)
    own_one true false e f = let h = ltb-false b 512 f in ap got (behind ∙ sym (ap (λ t. eqb a p && t) (ne_eqb b lane (λ z. omega arith)) ∙ and_false (eqb a p)))
    own_one false t e f = let h = ltb-false a pages e in ap got (behind ∙ sym (false_first (eqb a p) (eqb b lane) (ne_eqb a p (λ z. omega arith))))

    kinds : (d s : Bool)
        → ◌≡◌ {A = List ℕ} (got (eqb (elim (not d && not s && ltb a pages && ltb b 512) [ true ↦ lane_key a b | false ↦ pages * 512 ]) (lane_key p lane)))
        (elim (eqb a p && eqb b lane)
        [ true ↦ elim (elim d as (λ _. Level) [ true ↦ dropped | false ↦ elim s [ true ↦ shared x | false ↦ own x ] ]) [ own y ↦ y ∷ l | shared y ↦ l | dropped ↦ l ] | false ↦ l ])
    kinds true s = ap got behind ∙ either_way (eqb a p && eqb b lane) l
    kinds false true = ap got behind ∙ either_way (eqb a p && eqb b lane) l
    kinds false false = own_one (ltb a pages) (ltb b 512) refl refl

stops_put : (pages p lane : ℕ) (stops : List (List ℕ)) (s : ℕ) → p < pages → lane < 512
    → values_of (stop_key pages stops) (level_at stops) (lane_key p lane) s ≡ own_levels p lane (view stop_in stops s)
stops_put pages p lane stops zero hp hl = refl
stops_put pages p lane stops (suc s) hp hl =
    put_own pages p lane (get_or (get_or stops s []) 0 0) (get_or (get_or stops s []) 1 0) (get_or (get_or stops s []) 5 0) (eqb (get_or (get_or stops s []) 6 0) 0) (eqb (get_or (get_or stops s []) 6 0) 1)
    (values_of (stop_key pages stops) (level_at stops) (lane_key p lane) s) hp hl
    ∙ ap (with_own p lane (stop_in (get_or stops s []))) (stops_put pages p lane stops s hp hl)

-- The stops' claims, once they are put.
pub stops_held : (pages : ℕ) (stops : List (List ℕ)) (s : ℕ) (starts nexts xs : List ℕ) → Filled (stop_key pages stops) (level_at stops) s (keys_of pages) starts nexts xs
    → ClaimsHeld pages (view stop_in stops s) starts nexts xs
stops_held pages stops s starts nexts xs f =
    record { grows = f.grows; runs = λ p lane hp hl. f.runs (lane_key p lane) (omega arith) ∙ stops_put pages p lane stops s hp hl }

-- A claim is near where the own level of its lane is.
near_own : (p lane x : ℕ) (l : List Stop) → any (claim_near p lane x) l ≡ any (near x) (own_levels p lane l)
near_own p lane x [] = refl
near_own p lane x (s ∷ l) = ap (λ t. claim_near p lane x s || t) (near_own p lane x l) ∙ go (eqb s.page p && eqb s.lane lane) s.level
  where
    go : (t : Bool) (v : Level)
        → (t && elim v [ own y ↦ near x y | shared y ↦ false | dropped ↦ false ]) || any (near x) (own_levels p lane l)
        ≡ any (near x) (elim t as (λ _. List ℕ) [ true ↦ elim v [ own y ↦ y ∷ own_levels p lane l | shared y ↦ own_levels p lane l | dropped ↦ own_levels p lane l ] | false ↦ own_levels p lane l ])
    go true (own y) = refl
    go true (shared y) = refl
    go true dropped = refl
    go false v = refl

-- Asked for in a lane, and claimed there.
module _ {pages : ℕ} {l : List Stop} {starts nexts xs : List ℕ} (c : ClaimsHeld pages l starts nexts xs) {k : ℕ} (t : Tap) (lane x : ℕ) (on : t.page < pages) (few : lane < 512) (e : k ≡ lane_key t.page lane) (room : get_or nexts k 0 < get_or starts (suc k) 0) where
  below_last : k < keys_of pages
  below_last = omega arith

  claim_put : {nexts' xs' : List ℕ} → Put k x nexts xs nexts' xs' → ClaimsHeld pages (claim_at t lane x ∷ l) starts nexts' xs'
  claim_put {nexts'} {xs'} put =
      record {
        grows = still_growing c.grows put below_last room;
        runs = λ p u hp hu. elim (ℕ_discrete (lane_key p u) k) [
          | yes s ↦ ap (run_in starts nexts' xs') s ∙ run_more c.grows put below_last room
              ∙ ap (λ (r : List ℕ). x ∷ r) (ap (run_in starts nexts xs) (sym s) ∙ c.runs p u hp hu) ∙ sym (ap (got p u) (sym (lanes_apart t.page lane p u few hu) ∙ eq-eqb _ _ (sym e ∙ sym s)))
          | no s ↦ run_same c.grows put below_last room (lane_key p u) (omega arith) s ∙ c.runs p u hp hu
              ∙ sym (ap (got p u) (sym (lanes_apart t.page lane p u few hu) ∙ ne_eqb _ _ (λ z. s (sym z ∙ sym e))))
        ];
      }
    where
      got : ℕ → ℕ → Bool → List ℕ
      got p u s = elim s [ true ↦ x ∷ own_levels p u l | false ↦ own_levels p u l ]

  pub claim_held : {wanted r : Bool} {nexts' xs' : List ℕ} → Claiming starts k x wanted nexts xs nexts' xs' r
      → (r ≡ wanted && unclaimed l t.page lane x) × ClaimsHeld pages (claimed_if r (claim_at t lane x) l) starts nexts' xs'
  unfolding unclaimed
  claim_held {wanted} {r} {nexts'} {xs'} h =
      (h.placed ∙ ap (λ u. wanted && not u) (ap (any (near x)) (ap (run_in starts nexts xs) e ∙ c.runs t.page lane on few) ∙ sym (near_own t.page lane x l)), held r h.put)
    where
      held : (s : Bool) → PutIf s k x nexts xs nexts' xs' → ClaimsHeld pages (claimed_if s (claim_at t lane x) l) starts nexts' xs'
      held true put = claim_put put
      held false same = subst (λ (ys : List ℕ). ClaimsHeld pages l starts nexts' ys) (sym same.1) (subst (λ (ns : List ℕ). ClaimsHeld pages l starts ns xs) (sym same.0) c)

-- How far the runs are filled then.
pub one_claim : {starts : List ℕ} {k x : ℕ} {wanted r : Bool} {nexts xs nexts' xs' : List ℕ} → k < length nexts → Claiming starts k x wanted nexts xs nexts' xs' r
    → (get_or nexts k 0 ≤ get_or nexts' k 0) × (get_or nexts' k 0 ≤ get_or nexts k 0 + 1) × ((j : ℕ) → (j ≡ k → ⊥) → get_or nexts' j 0 ≡ get_or nexts j 0)
one_claim {k = k} {x} {r = r} {nexts} {xs} {nexts'} {xs'} h c = go r c.put
  where
    go : (s : Bool) → PutIf s k x nexts xs nexts' xs'
        → (get_or nexts k 0 ≤ get_or nexts' k 0) × (get_or nexts' k 0 ≤ get_or nexts k 0 + 1) × ((j : ℕ) → (j ≡ k → ⊥) → get_or nexts' j 0 ≡ get_or nexts j 0)
    go true put =
        let here = ap (λ (n : List ℕ). get_or n k 0) put.onward ∙ get_or-set_same nexts k (suc (get_or nexts k 0)) 0 h in
        (omega arith, omega arith, λ j e. ap (λ (n : List ℕ). get_or n j 0) put.onward ∙ get_or-set_other nexts k j (suc (get_or nexts k 0)) 0 e)
    go false same = let here = ap (λ (n : List ℕ). get_or n k 0) same.0 in (omega arith, omega arith, λ j e. ap (λ (n : List ℕ). get_or n j 0) same.0)
