-- The runs of a page: what a stop adds to them, what the search reads off them, and the room that they have.
use Prim.Native.Nat.{ℕ, zero, suc, ◌+◌, ◌-◌, ◌≤◌, ◌<◌}
use mathlib.Core.Path.{◌≡◌, refl, ap, sym, subst, ◌∙◌}
use mathlib.Core.Bool.{Bool, true, false, not, ◌&&◌, ◌||◌}
use mathlib.Core.List.{List, [], ◌∷◌}
use native.Mathlib.Omega.{arith}
use native.Mathlib.Decide.{ℕ_discrete}
use lib.Dec.{eqb}
use lib.ListN.{length, get_or, take, drop, length-set, length-take, length-drop}
use lib.Seq.{get_or-set_other, get_or-drop, get_or-take}
use borrow.Author.Tests.{eq-eqb, ne_eqb}
use Rattle.base.specs.Lists.{Found, none, at, any, keep}
use Rattle.base.specs.Runs.{having}
use Rattle.base.specs.Growing.{stretch, run_in, Growing, Put}
use Rattle.base.proofs.Bools.{both, false_first, and_false, pick_true, pick_false}
use Rattle.base.proofs.GrowLaws.{still_growing, run_more, run_same}
use Rattle.routes.specs.Stops.{near}
use Rattle.routes.specs.Levels.{Level, dropped, shared, own, Stop, kept_at, kept_there, claim_near, load_at, unclaimed}
use Rattle.routes_levels.specs.Laying.{ROWS_MOST, LANES_MOST}
use Rattle.routes_levels.specs.Search.{near_one, load_in, open_in, Walked}
use Rattle.routes_levels.specs.Pages.{KEYS, lane_key, on_top, claim_of, held_at, levels_on, claims_on, Grown, Runs, NoneFrom, PageRuns, RoomFor, Onward}

-- A stop more at its place, and at any other.
module _ (place : Stop → ℕ) (holds : Level → Found) (s : Stop) (ss : List Stop) (p : ℕ) where
  held_here : s.page ≡ p → held_at place holds (s ∷ ss) p (place s) ≡ on_top (holds s.level) (held_at place holds ss p (place s))
  held_here e = pick_true (eqb s.page p && eqb (place s) (place s)) _ _ (both _ _ (eq-eqb s.page p e) (eq-eqb (place s) (place s) refl))

  held_beside : (k : ℕ) → (k ≡ place s → ⊥) → held_at place holds (s ∷ ss) p k ≡ held_at place holds ss p k
  held_beside k d = pick_false (eqb s.page p && eqb (place s) k) _ _ (rw (ne_eqb (place s) k (λ e. d (sym e))) (and_false (eqb s.page p)))

  held_else : (k : ℕ) → (s.page ≡ p → ⊥) → held_at place holds (s ∷ ss) p k ≡ held_at place holds ss p k
  held_else k d = pick_false (eqb s.page p && eqb (place s) k) _ _ (false_first (eqb s.page p) (eqb (place s) k) (ne_eqb s.page p d))

module _ (s : Stop) (ss : List Stop) (p : ℕ) (e : s.page ≡ p) where
  pub level_kept : Grown s.row (kept_at s.level) (levels_on ss p) (levels_on (s ∷ ss) p)
  unfolding levels_on
  level_kept = record { here = held_here (λ u. u.row) kept_at s ss p e; others = held_beside (λ u. u.row) kept_at s ss p }

  pub claim_kept : Grown s.lane (claim_of s.level) (claims_on ss p) (claims_on (s ∷ ss) p)
  unfolding claims_on
  claim_kept = record { here = held_here (λ u. u.lane) claim_of s ss p e; others = held_beside (λ u. u.lane) claim_of s ss p }

  pub none_later : NoneFrom (suc p) ss → NoneFrom (suc p) (s ∷ ss)
  unfolding levels_on claims_on
  none_later h =
      record {
        rows = λ q r l. held_else (λ u. u.row) kept_at s ss q r (λ z. omega arith) ∙ h.rows q r l;
        lanes = λ q k l. held_else (λ u. u.lane) claim_of s ss q k (λ z. omega arith) ∙ h.lanes q k l;
      }

grown_none : (k : ℕ) (held : ℕ → List ℕ) → Grown k none held held
grown_none k held = record { here = refl; others = λ j d. refl }

-- Values put to runs.
module _ {rows lanes : ℕ → List ℕ} {starts nexts xs : List ℕ} (x : Runs rows lanes starts nexts xs) where
  pub runs_same : {rows' lanes' : ℕ → List ℕ} {r l : ℕ} → Grown r none rows rows' → Grown l none lanes lanes' → Runs rows' lanes' starts nexts xs
  runs_same {rows'} {lanes'} {r} {l} g h =
      record {
        grows = x.grows;
        few = x.few;
        row_runs = λ k m. x.row_runs k m ∙ sym (elim (ℕ_discrete k r) [ yes e ↦ ap rows' e ∙ g.here ∙ ap rows (sym e) | no e ↦ g.others k e ]);
        lane_runs = λ k m. x.lane_runs k m ∙ sym (elim (ℕ_discrete k l) [ yes e ↦ ap lanes' e ∙ h.here ∙ ap lanes (sym e) | no e ↦ h.others k e ]);
      }

  module _ {v : ℕ} {nexts' xs' : List ℕ} where
    long : {k : ℕ} → Put k v nexts xs nexts' xs' → length xs' < 4294967295
    long {k} p = let f = x.few in omega (arith, ap length p.value, length-set xs (get_or nexts k 0) v)

    pub put_row : {r : ℕ} {rows' : ℕ → List ℕ} → r < ROWS_MOST → get_or nexts r 0 < get_or starts (suc r) 0 → Put r v nexts xs nexts' xs' → Grown r (at v) rows rows' → Runs rows' lanes starts nexts' xs'
    put_row {r} {rows'} small room p g =
        let m : r < KEYS = omega arith in
        record {
          grows = still_growing x.grows p m room;
          few = long p;
          row_runs = λ k h. elim (ℕ_discrete k r) [
            | yes e ↦ ap (run_in starts nexts' xs') e ∙ run_more x.grows p m room ∙ ap (λ l. v ∷ l) (x.row_runs r small) ∙ sym g.here ∙ ap rows' (sym e)
            | no e ↦ run_same x.grows p m room k (omega arith) e ∙ x.row_runs k h ∙ sym (g.others k e)
          ];
          lane_runs = λ k h. run_same x.grows p m room (lane_key k) (omega arith) (λ e. omega arith) ∙ x.lane_runs k h;
        }

    pub put_lane : {l : ℕ} {lanes' : ℕ → List ℕ} → l < LANES_MOST → get_or nexts (lane_key l) 0 < get_or starts (suc (lane_key l)) 0 → Put (lane_key l) v nexts xs nexts' xs' → Grown l (at v) lanes lanes' → Runs rows lanes' starts nexts' xs'
    put_lane {l} {lanes'} small room p g =
        let m : lane_key l < KEYS = omega arith in
        record {
          grows = still_growing x.grows p m room;
          few = long p;
          row_runs = λ k h. run_same x.grows p m room k (omega arith) (λ e. omega arith) ∙ x.row_runs k h;
          lane_runs = λ k h. elim (ℕ_discrete k l) [
            | yes e ↦ ap (λ j. run_in starts nexts' xs' (lane_key j)) e ∙ run_more x.grows p m room ∙ ap (λ q. v ∷ q) (x.lane_runs l small) ∙ sym g.here ∙ ap lanes' (sym e)
            | no e ↦ run_same x.grows p m room (lane_key k) (omega arith) (λ z. e (omega arith)) ∙ x.lane_runs k h ∙ sym (g.others k e)
          ];
        }

-- A stop's level put: nothing, to its row, or to its lane too.
pub put_beside : {r v : ℕ} {nexts xs nexts' xs' : List ℕ} → Put r v nexts xs nexts' xs' → (k : ℕ) → (k ≡ r → ⊥) → get_or nexts' k 0 ≡ get_or nexts k 0
put_beside {r} {v} {nexts} p k e = rw p.onward (get_or-set_other nexts r k (suc (get_or nexts r 0)) 0 e)

pub onward_none : (r q : ℕ) (nexts : List ℕ) → Onward r q nexts nexts
onward_none r q nexts = record { here = omega arith; there = omega arith; others = λ j a b. refl }

module _ {row lane : ℕ} {starts nexts xs : List ℕ} {rows lanes rows' lanes' : ℕ → List ℕ} (x : Runs rows lanes starts nexts xs) (room : RoomFor row lane starts nexts) where
  pub kept_shared : {nexts' xs' : List ℕ} (v : Level) (l : ℕ) → v ≡ shared l → Put row l nexts xs nexts' xs'
      → Grown row (kept_at v) rows rows' → Grown lane (claim_of v) lanes lanes' → Runs rows' lanes' starts nexts' xs'
  kept_shared v l e p g h =
      runs_same (put_row x room.row_small room.row_room p (subst (λ u. Grown row (kept_at u) rows rows') e g)) (grown_none row rows')
      (subst (λ u. Grown lane (claim_of u) lanes lanes') e h)

  pub kept_own : {n y nexts' xs' : List ℕ} (v : Level) (l k : ℕ) → v ≡ own l → k ≡ lane_key lane → Put row l nexts xs n y → Put k l n y nexts' xs'
      → Grown row (kept_at v) rows rows' → Grown lane (claim_of v) lanes lanes' → Runs rows' lanes' starts nexts' xs'
  kept_own {n} {y} {nexts'} {xs'} v l k e is p o' g h =
      let o : Put (lane_key lane) l n y nexts' xs' = rw is at o' in
      let small = room.row_small in
      let open' = room.lane_room in
      put_lane (put_row x small room.row_room p (subst (λ u. Grown row (kept_at u) rows rows') e g)) room.lane_small (omega (arith, put_beside p (lane_key lane) (λ z. omega arith))) o
      (subst (λ u. Grown lane (claim_of u) lanes lanes') e h)

-- Runs that nothing is put to yet.
pub runs_start : (p : ℕ) (ss : List Stop) (starts xs : List ℕ) → Growing KEYS starts starts xs → length xs < 4294967295 → NoneFrom p ss → PageRuns p ss starts starts xs
runs_start p ss starts xs g few h =
    record {
      runs = record { grows = g; few = few; row_runs = λ r m. blank r ∙ sym (h.rows p r (omega arith)); lane_runs = λ l m. blank (lane_key l) ∙ sym (h.lanes p l (omega arith)) };
      later = record { rows = λ q r l. h.rows q r (omega arith); lanes = λ q k l. h.lanes q k (omega arith) };
    }
  where
    blank : (k : ℕ) → run_in starts starts xs k ≡ []
    blank k = let z : get_or starts k 0 - get_or starts k 0 ≡ 0 = omega arith in ap (stretch xs (get_or starts k 0)) z

pub none_above : (p q : ℕ) (ss : List Stop) → p ≤ q → NoneFrom p ss → NoneFrom q ss
none_above p q ss l h = record { rows = λ o r m. h.rows o r (omega arith); lanes = λ o k m. h.lanes o k (omega arith) }

pub none_yet : (p : ℕ) → NoneFrom p []
unfolding levels_on claims_on
none_yet p = record { rows = λ q r l. refl; lanes = λ q k l. refl }

-- How often a level is in a list, and whether something in it is near.
abbrev times : ℕ → List ℕ → ℕ
times x l = length (keep (λ y. eqb y x) l)

-- Loads and claims of stops, read off what they hold.
pub load_held : (ss : List Stop) (p r x : ℕ) → load_at ss p r x ≡ times x (levels_on ss p r)
unfolding load_at levels_on
load_held [] p r x = refl
load_held (s ∷ l) p r x = go (eqb s.page p && eqb s.row r) (kept_at s.level) (load_held l p r x)
  where
    K : List Stop
    K = keep (kept_there p r x) l

    L : List ℕ
    L = held_at (λ u. u.row) kept_at l p r

    one : (y : ℕ) (t : Bool) → length K ≡ times x L → length {A = Stop} (elim t [ true ↦ s ∷ K | false ↦ K ]) ≡ length {A = ℕ} (elim t [ true ↦ y ∷ keep (λ z. eqb z x) L | false ↦ keep (λ z. eqb z x) L ])
    one y true h = ap suc h
    one y false h = h

    go : (t : Bool) (f : Found) → length K ≡ times x L
        → length {A = Stop} (elim (t && elim f [ at y ↦ eqb y x | none ↦ false ]) [ true ↦ s ∷ K | false ↦ K ]) ≡ times x (elim t [ true ↦ on_top f L | false ↦ L ])
    go true none h = h
    go true (at y) h = one y (eqb y x) h
    go false f h = h

pub claims_held : (ss : List Stop) (p l x : ℕ) → unclaimed ss p l x ≡ not (any (near x) (claims_on ss p l))
unfolding unclaimed claims_on
claims_held ss p l x = ap not (each ss)
  where
    each : (ss : List Stop) → any (claim_near p l x) ss ≡ any (near x) (held_at (λ u. u.lane) claim_of ss p l)
    each [] = refl
    each (s ∷ ss) = go (eqb s.page p && eqb s.lane l) s.level (each ss)
      where
        R : Bool
        R = any (claim_near p l x) ss

        C : List ℕ
        C = held_at (λ u. u.lane) claim_of ss p l

        go : (t : Bool) (v : Level) → R ≡ any (near x) C
            → (t && elim v [ own y ↦ near x y | shared y ↦ false | dropped ↦ false ]) || R ≡ any (near x) (elim t [ true ↦ on_top (claim_of v) C | false ↦ C ])
        go true dropped h = h
        go true (shared y) h = h
        go true (own y) h = ap (λ q. near x y || q) h
        go false v h = h

-- A part of a slice, read as a stretch.
module _ (xs : List ℕ) (a e : ℕ) (order : a ≤ e) (inside : e ≤ length xs) where
  abbrev part : List ℕ
  part = take (e - a) (drop a xs)

  part_long : length part ≡ e - a
  part_long = simp (length-take, length-drop) (omega arith)

  part_at : (i : ℕ) → i < e - a → get_or part i 0 ≡ get_or xs (a + i) 0
  part_at i h = rw (get_or-take, get_or-drop)

  pub part_load : (x : ℕ) → load_in part x ≡ times x (stretch xs a (e - a))
  unfolding load_in
  part_load x = ap (having (λ i. get_or part i 0) x) part_long ∙ each (e - a) (omega arith)
    where
      each : (c : ℕ) → c ≤ e - a → having (λ i. get_or part i 0) x c ≡ times x (stretch xs a c)
      each zero h = refl
      each (suc c) h = go (eqb (get_or xs (a + c) 0) x) (λ w. eqb (part_at c (omega arith) w) x) (each c (omega arith))
        where
          go : (t : Bool) → eqb (get_or part c 0) x ≡ t → having (λ i. get_or part i 0) x c ≡ times x (stretch xs a c)
              → elim (eqb (get_or part c 0) x) [ true ↦ suc (having (λ i. get_or part i 0) x c) | false ↦ having (λ i. get_or part i 0) x c ]
              ≡ length {A = ℕ} (elim t [ true ↦ get_or xs (a + c) 0 ∷ keep (λ y. eqb y x) (stretch xs a c) | false ↦ keep (λ y. eqb y x) (stretch xs a c) ])
          go true q i = pick_true (eqb (get_or part c 0) x) _ _ q ∙ ap suc i
          go false q i = pick_false (eqb (get_or part c 0) x) _ _ q ∙ i

  pub part_open : (x : ℕ) → open_in part x ≡ not (any (near x) (stretch xs a (e - a)))
  unfolding open_in
  part_open x = ap not (ap (near_one part x) part_long ∙ each (e - a) (omega arith))
    where
      each : (c : ℕ) → c ≤ e - a → near_one part x c ≡ any (near x) (stretch xs a c)
      each zero h = refl
      each (suc c) h = let i = each c (omega arith) in let q = part_at c (omega arith) in λ w. near x (q w) || i w

-- The parts of a row's run and a lane's run are the row and the lane of the stops.
module _ {starts nexts xs : List ℕ} (g : Growing KEYS starts nexts xs) where
  pub run_inside : (k : ℕ) → k < KEYS → (get_or starts k 0 ≤ get_or nexts k 0) × (get_or nexts k 0 ≤ length xs)
  run_inside k h = let b = g.begun k h in let w = g.within k h in let r = g.rising (suc k) KEYS h (omega arith) in let i = g.inside in (b, omega arith)

  abbrev part_of : ℕ → List ℕ
  part_of k = take (get_or nexts k 0 - get_or starts k 0) (drop (get_or starts k 0) xs)

  pub walked : (ss : List Stop) (p r l k : ℕ) → k ≡ lane_key l → r < ROWS_MOST → l < LANES_MOST → run_in starts nexts xs r ≡ levels_on ss p r → run_in starts nexts xs (lane_key l) ≡ claims_on ss p l
      → Walked (part_of r) (part_of k) ss p l r
  walked ss p r l k is rs ls er el =
      let i = run_inside r (omega arith) in
      let j = run_inside k (omega arith) in
      let ek : run_in starts nexts xs k ≡ claims_on ss p l = ap (run_in starts nexts xs) is ∙ el in
      record {
        loads = λ x. load_held ss p r x ∙ ap (times x) (sym er) ∙ sym (part_load xs (get_or starts r 0) (get_or nexts r 0) i.0 i.1 x);
        claims = λ x. claims_held ss p l x ∙ ap (λ q. not (any (near x) q)) (sym ek) ∙ sym (part_open xs (get_or starts k 0) (get_or nexts k 0) j.0 j.1 x);
      }
