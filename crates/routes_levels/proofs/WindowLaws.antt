-- Windows of levels: what a level counted or a claim marked does to each weight, and what the weights tell.
use Rattle.std.proofs.Common.{Option, Some}
use Prim.Native.Nat.{ℕ, zero, suc, ◌+◌, ◌-◌, ◌*◌, ◌/◌, ◌≤◌, ◌<◌}
use mathlib.Core.Path.{◌≡◌, refl, ap, sym, ◌∙◌}
use mathlib.Core.Bool.{Bool, true, false, not, ◌&&◌, ◌||◌}
use mathlib.Core.List.{List}
use native.Mathlib.Numerals.{add-one}
use native.Mathlib.Omega.{arith}
use lib.Dec.{eqb, ltb}
use lib.ListN.{length, take, get_or, set}
use lib.Seq.{length-take-le, get_or-take, get_or-set_same, get_or-set_other}
use borrow.Author.Tests.{eq-eqb, ne_eqb, eqb-true, eqb-false, lt-ltb, ltb-true}
use Rattle.sheet.specs.Table.{MISSING}
use Rattle.base.specs.Lists.{none, at}
use Rattle.base.specs.Runs.{having}
use Rattle.base.proofs.Bools.{never, both, and_left, and_right, and_false, pick_true, pick_false}
use Rattle.base.proofs.RunLaws.{having_most}
use Rattle.routes.specs.Stops.{near}
use Rattle.routes.specs.Levels.{Stop, STAGGER_STEP, levels_in, lowest, lightest, load_at, unclaimed, free_level}
use Rattle.board.specs.Index.{found_of}
use Rattle.routes_levels.specs.Search.{CLAIMED, counted, weigh, near_one, load_in, open_in, free_in, Weighed, Walked, Best}
use Rattle.routes_levels.proofs.Searches.{best_passed, best_heavier, best_lighter}

-- A level counted.
module _ (loads : List ℕ) (start level : ℕ) where
  pub count_missed : ((j : ℕ) → j < length loads → level ≡ start + STAGGER_STEP * j → ⊥)
      → (j : ℕ) → j < length loads → get_or loads j 0 ≡ counted (eqb level (start + STAGGER_STEP * j)) (get_or loads j 0)
  count_missed out j h = sym (ap (λ t. counted t (get_or loads j 0)) (ne_eqb level (start + 2 * j) (out j h)))

  pub count_hit : (k : ℕ) → k < length loads → level ≡ start + STAGGER_STEP * k → (j : ℕ) → j < length loads
      → get_or (set loads k (get_or loads k 0 + 1)) j 0 ≡ counted (eqb level (start + STAGGER_STEP * j)) (get_or loads j 0)
  count_hit k r e j h = go (eqb j k) refl
    where
      go : (t : Bool) → eqb j k ≡ t → get_or (set loads k (get_or loads k 0 + 1)) j 0 ≡ counted (eqb level (start + STAGGER_STEP * j)) (get_or loads j 0)
      go true q =
          let z : j ≡ k = eqb-true j k q in
          let s : eqb level (start + 2 * j) ≡ true = eq-eqb level (start + 2 * j) (omega arith) in
          ap (λ i. get_or (set loads k (get_or loads k 0 + 1)) i 0) z ∙ get_or-set_same loads k (get_or loads k 0 + 1) 0 r ∙ add-one (get_or loads k 0)
          ∙ ap (λ i. suc (get_or loads i 0)) (sym z) ∙ sym (ap (λ t. counted t (get_or loads j 0)) s)
      go false q =
          let d = eqb-false j k q in
          let s : eqb level (start + 2 * j) ≡ false = ne_eqb level (start + 2 * j) (λ o. d (omega arith)) in
          get_or-set_other loads k j (get_or loads k 0 + 1) 0 d ∙ sym (ap (λ t. counted t (get_or loads j 0)) s)

-- A level marked.
module _ (loads : List ℕ) (k : ℕ) where
  pub mark_out : length loads ≤ k → (i : ℕ) → i < length loads → get_or loads i 0 ≡ weigh (eqb i k) (get_or loads i 0)
  mark_out l i h = sym (ap (λ t. weigh t (get_or loads i 0)) (ne_eqb i k (λ e. omega arith)))

  pub mark_in : k < length loads → (i : ℕ) → i < length loads → get_or (set loads k CLAIMED) i 0 ≡ weigh (eqb i k) (get_or loads i 0)
  mark_in r i h = go (eqb i k) refl
    where
      go : (t : Bool) → eqb i k ≡ t → get_or (set loads k CLAIMED) i 0 ≡ weigh t (get_or loads i 0)
      go true q = ap (λ n. get_or (set loads k CLAIMED) n 0) (eqb-true i k q) ∙ get_or-set_same loads k CLAIMED 0 r
      go false q = get_or-set_other loads k i CLAIMED 0 (eqb-false i k q)

weigh_both : (s t : Bool) (n : ℕ) → weigh s (weigh t n) ≡ weigh (s || t) n
weigh_both true t n = refl
weigh_both false t n = refl

-- Less than 2 apart, or not.
near_yes : (x p : ℕ) → x < p + 2 → p < x + 2 → near x p ≡ true
near_yes x p h k = both _ _ (lt-ltb x (p + 2) h) (lt-ltb p (x + 2) k)

near_no : (x p : ℕ) → (x < p + 2 → p < x + 2 → ⊥) → near x p ≡ false
near_no x p f = go (near x p) refl
  where
    go : (t : Bool) → near x p ≡ t → t ≡ false
    go true e = absurd (f (ltb-true x (p + 2) (and_left _ _ e)) (ltb-true p (x + 2) (and_right (ltb x (p + 2)) (ltb p (x + 2)) e)))
    go false e = refl

-- A claim marked: it is near no level of the window, the first, or at most two.
module _ (start claim : ℕ) where
  pub claim_far : claim < start → 2 ≤ start - claim → (j n : ℕ) → n ≡ weigh (near (start + STAGGER_STEP * j) claim) n
  claim_far h k j n = sym (ap (λ t. weigh t n) (near_no (start + 2 * j) claim (λ a b. omega arith)))

  pub claim_under : claim < start → start - claim < 2 → (j : ℕ) → eqb j 0 ≡ near (start + STAGGER_STEP * j) claim
  claim_under h k j = go (eqb j 0) refl
    where
      go : (t : Bool) → eqb j 0 ≡ t → t ≡ near (start + STAGGER_STEP * j) claim
      go true q = let z = eqb-true j 0 q in sym (near_yes (start + 2 * j) claim (omega arith) (omega arith))
      go false q = let d = eqb-false j 0 q in sym (near_no (start + 2 * j) claim (λ a b. d (omega arith)))

  pub claim_in : start ≤ claim → (j : ℕ) → eqb j ((claim - start + 1) / 2) || eqb j ((claim - start) / 2) ≡ near (start + STAGGER_STEP * j) claim
  claim_in h j = go (eqb j ((claim - start + 1) / 2)) (eqb j ((claim - start) / 2)) refl refl
    where
      go : (s t : Bool) → eqb j ((claim - start + 1) / 2) ≡ s → eqb j ((claim - start) / 2) ≡ t → s || t ≡ near (start + STAGGER_STEP * j) claim
      go true t p q = let z = eqb-true j ((claim - start + 1) / 2) p in sym (near_yes (start + 2 * j) claim (omega arith) (omega arith))
      go false true p q = let z = eqb-true j ((claim - start) / 2) q in sym (near_yes (start + 2 * j) claim (omega arith) (omega arith))
      go false false p q =
          let d = eqb-false j ((claim - start + 1) / 2) p in
          let e = eqb-false j ((claim - start) / 2) q in
          sym (near_no (start + 2 * j) claim (λ a b. omega (arith, d, e)))

-- What a claim leaves of a level's weight, where the marks come one after the other.
pub mark_first : (start claim j : ℕ) (m n : ℕ) → claim < start → start - claim < 2 → m ≡ weigh (eqb j 0) n → m ≡ weigh (near (start + STAGGER_STEP * j) claim) n
mark_first start claim j m n h k e = e ∙ ap (λ t. weigh t n) (claim_under start claim h k j)

pub mark_two : (start claim j : ℕ) (m n o : ℕ) → start ≤ claim → m ≡ weigh (eqb j ((claim - start + 1) / 2)) n → n ≡ weigh (eqb j ((claim - start) / 2)) o
    → m ≡ weigh (near (start + STAGGER_STEP * j) claim) o
mark_two start claim j m n o h e f =
    e ∙ ap (weigh (eqb j ((claim - start + 1) / 2))) f ∙ weigh_both (eqb j ((claim - start + 1) / 2)) (eqb j ((claim - start) / 2)) o
    ∙ ap (λ t. weigh t o) (claim_in start claim h j)

-- One level more of a row.
pub count_more : (row : List ℕ) (x i m n : ℕ) → m ≡ counted (eqb (get_or row i 0) x) n → n ≡ having (λ k. get_or row k 0) x i → m ≡ having (λ k. get_or row k 0) x (i + 1)
count_more row x i m n e f = e ∙ ap (counted (eqb (get_or row i 0) x)) f ∙ go (eqb (get_or row i 0) x) ∙ ap (having (λ k. get_or row k 0) x) (sym (add-one i))
  where
    go : (t : Bool) → counted t (having (λ k. get_or row k 0) x i) ≡ elim t [ true ↦ suc (having (λ k. get_or row k 0) x i) | false ↦ having (λ k. get_or row k 0) x i ]
    go true = refl
    go false = refl

-- What a weight tells.
module _ (row lane : List ℕ) (x w : ℕ) (is : w ≡ weigh (not (open_in lane x)) (load_in row x)) where
  pub weight_free : eqb w 0 ≡ free_in row lane x
  unfolding free_in
  weight_free = ap (λ v. eqb v 0) is ∙ go (open_in lane x)
    where
      go : (t : Bool) → eqb (weigh (not t) (load_in row x)) 0 ≡ (eqb (load_in row x) 0 && t)
      go true = step (eqb (load_in row x) 0)
        where
          step : (s : Bool) → s ≡ (s && true)
          step true = refl
          step false = refl
      go false = ne_eqb CLAIMED 0 (λ e. omega arith) ∙ sym (and_false (eqb (load_in row x) 0))

  pub weight_open : (w ≡ CLAIMED → ⊥) → (open_in lane x ≡ true) × (w ≡ load_in row x)
  weight_open out = go (open_in lane x) refl
    where
      go : (t : Bool) → open_in lane x ≡ t → (t ≡ true) × (w ≡ load_in row x)
      go true e = (refl, is ∙ ap (λ t. weigh (not t) (load_in row x)) e)
      go false e = absurd (out (is ∙ ap (λ t. weigh (not t) (load_in row x)) e))

  pub load_few : length row < MISSING → load_in row x < CLAIMED
  unfolding load_in
  load_few few = omega (arith, having_most (λ i. get_or row i 0) x (length row))

  pub weight_claimed : length row < MISSING → w ≡ CLAIMED → open_in lane x ≡ false
  weight_claimed few e = go (open_in lane x) refl
    where
      go : (t : Bool) → open_in lane x ≡ t → t ≡ false
      go true o = let z : w ≡ load_in row x = is ∙ ap (λ t. weigh (not t) (load_in row x)) o in let f = load_few few in absurd (omega arith)
      go false o = refl

-- The lowest free level along a window.
pub along_start : (free : ℕ → Bool) (start size : ℕ) → lowest free start size ≡ lowest free (start + STAGGER_STEP * 0) (size - 0)
along_start free start size = let z : start ≡ start + 2 * 0 = omega arith in let n : size ≡ size - 0 = omega arith in λ w. lowest free (z w) (n w)

module _ (free : ℕ → Bool) (start size j : ℕ) where
  module _ (h : j < size) where
    more : size - j ≡ suc (size - (j + 1))
    more = omega arith

    pub along_here : free (start + STAGGER_STEP * j) ≡ true → lowest free (start + STAGGER_STEP * j) (size - j) ≡ at (start + STAGGER_STEP * j)
    along_here e = ap (lowest free (start + 2 * j)) more ∙ pick_true (free (start + 2 * j)) _ _ e

    pub along_next : free (start + STAGGER_STEP * j) ≡ false → lowest free (start + STAGGER_STEP * j) (size - j) ≡ lowest free (start + STAGGER_STEP * (j + 1)) (size - (j + 1))
    along_next e =
        let z : start + 2 * j + 2 ≡ start + 2 * (j + 1) = omega arith in
        ap (lowest free (start + 2 * j)) more ∙ pick_false (free (start + 2 * j)) _ _ e ∙ ap (λ x. lowest free x (size - (j + 1))) z

-- The lowest free level of two stretches: that of the first, else that of the second.
pub lowest_past : (free : ℕ → Bool) (x a b : ℕ) → lowest free x a ≡ none → lowest free x (a + b) ≡ lowest free (x + STAGGER_STEP * a) b
lowest_past free x zero b e = let z : x ≡ x + 2 * 0 = omega arith in let n : 0 + b ≡ b = omega arith in λ w. lowest free (z w) (n w)
lowest_past free x (suc a) b e = go (free x) refl (lowest_past free (x + 2) a b)
  where
    go : (t : Bool) → free x ≡ t → (lowest free (x + 2) a ≡ none → lowest free (x + 2) (a + b) ≡ lowest free (x + 2 + STAGGER_STEP * a) b)
        → lowest free x (suc a + b) ≡ lowest free (x + STAGGER_STEP * suc a) b
    go true f below = let q : at x ≡ none = sym (pick_true (free x) _ _ f) ∙ e in never cc
    go false f below =
        let n : suc a + b ≡ suc (a + b) = omega arith in
        let z : x + 2 + 2 * a ≡ x + 2 * suc a = omega arith in
        ap (lowest free x) n ∙ pick_false (free x) _ _ f ∙ below (sym (pick_false (free x) _ _ f) ∙ e) ∙ ap (λ y. lowest free y b) z

pub lowest_first : (free : ℕ → Bool) (x a b l : ℕ) → lowest free x a ≡ at l → lowest free x (a + b) ≡ at l
lowest_first free x zero b l e = never cc
lowest_first free x (suc a) b l e = go (free x) refl (lowest_first free (x + 2) a b l)
  where
    go : (t : Bool) → free x ≡ t → (lowest free (x + 2) a ≡ at l → lowest free (x + 2) (a + b) ≡ at l) → lowest free x (suc a + b) ≡ at l
    go true f below = let n : suc a + b ≡ suc (a + b) = omega arith in ap (lowest free x) n ∙ pick_true (free x) _ _ f ∙ sym (pick_true (free x) _ _ f) ∙ e
    go false f below =
        let n : suc a + b ≡ suc (a + b) = omega arith in
        ap (lowest free x) n ∙ pick_false (free x) _ _ f ∙ below (sym (pick_false (free x) _ _ f) ∙ e)

-- Window after window: what is searched from a level on, where the levels before it hold nothing free.
module _ (free : ℕ → Bool) (x size count : ℕ) (h : size ≤ count) where
  split : count ≡ size + (count - size)
  split = omega arith

  pub past_window : lowest free x size ≡ none → lowest free x count ≡ lowest free (x + STAGGER_STEP * size) (count - size)
  past_window e = ap (lowest free x) split ∙ lowest_past free x size (count - size) e

  pub in_window : (l : ℕ) → lowest free x size ≡ at l → lowest free x count ≡ at l
  in_window l e = ap (lowest free x) split ∙ lowest_first free x size (count - size) l e

pub past_none : (free : ℕ → Bool) (base count : ℕ) → lowest free base count ≡ lowest free (base + STAGGER_STEP * 0) (count - 0)
past_none free base count =
    let z : base ≡ base + 2 * 0 = omega arith in
    let n : count ≡ count - 0 = omega arith in
    λ w. lowest free (z w) (n w)

pub past_more : (free : ℕ → Bool) (base done size count : ℕ) → done + size ≤ count → lowest free (base + STAGGER_STEP * done) size ≡ none
    → lowest free (base + STAGGER_STEP * done) (count - done) ≡ lowest free (base + STAGGER_STEP * (done + size)) (count - (done + size))
past_more free base done size count h e =
    let y : base + 2 * done + 2 * size ≡ base + 2 * (done + size) = omega arith in
    let n : count - done - size ≡ count - (done + size) = omega arith in
    past_window free (base + 2 * done) size (count - done) (omega arith) e ∙ (λ w. lowest free (y w) (n w))

pub past_all : (free : ℕ → Bool) (base done count : ℕ) → count ≤ done → lowest free (base + STAGGER_STEP * done) (count - done) ≡ none
past_all free base done count h = let z : count - done ≡ 0 = omega arith in ap (lowest free (base + 2 * done)) z

-- What the levels of a window weigh once the row and the lane are walked.
pub weighed : (row lane loads more : List ℕ) (start : ℕ) → length more ≡ length loads
    → ((j : ℕ) → j < length loads → get_or loads j 0 ≡ load_in row (start + STAGGER_STEP * j))
    → ((j : ℕ) → j < length loads → get_or more j 0 ≡ weigh (near_one lane (start + STAGGER_STEP * j) (length lane)) (get_or loads j 0))
    → Weighed row lane start more
unfolding open_in
weighed row lane loads more start long counts marks = record { weights = each }
  where
    twice : (t : Bool) → t ≡ not (not t)
    twice true = refl
    twice false = refl

    each : (j : ℕ) → j < length more → get_or more j 0 ≡ weigh (not (open_in lane (start + STAGGER_STEP * j))) (load_in row (start + STAGGER_STEP * j))
    each j h =
        let x : ℕ = start + STAGGER_STEP * j in
        let l : j < length loads = omega arith in
        marks j l ∙ (λ w. weigh (twice (near_one lane x (length lane)) w) (counts j l w))

-- The front of a window weighs what the window does.
pub weighed_front : (row lane loads : List ℕ) (start n : ℕ) → n ≤ length loads → Weighed row lane start loads → Weighed row lane start (take n loads)
weighed_front row lane loads start n h w =
    let long = length-take-le n loads h in
    record { weights = λ j below. get_or-take n loads j 0 (omega arith) ∙ w.weights j (omega arith) }

-- The lightest level along a window, from the highest down.
module _ (row lane loads : List ℕ) (start base count k j : ℕ) (level : Option ℕ) (least : ℕ) (few : length row < MISSING) (w : Weighed row lane start loads)
    (s : start ≡ base + STAGGER_STEP * k) (some : 0 < j) (within : j ≤ length loads) (reach : k + j ≤ count)
    (b : Best (open_in lane) (load_in row) base count (k + j) level least) where
  abbrev there : ℕ
  there = base + STAGGER_STEP * (k + j - 1)

  at_there : start + STAGGER_STEP * (j - 1) ≡ there
  at_there = omega arith

  weight : get_or loads (j - 1) 0 ≡ weigh (not (open_in lane there)) (load_in row there)
  weight = w.weights (j - 1) (omega arith) ∙ ap (λ x. weigh (not (open_in lane x)) (load_in row x)) at_there

  down : (l : Option ℕ) (n : ℕ) → Best (open_in lane) (load_in row) base count (k + j - 1) l n → Best (open_in lane) (load_in row) base count (k + (j - 1)) l n
  down l n h = let z : k + (j - 1) ≡ k + j - 1 = omega arith in rw z h

  pub window_passed : get_or loads (j - 1) 0 ≡ CLAIMED → Best (open_in lane) (load_in row) base count (k + (j - 1)) level least
  window_passed e = down level least (best_passed (open_in lane) (load_in row) base count (k + j) level least b (omega arith) reach (weight_claimed row lane there _ weight few e))

  module _ (unmarked : get_or loads (j - 1) 0 ≡ CLAIMED → ⊥) where
    unclaimed_there : (open_in lane there ≡ true) × (get_or loads (j - 1) 0 ≡ load_in row there)
    unclaimed_there = weight_open row lane there _ weight unmarked

    pub window_heavier : least < get_or loads (j - 1) 0 → Best (open_in lane) (load_in row) base count (k + (j - 1)) level least
    window_heavier l =
        let o = unclaimed_there in
        let f = load_few row lane there _ weight few in
        down level least (best_heavier (open_in lane) (load_in row) base count (k + j) level least b (omega arith) reach o.0 (get_or loads (j - 1) 0) o.1 (omega arith) l)

    pub window_lighter : get_or loads (j - 1) 0 ≤ least → Best (open_in lane) (load_in row) base count (k + (j - 1)) (Some (start + STAGGER_STEP * (j - 1))) (get_or loads (j - 1) 0)
    window_lighter l =
        let o = unclaimed_there in
        rw at_there (down (Some there) (get_or loads (j - 1) 0) (best_lighter (open_in lane) (load_in row) base count (k + j) level least b (omega arith) reach o.0 (get_or loads (j - 1) 0) o.1 l))

-- The row and the lane of a list of stops.
module _ {row lane : List ℕ} {ss : List Stop} {p l r : ℕ} (h : Walked row lane ss p l r) where
  same_loads : load_at ss p r ≡ load_in row
  same_loads = λ w x. h.loads x w

  same_open : unclaimed ss p l ≡ open_in lane
  same_open = λ w x. h.claims x w

  same_free : free_level ss p l r ≡ free_in row lane
  unfolding free_level free_in
  same_free = λ w x. eqb (h.loads x w) 0 && h.claims x w

  module _ (base top count : ℕ) (c : count ≡ levels_in base top) where
    pub walked_low : found_of (lowest (free_in row lane) base count) ≡ found_of (lowest (free_level ss p l r) base (levels_in base top))
    walked_low = λ w. found_of (lowest (sym same_free w) base (c w))

    pub walked_light : found_of (lightest (open_in lane) (load_in row) base count) ≡ found_of (lightest (unclaimed ss p l) (load_at ss p r) base (levels_in base top))
    walked_light = λ w. found_of (lightest (sym same_open w) (sym same_loads w) base (c w))
