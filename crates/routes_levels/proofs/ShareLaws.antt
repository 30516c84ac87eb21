-- The room of a page's runs: taps counted by row and by lane, and no run filled further than its count goes.
use Prim.Native.Nat.{ℕ, zero, suc, ◌+◌, ◌-◌, ◌*◌, ◌≤◌, ◌<◌}
use mathlib.Core.Path.{◌≡◌, refl, ap, sym, subst, ◌∙◌}
use mathlib.Core.List.{List}
use native.Mathlib.Numerals.{add-one}
use native.Mathlib.Omega.{arith}
use native.Mathlib.Decide.{dec_lt, ℕ_discrete}
use lib.ListN.{length, get_or, set, length-set}
use lib.Seq.{get_or-set_same, get_or-set_other}
use Rattle.base.specs.Runs.{having, sums}
use Rattle.base.specs.Growing.{Growing}
use Rattle.base.proofs.RunLaws.{having_more, having_other, having_most, having_le}
use Rattle.base.proofs.GrowLaws.{growing_none}
use Rattle.routes_levels.specs.Laying.{WIRES_MOST, ROWS_MOST, LANES_MOST}
use Rattle.routes_levels.specs.Pages.{KEYS, lane_key, RoomFor, Onward, row_at, lane_at, share, Wide, Used}

-- One more with a key.
module _ (l : List ℕ) (k : ℕ) (inside : k < length l) where
  abbrev more : List ℕ
  more = set l k (suc (get_or l k 0))

  bumped_here : get_or more k 0 ≡ suc (get_or l k 0)
  bumped_here = get_or-set_same l k (suc (get_or l k 0)) 0 inside

  bumped_else : (j : ℕ) → (j ≡ k → ⊥) → get_or more j 0 ≡ get_or l j 0
  bumped_else j e = get_or-set_other l k j (suc (get_or l k 0)) 0 e

  bumped_having : (key : ℕ → ℕ) (i c : ℕ) → key i ≡ k → (j : ℕ) → get_or l j 0 ≡ c + having key j i → get_or more j 0 ≡ c + having key j (suc i)
  bumped_having key i c e j h = elim (ℕ_discrete j k) [
    | yes z ↦ omega (arith, ap (λ n. get_or more n 0) z, bumped_here, ap (λ n. get_or l n 0) z, having_more key j i (e ∙ sym z))
    | no z ↦ omega (arith, bumped_else j z, having_other key j i (λ o. z (sym o ∙ e)))
  ]

  pub bumped_most : (b : ℕ) → ((j : ℕ) → get_or l j 0 ≤ b) → (j : ℕ) → get_or more j 0 ≤ b + 1
  bumped_most b h j = elim (ℕ_discrete j k) [
    | yes z ↦ omega (arith, ap (λ n. get_or more n 0) z, bumped_here, h k)
    | no z ↦ omega (arith, bumped_else j z, h j)
  ]

  -- The sum of all is one more at most.
  sum_bumped : (n : ℕ) → sums (λ j. get_or more j 0) n ≤ suc (sums (λ j. get_or l j 0) n)
  sum_bumped n = elim (dec_lt k n) [ yes h ↦ past n h | no h ↦ let e = before n (omega arith) in omega arith ]
    where
      before : (n : ℕ) → n ≤ k → sums (λ j. get_or more j 0) n ≡ sums (λ j. get_or l j 0) n
      before zero h = refl
      before (suc n) h = omega (arith, before n (omega arith), bumped_else n (λ z. omega arith))

      past : (n : ℕ) → k < n → sums (λ j. get_or more j 0) n ≤ suc (sums (λ j. get_or l j 0) n)
      past zero h = absurd (omega arith)
      past (suc n) h = elim (dec_lt k n) [
        | yes m ↦ omega (arith, past n m, bumped_else n (λ z. omega arith))
        | no m ↦ let e : n ≡ k = omega arith in omega (arith, before n (omega arith), ap (λ i. get_or more i 0) e, ap (λ i. get_or l i 0) e, bumped_here)
      ]

pub counted_few : (s a e m : ℕ) → s ≤ 2 * (e - a) → e ≤ WIRES_MOST → 2 * WIRES_MOST ≤ m → s ≤ m
counted_few s a e m h l k = omega arith

module _ (groups laid : List (List ℕ)) (a : ℕ) where
  share_none : (k : ℕ) → share groups laid a k 0 ≡ 0
  unfolding share
  share_none k = refl

  pub share_most : (k i : ℕ) → share groups laid a k i ≤ 2 * i
  unfolding share
  share_most k i = omega (arith, having_most (row_at laid a) k i, having_most (lane_at groups laid a) k i)

  -- A tap counted by its row and its lane.
  share_turn : (l : List ℕ) (i r q : ℕ) → r < length l → q < length l → r ≡ row_at laid a i → q ≡ lane_at groups laid a i
      → ((k : ℕ) → get_or l k 0 ≡ share groups laid a k i) → (k : ℕ)
      → get_or (set (set l r (suc (get_or l r 0))) q (suc (get_or (set l r (suc (get_or l r 0))) q 0))) k 0 ≡ share groups laid a k (suc i)
  unfolding share
  share_turn l i r q rl ql re qe h k =
      let one : List ℕ = set l r (suc (get_or l r 0)) in
      let long : q < length one = omega (arith, length-set l r (suc (get_or l r 0))) in
      let first : (j : ℕ) → get_or one j 0 ≡ having (lane_at groups laid a) j i + having (row_at laid a) j (suc i)
      = λ j. bumped_having l r rl (row_at laid a) i (having (lane_at groups laid a) j i) (sym re) j (let e = h j in omega arith) in
      let second = bumped_having one q long (lane_at groups laid a) i (having (row_at laid a) k (suc i)) (sym qe) k (let e = first k in omega arith) in
      second

  -- The counts of the taps from the a-th on, before the i-th and behind it.
  pub counts_start : (l : List ℕ) → ((k : ℕ) → get_or l k 0 ≡ 0) → (k : ℕ) → get_or l k 0 ≡ share groups laid a k 0
  counts_start l z k = z k ∙ sym (share_none k)

  pub sums_start : (l : List ℕ) → ((k : ℕ) → get_or l k 0 ≡ 0) → (n : ℕ) → sums (λ j. get_or l j 0) n ≤ 2 * 0
  sums_start l z zero = omega arith
  sums_start l z (suc n) = omega (arith, sums_start l z n, z n)

  module _ (i : ℕ) (l one two : List ℕ) (r q : ℕ) (rl : r < length l) (ql : q < length l)
      (re : r ≡ row_at laid a i) (qe : q ≡ lane_at groups laid a i) (oe : one ≡ set l r (suc (get_or l r 0))) (te : two ≡ set one q (suc (get_or one q 0))) where
    both_set : two ≡ set (set l r (suc (get_or l r 0))) q (suc (get_or (set l r (suc (get_or l r 0))) q 0))
    both_set = te ∙ (λ w. set (oe w) q (suc (get_or (oe w) q 0)))

    pub counts_turn : ((k : ℕ) → get_or l k 0 ≡ share groups laid a k i) → (k : ℕ) → get_or two k 0 ≡ share groups laid a k (i + 1)
    counts_turn c k = ap (λ m. get_or m k 0) both_set ∙ share_turn l i r q rl ql re qe c k ∙ ap (share groups laid a k) (sym (add-one i))

    pub sums_turn : ((n : ℕ) → sums (λ j. get_or l j 0) n ≤ 2 * i) → (n : ℕ) → sums (λ j. get_or two j 0) n ≤ 2 * (i + 1)
    sums_turn c n =
        let m : List ℕ = set l r (suc (get_or l r 0)) in
        let e : sums (λ j. get_or two j 0) n ≡ sums (λ j. get_or (set m q (suc (get_or m q 0))) j 0) n = λ w. sums (λ j. get_or (both_set w) j 0) n in
        omega (arith, c n, sum_bumped l r rl n, sum_bumped m q (omega (arith, length-set l r (suc (get_or l r 0)))) n)

  share_le : (k i j : ℕ) → i ≤ j → share groups laid a k i ≤ share groups laid a k j
  unfolding share
  share_le k i j h = omega (arith, having_le (row_at laid a) k i j h, having_le (lane_at groups laid a) k i j h)

  share_row : (i : ℕ) → suc (share groups laid a (row_at laid a i) i) ≤ share groups laid a (row_at laid a i) (suc i)
  unfolding share
  share_row i = omega (arith, having_more (row_at laid a) (row_at laid a i) i refl, having_le (lane_at groups laid a) (row_at laid a i) i (suc i) (omega arith))

  share_lane : (i : ℕ) → suc (share groups laid a (lane_at groups laid a i) i) ≤ share groups laid a (lane_at groups laid a i) (suc i)
  unfolding share
  share_lane i = omega (arith, having_more (lane_at groups laid a) (lane_at groups laid a i) i refl, having_le (row_at laid a) (lane_at groups laid a i) i (suc i) (omega arith))

  -- Room for the stop of the next tap.
  pub room_for : (m i lane : ℕ) (starts nexts : List ℕ) → i < m → row_at laid a i < ROWS_MOST → lane < LANES_MOST → lane_key lane ≡ lane_at groups laid a i
      → Wide groups laid a m starts → Used groups laid a i starts nexts → RoomFor (row_at laid a i) lane starts nexts
  room_for m i lane starts nexts h rs ls e w u =
      let r : ℕ = row_at laid a i in
      let q : ℕ = lane_at groups laid a i in
      let lanes : get_or nexts q 0 < get_or starts (suc q) 0 = omega (arith, u.used q (omega arith), w.wide q (omega arith), share_lane i, share_le q (suc i) m h) in
      record {
        row_small = rs;
        lane_small = ls;
        row_room = omega (arith, u.used r (omega arith), w.wide r (omega arith), share_row i, share_le r (suc i) m h);
        lane_room = subst (λ (k : ℕ). get_or nexts k 0 < get_or starts (suc k) 0) (sym e) lanes;
      }

  -- Its runs are used by one more at most, and so are counted.
  pub used_next : (i lane : ℕ) (starts nexts nexts' : List ℕ) → lane_key lane ≡ lane_at groups laid a i → Used groups laid a i starts nexts → Onward (row_at laid a i) (lane_key lane) nexts nexts'
      → Used groups laid a (suc i) starts nexts'
  used_next i lane starts nexts nexts' e u o = record { used = each }
    where
      r : ℕ
      r = row_at laid a i

      q : ℕ
      q = lane_key lane

      in_row : (k : ℕ) → k < KEYS → k ≡ r → get_or nexts' k 0 ≤ get_or starts k 0 + share groups laid a k (suc i)
      in_row k h z =
          let o' = o.here in
          let s = share_row i in
          subst (λ (j : ℕ). get_or nexts' j 0 ≤ get_or starts j 0 + share groups laid a j (suc i)) (sym z) (omega (arith, u.used r (omega arith)))

      in_lane : (k : ℕ) → k < KEYS → k ≡ q → get_or nexts' k 0 ≤ get_or starts k 0 + share groups laid a k (suc i)
      in_lane k h z =
          let s : suc (share groups laid a q i) ≤ share groups laid a q (suc i) = subst (λ (j : ℕ). suc (share groups laid a j i) ≤ share groups laid a j (suc i)) (sym e) (share_lane i) in
          let o' = o.there in
          subst (λ (j : ℕ). get_or nexts' j 0 ≤ get_or starts j 0 + share groups laid a j (suc i)) (sym z) (omega (arith, u.used q (omega arith)))

      each : (k : ℕ) → k < KEYS → get_or nexts' k 0 ≤ get_or starts k 0 + share groups laid a k (suc i)
      each k h = elim (ℕ_discrete k r) [
        | yes z ↦ in_row k h z
        | no z ↦ elim (ℕ_discrete k q) [
          | yes y ↦ in_lane k h y
          | no y ↦ omega (arith, o.others k z y, u.used k h, share_le k i (suc i) (omega arith))
        ]
      ]

  -- Counts summed up to starts.
  module _ (m : ℕ) (counts starts xs : List ℕ) (are : (k : ℕ) → get_or counts k 0 ≡ share groups laid a k m)
      (at : (k : ℕ) → k < KEYS + 1 → get_or starts k 0 ≡ sums (λ j. get_or counts j 0) k) where
    pub wide_start : Wide groups laid a m starts
    wide_start = record { wide = λ k h. omega (arith, at (suc k) (omega arith), at k (omega arith), are k) }

    pub used_start : Used groups laid a 0 starts starts
    used_start = record { used = λ k h. omega (arith, share_none k) }

    pub growing_start : KEYS < length starts → sums (λ j. get_or counts j 0) KEYS ≤ length xs → Growing KEYS starts starts xs
    growing_start long fits = growing_none (λ j. get_or counts j 0) KEYS starts xs long (λ k h. at k (omega arith)) fits
