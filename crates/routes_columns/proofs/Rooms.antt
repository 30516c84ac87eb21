-- Room for the claims of each lane: counted by stops and taps, summed up to starts, and filled with what the stops put.
use Prim.Native.Nat.{ℕ, zero, suc, ◌+◌, ◌*◌, ◌≤◌, ◌<◌}
use mathlib.Core.Path.{◌≡◌, refl, sym, subst, ◌∙◌}
use mathlib.Core.Bool.{Bool, true, false, not, ◌&&◌}
use mathlib.Core.List.{List, []}
use native.Mathlib.Omega.{arith}
use native.Mathlib.Numerals.{add-one}
use lib.Dec.{eqb, ltb}
use lib.ListN.{length, get_or, replicate, length-replicate}
use borrow.Author.Tests.{ltb-true}
use Rattle.base.specs.Runs.{having, sums}
use Rattle.base.specs.Growing.{Growing, Put, Filled}
use Rattle.base.proofs.RunLaws.{having_le, having_more, start_most, zeros_at}
use Rattle.base.proofs.GrowLaws.{growing_none, filled_to, filled_more}
use Rattle.board.specs.Board.{field}
use Rattle.routes_taps.specs.Taps.{LaidInRange}
use Rattle.routes_columns.specs.Columns.{lane_key, keys_of, own_key, stop_key, tap_key, level_at, room_of, TapKeyed, AskRoom}

-- A stop's run is one of the pages', or the one behind them.
pub own_small : (pages : ℕ) (r : List ℕ) → own_key pages r < keys_of pages
own_small pages r = go (not (eqb (get_or r 6 0) 0) && not (eqb (get_or r 6 0) 1)) (ltb (get_or r 0 0) pages) (ltb (get_or r 1 0) 512) refl refl
  where
    go : (k a b : Bool) → ltb (get_or r 0 0) pages ≡ a → ltb (get_or r 1 0) 512 ≡ b → elim (k && a && b) [ true ↦ lane_key (get_or r 0 0) (get_or r 1 0) | false ↦ pages * 512 ] < keys_of pages
    go true true true e f = omega (arith, ltb-true (get_or r 0 0) pages e, ltb-true (get_or r 1 0) 512 f)
    go true true false e f = omega arith
    go true false b e f = omega arith
    go false a b e f = omega arith

-- All room together is one claim a stop and two a tap.
room_sum : (pages : ℕ) (groups laid : List (List ℕ)) (n : ℕ) (stops : List (List ℕ)) (s k : ℕ)
    → sums (room_of pages groups laid n stops s) k ≡ sums (λ j. having (stop_key pages stops) j s) k + 2 * sums (λ j. having (tap_key groups laid) j n) k
room_sum pages groups laid n stops s zero = refl
room_sum pages groups laid n stops s (suc k) = omega (arith, room_sum pages groups laid n stops s k)

pub room_most : (pages : ℕ) (groups laid : List (List ℕ)) (n : ℕ) (stops : List (List ℕ)) (s k : ℕ) → sums (room_of pages groups laid n stops s) k ≤ s + 2 * n
room_most pages groups laid n stops s k = omega (arith, room_sum pages groups laid n stops s k, start_most (stop_key pages stops) s k, start_most (tap_key groups laid) n k)

sums_same : (f g : ℕ → ℕ) (k : ℕ) → ((j : ℕ) → f j ≡ g j) → sums f k ≡ sums g k
sums_same f g zero h = refl
sums_same f g (suc k) h = omega (arith, sums_same f g k h, h k)

pub counts_room : (pages : ℕ) (groups laid : List (List ℕ)) (n : ℕ) (stops : List (List ℕ)) (s : ℕ) (counts counts' : List ℕ) → ((j : ℕ) → get_or counts j 0 ≡ having (stop_key pages stops) j s)
    → ((j : ℕ) → get_or counts' j 0 ≡ get_or counts j 0 + 2 * having (tap_key groups laid) j n) → (k : ℕ) → sums (λ j. get_or counts' j 0) k ≡ sums (room_of pages groups laid n stops s) k
counts_room pages groups laid n stops s counts counts' c d k = sums_same (λ j. get_or counts' j 0) (room_of pages groups laid n stops s) k (λ j. omega (arith, c j, d j))

-- One stop's level is put.
module _ (pages : ℕ) (stops : List (List ℕ)) (s i : ℕ) {starts nexts xs : List ℕ} (f : Filled (stop_key pages stops) (level_at stops) i (keys_of pages) starts nexts xs) (h : i < s)
    (room : (k : ℕ) → k < keys_of pages → get_or starts k 0 + having (stop_key pages stops) k s ≤ get_or starts (suc k) 0) (k : ℕ) (e : k ≡ stop_key pages stops i) where
  stop_on : stop_key pages stops i < keys_of pages
  stop_on = own_small pages (get_or stops i [])

  stop_room_lem : get_or starts (stop_key pages stops i) 0 + having (stop_key pages stops) (stop_key pages stops i) i < get_or starts (suc (stop_key pages stops i)) 0
  stop_room_lem =
      omega (arith, room (stop_key pages stops i) stop_on, having_more (stop_key pages stops) (stop_key pages stops i) i refl, having_le (stop_key pages stops) (stop_key pages stops i) (suc i) s h)

  pub stop_fits : (k < length nexts) × (get_or nexts k 0 < length xs)
  stop_fits =
      let g = f.grows in
      let q : ℕ = stop_key pages stops i in
      subst (λ (j : ℕ). (j < length nexts) × (get_or nexts j 0 < length xs)) (sym e)
      (omega (arith, stop_on, g.nexts_long), omega (arith, stop_room_lem, filled_to (stop_key pages stops) (level_at stops) f q stop_on, g.rising (suc q) (keys_of pages) stop_on (omega arith), g.inside))

  pub stop_put : {nexts' xs' : List ℕ} → Put k (level_at stops i) nexts xs nexts' xs' → Filled (stop_key pages stops) (level_at stops) (i + 1) (keys_of pages) starts nexts' xs'
  stop_put {nexts'} {xs'} put =
      rw (add-one i) (filled_more (stop_key pages stops) (level_at stops) f (subst (λ (j : ℕ). Put j (level_at stops i) nexts xs nexts' xs') e put) stop_on stop_room_lem)

-- Each tap's lane has a run.
pub taps_keyed : {pages nodes wires facts groups laid : List (List ℕ)} {n : ℕ} {stops : List (List ℕ)} {s : ℕ} → LaidInRange pages nodes wires facts groups laid n stops s → length pages ≤ 64
    → ((k : ℕ) → k < n → field groups (field laid k 1) 4 < 512) → (k : ℕ) → k < n → TapKeyed groups laid k
taps_keyed r few lanes k h =
    let l = r.lanes k h in
    let on = l.on_pages in
    record { on_laid = let a = r.on_laid in omega arith; on_groups = l.on_groups; page = omega arith; lane = lanes k h }

-- Before the counting: nothing is counted yet.
pub no_counts : (m : ℕ) → 32770 ≤ m → (32770 ≤ length (replicate {A = ℕ} m 0)) × ((j : ℕ) → get_or (replicate {A = ℕ} m 0) j 0 ≡ 0)
no_counts m h = (rw (length-replicate {A = ℕ} m 0) h, zeros_at m)

pub still_long : (m : ℕ) (starts : List ℕ) → 32770 ≤ m → length starts ≡ length (replicate {A = ℕ} m 0) → 32770 ≤ length starts
still_long m starts h e = let l = e ∙ length-replicate {A = ℕ} m 0 in omega arith

-- From the starts of the runs to the first question.
module _ (pages : ℕ) (groups laid : List (List ℕ)) (n : ℕ) (stops : List (List ℕ)) (s : ℕ) (starts : List ℕ) (few : pages ≤ 64) (fewer : s ≤ n) (most : n ≤ 8192) (long : 32770 ≤ length starts)
    (made : (k : ℕ) → k ≤ keys_of pages → get_or starts k 0 ≡ sums (room_of pages groups laid n stops s) k) (m : ℕ) (wide : 24576 ≤ m) (small : m < 4294967296) where
  pub starts_grow : Growing (keys_of pages) starts starts (replicate m 0)
  starts_grow =
      growing_none (room_of pages groups laid n stops s) (keys_of pages) starts (replicate m 0) (omega arith) made
      (rw (length-replicate {A = ℕ} m 0) (omega (arith, room_most pages groups laid n stops s (keys_of pages))))

  pub stops_room : (k : ℕ) → k < keys_of pages → get_or starts k 0 + having (stop_key pages stops) k s ≤ get_or starts (suc k) 0
  stops_room k h = omega (arith, made k (omega arith), made (suc k) h)

  pub ask_room : (nexts xs : List ℕ) (asked : List (List ℕ)) → Filled (stop_key pages stops) (level_at stops) s (keys_of pages) starts nexts xs → length xs ≡ length (replicate {A = ℕ} m 0) → n ≤ length asked
      → ((k : ℕ) → k < n → TapKeyed groups laid k) → AskRoom pages groups laid n starts nexts xs asked
  ask_room nexts xs asked f same rows keyed =
      record {
        keyed = keyed;
        grows = f.grows;
        room = λ k h. omega (arith, made k (omega arith), made (suc k) h, filled_to (stop_key pages stops) (level_at stops) f k h);
        small = let e = same ∙ length-replicate {A = ℕ} m 0 in omega arith;
        rows = rows;
      }
