-- Lanes spread from key rows that have every index: each element gets its own, whatever stood there.
use mathlib.Core.Path.{◌≡◌, refl, sym, ap, ap₂, ◌∙◌}
use mathlib.Core.Logic.{⊎_elim}
use mathlib.Core.List.{List, [], ◌∷◌, ◌++◌, map}
use Prim.Native.Nat.{ℕ, zero, suc, ◌+◌, ◌≤◌, ◌<◌}
use native.Mathlib.Decide.{ℕ_discrete}
use native.Mathlib.Numerals.{add-one}
use native.Mathlib.Omega.{arith}
use lib.ListN.{length, get_or, take, drop, set, replicate, length-set, length-replicate, take-append-drop, get_or-append}
use lib.Seq.{get_or-set_same, get_or-set_other, set-append_left, ext_get_or, length-take-le, take-suc, take_all}
use Rattle.lanes.specs.Keys.{index_in, lane_in, spread, lanes_in, each_with, lane_column, with_lane}
use Rattle.lanes.proofs.PackLaws.{spread_last}
use Rattle.base.proofs.Every.{All, Any}

-- key rows that have every index below n and no other
pub record Covers (n : ℕ) (ks : List (List ℕ)) : Type 0 where
  pub within : All (λ k. index_in k < n) ks
  pub every : (i : ℕ) → i < n → Any (λ k. index_in k ≡ i) ks

module _ {A : Type 0} (put : A → ℕ → A) (d : A) where
  pub length-spread : (ks : List (List ℕ)) (xs : List A) → length (spread put d ks xs) ≡ length xs
  unfolding spread
  length-spread [] xs = refl
  length-spread (k ∷ ks) xs = length-spread ks (set xs (index_in k) (put (get_or xs (index_in k) d) (lane_in k))) ∙ length-set xs (index_in k) _

  pub spread-append : (ks : List (List ℕ)) (xs rest : List A) → All (λ k. index_in k < length xs) ks → spread put d ks (xs ++ rest) ≡ spread put d ks xs ++ rest
  unfolding spread
  spread-append [] xs rest a = refl
  spread-append (k ∷ ks) xs rest a =
      rw (get_or-append xs rest d (index_in k) a.0, set-append_left xs rest (index_in k) (put (get_or xs (index_in k) d) (lane_in k)) a.0)
      (spread-append ks (set xs (index_in k) (put (get_or xs (index_in k) d) (lane_in k))) rest (rw (length-set xs (index_in k) (put (get_or xs (index_in k) d) (lane_in k))) a.1))

  module _ (absorbs : (x : A) (a b : ℕ) → put (put x a) b ≡ put x b) (i : ℕ) where
    -- once an element has the lane that stands beside it, it goes with it
    in_step : (ks : List (List ℕ)) (x : A) (xs : List A) (lanes : List ℕ) → i < length xs → i < length lanes
        → get_or xs i d ≡ put x (get_or lanes i 0) → get_or (spread put d ks xs) i d ≡ put x (get_or (lanes_in ks lanes) i 0)
    unfolding spread
    in_step [] x xs lanes h l e = e
    in_step (k ∷ ks) x xs lanes h l e =
        in_step ks x (set xs (index_in k) (put (get_or xs (index_in k) d) (lane_in k))) (set lanes (index_in k) (lane_in k))
        (rw (length-set xs (index_in k) (put (get_or xs (index_in k) d) (lane_in k))) h) (rw (length-set lanes (index_in k) (lane_in k)) l)
        (go (ℕ_discrete i (index_in k)))
      where
        go : Dec (i ≡ index_in k) → get_or (set xs (index_in k) (put (get_or xs (index_in k) d) (lane_in k))) i d ≡ put x (get_or (set lanes (index_in k) (lane_in k)) i 0)
        go (yes p) = rw (← p, get_or-set_same xs i (put (get_or xs i d) (lane_in k)) d h, get_or-set_same lanes i (lane_in k) 0 l, e) (absorbs x (get_or lanes i 0) (lane_in k))
        go (no f) = rw (get_or-set_other xs (index_in k) i (put (get_or xs (index_in k) d) (lane_in k)) d f, get_or-set_other lanes (index_in k) i (lane_in k) 0 f) e

    pub spread_at : (ks : List (List ℕ)) (xs : List A) (lanes : List ℕ) → i < length xs → i < length lanes
        → Any (λ k. index_in k ≡ i) ks → get_or (spread put d ks xs) i d ≡ put (get_or xs i d) (get_or (lanes_in ks lanes) i 0)
    unfolding spread
    spread_at [] xs lanes h l c = absurd c
    spread_at (k ∷ ks) xs lanes h l c = go (ℕ_discrete i (index_in k)) (spread_at ks next nexts nh nl)
      where
        next : List A
        next = set xs (index_in k) (put (get_or xs (index_in k) d) (lane_in k))

        nexts : List ℕ
        nexts = set lanes (index_in k) (lane_in k)

        nh : i < length next
        nh = rw (length-set xs (index_in k) (put (get_or xs (index_in k) d) (lane_in k))) h

        nl : i < length nexts
        nl = rw (length-set lanes (index_in k) (lane_in k)) l

        go : Dec (i ≡ index_in k) → (Any (λ r. index_in r ≡ i) ks → get_or (spread put d ks next) i d ≡ put (get_or next i d) (get_or (lanes_in ks nexts) i 0))
            → get_or (spread put d ks next) i d ≡ put (get_or xs i d) (get_or (lanes_in ks nexts) i 0)
        go (yes p) ih = in_step ks (get_or xs i d) next nexts nh nl (rw (← p, get_or-set_same xs i (put (get_or xs i d) (lane_in k)) d h, get_or-set_same lanes i (lane_in k) 0 l))
        go (no f) ih = ⊎_elim (λ p. absurd (f (sym p))) (λ t. ih t ∙ ap (λ (y : A). put y (get_or (lanes_in ks nexts) i 0)) (get_or-set_other xs (index_in k) i (put (get_or xs (index_in k) d) (lane_in k)) d f)) c

  pub length_each : (xs : List A) (lanes : List ℕ) → length (each_with put xs lanes) ≡ length xs
  unfolding each_with
  length_each [] lanes = refl
  length_each (x ∷ xs) [] = refl
  length_each (x ∷ xs) (l ∷ lanes) = ap suc (length_each xs lanes)

  pub each_at : (xs : List A) (lanes : List ℕ) (i : ℕ) → i < length xs → i < length lanes → get_or (each_with put xs lanes) i d ≡ put (get_or xs i d) (get_or lanes i 0)
  unfolding each_with
  each_at [] lanes i h l = absurd (omega arith)
  each_at (x ∷ xs) [] i h l = absurd (omega arith)
  each_at (x ∷ xs) (y ∷ lanes) zero h l = refl
  each_at (x ∷ xs) (y ∷ lanes) (suc i) h l = each_at xs lanes i (omega arith) (omega arith)

-- a loop that spreads one row a turn
module _ {A : Type 0} (put : A → ℕ → A) (d : A) (keys : List (List ℕ)) (k : ℕ) (xs₀ xs : List A) (so_far : xs ≡ spread put d (take k keys) xs₀) where
  pub spread_more : k < length keys → (i : ℕ) → i ≡ index_in (get_or keys k []) → set xs i (put (get_or xs i d) (lane_in (get_or keys k []))) ≡ spread put d (take (k + 1) keys) xs₀
  spread_more h i e = rw (e, so_far, add-one k, take-suc keys k [] h) (sym (spread_last put d (take k keys) (get_or keys k []) xs₀))

  pub spread_done : length keys ≤ k → xs ≡ spread put d keys xs₀
  spread_done h = so_far ∙ ap (λ (ks : List (List ℕ)). spread put d ks xs₀) (take_all k keys h)

pub length_lanes : (ks : List (List ℕ)) (lanes : List ℕ) → length (lanes_in ks lanes) ≡ length lanes
length_lanes ks lanes = length-spread (λ (old lane : ℕ). lane) 0 ks lanes

module _ {A : Type 0} (put : A → ℕ → A) (d : A) where
  -- a whole list, beside any list of lanes of the same length
  pub spread_each : ((x : A) (a b : ℕ) → put (put x a) b ≡ put x b) → (ks : List (List ℕ)) (xs : List A) (lanes : List ℕ) → length lanes ≡ length xs
      → Covers (length xs) ks → spread put d ks xs ≡ each_with put xs (lanes_in ks lanes)
  spread_each absorbs ks xs lanes e c =
      ext_get_or d (spread put d ks xs) (each_with put xs (lanes_in ks lanes)) (length-spread put d ks xs ∙ sym (length_each put d xs (lanes_in ks lanes)))
      (λ i h. at i (rw (length-spread put d ks xs) at h))
    where
      at : (i : ℕ) → i < length xs → get_or (spread put d ks xs) i d ≡ get_or (each_with put xs (lanes_in ks lanes)) i d
      at i h =
          spread_at put d absorbs i ks xs lanes h (rw e h) (c.every i h)
          ∙ sym (each_at put d xs (lanes_in ks lanes) i h (rw (length_lanes ks lanes, e) h))

-- lanes alone: the buffer's front is the lanes of an empty one, and the rest is as it was
each_lanes : (xs lanes : List ℕ) → length lanes ≡ length xs → each_with (λ old lane. lane) xs lanes ≡ lanes
unfolding each_with
each_lanes [] [] h = refl
each_lanes [] (l ∷ lanes) h = absurd (omega arith)
each_lanes (x ∷ xs) [] h = absurd (omega arith)
each_lanes (x ∷ xs) (l ∷ lanes) h = ap {B = List ℕ} (λ r. l ∷ r) (each_lanes xs lanes (omega arith))

pub lanes_front : (n : ℕ) (ks : List (List ℕ)) (old : List ℕ) → n ≤ length old → Covers n ks → lanes_in ks old ≡ lanes_in ks (replicate n 0) ++ drop n old
lanes_front n ks old h c =
    ap (lanes_in ks) (sym (take-append-drop n old))
    ∙ (spread-append (λ (old lane : ℕ). lane) 0 ks (take n old) (drop n old) (rw (length-take-le n old h) c.within)
    ∙ ap (λ (l : List ℕ). l ++ drop n old)
    (spread_each (λ (old lane : ℕ). lane) 0 (λ x a b. refl) ks (take n old) (replicate n 0) same_long (rw (length-take-le n old h) c)
    ∙ each_lanes (take n old) (lanes_in ks (replicate n 0)) (length_lanes ks (replicate n 0) ∙ same_long)))
  where
    same_long : length {A = ℕ} (replicate n 0) ≡ length (take n old)
    same_long = length-replicate n 0 ∙ sym (length-take-le n old h)

-- rows: the fifth column is the lanes
pub lane_column_lem : (rows : List (List ℕ)) (lanes : List ℕ) → All (λ row. length row ≡ 8) rows → length lanes ≡ length rows → map lane_column (each_with with_lane rows lanes) ≡ lanes
unfolding each_with
lane_column_lem [] [] a h = refl
lane_column_lem [] (l ∷ lanes) a h = absurd (omega arith)
lane_column_lem (r ∷ rows) [] a h = absurd (omega arith)
lane_column_lem (r ∷ rows) (l ∷ lanes) a h = ap₂ {C = List ℕ} (λ x xs. x ∷ xs) (get_or-set_same r 4 l 0 (omega (arith, a.0))) (lane_column_lem rows lanes a.1 (omega arith))
