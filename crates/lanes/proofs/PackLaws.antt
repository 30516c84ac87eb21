-- Laws of the packing loop over key rows.
use mathlib.Core.Path.{◌≡◌, refl, sym, ap, ap₂, subst, ◌∙◌}
use mathlib.Core.List.{List, [], ◌∷◌, ◌++◌, map}
use Prim.Native.Nat.{ℕ, suc, ◌+◌, ◌≤◌, ◌<◌}
use native.Mathlib.Numerals.{add-one}
use native.Mathlib.Omega.{arith}
use lib.ListN.{length, get_or, take, drop, set, length-map, get_or-map, drop_of_length-le}
use lib.Seq.{drop-cons, take-suc-set, get_or-set_other, map-set_same, take_all}
use borrow.Author.Tests.{lt-ltb, le-ltb}
use Rattle.lanes.specs.Lanes.{Entry, full, laned, lane_most, lane_for, with_tenant, pack_in}
use Rattle.lanes.specs.LaneCall.{row_most}
use Rattle.lanes.specs.Keys.{entry_of, index_in, lane_in, Fitting, spread, lanes_in}

-- the two ways of a step
module _ (e : Entry) (es : List Entry) (ends lanes : List ℕ) where
  pub pack_seat : lane_for e.demand.first ends < lane_most
      → pack_in (e ∷ es) ends lanes
      ≡ pack_in es (with_tenant (lane_for e.demand.first ends) e.demand.last ends) (set lanes e.index (lane_for e.demand.first ends))
  unfolding pack_in
  pack_seat h = rw (lt-ltb (lane_for e.demand.first ends) lane_most h, pack_in)

  pub pack_full : lane_most ≤ lane_for e.demand.first ends → pack_in (e ∷ es) ends lanes ≡ full e.index
  unfolding pack_in
  pack_full h = rw (le-ltb (lane_for e.demand.first ends) lane_most h, pack_in)

-- one more row spread
pub spread_last : {A : Type 0} (put : A → ℕ → A) (d : A) (ks : List (List ℕ)) (k : List ℕ) (xs : List A)
    → spread put d (ks ++ (k ∷ [])) xs ≡ set (spread put d ks xs) (index_in k) (put (get_or (spread put d ks xs) (index_in k) d) (lane_in k))
unfolding spread
spread_last put d [] k xs = refl
spread_last put d (x ∷ ks) k xs = spread_last put d ks k (set xs (index_in x) (put (get_or xs (index_in x) d) (lane_in x)))

-- a lane in a key row's last column alters nothing else
module _ (row : List ℕ) (lane : ℕ) where
  pub lane_beside : (j : ℕ) → j < 7 → get_or (set row 7 lane) j 0 ≡ get_or row j 0
  lane_beside j h = get_or-set_other row 7 j lane 0 (omega arith)

  pub entry_kept : entry_of (set row 7 lane) ≡ entry_of row
  unfolding entry_of
  entry_kept = rw (lane_beside 1 (omega arith), lane_beside 3 (omega arith), lane_beside 4 (omega arith), lane_beside 5 (omega arith), lane_beside 6 (omega arith))

-- key rows that hold the same entries fit alike
module _ (keys₀ keys : List (List ℕ)) (same : map entry_of keys ≡ map entry_of keys₀) (fits : Fitting keys₀) (k : ℕ) (h : k < length keys) where
  same_entry : entry_of (get_or keys k []) ≡ entry_of (get_or keys₀ k [])
  same_entry = sym (get_or-map entry_of keys k []) ∙ (ap (λ (l : List Entry). get_or l k (entry_of [])) same ∙ get_or-map entry_of keys₀ k [])

  inside : k < length keys₀
  inside = let e : length keys ≡ length keys₀ = sym (length-map keys entry_of) ∙ (ap length same ∙ length-map keys₀ entry_of) in omega arith

  pub row_fits : (get_or (get_or keys k []) 4 0 ≤ row_most) × (get_or (get_or keys k []) 5 0 ≤ row_most)
  unfolding entry_of
  row_fits = subst (λ (e : Entry). (e.demand.first ≤ row_most) × (e.demand.last ≤ row_most)) (sym same_entry) (fits k inside)

-- after k rows the definition goes on from the table and the lanes spread so far
abbrev pub Rest : List (List ℕ) → List (List ℕ) → List ℕ → ℕ → Type 0
Rest keys₀ keys ends k =
    (lanes : List ℕ) → pack_in (map entry_of keys₀) [] lanes ≡ pack_in (drop k (map entry_of keys₀)) ends (lanes_in (take k keys) lanes)

module _ (keys₀ keys : List (List ℕ)) (k : ℕ) (ends : List ℕ) (same : map entry_of keys ≡ map entry_of keys₀) (so_far : Rest keys₀ keys ends k) where
  pub rest_done : length keys ≤ k → (lanes : List ℕ) → pack_in (map entry_of keys₀) [] lanes ≡ laned (lanes_in keys lanes) (length ends)
  unfolding pack_in
  rest_done h lanes =
      so_far lanes
      ∙ rw (drop_of_length-le (map entry_of keys₀) {i = k} (rw (← same, length-map keys entry_of) h), take_all k keys h)

  module _ (h : k < length keys) where
    entry_at : drop k (map entry_of keys₀) ≡ entry_of (get_or keys k []) ∷ drop (suc k) (map entry_of keys₀)
    entry_at =
        drop-cons (map entry_of keys₀) k (entry_of []) (rw (← same, length-map keys entry_of) h)
        ∙ ap (λ (e : Entry). e ∷ drop (suc k) (map entry_of keys₀)) (ap (λ (l : List Entry). get_or l k (entry_of [])) (sym same) ∙ get_or-map entry_of keys k [])

    pub rest_full : lane_most ≤ lane_for (get_or (get_or keys k []) 4 0) ends → (lanes : List ℕ) → pack_in (map entry_of keys₀) [] lanes ≡ full (index_in (get_or keys k []))
    unfolding entry_of
    rest_full m lanes =
        so_far lanes
        ∙ (ap (λ (l : List Entry). pack_in l ends (lanes_in (take k keys) lanes)) entry_at
        ∙ pack_full (entry_of (get_or keys k [])) (drop (suc k) (map entry_of keys₀)) ends (lanes_in (take k keys) lanes) m)

    module _ (lane : ℕ) (r : List ℕ) (row : r ≡ set (get_or keys k []) 7 lane) where
      pub same_more : map entry_of (set keys k r) ≡ map entry_of keys₀
      same_more = map-set_same entry_of keys k r [] (ap entry_of row ∙ entry_kept (get_or keys k []) lane) ∙ same

      one_more : lane_in r ≡ lane → (lanes : List ℕ) → lanes_in (take (k + 1) (set keys k r)) lanes ≡ set (lanes_in (take k keys) lanes) (index_in (get_or keys k [])) lane
      one_more l lanes =
          rw (add-one k, take-suc-set keys k r h)
          (spread_last (λ (old lane : ℕ). lane) 0 (take k keys) r lanes
          ∙ ap₂ (set (lanes_in (take k keys) lanes)) (ap index_in row ∙ lane_beside (get_or keys k []) lane 3 (omega arith)) l)

      pub rest_more : lane_in r ≡ lane → lane ≡ lane_for (get_or (get_or keys k []) 4 0) ends → lane < lane_most
          → (next : List ℕ) → next ≡ with_tenant lane (get_or (get_or keys k []) 5 0) ends → Rest keys₀ (set keys k r) next (k + 1)
      unfolding entry_of
      rest_more l f m next w lanes =
          so_far lanes
          ∙ (ap (λ (l : List Entry). pack_in l ends (lanes_in (take k keys) lanes)) entry_at
          ∙ (pack_seat (entry_of (get_or keys k [])) (drop (suc k) (map entry_of keys₀)) ends (lanes_in (take k keys) lanes) (rw (← f) m)
          ∙ rw (← f, ← one_more l lanes, w) (ap (λ (j : ℕ). pack_in (drop j (map entry_of keys₀)) (with_tenant lane (get_or (get_or keys k []) 5 0) ends) (lanes_in (take (k + 1) (set keys k r)) lanes)) (sym (add-one k)))))
