-- A table read through a view.
use Prim.Native.Nat.{ℕ, zero, suc, ◌≤◌, ◌<◌}
use mathlib.Core.Path.{◌≡◌, refl, ap, sym, ◌∙◌}
use mathlib.Core.List.{List, [], ◌∷◌, ◌++◌, map, reverse, reverse-append, Memᴰ}
use native.Mathlib.Omega.{arith}
use native.Mathlib.Decide.{dec_lt}
use lib.ListN.{length, get_or, take, set}
use lib.Seq.{take-suc, get_or-set_same, get_or-set_other}
use Rattle.base.specs.Views.{view}

pub map_snoc : {A B : Type 0} (f : A → B) (l : List A) (x : A) → map f (l ++ (x ∷ [])) ≡ map f l ++ (f x ∷ [])
map_snoc f [] x = refl
map_snoc {B = B} f (y ∷ l) x = ap {B = List B} (λ r. f y ∷ r) (map_snoc f l x)

module _ {A : Type 0} (read : List ℕ → A) where
  -- A view is the rows read, turned round.
  pub view-take : (s : List (List ℕ)) (n : ℕ) → n ≤ length s → view read s n ≡ reverse (map read (take n s))
  view-take s zero h = refl
  view-take s (suc n) h =
      let below : view read s n ≡ reverse (map read (take n s)) = view-take s n (omega arith) in
      let last : map read (take (suc n) s) ≡ map read (take n s) ++ (read (get_or s n []) ∷ []) = rw (take-suc s n []) (map_snoc read (take n s) (get_or s n [])) in
      ap {B = List A} (λ r. read (get_or s n []) ∷ r) below ∙ sym (ap (λ r. reverse r) last ∙ reverse-append (map read (take n s)) (read (get_or s n []) ∷ []))

  -- A store above the rows seen leaves the view; a store at the next row puts what it holds in front.
  pub view-set : (s : List (List ℕ)) (i : ℕ) (row : List ℕ) (n : ℕ) → n ≤ i → view read (set s i row) n ≡ view read s n
  view-set s i row zero h = refl
  view-set s i row (suc n) h =
      let here : get_or (set s i row) n [] ≡ get_or s n [] = get_or-set_other s i n row [] (λ e. omega arith) in
      let below : view read (set s i row) n ≡ view read s n = view-set s i row n (omega arith) in
      λ w. read (here w) ∷ below w

  pub view_more : (s : List (List ℕ)) (n : ℕ) (row : List ℕ) → n < length s → view read (set s n row) (suc n) ≡ read row ∷ view read s n
  view_more s n row h =
      let here : get_or (set s n row) n [] ≡ row = get_or-set_same s n row [] h in
      let below : view read (set s n row) n ≡ view read s n = view-set s n row n (omega arith) in
      λ w. read (here w) ∷ below w

  -- Each row seen is in the view.
  pub view_mem : (s : List (List ℕ)) (n k : ℕ) → k < n → Memᴰ (read (get_or s k [])) (view read s n)
  view_mem s zero k h = absurd (omega arith)
  view_mem s (suc n) k h = go (dec_lt k n) (λ l. view_mem s n k l)
    where
      go : Dec (k < n) → (k < n → Memᴰ (read (get_or s k [])) (view read s n)) → Memᴰ (read (get_or s k [])) (view read s (suc n))
      go (yes l) below = Memᴰ.tail (below l)
      go (no o) below = let same : k ≡ n = omega arith in Memᴰ.head (ap (λ i. read (get_or s i [])) same)

  pub length-view : (s : List (List ℕ)) (n : ℕ) → length (view read s n) ≡ n
  length-view s zero = refl
  length-view s (suc n) = ap suc (length-view s n)
