-- Laws of the lane table: a lane is found, and gets its tenant.
use mathlib.Core.Path.{◌≡◌, refl, sym, ap, subst, ◌∙◌}
use mathlib.Core.Bool.{Bool, true, false}
use mathlib.Core.List.{List, [], ◌∷◌, ◌++◌, map}
use Prim.Native.Nat.{ℕ, zero, suc, ◌+◌, ◌-◌, ◌≤◌, ◌<◌, max}
use native.Mathlib.Numerals.{add-one}
use native.Mathlib.Omega.{arith}
use lib.ListN.{length, get_or, take, drop, set, length-drop}
use lib.Seq.{take_all, take-set-lt, take-suc-set, length-take-le}
use Rattle.std.proofs.lemmas.List.{get_or-take, get_or-drop}
use Rattle.lanes.specs.Table.{NoneBefore}
use lib.Dec.{ltb}
use borrow.Author.Tests.{le-ltb, ltb-true, ltb-false}
use Rattle.lanes.specs.Lanes.{first_that, lane_for, with_tenant}
use Rattle.std.specs.Prelude.{Some, None}
use Rattle.std.specs.List.{position}
use Rattle.lanes.proofs.FindLaws.{Passed, passed_more, position_some, position_none, first_within}

-- in an open lane the last row is replaced, and a new lane comes behind the open ones
pub tenant_set : (l last : ℕ) (ends : List ℕ) → l < length ends → with_tenant l last ends ≡ set ends l last
unfolding with_tenant
tenant_set l last [] h = absurd (omega arith)
tenant_set zero last (e ∷ es) h = refl
tenant_set (suc l) last (e ∷ es) h = ap {B = List ℕ} (λ r. e ∷ r) (tenant_set l last es (omega arith))

pub tenant_new : (l last : ℕ) (ends : List ℕ) → length ends ≡ l → with_tenant l last ends ≡ ends ++ (last ∷ [])
unfolding with_tenant
tenant_new l last [] h = refl
tenant_new zero last (e ∷ es) h = absurd (omega arith)
tenant_new (suc l) last (e ∷ es) h = ap {B = List ℕ} (λ r. e ∷ r) (tenant_new l last es (omega arith))

-- the same where the open lanes are the front of a table
module _ (ends : List ℕ) (count l last : ℕ) where
  pub table_set : l < count → count ≤ length ends → take count (set ends l last) ≡ with_tenant l last (take count ends)
  table_set h k = take-set-lt count ends l last h ∙ sym (tenant_set l last (take count ends) (rw (length-take-le count ends k) h))

  pub table_new : l ≡ count → count < length ends → take (l + 1) (set ends l last) ≡ with_tenant l last (take count ends)
  table_new h k = rw (h, add-one count) (take-suc-set ends count last k ∙ sym (tenant_new count last (take count ends) (length-take-le count ends (omega arith))))

  -- in either case
  pub table_after : l ≤ count → count ≤ length ends → l < length ends → take (max count (l + 1)) (set ends l last) ≡ with_tenant l last (take count ends)
  table_after h k m = go (ltb l count) refl
    where
      go : (b : Bool) → ltb l count ≡ b → take (max count (l + 1)) (set ends l last) ≡ with_tenant l last (take count ends)
      go true t = let still : max count (l + 1) ≡ count = omega (arith, ltb-true l count t) in rw still (table_set (ltb-true l count t) k)
      go false t =
          let e : l ≡ count = omega (arith, h, ltb-false l count t) in
          let opened : max count (l + 1) ≡ l + 1 = omega (arith, e) in
          rw opened (table_new e (omega arith))

-- the search for a lane over the open ones
map-id : {A : Type 0} → (xs : List A) → map (λ x. x) xs ≡ xs
map-id [] = refl
map-id {A} (x ∷ xs) = ap {B = List A} (λ ys. x ∷ ys) (map-id xs)

abbrev pub ends_before : ℕ → ℕ → Bool
ends_before first end = ltb end first

module _ (ends : List ℕ) (first l : ℕ) (so_far : Passed (ends_before first) ends l) where
  -- several at once
  pub lanes_passed : (n : ℕ) → l + n ≤ length ends → ((j : ℕ) → j < n → first ≤ get_or ends (l + j) 0) → Passed (ends_before first) ends (l + n)
  lanes_passed zero h none = let e : l + 0 ≡ l = omega arith in rw e so_far
  lanes_passed (suc n) h none =
      let e : l + suc n ≡ l + n + 1 = omega arith in
      let p : Passed (ends_before first) ends (l + n) = lanes_passed n (omega arith) (λ j k. none j (omega (arith, k))) in
      rw e (passed_more (ends_before first) ends (l + n) p 0 (omega arith) (le-ltb _ _ (none n (omega arith))))

  -- eight, asked in a slice
  pub eight_passed : l + 8 ≤ length ends → NoneBefore first (take (l + 8 - l) (drop l ends)) → Passed (ends_before first) ends (l + 8)
  eight_passed h none = lanes_passed 8 h (λ j k. subst (λ (end : ℕ). first ≤ end) (at j k) (none j (rw (long) k)))
    where
      eight : l + 8 - l ≡ 8
      eight = omega arith

      long : length (take (l + 8 - l) (drop l ends)) ≡ 8
      long = length-take-le (l + 8 - l) (drop l ends) (omega (arith, length-drop l ends)) ∙ eight

      at : (j : ℕ) → j < 8 → get_or (take (l + 8 - l) (drop l ends)) j 0 ≡ get_or ends (l + j) 0
      at j k = get_or-take (l + 8 - l) (drop l ends) j 0 (omega arith) ∙ get_or-drop l ends j 0

  -- the library's search goes on behind the lanes passed
  rest_all : take (length ends - l) (drop l ends) ≡ drop l ends
  rest_all = take_all (length ends - l) (drop l ends) (omega (arith, length-drop l ends))

  pub lane_found : (i : ℕ) → position (ends_before first) (take (length ends - l) (drop l ends)) ≡ Some i → l + i ≡ lane_for first ends
  unfolding lane_for
  lane_found i e =
      let here = (position_some (ends_before first) (λ end. end) (take (length ends - l) (drop l ends)) i e).0 in
      let same = ap (first_that (ends_before first)) (map-id (take (length ends - l) (drop l ends)) ∙ rest_all) in
      omega (arith, so_far, here, same)

  pub lane_none : l ≤ length ends → position (ends_before first) (take (length ends - l) (drop l ends)) ≡ None → length ends ≡ lane_for first ends
  unfolding lane_for
  lane_none h e =
      let past = position_none (ends_before first) (λ end. end) (take (length ends - l) (drop l ends)) e in
      let same = ap (first_that (ends_before first)) (map-id (take (length ends - l) (drop l ends)) ∙ rest_all) in
      omega (arith, h, so_far, past, same, ap length rest_all, first_within (ends_before first) (drop l ends), length-drop l ends)
