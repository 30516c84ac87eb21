-- Distinct numbers: a list has no more of them than one that includes it.
use Rattle.std.proofs.Common.{◌≡◌, ℕ, suc, ◌≤◌, Bool, true, false, not, eqb, ◌⊎◌, List, [], ◌∷◌, length, sym, refl, inl, inr, arith, eq-eqb, eqb-true}
use mathlib.Core.List.Memᴰ
use mathlib.Core.List.{Memᴰ}
use borrow.Author.Tests.{eqb-false, not-true}
use Rattle.base.specs.Lists.{any, keep}
use Rattle.base.proofs.Bools.{clash}
use Rattle.base.proofs.Lists.{none_of, none_at_all, one_of, in_keep, to_keep, keep_yes, keep_no, keep_same}
use Rattle.routes.specs.Demand3.{distinct}

pub distinct_old : (x : ℕ) (l : List ℕ) → any (eqb x) l ≡ true → distinct (x ∷ l) ≡ distinct l
unfolding distinct
distinct_old x l h = rw (h, distinct)

pub distinct_new : (x : ℕ) (l : List ℕ) → any (eqb x) l ≡ false → distinct (x ∷ l) ≡ x ∷ distinct l
unfolding distinct
distinct_new x l h = rw (h, distinct)

-- A number of the list is found in it.
pub found_in : (x : ℕ) (l : List ℕ) → Memᴰ x l → any (eqb x) l ≡ true
found_in x l m = go (any (eqb x) l) refl
  where
    go : (t : Bool) → any (eqb x) l ≡ t → any (eqb x) l ≡ true
    go true e = e
    go false e = clash (eq-eqb x x refl) (none_of (eqb x) e m)

in_found : (x : ℕ) (l : List ℕ) → any (eqb x) l ≡ true → Memᴰ x l
in_found x l h = go (one_of (eqb x) l h)
  where
    go : (y : ℕ) × Memᴰ y l × (eqb x y ≡ true) → Memᴰ x l
    go r = rw (eqb-true x r.0 r.2) r.1

abbrev other : ℕ → ℕ → Bool
other x y = not (eqb x y)

-- Without one number there is at most one distinct number less.
without : (x : ℕ) (l : List ℕ) → length (distinct l) ≤ suc (length (distinct (keep (other x) l)))
unfolding distinct
without x [] = omega arith
without x (y ∷ l) = go (eqb x y) refl (any (eqb y) l) refl (without x l)
  where
    kept : any (eqb y) l ≡ false → any (eqb y) (keep (other x) l) ≡ false
    kept f = none_at_all (eqb y) (keep (other x) l) (λ z m. none_of (eqb y) f (in_keep (other x) l m).0)

    same : eqb x y ≡ true → any (eqb y) l ≡ false → keep (other x) l ≡ l
    same e f = keep_same (other x) l (λ z m. rw (eqb-true x y e, none_of (eqb y) f m))

    go : (s : Bool) → eqb x y ≡ s → (t : Bool) → any (eqb y) l ≡ t → length (distinct l) ≤ suc (length (distinct (keep (other x) l)))
        → length (distinct (y ∷ l)) ≤ suc (length (distinct (keep (other x) (y ∷ l))))
    go true e true f ih = rw (distinct_old y l f, keep_no (other x) y l (rw e)) ih
    go true e false f ih = rw (distinct_new y l f, keep_no (other x) y l (rw e), same e f) (omega arith)
    go false e true f ih =
        let still = found_in y (keep (other x) l) (to_keep (other x) (in_found y l f) (rw e)) in
        rw (distinct_old y l f, keep_yes (other x) y l (rw e), distinct_old y (keep (other x) l) still) ih
    go false e false f ih = rw (distinct_new y l f, keep_yes (other x) y l (rw e), distinct_new y (keep (other x) l) (kept f)) (omega arith)

pub distinct_le : (r l : List ℕ) → ((x : ℕ) → Memᴰ x l → Memᴰ x r) → length (distinct l) ≤ length (distinct r)
unfolding distinct
distinct_le [] l h = empty l h
  where
    empty : (l : List ℕ) → ((x : ℕ) → Memᴰ x l → Memᴰ x []) → length (distinct l) ≤ 0
    empty [] h = omega arith
    empty (y ∷ l) h = absurd (Memᴰ.not-nil (h y (Memᴰ.head refl)))
distinct_le (x ∷ r) l h = go (any (eqb x) r) refl (distinct_le r)
  where
    rest : (z : ℕ) → Memᴰ z l → (x ≡ z → Memᴰ z r) → Memᴰ z r
    rest z m back = pick (Memᴰ.cases_cons (h z m))
      where
        pick : (z ≡ x) ⊎ Memᴰ z r → Memᴰ z r
        pick (inl e) = back (sym e)
        pick (inr n) = n

    go : (t : Bool) → any (eqb x) r ≡ t → ((k : List ℕ) → ((z : ℕ) → Memᴰ z k → Memᴰ z r) → length (distinct k) ≤ length (distinct r))
        → length (distinct l) ≤ length (distinct (x ∷ r))
    go true e ih = rw (distinct_old x r e) (ih l (λ z m. rest z m (λ d. rw (← d) (in_found x r e))))
    go false e ih =
        let k = ih (keep (other x) l) (λ z m. let q = in_keep (other x) l m in rest z q.0 (λ d. absurd (eqb-false x z (not-true (eqb x z) q.1) d))) in
        rw (distinct_new x r e) (omega (arith, without x l))
