-- Laws of Bool: equations that exclude one another, both and either of two tests, and a choice by a test that is known.
use Prim.Native.Nat.{ℕ}
use native.Mathlib.Omega.{arith}
use mathlib.Core.Path.{◌≡◌, refl}
use mathlib.Core.Bool.{Bool, true, false, ◌&&◌, ◌||◌}

-- What `cc` shows of equations that exclude one another.
pub never : {C : Type 0} → ◌≡◌ {A = ℕ} 0 1 → C
never h = absurd (omega arith)

pub clash : {C : Type 0} {t : Bool} → t ≡ true → t ≡ false → C
clash p q = never cc

-- Both of two tests, or not both.
pub and_left : (a b : Bool) → (a && b) ≡ true → a ≡ true
and_left true b h = refl
and_left false b h = h

pub and_right : (a b : Bool) → (a && b) ≡ true → b ≡ true
and_right true b h = h
and_right false b h = clash h refl

pub both : (a b : Bool) → a ≡ true → b ≡ true → (a && b) ≡ true
both a b p q = rw (p, q)

pub and_false : (a : Bool) → (a && false) ≡ false
and_false true = refl
and_false false = refl

pub false_first : (a b : Bool) → a ≡ false → (a && b) ≡ false
false_first a b p = rw p

-- Neither of two tests, or one of them.
pub or_left : (a b : Bool) → (a || b) ≡ false → a ≡ false
or_left true b h = h
or_left false b h = refl

pub or_right : (a b : Bool) → (a || b) ≡ false → b ≡ false
or_right true b h = clash refl h
or_right false b h = h

pub neither : (a b : Bool) → a ≡ false → b ≡ false → (a || b) ≡ false
neither a b p q = rw (p, q)

pub either_left : (s t : Bool) → s ≡ true → (s || t) ≡ true
either_left s t h = rw h

pub either_right : (s t : Bool) → t ≡ true → (s || t) ≡ true
either_right true t h = refl
either_right false t h = h

-- A choice by a test that is known.
pub pick_true {ℓ} : {A : Type ℓ} (t : Bool) (x y : A) → t ≡ true → elim t [ true ↦ x | false ↦ y ] ≡ x
pick_true true x y h = refl
pick_true false x y h = absurd (clash h refl)

pub pick_false {ℓ} : {A : Type ℓ} (t : Bool) (x y : A) → t ≡ false → elim t [ true ↦ x | false ↦ y ] ≡ y
pick_false false x y h = refl
pick_false true x y h = absurd (clash refl h)
