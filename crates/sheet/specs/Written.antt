-- P, the plan sheet: numbers and lines as bytes. Numbers are written as the board sheet's are read.
use Rattle.std.specs.Prelude.{◌≡◌, ℕ, zero, suc, ◌+◌, ◌-◌, ◌/◌, ◌%◌, true, false, List, [], ◌∷◌, ◌++◌, length, take, drop, ◌==◌, nat_lt}
use Rattle.sheet.specs.Text.{TAB}
use Rattle.sheet.specs.Number.{Number, bad, missing, plus, minus, MINUS, ZERO, digits_most}
use Rattle.sheet.specs.Table.{ORIGIN, MISSING}

-- the digits of a number, at most `most` of them
unfoldable pub digits_of : (most : ℕ) → ℕ → List ℕ
digits_of zero n = []
digits_of (suc most) n = elim (nat_lt n 10) [ true ↦ (ZERO + n) ∷ [] | false ↦ digits_of most (n / 10) ++ ((ZERO + n % 10) ∷ []) ]

-- P1: a number of at most ten digits
unfoldable pub decimal : ℕ → List ℕ
unfolding digits_of
decimal n = digits_of digits_most n

-- P1: a held coordinate, as the number that it holds
unfoldable pub coordinate_text : ℕ → List ℕ
unfolding decimal
coordinate_text held =
    elim (nat_lt held ORIGIN) [ true ↦ MINUS ∷ decimal (ORIGIN - held) | false ↦ decimal (held - ORIGIN) ]

-- P1: a number, or `-` for one that is missing
unfoldable pub number_text : ℕ → List ℕ
unfolding decimal
number_text n = elim (n == MISSING) [ true ↦ MINUS ∷ [] | false ↦ decimal n ]

-- P1: a field after the first: a tab, then the field
abbrev pub tabbed : List ℕ → List ℕ
tabbed bytes = TAB ∷ bytes

-- a buffer with bytes written at a place, and its old bytes before and after them
unfoldable pub written : List ℕ → ℕ → List ℕ → List ℕ
written buffer at bytes = take at buffer ++ (bytes ++ drop (at + length bytes) buffer)

-- What a writing call leaves: the bytes at their place, the old ones around them, and the place behind them.
pub record Wrote (old : List ℕ) (at : ℕ) (bytes : List ℕ) (new : List ℕ) (next : ℕ) : Type 0 where
  pub place : next ≡ at + length bytes
  pub buffer : new ≡ written old at bytes

-- the held coordinate that a number of a sheet gives
abbrev pub coordinate_of : Number → ℕ
coordinate_of bad = MISSING
coordinate_of missing = MISSING
coordinate_of (plus v) = ORIGIN + v
coordinate_of (minus v) = ORIGIN - v
