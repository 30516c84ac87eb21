-- S, the board sheet: the number that a field writes.
use Rattle.std.specs.Prelude.{ℕ, ◌+◌, ◌-◌, ◌*◌, Bool, true, false, not, ◌&&◌, List, [], ◌∷◌, length, ◌==◌, nat_le}

abbrev pub MINUS : ℕ
MINUS = 45

-- the byte of the digit 0
abbrev pub ZERO : ℕ
ZERO = 48

abbrev pub NINE : ℕ
NINE = 57

-- S2: the first digit, and nine behind it
abbrev pub digits_most : ℕ
digits_most = 10

-- what a field's bytes say: nothing that can be read, a missing number, or a number at or above zero, or below it
pub data Number : Type 0 where
  bad : Number
  missing : Number
  plus : ℕ → Number
  minus : ℕ → Number

abbrev pub digit : ℕ → Bool
digit b = nat_le ZERO b && nat_le b NINE

unfoldable pub all_digits : List ℕ → Bool
all_digits [] = true
all_digits (b ∷ bs) = digit b && all_digits bs

-- the number that digits write, after those that wrote `v`
unfoldable pub value_from : ℕ → List ℕ → ℕ
value_from v [] = v
value_from v (b ∷ bs) = value_from (v * 10 + (b - ZERO)) bs

-- S2: `0` alone, or a first digit that is not 0
unfoldable pub no_leading_zero : List ℕ → Bool
no_leading_zero [] = false
no_leading_zero (b ∷ []) = true
no_leading_zero (b ∷ c ∷ bs) = not (b == ZERO)

-- S2: one to ten digits, as a number is written without its sign
unfoldable pub plain : List ℕ → Bool
unfolding all_digits no_leading_zero
plain bs = all_digits bs && no_leading_zero bs && nat_le (length bs) digits_most

-- S2: a number without a sign
unfoldable pub unsigned : List ℕ → Number
unfolding plain value_from
unsigned bs = elim (plain bs) [ true ↦ plus (value_from 0 bs) | false ↦ bad ]

-- S2, S3: what follows a `-`: nothing, or a number other than 0
unfoldable pub signed : List ℕ → Number
unfolding plain value_from
signed [] = missing
signed (b ∷ bs) = elim (plain (b ∷ bs) && not (value_from 0 (b ∷ bs) == 0)) [ true ↦ minus (value_from 0 (b ∷ bs)) | false ↦ bad ]

-- S2, S3: a number, with or without a sign, or a missing one
unfoldable pub number : List ℕ → Number
unfolding unsigned signed
number [] = bad
number (b ∷ bs) = elim (b == MINUS) [ true ↦ signed bs | false ↦ unsigned (b ∷ bs) ]
