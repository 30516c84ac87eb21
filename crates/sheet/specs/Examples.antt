-- Worked examples of the board sheet's rules and of refusals 1 to 3, at the program's most: one list, one theorem.
use Rattle.std.specs.Prelude.{◌≡◌, ℕ, List, [], ◌∷◌, map, refl}
use Rattle.sheet.specs.Table.{program_most}
use Rattle.base.specs.declared.refusal.Reason.TheVariants.{Unread, TooMany, OutOfRange}
use Rattle.base.specs.Refusal.{refusal}
use Rattle.sheet.specs.Reading.{reading, Reading, refused, rows}

-- a sheet's text, and what reading it gives
pub record Example : Type 0 where
  pub text : List ℕ
  pub gives : Reading

pub examples : List Example
examples =
    -- the empty sheet
    record { text = []; gives = rows [] }
    -- a leading zero: `P 07 0`
    ∷ record { text = 80 ∷ 9 ∷ 48 ∷ 55 ∷ 9 ∷ 48 ∷ 10 ∷ []; gives = refused (refusal Unread 1) }
    -- a number out of range: `P 0 1000001`
    ∷ record { text = 80 ∷ 9 ∷ 48 ∷ 9 ∷ 49 ∷ 48 ∷ 48 ∷ 48 ∷ 48 ∷ 48 ∷ 49 ∷ 10 ∷ []; gives = refused (refusal OutOfRange 1) }
    -- ten digits out of range
    ∷ record { text = 80 ∷ 9 ∷ 48 ∷ 9 ∷ 57 ∷ 57 ∷ 57 ∷ 57 ∷ 57 ∷ 57 ∷ 57 ∷ 57 ∷ 57 ∷ 57 ∷ 10 ∷ []; gives = refused (refusal OutOfRange 1) }
    -- eleven digits
    ∷ record { text = 80 ∷ 9 ∷ 48 ∷ 9 ∷ 49 ∷ 48 ∷ 48 ∷ 48 ∷ 48 ∷ 48 ∷ 48 ∷ 48 ∷ 48 ∷ 48 ∷ 48 ∷ 10 ∷ []; gives = refused (refusal Unread 1) }
    -- a last line without byte 10
    ∷ record { text = 80 ∷ 9 ∷ 48 ∷ 9 ∷ 48 ∷ []; gives = refused (refusal Unread 1) }
    -- an empty line
    ∷ record { text = 10 ∷ []; gives = refused (refusal Unread 1) }
    -- `-0`
    ∷ record { text = 80 ∷ 9 ∷ 45 ∷ 48 ∷ 9 ∷ 48 ∷ 10 ∷ []; gives = refused (refusal Unread 1) }
    -- an empty field
    ∷ record { text = 80 ∷ 9 ∷ 9 ∷ 48 ∷ 10 ∷ []; gives = refused (refusal Unread 1) }
    -- `+1`
    ∷ record { text = 80 ∷ 9 ∷ 43 ∷ 49 ∷ 9 ∷ 48 ∷ 10 ∷ []; gives = refused (refusal Unread 1) }
    -- a space
    ∷ record { text = 80 ∷ 9 ∷ 48 ∷ 32 ∷ 9 ∷ 48 ∷ 10 ∷ []; gives = refused (refusal Unread 1) }
    -- z missing
    ∷ record { text = 80 ∷ 9 ∷ 48 ∷ 9 ∷ 45 ∷ 10 ∷ []; gives = refused (refusal Unread 1) }
    -- half a pair
    ∷ record { text = 78 ∷ 9 ∷ 49 ∷ 9 ∷ 48 ∷ 9 ∷ 49 ∷ 9 ∷ 48 ∷ 9 ∷ 50 ∷ 9 ∷ 50 ∷ 9 ∷ 48 ∷ 9 ∷ 50 ∷ 48 ∷ 9 ∷ 45 ∷ 9 ∷ 48 ∷ 9 ∷ 48 ∷ 9 ∷ 45 ∷ 10 ∷ []; gives = refused (refusal Unread 1) }
    -- a section out of order
    ∷ record { text = 67 ∷ 9 ∷ 57 ∷ 9 ∷ 45 ∷ 10 ∷ 80 ∷ 9 ∷ 48 ∷ 9 ∷ 48 ∷ 10 ∷ []; gives = refused (refusal Unread 2) }
    -- a field too many
    ∷ record { text = 88 ∷ 9 ∷ 49 ∷ 9 ∷ 50 ∷ 9 ∷ 51 ∷ 10 ∷ []; gives = refused (refusal Unread 1) }
    -- a negative port can be read, and is out of range
    ∷ record { text = 87 ∷ 9 ∷ 49 ∷ 9 ∷ 45 ∷ 49 ∷ 9 ∷ 48 ∷ 9 ∷ 48 ∷ 10 ∷ []; gives = refused (refusal OutOfRange 1) }
    -- 1 over the whole sheet before any 2 or 3
    ∷ record { text = 80 ∷ 9 ∷ 48 ∷ 9 ∷ 50 ∷ 48 ∷ 48 ∷ 48 ∷ 48 ∷ 48 ∷ 48 ∷ 10 ∷ 80 ∷ 9 ∷ 48 ∷ 9 ∷ 48 ∷ 10 ∷ 80 ∷ 9 ∷ 48 ∷ 9 ∷ 48 ∷ 10 ∷ 80 ∷ 9 ∷ 48 ∷ 9 ∷ 48 ∷ 10 ∷ 80 ∷ 9 ∷ 48 ∷ 9 ∷ 48 ∷ 10 ∷ 80 ∷ 9 ∷ 48 ∷ 9 ∷ 48 ∷ 10 ∷ 80 ∷ 9 ∷ 48 ∷ 9 ∷ 48 ∷ 10 ∷ 80 ∷ 9 ∷ 48 ∷ 9 ∷ 48 ∷ 10 ∷ 80 ∷ 9 ∷ 48 ∷ 9 ∷ 48 ∷ 10 ∷ 87 ∷ 10 ∷ []; gives = refused (refusal Unread 10) }
    -- 2 before 3, and at the ninth P
    ∷ record { text = 80 ∷ 9 ∷ 48 ∷ 9 ∷ 50 ∷ 48 ∷ 48 ∷ 48 ∷ 48 ∷ 48 ∷ 48 ∷ 10 ∷ 80 ∷ 9 ∷ 48 ∷ 9 ∷ 48 ∷ 10 ∷ 80 ∷ 9 ∷ 48 ∷ 9 ∷ 48 ∷ 10 ∷ 80 ∷ 9 ∷ 48 ∷ 9 ∷ 48 ∷ 10 ∷ 80 ∷ 9 ∷ 48 ∷ 9 ∷ 48 ∷ 10 ∷ 80 ∷ 9 ∷ 48 ∷ 9 ∷ 48 ∷ 10 ∷ 80 ∷ 9 ∷ 48 ∷ 9 ∷ 48 ∷ 10 ∷ 80 ∷ 9 ∷ 48 ∷ 9 ∷ 48 ∷ 10 ∷ 80 ∷ 9 ∷ 48 ∷ 9 ∷ 48 ∷ 10 ∷ 80 ∷ 9 ∷ 48 ∷ 9 ∷ 48 ∷ 10 ∷ []; gives = refused (refusal TooMany 9) }
    -- a missing min_y, and the least z
    ∷ record { text = 80 ∷ 9 ∷ 45 ∷ 9 ∷ 45 ∷ 49 ∷ 48 ∷ 48 ∷ 48 ∷ 48 ∷ 48 ∷ 48 ∷ 10 ∷ []; gives = rows ((0 ∷ 4294967295 ∷ 1000000 ∷ 0 ∷ 0 ∷ 0 ∷ 0 ∷ 0 ∷ 0 ∷ 0 ∷ 0 ∷ 0 ∷ 0 ∷ 0 ∷ 0 ∷ 0 ∷ []) ∷ []) }
    -- example (a)
    ∷ record { text = 80 ∷ 9 ∷ 48 ∷ 9 ∷ 49 ∷ 48 ∷ 10 ∷ 78 ∷ 9 ∷ 49 ∷ 9 ∷ 48 ∷ 9 ∷ 49 ∷ 9 ∷ 48 ∷ 9 ∷ 50 ∷ 9 ∷ 50 ∷ 9 ∷ 48 ∷ 9 ∷ 50 ∷ 48 ∷ 9 ∷ 48 ∷ 9 ∷ 48 ∷ 9 ∷ 48 ∷ 9 ∷ 45 ∷ 10 ∷ 78 ∷ 9 ∷ 50 ∷ 9 ∷ 48 ∷ 9 ∷ 48 ∷ 9 ∷ 48 ∷ 9 ∷ 50 ∷ 9 ∷ 50 ∷ 9 ∷ 48 ∷ 9 ∷ 49 ∷ 48 ∷ 9 ∷ 56 ∷ 9 ∷ 48 ∷ 9 ∷ 49 ∷ 48 ∷ 9 ∷ 45 ∷ 10 ∷ 78 ∷ 9 ∷ 51 ∷ 9 ∷ 48 ∷ 9 ∷ 48 ∷ 9 ∷ 48 ∷ 9 ∷ 50 ∷ 9 ∷ 50 ∷ 9 ∷ 48 ∷ 9 ∷ 48 ∷ 9 ∷ 56 ∷ 9 ∷ 48 ∷ 9 ∷ 50 ∷ 48 ∷ 9 ∷ 45 ∷ 10 ∷ 87 ∷ 9 ∷ 49 ∷ 9 ∷ 53 ∷ 9 ∷ 50 ∷ 9 ∷ 49 ∷ 10 ∷ 87 ∷ 9 ∷ 49 ∷ 9 ∷ 53 ∷ 9 ∷ 51 ∷ 9 ∷ 49 ∷ 10 ∷ []; gives = rows ((0 ∷ 2000000 ∷ 2000010 ∷ 0 ∷ 0 ∷ 0 ∷ 0 ∷ 0 ∷ 0 ∷ 0 ∷ 0 ∷ 0 ∷ 0 ∷ 0 ∷ 0 ∷ 0 ∷ []) ∷ (1 ∷ 1 ∷ 0 ∷ 1 ∷ 0 ∷ 2 ∷ 2 ∷ 0 ∷ 2000020 ∷ 2000000 ∷ 0 ∷ 2000000 ∷ 4294967295 ∷ 0 ∷ 0 ∷ 0 ∷ []) ∷ (1 ∷ 2 ∷ 0 ∷ 0 ∷ 0 ∷ 2 ∷ 2 ∷ 0 ∷ 2000010 ∷ 2000008 ∷ 0 ∷ 2000010 ∷ 4294967295 ∷ 0 ∷ 0 ∷ 0 ∷ []) ∷ (1 ∷ 3 ∷ 0 ∷ 0 ∷ 0 ∷ 2 ∷ 2 ∷ 0 ∷ 2000000 ∷ 2000008 ∷ 0 ∷ 2000020 ∷ 4294967295 ∷ 0 ∷ 0 ∷ 0 ∷ []) ∷ (5 ∷ 1 ∷ 5 ∷ 2 ∷ 1 ∷ 0 ∷ 0 ∷ 0 ∷ 0 ∷ 0 ∷ 0 ∷ 0 ∷ 0 ∷ 0 ∷ 0 ∷ 0 ∷ []) ∷ (5 ∷ 1 ∷ 5 ∷ 3 ∷ 1 ∷ 0 ∷ 0 ∷ 0 ∷ 0 ∷ 0 ∷ 0 ∷ 0 ∷ 0 ∷ 0 ∷ 0 ∷ 0 ∷ []) ∷ []) }
    ∷ []

pub examples_hold : map (λ (e : Example). reading program_most e.text) examples ≡ map (λ (e : Example). e.gives) examples
unfolding reading examples
examples_hold = refl
