-- The places that the sheet walker goes to: where the part from a place on ends, and where the next one starts.
use Rattle.std.specs.Prelude.{◌≡◌, ℕ, suc, ◌+◌, ◌<◌, ◌≤◌, cond, List, [], ◌∷◌, length, drop, nat_lt}
use Rattle.sheet.specs.Text.{parts, part_of}

-- the end of the part from a place on
abbrev pub part_end : ℕ → List ℕ → ℕ → ℕ
part_end s t at = at + length (part_of s (drop at t))

-- behind the one byte that ends a part, or at the end of a text of so many bytes
abbrev pub behind_end : ℕ → ℕ → ℕ
behind_end n end = cond (nat_lt end n) (suc end) n

abbrev pub behind_part : ℕ → List ℕ → ℕ → ℕ
behind_part s t at = behind_end (length t) (part_end s t at)

-- The walk from a place goes along a text as the text is parted: behind a part that the byte ends stand the other parts, and one that the text's end ends is
-- the last.
pub record Along (s : ℕ) (t : List ℕ) (at : ℕ) : Type 0 where
  pub more : part_end s t at < length t → parts s (drop at t) ≡ part_of s (drop at t) ∷ parts s (drop (behind_part s t at) t)
  pub last : length t ≤ part_end s t at → parts s (drop at t) ≡ part_of s (drop at t) ∷ []
