-- S, the board sheet: a text's lines and their fields.
use Rattle.std.specs.Prelude.{ℕ, true, false, List, [], ◌∷◌, ◌==◌}

-- S1: the byte between two fields, and the byte that ends a line
abbrev pub TAB : ℕ
TAB = 9

abbrev pub NEWLINE : ℕ
NEWLINE = 10

-- the byte `b` put in front of the first part
unfoldable pub on_first : ℕ → List (List ℕ) → List (List ℕ)
on_first b [] = (b ∷ []) ∷ []
on_first b (p ∷ ps) = (b ∷ p) ∷ ps

-- S1: the parts of a text that the byte `s` parts: one part more than there are bytes `s`
unfoldable pub parts : ℕ → List ℕ → List (List ℕ)
unfolding on_first
parts s [] = [] ∷ []
parts s (b ∷ t) = elim (b == s) [ true ↦ [] ∷ parts s t | false ↦ on_first b (parts s t) ]

-- the first of some parts
unfoldable pub first_part : List (List ℕ) → List ℕ
first_part [] = []
first_part (p ∷ ps) = p

-- S1: the part at the front of a text: the bytes before the first byte `s`, or all
unfoldable pub part_of : ℕ → List ℕ → List ℕ
unfolding first_part parts
part_of s t = first_part (parts s t)

-- S1: the line at the front of a text, without its byte 10
unfoldable pub line_of : List ℕ → List ℕ
unfolding part_of
line_of t = part_of NEWLINE t
