-- The exported answer of `answer`: how many bytes were written, 0 for none.
use Rattle.std.specs.Prelude.{ℕ, Option, Some, None}

abbrev pub answer_number : Option ℕ → ℕ
answer_number None = 0
answer_number (Some n) = n
