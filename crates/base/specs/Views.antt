-- Tables of rows of numbers, read as lists. No rule stands here.
use Rattle.std.specs.Prelude.{ℕ, zero, suc, List, [], ◌∷◌, get_or}

-- The first n rows of a table, each read as what it stands for, the newest first.
abbrev pub view {ℓ} : {A : Type ℓ} → (List ℕ → A) → List (List ℕ) → ℕ → List A
view read s zero = []
view read s (suc n) = read (get_or s n []) ∷ view read s n
