-- An exported twin promises what its call promises: its numbers are those of an answer that meets the call's promise.
use Rattle.std.specs.Prelude.{◌≡◌}

abbrev pub InNumbers : {A N : Type 0} → (A → N) → (A → Type 0) → N → Type 0
InNumbers {A} numbers promise r = (a : A) × (r ≡ numbers a) × promise a
