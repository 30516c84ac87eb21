-- A loop that fills a table from the front, one row a turn.
use Prim.Native.Nat.{ℕ, ◌+◌, ◌<◌}
use native.Mathlib.Omega.{arith}
use native.Mathlib.Decide.{dec_lt}
use mathlib.Core.Path.{◌≡◌, sym, ap, ◌∙◌}
use mathlib.Core.List.{List}
use lib.ListN.{length, get_or, set}
use lib.Seq.{get_or-set_same, get_or-set_other}

module _ {A : Type 0} where
  pub filled_more : (want : ℕ → A) (out : List A) (i : ℕ) (v d : A) → i < length out → ((k : ℕ) → k < i → get_or out k d ≡ want k) → v ≡ want i
      → (k : ℕ) → k < i + 1 → get_or (set out i v) k d ≡ want k
  filled_more want out i v d room old new k h =
      elim (dec_lt k i) [
        | yes l ↦ get_or-set_other out i k v d (λ e. omega arith) ∙ old k l
        | no f ↦ let e : k ≡ i = omega arith in ap (λ (j : ℕ). get_or (set out i v) j d) e ∙ get_or-set_same out i v d room ∙ new ∙ ap want (sym e)
      ]
