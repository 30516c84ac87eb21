-- Taps and stops as slices of their own length: what holds of the first rows of a table holds of the slice that they are.
use Prim.Native.Nat.{ℕ, ◌≤◌}
use mathlib.Core.Path.{◌≡◌, ap, sym, ◌∙◌}
use mathlib.Core.List.{List, map, reverse}
use native.Mathlib.Omega.{arith}
use lib.ListN.{length, take}
use lib.Seq.{take-length}
use Rattle.base.specs.Views.{view}
use Rattle.base.proofs.Views.{view-take}

-- A view of all rows of a front is the front's view.
pub view_front : {A : Type 0} (read : List ℕ → A) (s : List (List ℕ)) (n : ℕ) → n ≤ length s → view read (take n s) (length (take n s)) ≡ view read s n
view_front read s n h =
    view-take read (take n s) (length (take n s)) (omega arith) ∙ ap (λ (l : List (List ℕ)). reverse (map read l)) (take-length (take n s)) ∙ sym (view-take read s n h)
