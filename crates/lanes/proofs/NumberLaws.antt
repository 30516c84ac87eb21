-- Laws of rows of numbers whose first four are a demand, and of a list of numbers that is cut into them.
use mathlib.Core.Path.{◌≡◌, refl, sym, ap, ◌∙◌}
use mathlib.Core.List.{List, [], ◌∷◌, map}
use Prim.Native.Nat.{ℕ, suc, ◌/◌, ◌<◌}
use native.Mathlib.Omega.{arith}
use lib.ListN.{length, get_or, get_or-map}
use Rattle.std.proofs.lemmas.List.{get_or_read_under}
use Rattle.std.specs.Simd.{first_chunks}
use Rattle.lanes.specs.Lanes.{Demand, no_demand}
use Rattle.lanes.specs.LaneCall.{demands_of}
use Rattle.lanes.specs.Keys.{demand_of}

-- the demand in a row that is read
pub demand_read : (rows : List (List ℕ)) (i : ℕ) (row : List ℕ) → row ≡ get_or rows i row → i < length rows → demand_of row ≡ get_or (map demand_of rows) i no_demand
unfolding demand_of
demand_read rows i row is h = ap demand_of (get_or_read_under rows i (length rows) row [] is h refl) ∙ sym (get_or-map demand_of rows i [])

pub demands_in_rows : (ns : List ℕ) → map demand_of (first_chunks 4 (length ns / 4) ns) ≡ demands_of ns
unfolding demands_of demand_of
demands_in_rows [] = refl
demands_in_rows (a ∷ []) = refl
demands_in_rows (a ∷ b ∷ []) = refl
demands_in_rows (a ∷ b ∷ c ∷ []) = refl
demands_in_rows (a ∷ b ∷ c ∷ d ∷ ns) =
    let one_more : length (a ∷ b ∷ c ∷ d ∷ ns) / 4 ≡ suc (length ns / 4) = omega arith in
    rw one_more (ap {B = List Demand} (λ ds. record { first = a; last = b; consumers = c; order = d } ∷ ds) (demands_in_rows ns))
