-- The worked examples of lanes, (b) to (d), in one theorem.
use Rattle.std.specs.Prelude.{◌≡◌, refl, List, [], ◌∷◌, map, ℕ}
use Rattle.base.specs.Sort.{inserted, sorted, lex_less}
use Rattle.lanes.specs.Lanes.{Demand, entries, ahead, ranked, first_that, lane_for, with_tenant, laned, pack_in, packed}

-- demands, and the lanes that they get
pub record Example : Type 0 where
  pub demands : List Demand
  pub lanes : List ℕ
  pub count : ℕ

-- a demand of one consumer
abbrev rows : ℕ → ℕ → ℕ → Demand
rows first last order = record { first = first; last = last; consumers = 1; order = order }

abbrev pub examples : List Example
examples =
    -- (b) no demand, no lane
    record { demands = []; lanes = []; count = 0 }
    -- (c) they share row 2: a lane each
    ∷ record { demands = rows 0 2 0 ∷ rows 2 4 1 ∷ []; lanes = 0 ∷ 1 ∷ []; count = 2 }
    -- (d) they share no row: one lane
    ∷ record { demands = rows 0 2 0 ∷ rows 3 5 1 ∷ []; lanes = 0 ∷ 0 ∷ []; count = 1 }
    ∷ []

pub worked : map (λ e. packed e.demands) examples ≡ map (λ e. laned e.lanes e.count) examples
unfolding packed pack_in ranked sorted inserted entries ahead lex_less lane_for first_that with_tenant
worked = refl
