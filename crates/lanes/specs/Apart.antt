-- L, lanes: what the layers above may rely on.
use Rattle.std.specs.Prelude.{◌≡◌, ◌⊎◌, List, ℕ, ◌≤◌, ◌<◌, length, get_or}
use Rattle.lanes.specs.Lanes.{Demand, no_demand, lane_most}

-- one demand ends before the other begins
abbrev pub Apart : Demand → Demand → Type 0
Apart d e = (d.last < e.first) ⊎ (e.last < d.first)

-- each demand ends at or behind its first row
abbrev pub Rising : List Demand → Type 0
Rising ds = (i : ℕ) → i < length ds → (get_or ds i no_demand).first ≤ (get_or ds i no_demand).last

-- L5: two demands of one lane share no row, and the lanes are numbered from 0 without a gap
pub record LanesApart (ds : List Demand) (lanes : List ℕ) (count : ℕ) : Type 0 where
  pub long : length lanes ≡ length ds
  pub most : count ≤ lane_most
  -- every lane is below the count, and every number below the count is a demand's lane: the count is one more than the highest
  pub below : (i : ℕ) → i < length ds → get_or lanes i 0 < count
  pub used : (l : ℕ) → l < count → (i : ℕ) × (i < length ds) × (get_or lanes i 0 ≡ l)
  pub apart : (i j : ℕ) → i < length ds → j < length ds → (i ≡ j → ⊥) → get_or lanes i 0 ≡ get_or lanes j 0 → Apart (get_or ds i no_demand) (get_or ds j no_demand)
