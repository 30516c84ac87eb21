-- How the code holds demands in rows of eight numbers.
use Rattle.std.specs.Prelude.{◌≡◌, ℕ, ◌+◌, ◌-◌, ◌*◌, ◌≤◌, ◌<◌, List, [], ◌∷◌, map, length, get_or, set, take, Result, Ok, Err}
use Rattle.lanes.specs.Lanes.{Demand, Entry, span, Packed, full, laned, pack_in, packed}
use Rattle.lanes.specs.LaneCall.{row_most, count_most, answer_to, answered}
use Rattle.lanes.specs.declared.pack.BusDemand.{BusDemand}
use Rattle.lanes.specs.declared.pack.LanesFull.{LanesFull}

-- a demand of the code
abbrev pub demand_in : BusDemand → Demand
demand_in d = record { first = d.first; last = d.last; consumers = d.consumers; order = d.order }

-- a demand in the first four columns of a row
unfoldable pub demand_of : List ℕ → Demand
demand_of row = record { first = get_or row 0 0; last = get_or row 1 0; consumers = get_or row 2 0; order = get_or row 3 0 }

-- a demand's rank counts down from the most, span before consumers
abbrev pub rank_of : Demand → ℕ
rank_of d = (row_most - span d) * (count_most + 1) + (count_most - d.consumers)

-- a key row: rising rows are demands in the order of L2
unfoldable pub key_of : Entry → List ℕ
key_of e =
    let d : Demand = e.demand in
    rank_of d ∷ d.order ∷ 0 ∷ e.index ∷ d.first ∷ d.last ∷ d.consumers ∷ 0 ∷ []

abbrev pub index_in : List ℕ → ℕ
index_in key = get_or key 3 0

abbrev pub lane_in : List ℕ → ℕ
lane_in key = get_or key 7 0

unfoldable pub entry_of : List ℕ → Entry
entry_of key =
    record { index = index_in key; demand = record { first = get_or key 4 0; last = get_or key 5 0; consumers = get_or key 6 0; order = get_or key 1 0 } }

-- the rows of every key row's demand are rows of a page, which an entry of the lane table holds
abbrev pub Fitting : List (List ℕ) → Type 0
Fitting keys = (k : ℕ) → k < length keys → ((entry_of (get_or keys k [])).demand.first ≤ row_most) × ((entry_of (get_or keys k [])).demand.last ≤ row_most)

-- the lanes that key rows hold, each put to the element at its row's index
module _ {A : Type 0} (put : A → ℕ → A) (d : A) where
  unfoldable pub spread : List (List ℕ) → List A → List A
  spread [] xs = xs
  spread (k ∷ ks) xs = spread ks (set xs (index_in k) (put (get_or xs (index_in k) d) (lane_in k)))

-- as numbers: the lane itself
abbrev pub lanes_in : List (List ℕ) → List ℕ → List ℕ
lanes_in keys lanes = spread (λ old lane. lane) 0 keys lanes

-- as rows: the lane in the fifth column
abbrev pub lane_column : List ℕ → ℕ
lane_column row = get_or row 4 0

abbrev pub with_lane : List ℕ → ℕ → List ℕ
with_lane row lane = set row 4 lane

-- each element with its lane put to it
unfoldable pub each_with {ℓ} : {A : Type ℓ} → (A → ℕ → A) → List A → List ℕ → List A
each_with put [] lanes = []
each_with put (x ∷ xs) [] = x ∷ xs
each_with put (x ∷ xs) (l ∷ lanes) = put x l ∷ each_with put xs lanes

-- what a packing says of the definition's answer, with the lanes that it left
abbrev pub result_of : Result ℕ LanesFull → List ℕ → Packed
result_of (Ok count) lanes = laned lanes count
result_of (Err e) lanes = full e.index

-- key rows in rank order, each with its lane: they hold the entries that they held, and their lanes are those of the definition
pub record Seated (keys seated : List (List ℕ)) (r : Result ℕ LanesFull) : Type 0 where
  pub same : map entry_of seated ≡ map entry_of keys
  pub result : (lanes : List ℕ) → pack_in (map entry_of keys) [] lanes ≡ result_of r (lanes_in seated lanes)

-- a table's rows once they are packed: as they were where there is no lane for one, else each with its lane
unfoldable pub rows_after : Packed → List (List ℕ) → List (List ℕ)
rows_after (full i) rows = rows
rows_after (laned lanes count) rows = each_with with_lane rows lanes

-- what `pack_rows` promises: its answer, with the lanes in the fifth column, is the definition's, and nothing else of a row is altered
pub record PackedRows (rows left : List (List ℕ)) (r : Result ℕ LanesFull) : Type 0 where
  pub result : packed (map demand_of rows) ≡ result_of r (map lane_column left)
  pub after : left ≡ rows_after (packed (map demand_of rows)) rows

-- the same of the lane answers of the lane call
pub record PackedNumbers (ds : List Demand) (old left : List ℕ) (r : Result ℕ LanesFull) : Type 0 where
  pub result : packed ds ≡ result_of r (take (length ds) left)
  pub after : left ≡ answered (answer_to (packed ds)) old
