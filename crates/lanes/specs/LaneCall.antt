-- E, what turns a board away, of the lane call: what it takes, what it answers, and what it leaves in the lane answers.
use Rattle.std.specs.Prelude.{◌≡◌, ℕ, ◌<◌, ◌/◌, ◌%◌, Bool, false, cond, ◌||◌, List, [], ◌∷◌, ◌++◌, ltb, length, drop, get_or, Result, Ok, Err}
use Rattle.lanes.specs.Lanes.{Demand, no_demand, Packed, full, laned, packed, first_that}
use Rattle.lanes.specs.declared.LaneReport.{LaneReport}
use Rattle.lanes.specs.declared.LaneError.{LaneError}
use Rattle.lanes.specs.declared.LaneError.TheVariants.{Incomplete, TooMany, OutOfRange, NoRoom, NoLane}

-- E15: the most demands
abbrev pub demand_most : ℕ
demand_most = 8192

-- E14: the greatest row
abbrev pub row_most : ℕ
row_most = 4095

-- E14: the most consumers, and the greatest order
abbrev pub count_most : ℕ
count_most = 8192

-- E14: four numbers a demand
unfoldable pub demands_of : List ℕ → List Demand
demands_of [] = []
demands_of (a ∷ []) = []
demands_of (a ∷ b ∷ []) = []
demands_of (a ∷ b ∷ c ∷ []) = []
demands_of (a ∷ b ∷ c ∷ d ∷ rest) = record { first = a; last = b; consumers = c; order = d } ∷ demands_of rest

-- E14, E15: number 3, a number out of range or a last row below the first
unfoldable pub faulty : Demand → Bool
faulty d =
    ltb row_most d.first || ltb row_most d.last || ltb count_most d.consumers || ltb count_most d.order || ltb d.last d.first

-- no demand is faulty
abbrev pub Sound : List Demand → Type 0
Sound ds = (i : ℕ) → i < length ds → faulty (get_or ds i no_demand) ≡ false

-- a refusal's number and place, or the lanes, one a demand, and how many there are
pub data LaneAnswer : Type 0 where
  refused : ℕ → ℕ → LaneAnswer
  allocated : List ℕ → ℕ → LaneAnswer

-- E15: number 8, at the demand for which there is no lane
unfoldable pub answer_to : Packed → LaneAnswer
answer_to (full i) = refused 8 i
answer_to (laned lanes count) = allocated lanes count

-- E15: the refusals in their order; `answers`, `work` and `spare` are the lengths of what is lent
unfoldable pub lane_call : List ℕ → ℕ → ℕ → ℕ → LaneAnswer
lane_call numbers answers work spare =
    let n : ℕ = length numbers / 4 in
    let fault : ℕ = first_that faulty (demands_of numbers) in
    cond (ltb 0 (length numbers % 4)) (refused 1 n)
    (cond (ltb demand_most n) (refused 2 demand_most)
    (cond (ltb fault n) (refused 3 fault)
    (cond (ltb answers n || ltb work n || ltb spare n) (refused 7 0)
    (answer_to (packed (demands_of numbers))))))

-- an answer as numbers: the refusal's, 0 for none, its place, and the count of lanes
unfoldable pub told : LaneAnswer → LaneReport
told (refused number place) = record { refusal = number; place = place; count = 0 }
told (allocated lanes count) = record { refusal = 0; place = 0; count = count }

-- E11, P8: the lane answers at exit: as they were on a refusal, else the lanes and then the rest as it was
unfoldable pub answered : LaneAnswer → List ℕ → List ℕ
answered (refused number place) old = old
answered (allocated lanes count) old = lanes ++ drop (length lanes) old

-- E15: the numbers of each answer of the call
abbrev pub report_of : Result ℕ LaneError → LaneReport
report_of (Err (Incomplete i)) = record { refusal = 1; place = i; count = 0 }
report_of (Err TooMany) = record { refusal = 2; place = demand_most; count = 0 }
report_of (Err (OutOfRange i)) = record { refusal = 3; place = i; count = 0 }
report_of (Err NoRoom) = record { refusal = 7; place = 0; count = 0 }
report_of (Err (NoLane i)) = record { refusal = 8; place = i; count = 0 }
report_of (Ok count) = record { refusal = 0; place = 0; count = count }

-- what the lane call promises: its answer as numbers, and the lane answers that it leaves
pub record Answered (numbers old left : List ℕ) (work spare : ℕ) (r : LaneReport) : Type 0 where
  pub report : r ≡ told (lane_call numbers (length old) work spare)
  pub lanes : left ≡ answered (lane_call numbers (length old) work spare) old
