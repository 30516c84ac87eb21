-- L, lanes: which lane each demand of a page gets.
use Rattle.std.specs.Prelude.{ℕ, zero, suc, ◌-◌, Bool, true, false, List, [], ◌∷◌, ltb, length, set, replicate}
use Rattle.base.specs.Sort.{sorted, lex_less}

-- L4: the entries of a page's lane table
abbrev pub lane_most : ℕ
lane_most = 512

-- L1: what a group asks of the bus (`BusDemand`): its first and last row, how many consumers it has, and its place in source order
pub record Demand : Type 0 where
  pub first : ℕ
  pub last : ℕ
  pub consumers : ℕ
  pub order : ℕ

-- what stands for a demand that is not there
abbrev pub no_demand : Demand
no_demand = record { first = 0; last = 0; consumers = 0; order = 0 }

-- a demand with its index in the given order
pub record Entry : Type 0 where
  pub index : ℕ
  pub demand : Demand

unfoldable pub entries : ℕ → List Demand → List Entry
entries i [] = []
entries i (d ∷ ds) = record { index = i; demand = d } ∷ entries (suc i) ds

-- L1: a demand's span
abbrev pub span : Demand → ℕ
span d = d.last - d.first

-- L2: by span, consumers and order: a number of which the greatest comes first stands on the other side
unfoldable pub ahead : Entry → Entry → Bool
ahead a b =
    let d : Demand = a.demand in
    let e : Demand = b.demand in
    lex_less (span e ∷ e.consumers ∷ d.order ∷ []) (span d ∷ d.consumers ∷ e.order ∷ [])

-- L2: the order of packing; what is equal stays as listed
unfoldable pub ranked : List Demand → List Entry
ranked ds = sorted ahead (entries 0 ds)

-- the position of the first element that passes, or the length where none does
unfoldable pub first_that {ℓ} : {A : Type ℓ} → (A → Bool) → List A → ℕ
first_that p [] = 0
first_that p (x ∷ xs) = elim (p x) [ true ↦ 0 | false ↦ suc (first_that p xs) ]

-- L3: the lowest open lane that ends before the first row, else the next one; `ends` has each open lane's last row
unfoldable pub lane_for : ℕ → List ℕ → ℕ
lane_for first ends = first_that (λ end. ltb end first) ends

-- L4: the last rows once lane l has a tenant that ends on `last`: an open lane's is replaced, a new one's comes behind them
unfoldable pub with_tenant : ℕ → ℕ → List ℕ → List ℕ
with_tenant l last [] = last ∷ []
with_tenant zero last (e ∷ es) = last ∷ es
with_tenant (suc l) last (e ∷ es) = e ∷ with_tenant l last es

-- the index of the demand that would open one lane too many; or the lane of each demand, in the given order, and how many lanes there are
pub data Packed : Type 0 where
  full : ℕ → Packed
  laned : List ℕ → ℕ → Packed

-- L3, L4: the demands in turn, from the last rows and the answers so far
unfoldable pub pack_in : List Entry → List ℕ → List ℕ → Packed
pack_in [] ends lanes = laned lanes (length ends)
pack_in (e ∷ es) ends lanes =
    let lane : ℕ = lane_for e.demand.first ends in
    elim (ltb lane lane_most) [
      | true ↦ pack_in es (with_tenant lane e.demand.last ends) (set lanes e.index lane)
      | false ↦ full e.index
    ]

-- L4: `allocate_lanes`, no lane being open at first
unfoldable pub packed : List Demand → Packed
packed ds = pack_in (ranked ds) [] (replicate (length ds) 0)
