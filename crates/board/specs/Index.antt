-- How the code finds the record that an id names: entries chained by bucket, stated by place and not by following links. No rule stands here.
use Rattle.std.specs.Prelude.{ℕ, zero, suc, ◌%◌, ◌≤◌, ◌<◌, ◌≡◌, List, map, eqb, length, get_or, Option, Some, None}
use Rattle.base.specs.Lists.{Found, none, at, newest}
use Rattle.board.specs.Board.{field}

-- An index that may not be there, as the code answers it.
abbrev pub found_of : Found → Option ℕ
found_of none = None
found_of (at i) = Some i

-- An entry that may not be there as one number: 0, or one more than its index.
abbrev pub link : Found → ℕ
link none = zero
link (at i) = suc i

-- The first n entries, chained by bucket: a bucket's head is its newest entry, an entry's next the newest one before it in the same bucket.
pub record Chained (buckets : ℕ) (bucket : ℕ → ℕ) (nexts heads : List ℕ) (n : ℕ) : Type 0 where
  pub entries : n ≤ length nexts
  pub width : buckets ≤ length heads
  pub head : (k : ℕ) → k < buckets → get_or heads k 0 ≡ link (newest (λ j. eqb (bucket j) k) n)
  pub next : (i : ℕ) → i < n → get_or nexts i 0 ≡ link (newest (λ j. eqb (bucket j) (bucket i)) i)

abbrev pub BUCKETS : ℕ
BUCKETS = 4096

abbrev pub bucket_of : ℕ → ℕ
bucket_of id = id % BUCKETS

-- A column of a table.
abbrev pub column : ℕ → List (List ℕ) → List ℕ
column c rows = map (λ r. get_or r c 0) rows

-- The first n ids, chained: column 0 has the id of each entry, column 1 its next, column 2 the head of each bucket.
pub record Index (ids : List (List ℕ)) (n : ℕ) : Type 0 where
  pub room : n ≤ length ids
  pub chained : Chained BUCKETS (λ i. bucket_of (field ids i 0)) (column 1 ids) (column 2 ids) n

-- The newest of the first n entries that has the id.
unfoldable pub entry_of : List (List ℕ) → ℕ → ℕ → Found
entry_of ids n id = newest (λ i. eqb (field ids i 0) id) n

-- No chip record from n on has the id.
abbrev pub NoChipFrom : List (List ℕ) → ℕ → ℕ → Type 0
NoChipFrom chips id n = (k : ℕ) → n ≤ k → k < length chips → field chips k 1 ≡ id → ⊥

-- An index whose first n entries are the ids of a section's records.
pub record Ids (ids : List (List ℕ)) (n : ℕ) (id_at : ℕ → ℕ) : Type 0 where
  pub index : Index ids n
  pub same : (j : ℕ) → j < n → field ids j 0 ≡ id_at j
