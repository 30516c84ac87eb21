-- What is lent to the code that decides corners. No rule stands here.
use Rattle.std.specs.Prelude.{ℕ, ◌+◌, ◌<◌, ◌≤◌, List, length, slice_index}

-- Room for the items of so many nodes, m rerouters and n wires, and for n answers.
pub record DecideRoom (nodes : List (List ℕ)) (n : ℕ) (rerouters : List (List ℕ)) (m : ℕ) (items : List (List ℕ)) (answers : List ℕ) : Type 0 where
  pub rerouters_there : m ≤ length rerouters
  pub few : length nodes + m + n ≤ 45056
  pub on_items : length nodes + m + n ≤ length items
  pub on_answers : n ≤ length answers

-- Room for the corners of n wires behind m rerouters, decided and written.
pub record RowsRoom (nodes wires : List (List ℕ)) (list : List ℕ) (n : ℕ) (rerouters : List (List ℕ)) (m : ℕ) (items : List (List ℕ)) : Type 0 where
  pub rerouters_there : m ≤ length rerouters
  pub few : length nodes + m + n ≤ 45056
  pub few_turns : n ≤ 8192
  pub on_items : length nodes + m + n ≤ length items
  pub listed : (q : ℕ) → q < n → slice_index list q < length wires
