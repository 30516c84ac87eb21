-- A board's sections as slices: the rows of a sheet hold them one after the other, and each is cut from them.
use Rattle.std.specs.Prelude.{ℕ, ◌+◌, ◌≤◌, ◌≡◌, List, length, take, drop}
use Rattle.board.specs.Board.{Board}
use Rattle.board.specs.Planning.{records}

-- A board's sections stand one after the other in rows.
pub record SectionsIn (b : Board) (rows : List (List ℕ)) : Type 0 where
  pub total : records b ≤ length rows
  pub pages : take (length b.pages) rows ≡ b.pages
  pub nodes : take (length b.nodes) (drop (length b.pages) rows) ≡ b.nodes
  pub chips : take (length b.chips) (drop (length b.pages + length b.nodes) rows) ≡ b.chips
  pub inner : take (length b.inner) (drop (length b.pages + length b.nodes + length b.chips) rows) ≡ b.inner
  pub execs : take (length b.execs) (drop (length b.pages + length b.nodes + length b.chips + length b.inner) rows) ≡ b.execs
  pub wires : take (length b.wires) (drop (length b.pages + length b.nodes + length b.chips + length b.inner + length b.execs) rows) ≡ b.wires

-- These are the sections of a board.
pub record SectionsCut (b : Board) (pages nodes chips inner execs wires : List (List ℕ)) : Type 0 where
  pub pages_cut : pages ≡ b.pages
  pub nodes_cut : nodes ≡ b.nodes
  pub chips_cut : chips ≡ b.chips
  pub inner_cut : inner ≡ b.inner
  pub execs_cut : execs ≡ b.execs
  pub wires_cut : wires ≡ b.wires
