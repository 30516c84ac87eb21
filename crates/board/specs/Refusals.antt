-- E, what turns a board away: refusals 4 to 6 in their order, each with the first line that meets it.
use Rattle.std.specs.Prelude.{ℕ, suc, ◌+◌, Bool, true, false, not, ◌&&◌, ◌||◌, List, eqb, leb, length}
use Rattle.sheet.specs.declared.Counts.{Counts}
use Rattle.base.specs.declared.refusal.Reason.TheVariants.{IdTaken, NotThere, Unplaced}
use Rattle.base.specs.declared.refusal.Refusal.{Refusal}
use Rattle.base.specs.Refusal.{refusal}
use Rattle.sheet.specs.Reading.{refused, rows, reading}
use Rattle.base.specs.Lists.{Found, none, at, found, or_else, newest, oldest}
use Rattle.board.specs.Board.{Board, board_of, given, kind_chip, id_of, kind_of, page_of, has_row, placed, chip_id, parent_of, inner_id, inner_chip}

module _ (b : Board) where
  -- S13: the line of an N, a C and an F, behind those of the sections before; the first line is 1.
  abbrev pub node_line : ℕ → ℕ
  node_line i = suc (length b.pages + i)

  abbrev pub chip_line : ℕ → ℕ
  chip_line c = suc (length b.pages + length b.nodes + c)

  abbrev pub inner_line : ℕ → ℕ
  inner_line f = suc (length b.pages + length b.nodes + length b.chips + f)

  -- The body node, the chip record and the node inside a chip that an id names.
  unfoldable pub body_of : ℕ → Found
  body_of id = newest (λ i. eqb (id_of b i) id) (length b.nodes)

  unfoldable pub chip_at : ℕ → ℕ → Found
  chip_at id n = newest (λ c. eqb (chip_id b c) id) n

  unfoldable pub inner_of : ℕ → Found
  inner_of id = newest (λ f. eqb (inner_id b f) id) (length b.inner)

  -- E4: an earlier record has the id of this N, this C, this F.
  unfoldable pub node_twice : ℕ → Bool
  node_twice i = found (newest (λ j. eqb (id_of b j) (id_of b i)) i)

  unfoldable pub chip_twice : ℕ → Bool
  chip_twice c = found (chip_at (chip_id b c) c)

  unfoldable pub inner_twice : ℕ → Bool
  inner_twice f = found (body_of (inner_id b f)) || found (newest (λ g. eqb (inner_id b g) (inner_id b f)) f)

  -- E5: what this N, this C, this F names is not there.
  unfoldable pub page_missing : ℕ → Bool
  page_missing i = has_row b i && leb (length b.pages) (page_of b i)

  abbrev pub body_chip : Found → Bool
  body_chip none = false
  body_chip (at i) = eqb (kind_of b i) kind_chip

  unfoldable pub parent_missing : ℕ → Bool
  parent_missing c =
      elim (given (parent_of b c)) [ true ↦ not (found (chip_at (parent_of b c) c)) | false ↦ not (body_chip (body_of (chip_id b c))) ]

  unfoldable pub chip_missing : ℕ → Bool
  chip_missing f = not (found (chip_at (inner_chip b f) (length b.chips)))

  -- E6: an N that has a row and is not placed.
  unfoldable pub row_unplaced : ℕ → Bool
  row_unplaced i = has_row b i && not (placed b i)

  -- E10: the first line among the records of a section that have the fault.
  abbrev pub first_line : (ℕ → ℕ) → (ℕ → Bool) → ℕ → Found
  first_line line fault n = elim (oldest fault n) [ at k ↦ at (line k) | none ↦ none ]

  -- E4: the first line that meets it.
  unfoldable pub id_twice : Found
  id_twice =
      or_else (first_line node_line node_twice (length b.nodes))
      (or_else (first_line chip_line chip_twice (length b.chips))
      (first_line inner_line inner_twice (length b.inner)))

  -- E5: the first line that meets it.
  unfoldable pub not_there : Found
  not_there =
      or_else (first_line node_line page_missing (length b.nodes))
      (or_else (first_line chip_line parent_missing (length b.chips))
      (first_line inner_line chip_missing (length b.inner)))

  -- E6: the first line that meets it.
  unfoldable pub unplaced : Found
  unplaced = first_line node_line row_unplaced (length b.nodes)

-- What a sheet is judged to be: turned away, with a refusal and its line, or a board.
pub data Judged : Type 0 where
  turned_away : Refusal → Judged
  board : Board → Judged

-- E9: 4 on all lines, then 5, then 6.
unfoldable pub judged_board : Board → Judged
unfolding id_twice not_there unplaced
judged_board b =
    elim (id_twice b) [
      | at line ↦ turned_away (refusal IdTaken line)
      | none ↦
          elim (not_there b) [ at line ↦ turned_away (refusal NotThere line) | none ↦ elim (unplaced b) [ at line ↦ turned_away (refusal Unplaced line) | none ↦ board b ] ]
    ]

-- E9: refusals 1 to 6 of a sheet of which at most so many records are taken.
unfoldable pub judged : Counts → List ℕ → Judged
unfolding reading judged_board board_of
judged most text = elim (reading most text) [ refused e ↦ turned_away e | rows l ↦ judged_board (board_of l) ]
