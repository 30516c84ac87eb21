-- One table of facts, written column by column: what a store to a row leaves, and what it adds.
use Prim.Native.Nat.{ℕ, ◌+◌, ◌<◌}
use native.Mathlib.Omega.{arith}
use native.Mathlib.Decide.{ℕ_discrete}
use mathlib.Core.Path.{◌≡◌, sym, ap, ◌∙◌, subst}
use mathlib.Core.List.{List, []}
use lib.ListN.{length, get_or, set, length-set}
use lib.Seq.{get_or-set_same, get_or-set_other}
use Rattle.board.specs.Board.{Board, field}
use Rattle.board.specs.Tables.{NodeFacts, WireFacts}

-- Two tables that have the same numbers in a column.
abbrev pub Agree : ℕ → List (List ℕ) → List (List ℕ) → Type 0
Agree c old new = (k : ℕ) → field new k c ≡ field old k c

module _ (b : Board) (old new : List (List ℕ)) where
  pub same_nodes : Agree 0 old new → Agree 1 old new → NodeFacts b old → NodeFacts b new
  same_nodes zeroth first known = record { rows = λ i h r. zeroth i ∙ known.rows i h r; tops = λ i h r. first i ∙ known.tops i h r }

  pub same_wires_lem : Agree 2 old new → Agree 3 old new → Agree 4 old new → WireFacts b old → WireFacts b new
  same_wires_lem second third fourth known =
      record {
        sources = λ w h. second w ∙ known.sources w h;
        targets = λ w h. third w ∙ known.targets w h;
        opens = λ w h. fourth w ∙ known.opens w h;
      }

module _ (facts : List (List ℕ)) (w : ℕ) (row : List ℕ) (room : w < length facts) where
  column_here : (c : ℕ) → field (set facts w row) w c ≡ get_or row c 0
  column_here c = ap (λ (r : List ℕ). get_or r c 0) (get_or-set_same facts w row [] room)

  column_else : (c k : ℕ) → (k ≡ w → ⊥) → field (set facts w row) k c ≡ field facts k c
  column_else c k h = ap (λ (r : List ℕ). get_or r c 0) (get_or-set_other facts w k row [] h)

  -- A column that the row has as it was.
  pub column_kept : (c : ℕ) → get_or row c 0 ≡ field facts w c → Agree c facts (set facts w row)
  column_kept c same k =
      elim (ℕ_discrete k w) [
        | yes e ↦ subst (λ (j : ℕ). field (set facts w row) j c ≡ field facts j c) (sym e) (column_here c ∙ same)
        | no h ↦ column_else c k h
      ]

  -- A column that holds what is wanted in one row more.
  pub column_more : (c : ℕ) (want : ℕ → ℕ) → get_or row c 0 ≡ want w → ((k : ℕ) → k < w → field facts k c ≡ want k) → (k : ℕ) → k < w + 1 → field (set facts w row) k c ≡ want k
  column_more c want new old k h =
      elim (ℕ_discrete k w) [
        | yes e ↦ subst (λ (j : ℕ). field (set facts w row) j c ≡ want j) (sym e) (column_here c ∙ new)
        | no f ↦ column_else c k f ∙ old k (omega (arith, f))
      ]

-- A store to one cell leaves every row as long as it was.
pub rows_wide : (table : List (List ℕ)) (w c v : ℕ) → w < length table → (k : ℕ) → length (get_or (set table w (set (get_or table w []) c v)) k []) ≡ length (get_or table k [])
rows_wide table w c v room k =
    elim (ℕ_discrete k w) [
      | yes e ↦ rw e (ap length (get_or-set_same table w (set (get_or table w []) c v) [] room) ∙ length-set (get_or table w []) c v)
      | no f ↦ ap length (get_or-set_other table w k (set (get_or table w []) c v) [] f)
    ]
