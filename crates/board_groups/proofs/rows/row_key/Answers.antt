-- `row_key` meets its contract: a node with a row, or one without. Assumes nothing.
use borrow.Author.Tests.{eq-eqb, ne_eqb}
use mathlib.Core.Path.{sym, ap, ◌∙◌}
use mathlib.Core.Bool.{not}
use mathlib.Core.Bool.{true, false, ◌||◌}
use mathlib.Core.List.{List, [], ◌∷◌}
use Prim.Native.Nat.{ℕ, ◌+◌, ◌-◌, ◌*◌}
use lib.Dec.{eqb}
use Rattle.board_groups.specs.Collecting.{END_MOST}
use lib.ListN.{get_or}
use Rattle.sheet.specs.Table.{MISSING}
use Rattle.board.specs.Rows.{brick_cell}
use Rattle.board.specs.Tables.{nodes_alone}
use Rattle.board_groups.proofs.KeyLaws.{key_none, key_some}
use Rattle.board_groups.proofs.rows.row_key.Goals as goal

pub returns-then-page : goal.returns-then-page
returns-then-page c = λ nodes is. sym (key_none (nodes_alone nodes) c.args.i (ap not (eq-eqb _ MISSING (ap (λ (r : List ℕ). get_or r 10 0) is ∙ c.if-page.true))))

pub returns : goal.returns
unfolding brick_cell
returns c = λ nodes is.
    let row = sym is in
    let half = c.half_along-half.ensures ∙ (λ z. elim (eqb (get_or (row z) 7 0) 1 || eqb (get_or (row z) 7 0) 3) [ true ↦ get_or (row z) 6 0 | false ↦ get_or (row z) 5 0 ]) in
    (λ z. get_or (row z) 10 0 ∷ get_or (row z) 11 0 ∷ (END_MOST - (get_or (row z) 8 0 + 2 * half z)) ∷ c.args.i ∷ (get_or (row z) 8 0 + 2 * half z) ∷ 0 ∷ 0 ∷ 0 ∷ [])
    ∙ sym (key_some (nodes_alone nodes) c.args.i (ap not (ne_eqb _ MISSING (λ e. c.if-page.false (ap (λ (r : List ℕ). get_or r 10 0) row ∙ e)))))
