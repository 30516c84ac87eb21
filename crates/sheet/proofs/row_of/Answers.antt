-- `sheet::row_of` meets its contract. Assumes nothing.
use Rattle.std.proofs.Common.{ℕ, List, [], sym, ap, ◌∙◌}
use Rattle.sheet.specs.declared.RowAt.{RowAt}
use Rattle.sheet.proofs.Along.{row_from_rows, row_from_text}
use Rattle.sheet.proofs.row_of.Goals as goal

abbrev at_place : ℕ → List ℕ → RowAt
at_place at r = record { row = r; next = at }

pub returns-in-Some : goal.returns-in-Some
returns-in-Some c = let a = c.args in
    let h = c.in-Some.ensures.lookup.3 in
    ap (at_place a.at) (h.1 []) ∙ sym (row_from_rows a.text.now a.rows.now a.k a.at h.0)

pub returns-in-None : goal.returns-in-None
returns-in-None c = let a = c.args in c.row_at.ensures ∙ sym (row_from_text a.text.now a.rows.now a.k a.at c.in-None.ensures.lookup.3)
