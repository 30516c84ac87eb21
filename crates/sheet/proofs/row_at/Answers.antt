-- `sheet::row_at` meets its contract. Assumes nothing.
use Rattle.std.proofs.Common.{ℕ, sym, ap, ◌∙◌}
use Rattle.sheet.proofs.Walks.{row_at_read, row_at_unread}
use Rattle.sheet.proofs.row_at.Goals as goal

pub returns-in-Some : goal.returns-in-Some
returns-in-Some c = let x = c.in-Some.ensures in
    ap (λ (n : ℕ). record { row = c.line_at.new.row; next = n }) x.ends ∙ sym (row_at_read c.args.text.now c.args.at _ _ x.says)

pub returns-in-None : goal.returns-in-None
returns-in-None c = sym (row_at_unread c.args.text.now c.args.at c.in-None.ensures)
