use Rattle.std.proofs.Common.{◌-◌, sym, ◌∙◌, arith, eq-eqb, ne_eqb}
use Rattle.routes_rows.proofs.EntryLaws.{barring_next, barring_end, back_next, follows_at, row_more, row_ends, row_less}
use Rattle.routes_rows.proofs.standing.block_row.Goals as goal

pub returns-then-key_at-key : goal.returns-then-key_at-key
returns-then-key_at-key c =
    let a = c.args in
    let l = c.loop-k in
    let other = follows_at a.items.now l.k c.key_at-key.result (λ z. omega (arith, z, c.loop-k-test.true)) ∙ ne_eqb _ _ (λ e. c.if-key_at-key.true (c.key_at.ensures ∙ e)) in
    barring_end (row_ends l.invariant.0 a.first a.answers.now other) l.invariant.1

pub booked_cell-requires : goal.booked_cell-requires
booked_cell-requires c = row_less (c.loop-k.k - 1) (omega (arith, c.loop-k.invariant.0.low)) c.requires.0

pub loop-k-preserved : goal.loop-k-preserved
loop-k-preserved c =
    let a = c.args in
    let l = c.loop-k in
    let same = follows_at a.items.now l.k c.key_at-key.result (λ z. omega (arith, z, c.loop-k-test.true)) ∙ eq-eqb _ _ (sym c.key_at.ensures ∙ c.if-key_at-key.false) in
    (back_next l.invariant.0 same, barring_next (row_more l.invariant.0 a.first a.answers.now same) c.booked_cell.ensures l.invariant.1 c.block.ensures)
