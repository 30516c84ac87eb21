use Rattle.std.proofs.Common.{◌≡◌, ℕ, suc, ◌-◌, length, subst, arith}
use Rattle.routes_rows.proofs.Blocking.{Blocking, blocking_next}
use Rattle.routes_rows.proofs.blocked.block_cells.Goals as goal

pub loop-k-preserved : goal.loop-k-preserved
loop-k-preserved c =
    let a = c.args in
    let here : c.loop-k.k ≡ suc (c.loop-k.k - 1) = omega arith in
    let b = subst (λ (k : ℕ). Blocking a.span a.cells.now (length a.cells.now) a.ends.now k c.loop-k.ends) here c.loop-k.invariant.1 in
    (omega arith, blocking_next a.span a.cells.now (length a.cells.now) a.ends.now (c.loop-k.k - 1) c.loop-k.ends c.block.new.ends b c.block.ensures)
