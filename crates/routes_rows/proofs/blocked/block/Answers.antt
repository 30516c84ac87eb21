-- `block` meets its contract: a cell's first level and end, where the cell meets one of the levels. Assumes nothing.
use Prim.Native.Nat.{ℕ, ◌-◌, ◌/◌, ◌<◌}
use mathlib.Core.Path.{refl, sym, subst}
use native.Mathlib.Omega.{arith}
use lib.ListN.{length, set}
use Rattle.routes_rows.specs.Blocked.{count_in, Blocks, cell_meets}
use Rattle.routes_rows.proofs.Blocking.{within_all, within_below, within_above, within_beside, cell_blocks, cell_left, cell_passed}
use Rattle.routes_rows.proofs.blocked.block.Goals as goal
use Rattle.routes_rows.proofs.blocked.block.Goals.{else-span-cell-via-then-span-cell+then-cell-span+then-span-cell-2+else-cell-span-2, else-span-cell-via-then-span-cell+then-cell-span+else-span-cell-2, else-span-cell-via-then-span-cell+else-cell-span, else-span-cell-via-else-span-cell}

pub returns-then-first-levels_in : goal.returns-then-first-levels_in
returns-then-first-levels_in c =
    let first-inside : c.levels_in-first.result < length c.args.ends.now = omega (arith, c.if-first-levels_in.true, c.levels_in.ensures, c.requires) in
    let a = c.args in
    let first = c.levels_in-first in
    let count = c.levels_in in
    subst (λ (e : ℕ). Blocks a.span (cell_meets a.cell a.span) a.ends.now (set a.ends.now first.result e)) (sym c.max.ensures)
    (cell_blocks a.span a.cell first.result count.result first.ensures count.ensures a.ends.now (within_all a.span a.cell first.result count.result first.ensures count.ensures c.if-span-cell.true c.if-cell-span.true c.if-first-levels_in.true) first-inside)

pub returns-else-first-levels_in : goal.returns-else-first-levels_in
returns-else-first-levels_in c = let a = c.args in
    let first = c.levels_in-first in
    let count = c.levels_in in
    cell_passed a.span a.cell first.result count.result first.ensures count.ensures a.ends.now (within_beside a.span a.cell first.result count.result first.ensures count.ensures c.if-first-levels_in.false)

pub returns-else-span-cell : goal.returns-else-span-cell
returns-else-span-cell c =
    let a = c.args in
    let first = (a.cell.x0 - a.span.x0) / 2 in
    elim c.else-span-cell.branch [
      | else-span-cell-via-then-span-cell+then-cell-span+then-span-cell-2+else-cell-span-2 w ↦
          cell_passed a.span a.cell first (count_in a.span) refl refl a.ends.now (within_beside a.span a.cell first (count_in a.span) refl refl (omega (arith, w.if-cell-span-2.false)))
      | else-span-cell-via-then-span-cell+then-cell-span+else-span-cell-2 w ↦ cell_left a.span a.cell first (count_in a.span) refl refl a.ends.now w.if-span-cell-2.false
      | else-span-cell-via-then-span-cell+else-cell-span w ↦
          cell_passed a.span a.cell first (count_in a.span) refl refl a.ends.now (within_above a.span a.cell first (count_in a.span) refl refl w.if-cell-span.false)
      | else-span-cell-via-else-span-cell w ↦
          cell_passed a.span a.cell first (count_in a.span) refl refl a.ends.now (within_below a.span a.cell first (count_in a.span) refl refl w.if-span-cell.false)
    ]
