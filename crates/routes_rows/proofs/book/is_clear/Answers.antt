use Rattle.std.proofs.Common.{◌≡◌, ◌≤◌, ℕ, ◌+◌, ◌-◌, length, sym, ap, ◌∙◌, not, arith}
use Rattle.routes_rows.specs.Booking.{cell_of, any_overlaps, clear_of, first_cells}
use Rattle.routes_rows.proofs.Cells.{passes, meets, all_taken}
use Rattle.routes_rows.proofs.book.is_clear.Goals as goal

pub returns-then-any_overlaps : goal.returns-then-any_overlaps
returns-then-any_overlaps c =
    let xs = c.args.cells.now in
    let back : c.loop-k.k - 8 + 8 ≡ c.loop-k.k = omega arith in
    let room : c.loop-k.k - 8 + 8 ≤ length xs = omega (arith, back, c.loop-k.invariant.0) in
    sym (c.loop-k.invariant.1 ∙ ap (λ (n : ℕ). clear_of (first_cells xs n) (cell_of c.args.c)) (sym back)
    ∙ meets xs (c.loop-k.k - 8) (c.loop-k.k - 8 + 8) (cell_of c.args.c) (omega arith) room (sym c.any_overlaps.ensures ∙ c.if-any_overlaps.true))

pub loop-k-preserved : goal.loop-k-preserved
loop-k-preserved c =
    let xs = c.args.cells.now in
    let back : c.loop-k.k - 8 + 8 ≡ c.loop-k.k = omega arith in
    let room : c.loop-k.k - 8 + 8 ≤ length xs = omega (arith, back, c.loop-k.invariant.0) in (
      omega arith,
      c.loop-k.invariant.1 ∙ ap (λ (n : ℕ). clear_of (first_cells xs n) (cell_of c.args.c)) (sym back)
          ∙ passes xs (c.loop-k.k - 8) (c.loop-k.k - 8 + 8) (cell_of c.args.c) (omega arith) room (sym c.any_overlaps.ensures ∙ c.if-any_overlaps.false),
    )

pub returns : goal.returns
returns c =
    let xs = c.args.cells.now in
    ap not (c.any_overlaps-2.ensures ∙ ap (λ l. any_overlaps l (cell_of c.args.c)) (all_taken xs c.loop-k.k c.loop-k.invariant.0)) ∙ sym c.loop-k.invariant.1
