use Rattle.std.proofs.Common.{◌<◌, ◌+◌, arith, ◌∙◌, ap, set}
use lib.ListN.{length-replicate}
use Rattle.routes_rows.specs.Booking.{cell_of, order_at, clear_of, no_cell}
use Rattle.routes_rows.specs.declared.book.Cell.{Cell}
use Rattle.routes_rows.proofs.Turns.{started, tested_cells, flag_byte, byte_counted, turned}
use Rattle.routes_rows.proofs.book.book_rows.Goals as goal

pub loop-p-init : goal.loop-p-init
loop-p-init c = started c.args.items.now c.args.bricks c.args.flags.now _ (length-replicate {A = Cell} 20480 no_cell)

pub loop-p-preserved : goal.loop-p-preserved
loop-p-preserved c =
    let b = c.loop-p.invariant in
    let low : c.loop-p.p < 20480 = omega (arith, c.loop-p-test.true, c.requires.1) in
    turned b record {
      stood = c.count_before-n.ensures;
      held = c.count_tested-tested.ensures;
      is = c.from-c.ensures;
      clear = c.is_clear-yes.ensures ∙ ap (λ l. clear_of l (cell_of c.from-c.result)) (tested_cells b low c.count_before-n.ensures _ c.count_tested-tested.ensures);
      stores = record { same = c.append.ensures.0; added = c.append.ensures.1; left = c.append.ensures.2 };
      noted = ap (set c.loop-p.flags (order_at c.args.items.now c.loop-p.p)) (c.from.ensures ∙ flag_byte c.is_clear-yes.result);
      counted = ap (λ k. c.count_before-n.result + k) c.from-n.ensures ∙ byte_counted c.is_clear-yes.result c.count_before-n.result;
    }
