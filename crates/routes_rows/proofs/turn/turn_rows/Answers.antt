use Rattle.std.proofs.Common.{◌≤◌, arith}
use lib.ListN.{length-replicate}
use Rattle.routes_rows.specs.Booking.{begins, no_cell}
use Rattle.routes_rows.specs.declared.book.Cell.{Cell}
use Rattle.routes_rows.proofs.Standings.{standing_start, before_few, held_blocks, decidable, turned}
use Rattle.routes_rows.proofs.turn.turn_rows.Goals as goal

pub loop-p-init : goal.loop-p-init
loop-p-init c =
    let a = c.args in
    standing_start a.items.now a.first a.notes.now a.answers.now _ (length-replicate {A = Cell} 12800 no_cell) c.requires.notes_long c.requires.fresh

pub decide-c-requires : goal.decide-c-requires
decide-c-requires c =
    decidable c.loop-p.invariant c.requires c.loop-p-test.true c.count_before-before.result c.count_held-held.result c.span_for-span.result c.block_cells.new.ends
    c.count_before-before.ensures c.count_held-held.ensures c.span_for-span.ensures
    (held_blocks c.loop-p.cells _ _ _ _ _ _ c.loop-p.invariant.room c.count_held-held.ensures c.block_cells.ensures)

pub count_next-n-requires : goal.count_next-n-requires
count_next-n-requires c =
    let l = c.loop-p in
    let h : c.count_before-before.result ≤ l.p = before_few l.n c.count_before-before.result l.p (begins c.args.items.now l.p) l.invariant.few c.count_before-before.ensures in
    let k : c.args.m ≤ 4294967295 = c.requires.countable in
    omega (arith, h, k, c.loop-p-test.true)

pub loop-p-preserved : goal.loop-p-preserved
loop-p-preserved c =
    let s = c.loop-p.invariant in
    turned s c.requires c.loop-p-test.true record {
      stood = c.count_before-before.ensures;
      counts = c.count_held-held.ensures;
      spans = c.span_for-span.ensures;
      blocks = held_blocks c.loop-p.cells _ _ _ _ _ _ s.room c.count_held-held.ensures c.block_cells.ensures;
      decided = c.decide-c.ensures;
      stores = record { same = c.append.ensures.0; added = c.append.ensures.1; left = c.append.ensures.2 };
      next = c.count_next-n.ensures;
    }
