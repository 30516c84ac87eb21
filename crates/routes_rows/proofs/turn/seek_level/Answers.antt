-- `seek_level` meets its contract: the lowest open level, else the least loaded clear one. Assumes nothing.
use Rattle.std.proofs.Common.{rules}
use Rattle.routes_rows.specs.Turning.{clear_at, load_at}
use Rattle.routes_rows.proofs.Deciding.{level_either}
use Rattle.routes_rows.proofs.turn.seek_level.Goals as goal

pub returns : goal.returns
returns c = λ booked sink class h g o.
    let a = c.args in
    level_either booked a.span sink class o (c.lowest_corner.ensures (clear_at booked a.span.y0) (load_at booked sink) h g) c.or_else.ensures (λ k. search rules)
