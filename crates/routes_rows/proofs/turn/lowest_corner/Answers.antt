use Rattle.std.proofs.Common.{◌<◌, ◌&&◌, eqb, sym, ap, ◌∙◌, arith}
use Rattle.routes_rows.specs.Blocked.{count_in}
use Rattle.board.specs.Index.{found_of}
use Rattle.routes_rows.specs.Entries.{}
use Rattle.routes_rows.proofs.Searching.{open_at, lowest_first, lowest_closed}
use Rattle.routes_rows.proofs.turn.lowest_corner.Goals as goal

pub returns-then-count-k : goal.returns-then-count-k
returns-then-count-k c = λ clear load h g.
    let a = c.args in
    let l = c.loop-k in
    sym (ap found_of (lowest_closed (λ x. eqb (load x) 0 && clear x) a.span.x0 (count_in a.span) (λ j low. l.invariant clear load h g j (omega (arith, low, c.if-count-k.true, c.levels_in-count.ensures)))))

pub returns-then-is_open : goal.returns-then-is_open
returns-then-is_open c = λ clear load h g.
    let a = c.args in
    let l = c.loop-k in
    let low : l.k < count_in a.span = omega (arith, c.if-count-k.false, c.levels_in-count.ensures) in
    sym (ap found_of (lowest_first (λ x. eqb (load x) 0 && clear x) a.span.x0 (count_in a.span) l.k low (l.invariant clear load h g) (sym (open_at a.span clear load a.notes.now l.k h g low c.is_open.ensures) ∙ c.if-is_open.true)))
