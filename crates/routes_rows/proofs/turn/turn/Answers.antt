-- `turn` meets its contract: a question weighed, answered and noted. Assumes nothing.
use Rattle.std.proofs.Common.{◌∙◌, arith}
use Rattle.routes_rows.proofs.Deciding.{askable, spannable, level_fits, decided_corner}
use Rattle.routes_rows.proofs.NoteLaws.{notes_fit}
use Rattle.routes_rows.proofs.turn.turn.Goals as goal

pub bounds-answers-i : goal.bounds-answers-i
bounds-answers-i c = c.requires.row.there c.args.item.p (omega arith) c.requires.question

pub bounds-items-i-3 : goal.bounds-items-i-3
bounds-items-i-3 c = (spannable _ _ _ _ c.requires).0

pub lay-requires : goal.lay-requires
lay-requires c =
    let asks = askable _ _ _ _ c.requires in
    let w = c.weigh-found.ensures.noted in
    let most = c.requires.row.few c.args.item.p (omega arith) c.requires.question in
    let f = w.few in
    (notes_fit (omega (arith, most)) w, omega (arith, f, most), asks.has_sink, asks.class_few)

pub found_cell-requires : goal.found_cell-requires
found_cell-requires c = ((askable _ _ _ _ c.requires).low, level_fits _ _ _ _ c.weigh-found.ensures)

pub returns : goal.returns
returns c = let a = c.args in
    let w = c.weigh-found in
    let l = c.lay in
    (decided_corner a.item.items.now a.item.p a.item.first a.answers.now a.notes.now _ _ c.found_cell.result w.result _ c.unwrap_or.ensures c.requires.question w.ensures l.ensures c.found_cell.ensures, (l.ensures _ w.ensures.told).rows ∙ w.ensures.rows)
