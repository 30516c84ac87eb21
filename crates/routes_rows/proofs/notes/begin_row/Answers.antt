-- `begin_row` meets its contract: one row more where none counts. Assumes nothing.
use Rattle.routes_rows.proofs.NoteLaws.{begun_anew}
use Rattle.routes_rows.proofs.notes.begin_row.Goals as goal

pub returns-then-n-eq0 : goal.returns-then-n-eq0
returns-then-n-eq0 c = begun_anew c.args.notes.now c.args.n c.if-n-eq0.true c.requires.0
