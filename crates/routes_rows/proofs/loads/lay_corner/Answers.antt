-- `lay_corner` meets its contract: raised, listed and stamped. Assumes nothing.
use Rattle.routes_rows.proofs.NoteLaws.{laid_corner}
use Rattle.routes_rows.proofs.loads.lay_corner.Goals as goal

pub returns : goal.returns
returns c = let a = c.args in laid_corner a.sink a.class a.level a.notes.now _ _ c.requires.3 c.requires.0.long c.raise_load.ensures c.list_corner.ensures
