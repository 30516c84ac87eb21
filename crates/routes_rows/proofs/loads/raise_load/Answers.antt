-- `raise_load` meets its contract: raised where the sink is the owner. Assumes nothing.
use Rattle.routes_rows.proofs.LoadLaws.{raise_small}
use Rattle.routes_rows.proofs.loads.raise_load.Goals as goal

pub add_load-requires : goal.add_load-requires
add_load-requires c = let a = c.args in (c.requires.0.long, raise_small a.sink a.level a.notes.now c.requires.0 c.requires.1 c.if-notes-sink.true)
