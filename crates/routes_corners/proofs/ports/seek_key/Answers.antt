use Rattle.std.proofs.Common.{length}
use Rattle.routes_corners.proofs.PortLaws.{all_below}
use Rattle.routes_corners.proofs.ports.seek_key.Goals as goal

pub loop-p-init : goal.loop-p-init
loop-p-init c = let a = c.args in (c.requires.0, all_below a.keys.now (length a.keys.now) a.from a.key c.requires.1 c.requires.0 (c.is_behind.ensures c.if-is_behind.true))
