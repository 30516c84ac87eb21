use Rattle.sheet.proofs.Writing.{wrote_byte}
use Rattle.sheet.proofs.write.put_byte.Goals as goal

pub returns : goal.returns
returns c = wrote_byte _ _ _ c.requires
