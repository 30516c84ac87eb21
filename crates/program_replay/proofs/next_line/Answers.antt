-- `replay::next_line` goes on by a byte at least, and not past the end: as the sheet walker does. Assumes nothing.
use Rattle.sheet.specs.Text.{NEWLINE}
use Rattle.sheet.proofs.Parts.{part_beyond}
use Rattle.program_replay.proofs.next_line.Goals as goal

pub behind_part-requires : goal.behind_part-requires
behind_part-requires c = tt

pub returns : goal.returns
returns c = rw c.behind_part.ensures (part_beyond NEWLINE c.args.text.now c.args.from c.requires)
