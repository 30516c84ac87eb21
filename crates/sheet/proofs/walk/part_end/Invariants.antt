-- `sheet::walk::part_end` finds where the part ends: at each turn what is left of it ends where the whole does. Assumes nothing.
use Rattle.std.proofs.Common.{◌≡◌, ◌-◌, length}
use Rattle.sheet.specs.Places.{part_end}
use Rattle.sheet.proofs.walk.part_end.Given as goal

abbrev pub invariant-loop-i : goal.invariant-loop-i
invariant-loop-i l = part_end l.end l.text l.at ≡ part_end l.end l.text l.i

abbrev pub decreases-loop-i : goal.decreases-loop-i
decreases-loop-i l = length l.text - l.i
