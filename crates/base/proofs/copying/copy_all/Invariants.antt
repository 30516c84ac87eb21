-- `copy_all` meets its contract: the front that is copied grows by one with each turn. Assumes nothing.
use mathlib.Core.Path.{◌≡◌}
use lib.ListN.{take}
use Rattle.base.proofs.copying.copy_all.Given as goal

abbrev pub invariant-loop-i : goal.invariant-loop-i
invariant-loop-i g l = take l.i l.to ≡ take l.i l.from
