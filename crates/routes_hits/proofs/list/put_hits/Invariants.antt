-- `list::put_hits` meets its contract: what is said of a row is written with each turn. Assumes nothing.
use Prim.Native.Nat.{◌+◌, ◌*◌, ◌≤◌}
use lib.ListN.{take}
use Rattle.sheet.specs.Written.{Wrote}
use Rattle.routes.specs.PlanSheet.{numbered}
use Rattle.routes_hits.proofs.list.put_hits.Given as goal

abbrev pub invariant-loop-i : goal.invariant-loop-i
invariant-loop-i g l = (l.next ≤ l.at + g.H.HitRows.most * l.i) × Wrote l.initial.hits l.at (numbered (g.H.HitRows.said l.table) 0 (take l.i l.rows)) l.hits l.next
