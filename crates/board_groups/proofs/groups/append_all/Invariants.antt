-- `append_all` meets its contract: the taps of the wires behind are appended. Assumes nothing.
use Prim.Native.Nat.{◌≤◌}
use mathlib.Core.Path.{◌≡◌}
use mathlib.Core.List.{[]}
use Rattle.base.specs.Lists.{fold, upto}
use Rattle.board.specs.Board.{Board}
use Rattle.board.specs.Groups.{add_wire}
use Rattle.board.specs.Tables.{NodeFacts, TapTargets}
use Rattle.board_groups.specs.Shares.{Wired, Appended}
use Rattle.board_groups.proofs.groups.append_all.Given as goal

abbrev pub invariant-loop-w : goal.invariant-loop-w
invariant-loop-w l = (l.m ≤ l.w) × Wired l.s.wires.now l.taps l.m
    × ((b : Board) → b.nodes ≡ l.s.nodes.now → b.wires ≡ l.s.wires.now → NodeFacts b l.facts → TapTargets b l.facts → Appended b l.taps l.m (fold (add_wire b) [] (upto l.w)))
