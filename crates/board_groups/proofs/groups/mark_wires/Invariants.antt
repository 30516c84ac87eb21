-- `mark_wires` meets its contract: the targets of the wires behind are written. Assumes nothing.
use Prim.Native.Nat.{ℕ}
use mathlib.Core.Path.{◌≡◌}
use mathlib.Core.List.{[]}
use lib.ListN.{length, get_or}
use Rattle.board.specs.Board.{Board}
use Rattle.board.specs.Tables.{NodeFacts, WireFacts}
use Rattle.board_groups.proofs.TapLaws.{TargetsUpto}
use Rattle.board_groups.proofs.groups.mark_wires.Given as goal

abbrev pub invariant-loop-w : goal.invariant-loop-w
invariant-loop-w l = ((k : ℕ) → length (get_or l.facts k []) ≡ length (get_or l.initial.facts k []))
    × ((b : Board) → b.nodes ≡ l.s.nodes.now → b.execs ≡ l.execs.records.now → b.wires ≡ l.s.wires.now → NodeFacts b l.initial.facts → WireFacts b l.initial.facts → TargetsUpto b l.facts l.w)
