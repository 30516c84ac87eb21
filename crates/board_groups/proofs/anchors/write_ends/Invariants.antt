-- `write_ends` meets its contract: the ends of the wires behind are written. Assumes nothing.
use mathlib.Core.Path.{◌≡◌}
use Rattle.board.specs.Board.{Board}
use Rattle.board.specs.Tables.{NodeFacts}
use Rattle.board_groups.specs.Collecting.{SomeAnchors}
use Rattle.board_groups.proofs.TapLaws.{EndsUpto}
use Rattle.board_groups.proofs.anchors.write_ends.Given as goal

abbrev pub invariant-loop-w : goal.invariant-loop-w
invariant-loop-w l = (b : Board) → b.nodes ≡ l.named.sections.nodes.now → b.chips ≡ l.named.sections.chips.now → b.inner ≡ l.named.sections.inner.now → b.wires ≡ l.named.sections.wires.now → SomeAnchors b l.initial.anchors → NodeFacts b l.initial.facts
    → NodeFacts b l.facts × EndsUpto b l.facts l.w × SomeAnchors b l.anchors
