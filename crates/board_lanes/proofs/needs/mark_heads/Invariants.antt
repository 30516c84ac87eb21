use Prim.Native.Nat.{ℕ, ◌<◌}
use mathlib.Core.Path.{◌≡◌}
use mathlib.Core.List.{[]}
use lib.ListN.{length, get_or}
use Rattle.board.specs.Board.{Board}
use Rattle.board.specs.Groups.{taps_of}
use Rattle.base.specs.Views.{view}
use Rattle.board.specs.Tables.{held, tap_in, WireFacts}
use Rattle.board_groups.specs.Collecting.{head_page, GroupSums}
use Rattle.board_lanes.proofs.needs.mark_heads.Given as goal

abbrev pub invariant-loop-k : goal.invariant-loop-k
invariant-loop-k l = (b : Board) → b.nodes ≡ l.s.nodes.now → b.wires ≡ l.s.wires.now → WireFacts b l.facts → view tap_in l.taps (length l.taps) ≡ taps_of b → GroupSums b (taps_of b) l.groups → (j : ℕ) → j < l.k → get_or l.marks j 0 ≡ held (head_page b (taps_of b) (tap_in (get_or l.taps j [])))
