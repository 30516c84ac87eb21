use Prim.Native.Nat.{ℕ, ◌≤◌, ◌<◌}
use mathlib.Core.Path.{◌≡◌}
use mathlib.Core.List.{[]}
use lib.ListN.{length, get_or}
use Rattle.sheet.specs.Table.{MISSING}
use Rattle.board.specs.Board.{Board, field}
use Rattle.board.specs.Groups.{taps_of}
use Rattle.base.specs.Views.{view}
use Rattle.board.specs.Tables.{tap_in, group_row, WireFacts}
use Rattle.board_lanes.proofs.needs.sum_taps.Given as goal

abbrev pub invariant-loop-tap : goal.invariant-loop-tap
invariant-loop-tap l = ((g : ℕ) → g < length l.s.wires.now → field l.groups g 2 ≤ l.tap-index) × ((b : Board) → b.nodes ≡ l.s.nodes.now → b.wires ≡ l.s.wires.now → WireFacts b l.facts → view tap_in l.taps (length l.taps) ≡ taps_of b → (g : ℕ) → g < length l.s.wires.now → get_or l.groups g [] ≡ group_row b (view tap_in l.taps l.tap-index) g MISSING)
