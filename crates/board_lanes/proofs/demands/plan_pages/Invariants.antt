use Prim.Native.Nat.{ℕ, ◌≤◌}
use mathlib.Core.List.{[]}
use mathlib.Core.Path.{◌≡◌}
use lib.ListN.{length, get_or}
use Rattle.board.specs.Board.{Board}
use Rattle.board.specs.Tables.{NodeFacts, WireFacts}
use Rattle.board_groups.specs.Collecting.{Packable}
use Rattle.board_lanes.specs.PagePlan.{Surveyed}
use Rattle.board_lanes.proofs.PlanLaws.{SoFar}
use Rattle.board_lanes.proofs.demands.plan_pages.Given as goal

abbrev pub invariant-loop-p : goal.invariant-loop-p
invariant-loop-p l = ((k : ℕ) → length (get_or l.facts k []) ≡ length (get_or l.initial.facts k [])) × Packable l.asking.taps.now (length l.asking.taps.now) l.groups × ((b : Board) → b.pages ≡ l.pages → Surveyed b l.asking.taps.now (length l.asking.taps.now) l.initial.groups l.asking.marks.now → length b.wires ≤ length l.initial.groups → SoFar b l.groups l.facts l.p) × ((b : Board) → NodeFacts b l.initial.facts → WireFacts b l.initial.facts → NodeFacts b l.facts × WireFacts b l.facts)
