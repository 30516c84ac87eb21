-- `replay::replay` goes on by a case at each turn, so there are no more cases than bytes. Assumes nothing.
use Rattle.std.proofs.Common.{◌<◌, ◌≤◌, ◌-◌, length}
use Rattle.std.specs.Prelude.{IfSome}
use Rattle.program_replay.proofs.replay.Given as goal

abbrev pub invariant-loop-case : goal.invariant-loop-case
invariant-loop-case l = (l.tally.agreed ≤ l.tally.cases) × (l.tally.cases ≤ l.at) × (l.at ≤ length l.text) × IfSome l.tally.first (λ i. i < length l.text)

abbrev pub decreases-loop-case : goal.decreases-loop-case
decreases-loop-case l = length l.text - l.at
