-- `fill_taps` meets its contract: the taps gone through have their items, and the bricks keep theirs. Assumes nothing.
use Rattle.std.proofs.Common.{◌≡◌, ℕ, ◌<◌, length, get_or, []}
use Rattle.routes_beside.specs.Beside.{TapItems}
use Rattle.routes_beside.proofs.items.fill_taps.Given as goal

abbrev pub invariant-loop-k : goal.invariant-loop-k
invariant-loop-k l = ((q : ℕ) → q < l.k → TapItems l.nodes l.laid l.asked l.items q) × ((j : ℕ) → j < length l.nodes → get_or l.items j [] ≡ get_or l.initial.items j [])
