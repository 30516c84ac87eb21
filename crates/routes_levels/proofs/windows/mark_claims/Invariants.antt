-- The loop over the claims of a lane: each level of the window that one of them is near is marked.
use Prim.Native.Nat.{ℕ, ◌*◌, ◌+◌, ◌<◌}
use mathlib.Core.Path.{◌≡◌}
use lib.ListN.{length, get_or}
use Rattle.routes.specs.Levels.{STAGGER_STEP}
use Rattle.routes_levels.specs.Search.{weigh, near_one}
use Rattle.routes_levels.proofs.windows.mark_claims.Given as goal

abbrev pub invariant-loop-claim : goal.invariant-loop-claim
invariant-loop-claim l = (j : ℕ) → j < length l.initial.loads → get_or l.loads j 0 ≡ weigh (near_one l.lane (l.start + STAGGER_STEP * j) l.claim-index) (get_or l.initial.loads j 0)
