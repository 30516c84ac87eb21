-- `fill_beside` meets its contract: the rerouters' items, stored one behind the other. Assumes nothing.
use Rattle.std.proofs.Common.{◌≡◌, ℕ, ◌+◌, ◌<◌, [], length, get_or}
use Rattle.routes.specs.Buffers.{rerouter_in}
use Rattle.routes_corners.specs.Listing.{BesideIs}
use Rattle.routes_corners.proofs.items.fill_beside.Given as goal

abbrev pub invariant-loop-i : goal.invariant-loop-i
invariant-loop-i l = ((j : ℕ) → j < l.i → BesideIs l.nodes (rerouter_in (get_or l.rerouters j [])) (get_or l.items (length l.nodes + j) []))
    × ((j : ℕ) → j < length l.nodes → get_or l.items j [] ≡ get_or l.initial.items j [])
