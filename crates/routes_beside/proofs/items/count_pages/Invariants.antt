-- `count_pages` meets its contract: each page's count is that of its nodes among those gone through. Assumes nothing.
use Rattle.std.proofs.Common.{◌≡◌, ℕ, ◌<◌, get_or}
use Rattle.routes_beside.proofs.Filling.{count_among}
use Rattle.routes_beside.proofs.items.count_pages.Given as goal

abbrev pub invariant-loop-node : goal.invariant-loop-node
invariant-loop-node l = (p : ℕ) → p < 64 → get_or l.counts p 0 ≡ count_among l.nodes p l.node-index
