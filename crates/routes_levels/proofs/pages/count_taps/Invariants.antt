-- Taps counted by row and by lane. The invariant: each key is counted as often as the taps passed have it, and two for a tap in all.
use Rattle.std.proofs.Common.{◌≡◌, ℕ, ◌*◌, ◌≤◌, get_or}
use Rattle.base.specs.Runs.{sums}
use Rattle.routes_levels.specs.Pages.{share}
use Rattle.routes_levels.proofs.pages.count_taps.Given as goal

abbrev pub invariant-loop-tap : goal.invariant-loop-tap
invariant-loop-tap l = ((k : ℕ) → get_or l.counts k 0 ≡ share l.laid.groups.now l.laid.taps.now l.a k l.tap-index) × ((n : ℕ) → sums (λ j. get_or l.counts j 0) n ≤ 2 * l.tap-index)
