-- A window as long as it needs to be.
use Rattle.std.proofs.Common.{ap, sym, ◌∙◌, ◌+◌, ◌≡◌, arith}
use Rattle.board.specs.Index.{found_of}
use Rattle.routes.specs.Levels.{lowest}
use Rattle.routes_levels.specs.Search.{free_in}
use Rattle.routes_levels.proofs.Picking.{picked_first}
use Rattle.routes_levels.proofs.finding.Search.pick.Goals as goal

pub returns-in-Some : goal.returns-in-Some
returns-in-Some c = let s = c.args.self in
    let first : s.base + 0 ≡ s.base = omega arith in
    picked_first _ _ _ _ 64 _ (omega arith) (sym c.in-Some.is ∙ c.free_in_window.ensures ∙ ap (λ base. found_of (lowest (free_in s.row.now s.lane.now) base 64)) first)
