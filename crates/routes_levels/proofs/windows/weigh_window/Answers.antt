-- The row counted, then the lane marked.
use native.Mathlib.Omega.{arith}
use Rattle.routes_levels.proofs.WindowLaws.{weighed}
use Rattle.routes_levels.proofs.windows.weigh_window.Goals as goal

pub returns : goal.returns
returns c = let a = c.args in
    let counts = c.count_levels in
    let marks = c.mark_claims in
    weighed a.row.now a.lane.now counts.new.loads marks.new.loads a.start marks.auto.loads (λ j h. counts.ensures j (omega (arith, h, counts.auto.loads))) marks.ensures
