-- The runs of a row and a lane lent to the finder.
use native.Mathlib.Omega.{arith}
use Rattle.routes_levels.proofs.PageLaws.{run_inside, walked}
use Rattle.routes_levels.proofs.pages.LevelRuns.find.Goals as goal

pub slice_bounds-find_level-end : goal.slice_bounds-find_level-end
slice_bounds-find_level-end c = omega (arith, run_inside c.requires.growing c.args.row (omega (arith, c.requires.row_bound)))

pub slice_bounds-find_level-end-2 : goal.slice_bounds-find_level-end-2
slice_bounds-find_level-end-2 c = let k = c.lane_key-k in
    omega (arith, run_inside c.requires.growing k.result (omega (arith, k.ensures, c.requires.row_bound)))

pub returns : goal.returns
returns c = λ ss p er el. c.find_level.ensures ss p c.args.lane c.args.row (walked c.requires.growing ss p c.args.row c.args.lane c.lane_key-k.result c.lane_key-k.ensures c.requires.row_bound.0 c.requires.row_bound.1 er el)
