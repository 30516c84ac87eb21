use native.Mathlib.Omega.{arith}
use Rattle.base.proofs.RunLaws.{having_most}
use Rattle.routes_columns.specs.Columns.{stop_key}
use Rattle.routes_columns.proofs.claims.count_stops.Goals as goal

pub overflow_add-counts : goal.overflow_add-counts
overflow_add-counts c = let l = c.loop-stop in
    let a = c.args in
    omega (arith, l.invariant c.stop_key.result, having_most (stop_key a.pages a.stops.now) c.stop_key.result l.stop-index, c.requires.few_stops.0)
