use native.Mathlib.Omega.{arith}
use Rattle.base.proofs.RunLaws.{having_most}
use Rattle.routes_columns.specs.Columns.{tap_key}
use Rattle.routes_columns.proofs.claims.count_taps.Goals as goal

pub overflow_add-counts : goal.overflow_add-counts
overflow_add-counts c = let l = c.loop-tap in
    let a = c.args in
    let key = c.tap_key.result in
    omega (arith, l.invariant key, c.requires.by_index key, having_most (tap_key a.groups.now a.taps.now) key l.tap-index, c.requires.few_taps.0)
