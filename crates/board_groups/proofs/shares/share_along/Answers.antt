use native.Mathlib.Omega.{arith}
use Prim.Native.Nat.{◌<◌}
use mathlib.Core.List.{[]}
use lib.ListN.{length, get_or}
use mathlib.Core.Path.{subst}
use Rattle.board_groups.specs.Shares.{Runs}
use Rattle.board_groups.proofs.ShareLaws.{walked_runs, walked_on, walked_done, comes_there}
use Rattle.board_groups.proofs.shares.share_along.Goals as goal

pub group_at-group-requires-clause-by_index : goal.group_at-group-requires-clause-by_index
group_at-group-requires-clause-by_index c = let a = c.args in
    (length a.keys.now, c.loop-p-test.true, walked_runs a.wires.now a.taps.now a.keys.now c.loop-p.taps c.loop-p.p c.loop-p.invariant (length a.keys.now) c.requires.0)

pub loop-p-preserved : goal.loop-p-preserved
loop-p-preserved c = let a = c.args in
    let runs = walked_runs a.wires.now a.taps.now a.keys.now c.loop-p.taps c.loop-p.p c.loop-p.invariant (length a.keys.now) c.requires.0 in
    let there : c.number_behind.result < length c.loop-p.taps = (comes_there a.wires.now c.loop-p.taps a.keys.now (length a.keys.now) runs c.loop-p.p c.number_behind.result c.loop-p-test.true c.number_behind.ensures).1 in
    let wide : 1 < length (get_or c.loop-p.taps c.number_behind.result []) = omega (arith, c.loop-p.invariant.wide c.number_behind.result, c.told-taps c.number_behind.result (omega (arith, there, c.loop-p.invariant.long))) in
    walked_on a.wires.now a.taps.now a.keys.now c.loop-p.taps c.loop-p.p c.loop-p.invariant c.group_at-group.result c.number_behind.result c.number_behind.ensures there wide c.group_at-group.ensures

pub returns : goal.returns
returns c = let a = c.args in
    let long = c.requires.1 in
    walked_done a.wires.now a.taps.now a.keys.now c.loop-p.taps c.loop-p.p c.loop-p.invariant (length a.taps.now) (omega arith) (subst (Runs a.wires.now a.taps.now a.keys.now) long c.requires.0)
