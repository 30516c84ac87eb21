-- `lanes::pack::key_row` meets its contract: the rank of a demand that is not faulty does not go below 0. Assumes nothing.
use mathlib.Core.Path.{refl}
use native.Mathlib.Omega.{arith}
use Rattle.lanes.specs.Keys.{key_of, demand_in}
use Rattle.lanes.proofs.RankLaws.{allowed}
use Rattle.lanes.proofs.pack.key_row.Goals as goal

pub overflow_sub-result : goal.overflow_sub-result
overflow_sub-result c = omega (arith, (allowed (demand_in c.args.d) c.requires).rising)

pub overflow_sub-result-2 : goal.overflow_sub-result-2
overflow_sub-result-2 c = omega (arith, (allowed (demand_in c.args.d) c.requires).rows)

pub overflow_sub-result-3 : goal.overflow_sub-result-3
overflow_sub-result-3 c = omega (arith, (allowed (demand_in c.args.d) c.requires).consumers)

pub returns : goal.returns
unfolding key_of
returns c = refl
