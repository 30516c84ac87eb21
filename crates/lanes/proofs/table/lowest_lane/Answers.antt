use mathlib.Core.Path.{sym, ◌∙◌}
use mathlib.Core.Path.{refl}
use native.Mathlib.Omega.{arith}
use Rattle.lanes.proofs.LaneLaws.{eight_passed, lane_found, lane_none}
use Rattle.lanes.proofs.table.lowest_lane.Goals as goal

pub loop-passed-preserved : goal.loop-passed-preserved
loop-passed-preserved c = (omega arith, eight_passed c.args.ends.now c.args.first c.loop-passed.passed c.loop-passed.invariant.1 (omega arith) (c.if-not-any_before.ensures refl))

pub returns-in-Some : goal.returns-in-Some
returns-in-Some c = lane_found c.args.ends.now c.args.first c.loop-passed.passed c.loop-passed.invariant.1 c.in-Some.l (sym c.first_before.ensures ∙ c.in-Some.is)

pub returns-in-None : goal.returns-in-None
returns-in-None c = lane_none c.args.ends.now c.args.first c.loop-passed.passed c.loop-passed.invariant.1 (omega (arith, c.loop-passed.invariant.0)) (sym c.first_before.ensures ∙ c.in-None.is)
