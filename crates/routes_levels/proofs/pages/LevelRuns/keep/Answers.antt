-- A stop's level put to the runs: nothing, to its row, or to its lane too.
use mathlib.Core.Path.{sym, ◌∙◌}
use Rattle.routes_levels.proofs.EndLaws.{shared_is, own_is}
use Rattle.routes_levels.proofs.PageLaws.{kept_shared, kept_own}
use Rattle.routes_levels.proofs.pages.LevelRuns.keep.Goals as goal

pub returns-in-Shared-clause-runs : goal.returns-in-Shared-clause-runs
returns-in-Shared-clause-runs c = λ v starts rows lanes rows' lanes' e x room g h. kept_shared x room v _ (shared_is _ v (sym c.in-Shared.is ∙ e)) c.put.ensures g h

pub returns-in-Own-clause-runs : goal.returns-in-Own-clause-runs
returns-in-Own-clause-runs c = λ v starts rows lanes rows' lanes' e x room g h. kept_own x room v _ c.lane_key.result (own_is _ v (sym c.in-Own.is ∙ e)) c.lane_key.ensures c.put-in-Own.ensures c.put-in-Own-2.ensures g h
