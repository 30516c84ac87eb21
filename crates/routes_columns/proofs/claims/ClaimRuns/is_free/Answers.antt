-- `is_free` meets its contract. Assumes nothing.
use mathlib.Core.Path.{ap, ◌∙◌}
use mathlib.Core.Bool.{not}
use native.Mathlib.Omega.{arith}
use lib.ListN.{get_or}
use Rattle.base.specs.Lists.{any}
use Rattle.routes.specs.Stops.{near}
use Rattle.routes_columns.proofs.Claiming.{slice_run}
use Rattle.routes_columns.proofs.claims.ClaimRuns.is_free.Goals as goal

pub returns : goal.returns
returns c = let a = c.args in
    let r = c.requires.claim_room in
    ap not (c.near_in.ensures ∙ ap (any (near a.x)) (slice_run a.self.now.xs (get_or a.self.now.starts a.k 0) (get_or a.self.now.nexts a.k 0) r.begun (omega (arith, r.room, r.inside))))
