use native.Mathlib.Omega.{arith}
use mathlib.Core.Path.{◌∙◌}
use lib.ListN.{length}
use Rattle.routes_columns.proofs.Rooms.{stop_fits, stop_put}
use Rattle.routes_columns.proofs.claims.ClaimRuns.put_stops.Goals as goal

pub put-requires : goal.put-requires
put-requires c = let l = c.loop-stop in
    let a = c.args in
    let fits = stop_fits a.pages a.stops.now (length a.stops.now) l.stop-index l.invariant.1 (omega arith) c.requires.by_index c.stop_key.result c.stop_key.ensures in
    (fits.0, fits.1, omega arith)

pub loop-stop-preserved : goal.loop-stop-preserved
loop-stop-preserved c = let l = c.loop-stop in
    let a = c.args in
    let same = l.invariant.0 in
    (record { starts = same.starts; nexts_long = c.put.auto.nexts ∙ same.nexts_long; xs_long = c.put.auto.xs ∙ same.xs_long }, stop_put a.pages a.stops.now (length a.stops.now) l.stop-index l.invariant.1 (omega arith) c.requires.by_index c.stop_key.result c.stop_key.ensures c.put.ensures)
