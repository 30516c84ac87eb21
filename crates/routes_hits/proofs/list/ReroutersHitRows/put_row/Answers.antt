-- Where a rerouter is hit, its three numbers are written. Assumes nothing.
use mathlib.Core.Path.{sym, ◌∙◌}
use native.Mathlib.Omega.{arith}
use Rattle.sheet.proofs.Writing.{wrote_nothing}
use Rattle.routes.specs.Buffers.{rerouter_in}
use Rattle.routes_hits.proofs.Listing.{hit_yes, hit_no}
use Rattle.routes_hits.proofs.list.ReroutersHitRows.put_row.Goals as goal

pub returns-then-is_under : goal.returns-then-is_under
returns-then-is_under c =
    (rw (hit_yes c.args.self.now.q c.args.number (rerouter_in c.args.row.now) (sym c.is_under.ensures ∙ c.if-is_under.true)) c.put.ensures.0, omega (arith, c.put.ensures.1))

pub returns : goal.returns
returns c = (rw (hit_no c.args.self.now.q c.args.number (rerouter_in c.args.row.now) (sym c.is_under.ensures ∙ c.if-is_under.false)) (wrote_nothing _ _), omega arith)
