-- Where a bus wire is hit, its number is written. Assumes nothing.
use mathlib.Core.Path.{sym, ◌∙◌}
use native.Mathlib.Omega.{arith}
use lib.ListN.{length}
use Rattle.base.specs.Views.{view}
use Rattle.sheet.proofs.Writing.{wrote_nothing}
use Rattle.routes.specs.Buffers.{rerouter_in, wire_in}
use Rattle.routes_hits.proofs.Listing.{wire_yes, wire_no}
use Rattle.routes_hits.proofs.list.BusWiresHitRows.put_row.Goals as goal

pub returns-then-is_wire_under : goal.returns-then-is_wire_under
returns-then-is_wire_under c =
    let ks = view rerouter_in c.args.self.now.rerouters.now (length c.args.self.now.rerouters.now) in
    (rw (wire_yes c.args.self.now.q ks c.args.number (wire_in c.args.row.now) (sym c.is_wire_under.ensures ∙ c.if-is_wire_under.true)) c.put.ensures.0, omega (arith, c.put.ensures.1))

pub returns : goal.returns
returns c =
    let ks = view rerouter_in c.args.self.now.rerouters.now (length c.args.self.now.rerouters.now) in
    (rw (wire_no c.args.self.now.q ks c.args.number (wire_in c.args.row.now) (sym c.is_wire_under.ensures ∙ c.if-is_wire_under.false)) (wrote_nothing _ _), omega arith)
