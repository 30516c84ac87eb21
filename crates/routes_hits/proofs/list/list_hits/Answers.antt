-- `list::list_hits` meets its contract: the rerouters that are hit, and behind them the bus wires. Assumes nothing.
use native.Mathlib.Omega.{arith}
use mathlib.Core.Path.{sym, ap, subst, ◌∙◌}
use mathlib.Core.List.{List}
use Prim.Native.Nat.{ℕ}
use lib.Seq.{take_all}
use lib.ListN.{length}
use Rattle.base.specs.Views.{view}
use Rattle.sheet.specs.Written.{Wrote}
use Rattle.routes.specs.Bus.{Rerouter}
use Rattle.routes.specs.Buffers.{rerouter_in, wire_in}
use Rattle.routes.specs.PlanSheet.{numbered}
use Rattle.routes_hits.specs.Hits.{rerouter_hit, wire_hit}
use Rattle.routes_hits.proofs.Listing.{hits_listed, rerouters_said, wires_said}
use Rattle.routes_hits.proofs.list.list_hits.Goals as goal

pub returns : goal.returns
returns c =
    let a = c.args in
    let first = c.put_hits-middle.ensures in
    let second = c.put_hits-end.ensures in
    let n : ℕ = length a.rerouters.now in
    let k : ℕ = length a.bus_wires.now in
    let ks : List Rerouter = view rerouter_in a.rerouters.now n in
    let nodes = rerouters_said a.q a.rerouters.now n (omega arith) ∙ ap (numbered (λ j row. rerouter_hit a.q j (rerouter_in row)) 0) (take_all n a.rerouters.now (omega arith)) in
    let rows = wires_said a.q ks a.bus_wires.now k (omega arith) ∙ ap (numbered (λ j row. wire_hit a.q ks j (wire_in row)) 0) (take_all k a.bus_wires.now (omega arith)) in
    hits_listed a.q ks (view wire_in a.bus_wires.now k) a.hits.now _ _ _ _
    (omega (arith, c.requires.2, first.1, second.1))
    (subst (λ (l : List ℕ). Wrote a.hits.now 0 l c.put_hits-middle.new.hits c.put_hits-middle.result) (sym nodes) first.0)
    (subst (λ (l : List ℕ). Wrote c.put_hits-middle.new.hits c.put_hits-middle.result l c.put_hits-end.new.hits c.put_hits-end.result) (sym rows) second.0)
