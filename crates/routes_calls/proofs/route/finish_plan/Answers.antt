-- Laid and settled, turned and settled, and the pages answered.
use Prim.Native.Nat.{ℕ}
use native.Mathlib.Omega.{arith}
use mathlib.Core.Path.{sym, ap₂, ◌∙◌}
use mathlib.Core.List.{List, ◌++◌}
use lib.ListN.{drop}
use lib.Seq.{length-take-le}
use Rattle.routes_calls.proofs.Routing.{corners_ready, all_pages, answers_ready}
use Rattle.routes_calls.proofs.route.finish_plan.Goals as goal

pub lay_and_settle-laid-requires : goal.lay_and_settle-laid-requires
lay_and_settle-laid-requires c = let p = c.requires in (p.0, p.1, p.2.laying, p.2.port_room)

pub turn_and_settle-bus-requires : goal.turn_and_settle-bus-requires
turn_and_settle-bus-requires c =
    let a = c.args in
    let p = c.requires in
    let l = c.lay_and_settle-laid in
    let k = p.2.laying in (
      p.0,
      p.1,
      a.rerouters.now,
      a.bus_wires.now,
      a.ports.now,
      corners_ready p.2 l.new.rerouters l.new.bus_wires l.new.ports l.result.bus (l.ensures p.0 p.1 k p.2.port_room).0
          l.auto.rerouters l.auto.bus_wires l.auto.ports l.new.marks l.auto.marks,
    )

pub slice_bounds-write_pages-end : goal.slice_bounds-write_pages-end
slice_bounds-write_pages-end c = (answers_ready c.requires.2).0.1

pub slice_bounds-write_pages-end-2 : goal.slice_bounds-write_pages-end-2
slice_bounds-write_pages-end-2 c = sym (length-take-le _ _ (answers_ready c.requires.2).0.1)

pub write_pages-requires : goal.write_pages-requires
write_pages-requires c =
    let both = answers_ready c.requires.2 in
    let long = length-take-le _ c.args.answers.now both.0.1 in record {
      facts_long = omega (arith, both.0.0, long);
      by_index = λ p h. both.1 p (omega (arith, long));
    }

pub returns : goal.returns
returns c =
    let a = c.args in
    let l = c.lay_and_settle-laid in
    let t = c.turn_and_settle-bus in
    let w = c.write_pages in
    λ b ps plan.
    let k = plan.laying in
    let stands = l.ensures b ps k plan.port_room in (
      t.ensures b ps a.rerouters.now a.bus_wires.now a.ports.now
          (corners_ready plan l.new.rerouters l.new.bus_wires l.new.ports l.result.bus stands.0
          l.auto.rerouters l.auto.bus_wires l.auto.ports l.new.marks l.auto.marks),
      stands.1,
      ap₂ (λ (front : List (List ℕ)) (j : ℕ). front ++ drop j a.answers.now)
          (w.ensures ps (all_pages plan ∙ sym (length-take-le _ a.answers.now (answers_ready plan).0.1)) k.ready.pages_known) (sym (all_pages plan)),
    )
