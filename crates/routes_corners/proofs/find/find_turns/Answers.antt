-- A wire that turns joins those found before it.
use Rattle.std.proofs.Common.{◌<◌, length, add-one, arith}
use Rattle.routes_corners.proofs.Finding.{turners_passed, turners_more}
use Rattle.routes_corners.proofs.find.find_turns.Goals as goal
use Rattle.routes_corners.proofs.find.find_turns.Goals.{then-turns, else-turns}

pub turns-requires : goal.turns-requires
turns-requires c = let p = c.requires in let l = c.loop-w-test.true in record { wire = l; end = omega arith; class = omega arith; flag = p.class_fits _ l }

pub loop-w-preserved : goal.loop-w-preserved
loop-w-preserved c = let a = c.args.t in
    let l = c.loop-w in
    let room : l.n < length l.list = let few = l.invariant.few in omega (arith, few, c.loop-w-test.true, l.auto.list, c.requires.room) in
    elim c.if-turns.branch [
      | then-turns w ↦
          rw (w.list-is, w.n-is, add-one l.n, add-one l.w)
          (turners_more a.s.nodes.now a.s.wires.now a.facts.now a.classes.now a.muted.now l.list l.n l.w l.invariant c.loop-w-test.true room _ c.turns.ensures.value w.if-turns.true (c.turns.ensures.ends_there w.if-turns.true))
      | else-turns w ↦
          rw (w.list-is, w.n-is, add-one l.w) (turners_passed a.s.nodes.now a.s.wires.now a.facts.now a.classes.now a.muted.now l.list l.n l.w l.invariant c.loop-w-test.true _ c.turns.ensures.value w.if-turns.false)
    ]
