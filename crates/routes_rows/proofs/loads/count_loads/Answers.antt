use Rattle.std.proofs.Common.{◌≡◌, ℕ, suc, List, ◌≤◌, ◌<◌, length, refl, sym, subst, add-one, arith}
use Rattle.routes_rows.specs.Notes.{listed}
use Rattle.routes_rows.proofs.LoadLaws.{only_self, Counting, counting_other, counting_more, counting_small}
use Rattle.routes_rows.proofs.loads.count_loads.Goals as goal
use Rattle.routes_rows.proofs.loads.count_loads.Goals.{then-notes-at, else-notes-at}

pub loop-q-init : goal.loop-q-init
loop-q-init c = record { only = only_self c.args.notes.now; loads = c.requires.2 }

pub add_load-requires : goal.add_load-requires
add_load-requires c =
    let a = c.args in
    let l = c.loop-q in
    let this : l.q < 8192 = omega (arith, c.loop-q-test.true, c.requires.1) in
    let long : 26580 ≤ length l.notes = let e = l.invariant.only.long in omega (arith, e, c.requires.0) in
    (long, counting_small a.notes.now a.sink a.x0 l.q l.notes l.invariant (omega (arith, this)))

pub loop-q-preserved : goal.loop-q-preserved
loop-q-preserved c =
    let a = c.args in
    let l = c.loop-q in
    rw (add-one l.q) (elim c.if-notes-at.branch [
      | then-notes-at w ↦ subst (λ (n : List ℕ). Counting a.notes.now a.sink a.x0 (suc l.q) n) (sym w.notes-is) (counting_more a.notes.now a.sink a.x0 l.q l.notes l.invariant _ _ w.if-notes-at.true refl w.add_load.ensures)
      | else-notes-at w ↦ subst (λ (n : List ℕ). Counting a.notes.now a.sink a.x0 (suc l.q) n) (sym w.notes-is) (counting_other a.notes.now a.sink a.x0 l.q l.notes l.invariant w.if-notes-at.false)
    ])

pub returns : goal.returns
returns c =
    let a = c.args in
    let l = c.loop-q in
    let end : l.q ≡ listed a.notes.now = omega arith in
    let all : Counting a.notes.now a.sink a.x0 (listed a.notes.now) l.notes = subst (λ (q : ℕ). Counting a.notes.now a.sink a.x0 q l.notes) end l.invariant in
    (all.only, all.loads)
