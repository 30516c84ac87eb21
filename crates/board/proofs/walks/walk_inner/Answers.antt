use Prim.Native.Nat.{◌<◌}
use mathlib.Core.Path.{◌≡◌, ap, sym, ◌∙◌}
use mathlib.Core.Bool.{false, not}
use native.Mathlib.Omega.{arith}
use native.Mathlib.Numerals.{add-one}
use lib.ListN.{length, get_or}
use Rattle.std.specs.Bool.{then_some}
use Rattle.std.specs.Option.{option_or}
use Rattle.base.proofs.Bools.{either_left, either_right, neither}
use Rattle.base.proofs.Passing.{passed}
use Rattle.base.specs.Lists.{found}
use Rattle.base.specs.declared.refusal.Reason.TheVariants.{IdTaken}
use Rattle.base.specs.Refusal.{refusal}
use Rattle.board.specs.Index.{entry_of}
use Rattle.board.specs.Walk.{sheet_board}
use Rattle.board.specs.Refusals.{inner_twice, chip_missing}
use Rattle.board.proofs.Faults.{inner_few, inner_here, walking_more, walking_twice, ids_more, was_there, was_new, inner_field, inner_repeats, inner_gone}
use Rattle.board.proofs.walks.walk_inner.Goals as goal

pub row_of-next-requires : goal.row_of-next-requires
row_of-next-requires c = omega (arith, inner_few _ c.requires.ready c.requires.inner_ready, c.loop-f-test.true)

pub line_of-line-requires : goal.line_of-line-requires
line_of-line-requires c = omega (arith, inner_few _ c.requires.ready c.requires.inner_ready, c.loop-f-test.true)

pub returns-then-has : goal.returns-then-has
returns-then-has c =
    let a = c.args in
    let p = c.requires.inner_ready in
    let l = c.loop-f in
    let here = inner_here _ l.invariant.0.ready c.loop-f-test.true _ c.row_of-next.ensures p in
    let twice = inner_repeats (sheet_board a.lines.text.now) l.f _ here.0 a.bodies.count p.bodies l.invariant.0.entered p.body in
    walking_twice a.lines.text.now a.lines.rows.now a.lines.first a.lines.count _ _ _ a.w.missing l.f l.w.missing l.w.place l.invariant.0 c.loop-f-test.true _
    (sym twice ∙ either_left _ _ (sym c.has.ensures ∙ c.if-has.true)) (c.at.ensures ∙ ap (refusal IdTaken) c.line_of-line.ensures)

pub enter_id-requires-clause-n_in_bounds : goal.enter_id-requires-clause-n_in_bounds
enter_id-requires-clause-n_in_bounds c =
    let few = inner_few _ c.requires.ready c.requires.inner_ready in
    let h = c.loop-f-test.true in
    (omega (arith, h, c.requires.fresh.room, c.loop-f.auto.index), omega (arith, h, few))

pub returns-in_err-enter_id : goal.returns-in_err-enter_id
returns-in_err-enter_id c =
    let a = c.args in
    let p = c.requires.inner_ready in
    let l = c.loop-f in
    let here = inner_here _ l.invariant.0.ready c.loop-f-test.true _ c.row_of-next.ensures p in
    let twice = inner_repeats (sheet_board a.lines.text.now) l.f _ here.0 a.bodies.count p.bodies l.invariant.0.entered p.body in
    let there = was_there c.enter_id.ensures _ c.in_err-enter_id.was in
    rw (passed c.from_residual.result _ c.from_residual.ensures.1)
    (walking_twice a.lines.text.now a.lines.rows.now a.lines.first a.lines.count _ _ _ a.w.missing l.f l.w.missing l.w.place l.invariant.0 c.loop-f-test.true _
    (sym twice ∙ either_right (found (entry_of a.bodies.rows.now a.bodies.count (get_or c.row_of-next.result.row 1 0))) _ there.0) (there.1 ∙ ap (refusal IdTaken) c.line_of-line.ensures))

pub loop-f-preserved : goal.loop-f-preserved
loop-f-preserved c =
    let a = c.args in
    let p = c.requires in
    let l = c.loop-f in
    let b = sheet_board a.lines.text.now in
    let h = c.loop-f-test.true in
    let e = c.enter_id.ensures in
    let new = c.in_ok-enter_id.was in
    let row = c.row_of-next.result.row in
    let here = inner_here _ l.invariant.0.ready h _ c.row_of-next.ensures p.inner_ready in
    let twice = inner_repeats b l.f row here.0 a.bodies.count p.inner_ready.bodies l.invariant.0.entered p.inner_ready.body in
    let once : inner_twice b l.f ≡ false = sym twice ∙ neither _ _ (sym c.has.ensures ∙ c.if-has.false) (was_new e new) in
    let room : l.f < length l.index = omega (arith, h, p.fresh.room, l.auto.index) in
    let gone : not c.has-in-loop-f.result ≡ chip_missing b l.f =
    ap not c.has-in-loop-f.ensures ∙ inner_gone b l.f row here.0 a.chips.count p.inner_ready.chips_are p.inner_ready.chip in
    rw (add-one l.f) (
      walking_more a.lines.text.now a.lines.rows.now a.lines.first a.lines.count _ _ _ a.w.missing l.f l.w.missing l.w.place l.invariant.0 h _ _ once here.1
          (ids_more (get_or row 1 0) l.invariant.0.entered room e new (inner_field b l.f row here.0 1))
          (c.or-w.ensures ∙ ap (option_or l.w.missing) (c.then_some.ensures ∙ (λ w. then_some (gone w) (c.line_of-line.ensures w)))),
      l.invariant.1,
    )
