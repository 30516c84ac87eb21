use Prim.Native.Nat.{◌<◌}
use mathlib.Core.Path.{◌≡◌, ap, sym, ◌∙◌}
use mathlib.Core.Bool.{false}
use native.Mathlib.Omega.{arith}
use native.Mathlib.Numerals.{add-one}
use lib.ListN.{length, get_or}
use Rattle.std.specs.Bool.{then_some}
use Rattle.std.specs.Option.{option_or}
use Rattle.base.proofs.Passing.{passed}
use Rattle.base.specs.declared.refusal.Reason.TheVariants.{IdTaken}
use Rattle.base.specs.Refusal.{refusal}
use Rattle.board.specs.Walk.{sheet_board}
use Rattle.board.specs.Refusals.{chip_twice, parent_missing}
use Rattle.board.proofs.Faults.{chips_few, chip_here, walking_more, walking_twice, ids_more, was_there, was_new, chip_field, chip_repeats, chip_gone}
use Rattle.board.proofs.walks.walk_chips.Goals as goal

pub row_of-next-requires : goal.row_of-next-requires
row_of-next-requires c = omega (arith, chips_few _ c.requires.ready c.requires.chips_ready, c.loop-c-test.true)

pub line_of-line-requires : goal.line_of-line-requires
line_of-line-requires c = omega (arith, chips_few _ c.requires.ready c.requires.chips_ready, c.loop-c-test.true)

pub enter_id-requires-clause-n_in_bounds : goal.enter_id-requires-clause-n_in_bounds
enter_id-requires-clause-n_in_bounds c =
    let few = chips_few _ c.requires.ready c.requires.chips_ready in
    let h = c.loop-c-test.true in
    (omega (arith, h, c.requires.fresh.room, c.loop-c.auto.index), omega (arith, h, few))

pub returns-in_err-enter_id : goal.returns-in_err-enter_id
returns-in_err-enter_id c =
    let a = c.args in
    let l = c.loop-c in
    let b = sheet_board a.lines.text.now in
    let here = chip_here _ l.invariant.0.ready c.loop-c-test.true _ c.row_of-next.ensures c.requires.chips_ready in
    let there = was_there c.enter_id.ensures _ c.in_err-enter_id.was in
    rw (passed c.from_residual.result _ c.from_residual.ensures.1)
    (walking_twice a.lines.text.now a.lines.rows.now a.lines.first a.lines.count _ _ _ a.w.missing l.c l.w.missing l.w.place l.invariant.0 c.loop-c-test.true _
    (sym (chip_repeats b l.c _ here.0 l.invariant.0.entered) ∙ there.0) (there.1 ∙ ap (refusal IdTaken) c.line_of-line.ensures))

pub loop-c-preserved : goal.loop-c-preserved
loop-c-preserved c =
    let a = c.args in
    let p = c.requires in
    let l = c.loop-c in
    let b = sheet_board a.lines.text.now in
    let h = c.loop-c-test.true in
    let e = c.enter_id.ensures in
    let new = c.in_ok-enter_id.was in
    let row = c.row_of-next.result.row in
    let here = chip_here _ l.invariant.0.ready h _ c.row_of-next.ensures p.chips_ready in
    let once : chip_twice b l.c ≡ false = sym (chip_repeats b l.c row here.0 l.invariant.0.entered) ∙ was_new e new in
    let room : l.c < length l.index = omega (arith, h, p.fresh.room, l.auto.index) in
    let gone : c.parent_missing-gone.result ≡ parent_missing b l.c =
    c.parent_missing-gone.ensures
    ∙ chip_gone b l.c row here.0 a.bodies.kinds.now a.bodies.ids.count p.chips_ready.bodies l.invariant.0.entered p.chips_ready.body p.chips_ready.kinds_are in
    rw (add-one l.c) (
      walking_more a.lines.text.now a.lines.rows.now a.lines.first a.lines.count _ _ _ a.w.missing l.c l.w.missing l.w.place l.invariant.0 h _ _ once here.1
          (ids_more (get_or row 1 0) l.invariant.0.entered room e new (chip_field b l.c row here.0 1))
          (c.or-w.ensures ∙ ap (option_or l.w.missing) (c.then_some.ensures ∙ (λ w. then_some (gone w) (c.line_of-line.ensures w)))),
      l.invariant.1,
    )
