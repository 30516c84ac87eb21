use Prim.Native.Nat.{◌<◌}
use mathlib.Core.Path.{◌≡◌, ap, sym, ◌∙◌}
use mathlib.Core.Bool.{false}
use native.Mathlib.Omega.{arith}
use native.Mathlib.Numerals.{add-one}
use lib.ListN.{length, get_or}
use Rattle.std.specs.Bool.{then_some}
use Rattle.std.specs.Option.{option_or}
use Rattle.base.proofs.Passing.{passed}
use Rattle.base.specs.declared.refusal.Reason.TheVariants.{IdTaken}
use Rattle.base.specs.Refusal.{refusal}
use Rattle.board.specs.Walk.{sheet_board}
use Rattle.board.specs.Board.{kind_of}
use Rattle.board.specs.Refusals.{node_twice, page_missing, row_unplaced}
use Rattle.board.proofs.Faults.{nodes_few, node_here, walking_more, walking_twice, ids_more, set_same, first_step, was_there, was_new, node_field, node_repeats, node_gone, node_unplaced}
use Rattle.board.proofs.walks.walk_nodes.Goals as goal

pub row_of-next-requires : goal.row_of-next-requires
row_of-next-requires c = omega (arith, nodes_few _ c.requires.ready c.requires.first_value, c.loop-i-test.true)

pub line_of-line-requires : goal.line_of-line-requires
line_of-line-requires c = omega (arith, nodes_few _ c.requires.ready c.requires.first_value, c.loop-i-test.true)

pub enter_id-requires-clause-n_in_bounds : goal.enter_id-requires-clause-n_in_bounds
enter_id-requires-clause-n_in_bounds c =
    let few = nodes_few _ c.requires.ready c.requires.first_value in
    let h = c.loop-i-test.true in
    (omega (arith, h, c.requires.fresh.room, c.loop-i.auto.index), omega (arith, h, few))

pub returns-in_err-enter_id : goal.returns-in_err-enter_id
returns-in_err-enter_id c =
    let a = c.args in
    let l = c.loop-i in
    let b = sheet_board a.lines.text.now in
    let here = node_here _ l.invariant.0.ready c.loop-i-test.true _ c.row_of-next.ensures c.requires.first_value in
    let there = was_there c.enter_id.ensures _ c.in_err-enter_id.was in
    rw (passed c.from_residual.result _ c.from_residual.ensures.1)
    (walking_twice a.lines.text.now a.lines.rows.now a.lines.first a.lines.count _ _ _ a.w.missing l.i l.w.missing l.w.place l.invariant.0 c.loop-i-test.true _
    (sym (node_repeats b l.i _ here.0 l.invariant.0.entered) ∙ there.0) (there.1 ∙ ap (refusal IdTaken) c.line_of-line.ensures))

pub loop-i-preserved : goal.loop-i-preserved
loop-i-preserved c =
    let a = c.args in
    let p = c.requires in
    let l = c.loop-i in
    let b = sheet_board a.lines.text.now in
    let h = c.loop-i-test.true in
    let e = c.enter_id.ensures in
    let new = c.in_ok-enter_id.was in
    let row = c.row_of-next.result.row in
    let here = node_here _ l.invariant.0.ready h _ c.row_of-next.ensures p.first_value in
    let once : node_twice b l.i ≡ false = sym (node_repeats b l.i row here.0 l.invariant.0.entered) ∙ was_new e new in
    let room : l.i < length l.index = omega (arith, h, p.fresh.room, l.auto.index) in
    let gone : c.page_missing.result ≡ page_missing b l.i = c.page_missing.ensures ∙ node_gone b l.i row here.0 a.lines.first p.first_value.0 in
    let loose : c.row_unplaced.result ≡ row_unplaced b l.i = c.row_unplaced.ensures ∙ node_unplaced b l.i row here.0 in
    rw (add-one l.i) (
      walking_more a.lines.text.now a.lines.rows.now a.lines.first a.lines.count _ _ _ a.w.missing l.i l.w.missing l.w.place l.invariant.0 h _ _ once here.1
          (ids_more (get_or row 1 0) l.invariant.0.entered room e new (node_field b l.i row here.0 1))
          (c.or-w.ensures ∙ ap (option_or l.w.missing) (c.then_some.ensures ∙ (λ w. then_some (gone w) (c.line_of-line.ensures w)))),
      first_step b a.lines.first (row_unplaced b) l.i a.w.unplaced l.w.unplaced _
          (c.or-w-in-loop-i.ensures ∙ ap (option_or l.w.unplaced) (c.then_some-in-loop-i.ensures ∙ (λ w. then_some (loose w) (c.line_of-line.ensures w)))) l.invariant.1,
      set_same l.kinds (kind_of b) l.i (get_or row 2 0) l.invariant.2 (omega (arith, h, p.n_in_bounds, l.auto.kinds)) (node_field b l.i row here.0 2),
    )
