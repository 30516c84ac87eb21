-- `turns` meets its contract: the tests on a wire, in the rules' order. Assumes nothing.
use Rattle.std.proofs.Common.{[], get_or, sym, refl, ap, ◌∙◌}
use Rattle.base.proofs.Bools.{clash, pick_true, pick_false}
use Rattle.board.specs.Board.{field}
use Rattle.board.specs.Tables.{nodes_alone}
use Rattle.routes_corners.proofs.CornerLaws.{turns_rows}
use Rattle.routes_corners.proofs.Finding.{source_anchor_lem, target_anchor_lem, turn_closed, turn_muted, turn_sourceless, turn_sinkless, turn_tested}
use Rattle.routes_corners.proofs.find.turns.Goals as goal

pub returns-then-t-w-ne1 : goal.returns-then-t-w-ne1
returns-then-t-w-ne1 c = let a = c.args in record {
  ends_there = λ e. clash e refl;
  value = λ b q pages f g. turn_closed b q pages a.t.s.nodes.now a.t.s.wires.now a.t.facts.now f a.t.classes.now a.t.muted.now a.w c.requires.wire g c.if-t-w-ne1.true;
}

pub returns-then-t-w : goal.returns-then-t-w
returns-then-t-w c = let a = c.args in record {
  ends_there = λ e. clash e refl;
  value = λ b q pages f g. turn_muted b q pages a.t.s.nodes.now a.t.s.wires.now a.t.facts.now f a.t.classes.now a.t.muted.now a.w c.requires.wire g c.if-t-w-ne1.false c.if-t-w.true;
}

pub returns-then-not-is_body : goal.returns-then-not-is_body
returns-then-not-is_body c = let a = c.args in record {
  ends_there = λ e. clash e refl;
  value = λ b q pages f g.
      turn_sourceless b q pages a.t.s.nodes.now a.t.s.wires.now a.t.facts.now f a.t.classes.now a.t.muted.now a.w c.requires.wire g c.if-t-w-ne1.false c.if-t-w.false
      (c.is_body.ensures.id_value b f.nodes_are (source_anchor_lem b q pages a.t.s.nodes.now a.t.s.wires.now a.t.facts.now f a.t.classes.now a.t.muted.now a.w c.requires.wire g)
      ∙ pick_false c.is_body.result _ _ c.if-not-is_body.true);
}

pub returns-then-not-is_body-2 : goal.returns-then-not-is_body-2
returns-then-not-is_body-2 c = let a = c.args in record {
  ends_there = λ e. clash e refl;
  value = λ b q pages f g.
      turn_sinkless b q pages a.t.s.nodes.now a.t.s.wires.now a.t.facts.now f a.t.classes.now a.t.muted.now a.w c.requires.wire g c.if-t-w-ne1.false c.if-t-w.false _
      (c.is_body.ensures.id_value b f.nodes_are (source_anchor_lem b q pages a.t.s.nodes.now a.t.s.wires.now a.t.facts.now f a.t.classes.now a.t.muted.now a.w c.requires.wire g)
      ∙ pick_true c.is_body.result _ _ c.if-not-is_body.false)
      (c.is_body-2.ensures.id_value b f.nodes_are (target_anchor_lem b q pages a.t.s.nodes.now a.t.s.wires.now a.t.facts.now f a.t.classes.now a.t.muted.now a.w c.requires.wire g)
      ∙ pick_false c.is_body-2.result _ _ c.if-not-is_body-2.true);
}

pub returns : goal.returns
returns c = let a = c.args in
    let one = c.if-not-is_body.false in
    let two = c.if-not-is_body-2.false in record {
      ends_there = λ e.
          let rows = turns_rows (nodes_alone a.t.s.nodes.now) _ _ (sym (c.turns_down.ensures (nodes_alone a.t.s.nodes.now) _ _ refl refl) ∙ e) in
          record { source = c.is_body.ensures.anchor_in_bounds one; target = c.is_body-2.ensures.anchor_in_bounds two; source_row = rows.0; on_row = rows.1 };
      value = λ b q pages f g.
          turn_tested b q pages a.t.s.nodes.now a.t.s.wires.now a.t.facts.now f a.t.classes.now a.t.muted.now a.w c.requires.wire g c.if-t-w-ne1.false c.if-t-w.false _
          (c.is_body.ensures.id_value b f.nodes_are (source_anchor_lem b q pages a.t.s.nodes.now a.t.s.wires.now a.t.facts.now f a.t.classes.now a.t.muted.now a.w c.requires.wire g) ∙ pick_true c.is_body.result _ _ one)
          _
          (c.is_body-2.ensures.id_value b f.nodes_are (target_anchor_lem b q pages a.t.s.nodes.now a.t.s.wires.now a.t.facts.now f a.t.classes.now a.t.muted.now a.w c.requires.wire g) ∙ pick_true c.is_body-2.result _ _ two)
          c.turns_down.result (c.turns_down.ensures b _ _ (ap (λ x. get_or x (field a.t.facts.now a.w 2) []) f.nodes_are) (ap (λ x. get_or x (field a.t.facts.now a.w 3) []) f.nodes_are));
    }
