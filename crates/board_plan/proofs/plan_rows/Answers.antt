use mathlib.Core.Path.{refl}
use Rattle.board_plan.proofs.Planned.{lanes_planned}
use Rattle.board_plan.proofs.plan_rows.Goals as goal

pub cut_sections-s-requires : goal.cut_sections-s-requires
cut_sections-s-requires c = let r = c.requires.1 in (c.requires.0, r.sections, r.counted, r.accepted)

pub plan_board-planned-requires : goal.plan_board-planned-requires
plan_board-planned-requires c = let r = c.requires.1 in
    let k = c.cut_sections-s.ensures c.requires.0 r.sections r.counted r.accepted in rw (k.pages_cut, k.nodes_cut, k.inner_cut, k.execs_cut, k.wires_cut) record {
      accepted_nodes = (c.requires.0, refl, r.accepted);
      indexes = r.indexes;
      room = r.room;
    }

pub returns : goal.returns
returns c = λ b rd. lanes_planned (c.cut_sections-s.ensures b rd.sections rd.counted rd.accepted) c.plan_board-planned.result c.plan_board-planned.ensures rd.sections rd.counted c.and.result c.and.ensures
