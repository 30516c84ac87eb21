-- `lay_corners` meets its contract: decided row by row, and then written. Assumes nothing.
use Rattle.std.proofs.Common.{ℕ, length, take, length-take-le, ◌∙◌, arith}
use lib.ListN.{length-replicate}
use Rattle.routes_corners.proofs.ByRows.{list_ends, turns_of, laid_by_rows}
use Rattle.routes_corners.proofs.TurnLaws.{cells_within}
use Rattle.routes_corners.proofs.turn.lay_corners.Goals as goal

pub decide_corners-requires : goal.decide_corners-requires
decide_corners-requires c = let room = c.requires.rows_room in
    let m = length-take-le c.args.count.rerouters c.args.rerouters.now room.rerouters_there in record {
      bricks_askable = c.requires.board_fits.bricks;
      turns_listed = c.requires.turns_listed;
      decide_room = record { rerouters_there = omega arith; few = omega (arith, m, room.few); on_items = omega (arith, m, room.on_items); on_answers = simp length-replicate room.few_turns };
    }

pub write_corners-requires : goal.write_corners-requires
write_corners-requires c = let room = c.requires.rows_room in
    let turns = c.requires.turns_listed in
    let long = c.decide_corners.auto.answers ∙ length-replicate {A = ℕ} 8192 0 in record {
      board_fits = c.requires.board_fits;
      writes_fit = record { list_long = turns.list_long; answers_long = omega arith; listed = room.listed; ends = λ q h. (turns.there q h).ends };
      write_room = c.requires.write_room;
    }

pub returns : goal.returns
returns c = let a = c.args in
    let d = c.decide_corners in
    let answers = d.new.answers in
    λ b bus old old_wires is classed h rows all.
    let m = length-take-le a.count.rerouters a.rerouters.now c.requires.rows_room.rerouters_there in
    let count = h.rerouter_count in
    let of = turns_of b bus a.t.s.pages.now a.t.s.nodes.now a.t.s.wires.now a.t.facts.now a.t.classes.now a.t.list.now (length a.t.list.now) (take a.count.rerouters a.rerouters.now) (length (take a.count.rerouters a.rerouters.now)) is
    c.requires.rows_room.listed all (omega arith) classed (cells_within bus.rerouters a.rerouters.now a.count.rerouters (omega (arith, count)) rows) (omega (arith, m, count)) in
    laid_by_rows b bus a.t.s.pages.now a.t.s.nodes.now a.t.s.wires.now a.t.facts.now a.t.classes.now a.t.list.now (length a.t.list.now) a.rerouters.now a.count.rerouters is c.requires.rows_room.listed all c.requires.turns_listed answers (d.ensures b bus a.t.s.pages.now a.t.s.wires.now of) old old_wires _ _ c.write_corners.result
    (c.write_corners.ensures b bus old old_wires is (list_ends b bus a.t.s.pages.now a.t.s.nodes.now a.t.s.wires.now a.t.facts.now a.t.classes.now a.t.list.now (length a.t.list.now) a.rerouters.now a.count.rerouters is c.requires.rows_room.listed all) h)
