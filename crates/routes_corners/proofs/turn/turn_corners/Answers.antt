-- `turn_corners` meets its contract: the wires that turn; where there is room for all of them, their corners. Assumes nothing.
use Rattle.routes_corners.proofs.TurnLaws.{fresh_list, found_taken, found_alone, rows_taken, room_taken}
use Rattle.routes_corners.proofs.ByRows.{found_ready}
use Rattle.routes_corners.proofs.HandedLaws.{handed_in, mutes_in}
use Rattle.board.specs.Board.{Board}
use Rattle.routes.specs.Bus.{Bus}
use Rattle.routes.specs.Corners.{corners}
use Rattle.routes.specs.Holding.{BusHeld}
use Rattle.routes_corners.specs.Turning.{has_room}
use Rattle.routes_corners.specs.CornerTables.{BoardOf}
use Rattle.routes_corners.specs.Handed.{bus_in, Mutes, Handed}
use Rattle.std.proofs.Common.{◌≡◌, ◌≤◌, ℕ, List, length, take, length-take-le, ap, sym, refl, ◌∙◌, arith}
use lib.ListN.{length-replicate}
use Rattle.routes_corners.proofs.turn.turn_corners.Goals as goal

pub find_turners-turning-requires : goal.find_turners-turning-requires
find_turners-turning-requires c = let few = c.requires.board_fits.wires_few in
    let long = fresh_list (length c.args.s.wires.now) few in record {
      wires_len_bound = (few, c.requires.board_fits.ends_long, c.requires.board_fits.ports);
      wires_in_bounds = (long, long);
    }

pub returns-then-not-has_room : goal.returns-then-not-has_room
returns-then-not-has_room c =
    let a = c.args in
    let room = room_taken c.args.ports.now c.requires.lent.muted c.find_turners-turning.ensures a.held in
    let no = sym c.has_room.ensures ∙ c.if-not-has_room.true in record {
      turned_as = λ b is. (room b (bus_in a.rerouters.now a.bus_wires.now a.ports.now a.held) a.s.pages.now is (mutes_in b a.rerouters.now a.bus_wires.now a.ports.now a.held) ∙ no, c.at.ensures, refl, refl);
      turned_from = λ b bus old old_wires is mutes handed. room b bus a.s.pages.now is mutes ∙ no;
    }

pub lay_corners-requires : goal.lay_corners-requires
lay_corners-requires c =
    let a = c.args in
    let few = c.requires.board_fits.wires_few in
    let f = c.find_turners-turning in
    let found = found_taken c.requires.lent.muted f.ensures in
    let r = length-replicate {A = ℕ} 8192 0 in
    let on_classes : length f.new.classes ≡ 8192 = f.auto.classes ∙ r in
    let on_list : length f.new.list ≡ 8192 = f.auto.list ∙ r in
    let in_list : f.result ≤ length f.new.list = let n = f.ensures.few in omega (arith, n, few, on_list) in
    let all : length (take f.result f.new.list) ≡ f.result = length-take-le f.result f.new.list in_list in
    let room = ap (has_room (length a.s.wires.now) a.held) all ∙ sym c.has_room.ensures ∙ c.if-not-has_room.false in
    let both = found_ready a.s.pages.now a.s.nodes.now a.s.wires.now a.facts.now a.rerouters.now a.bus_wires.now a.ports.now a.marks.now a.held f.new.classes (take f.result f.new.list) (length (take f.result f.new.list)) c.requires.board_fits c.requires.lent (found_alone in_list found) room
    (omega (arith, few, on_classes)) (omega arith) in record {
      board_fits = both.0;
      turns_listed = both.1.0;
      rows_room = both.1.1.0;
      write_room = both.1.1.1;
    }

pub returns : goal.returns
returns c =
    let a = c.args in
    let t = c.find_turners-turning in
    let lent = c.requires.lent in
    let on_list : length t.new.list ≡ 8192 = t.auto.list ∙ length-replicate {A = ℕ} 8192 0 in
    let few = c.requires.board_fits.wires_few in
    let n = t.ensures.few in
    let f = found_alone (omega (arith, n, few, on_list)) (found_taken lent.muted t.ensures) in
    let laid : (b : Board) (bus : Bus) (old old_wires : List (List ℕ)) → BoardOf b a.s.pages.now a.s.nodes.now a.s.wires.now a.facts.now → Mutes b bus a.ports.now a.held.ports
    → Handed bus old old_wires a.rerouters.now a.bus_wires.now (record { rerouters = a.held.rerouters; wires = a.held.bus_wires }) → BusHeld (corners b bus) old old_wires c.lay_corners.new.rerouters c.lay_corners.new.bus_wires c.lay_corners.result =
    λ b bus old old_wires is mutes h. c.lay_corners.ensures b bus old old_wires is f.classed h.held h.rows (f.all b bus a.s.pages.now is mutes) in
    let room = room_taken a.ports.now lent.muted t.ensures a.held in
    let yes' = sym c.has_room.ensures ∙ c.if-not-has_room.false in
    let own = handed_in a.rerouters.now a.bus_wires.now a.ports.now a.held lent.rerouters_there lent.wires (rows_taken 11 _ _ lent.rerouters_there c.know_rows.ensures) (rows_taken 6 _ _ lent.wires c.know_rows-2.ensures) in record {
      turned_as = λ b is. let all = mutes_in b a.rerouters.now a.bus_wires.now a.ports.now a.held in
          let bus = bus_in a.rerouters.now a.bus_wires.now a.ports.now a.held in
          (room b bus a.s.pages.now is all ∙ yes', laid b bus a.rerouters.now a.bus_wires.now is all own);
      turned_from = laid;
    }
