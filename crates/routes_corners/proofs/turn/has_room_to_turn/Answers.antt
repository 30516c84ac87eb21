-- `has_room_to_turn` meets its contract: the wires that turn are found as where they are laid, and counted. Assumes nothing.
use Rattle.std.proofs.Common.{length, sym, ◌∙◌}
use Rattle.routes_corners.proofs.TurnLaws.{fresh_list, room_taken}
use Rattle.routes_corners.proofs.turn.has_room_to_turn.Goals as goal

pub find_turners-turning-requires : goal.find_turners-turning-requires
find_turners-turning-requires c = let p = c.requires in
    let long = fresh_list (length c.args.s.wires.now) p.0 in record {
      wires_len_bound = (p.0, p.1, p.5);
      wires_in_bounds = (long, long);
    }

pub returns : goal.returns
returns c = λ b bus pages is mutes. c.has_room.ensures ∙ sym (room_taken c.args.ports.now c.requires.2 c.find_turners-turning.ensures c.args.held b bus pages is mutes)
