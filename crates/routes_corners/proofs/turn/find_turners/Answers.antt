-- `find_turners` meets its contract: classes, flags, then the wires that turn. Assumes nothing.
use Rattle.routes_corners.proofs.TurnLaws.{fresh_list, fresh_flags, found_by}
use Rattle.std.proofs.Common.{◌≡◌, length, Bool, false, ◌∙◌, arith}
use lib.ListN.{length-replicate}
use Rattle.routes_corners.proofs.turn.find_turners.Goals as goal

pub class_ports-requires : goal.class_ports-requires
class_ports-requires c = let p = c.requires in
    let few = p.wires_len_bound.0 in
    let W = length c.args.s.wires.now in record {
      ports_low = (p.wires_len_bound.2, few);
      wires_in_bounds = (p.wires_in_bounds.0, fresh_list W few, fresh_list W few);
    }

pub flag_ports-requires : goal.flag_ports-requires
flag_ports-requires c = let p = c.requires in
    let few = p.wires_len_bound.0 in
    let k = c.class_ports in
    let W = length c.args.s.wires.now in record {
      ported = k.ensures;
      port_room = record { class_room = omega arith; flag_room = fresh_list W few };
      flags_clear = fresh_flags W few;
    }

pub find_turns-requires : goal.find_turns-requires
find_turns-requires c = let p = c.requires in
    let k = c.class_ports in
    let f = c.flag_ports in
    let room = p.wires_in_bounds.0 in
    let long : length f.new.flags ≡ 8192 = f.auto.flags ∙ length-replicate {A = Bool} 8192 false in
    record { wires_few = omega arith; ends_long = p.wires_len_bound.1; classes_long = omega arith; class_fits = λ w h. let low = k.ensures.classed.low w h in omega arith; room = p.wires_in_bounds.1 }

pub returns : goal.returns
returns c = let a = c.args in
    found_by a.s.nodes.now a.s.wires.now a.facts.now a.ports.now (length a.ports.now) _ _ _ c.find_turns.result c.flag_ports.ensures c.class_ports.ensures.classed c.find_turns.ensures
