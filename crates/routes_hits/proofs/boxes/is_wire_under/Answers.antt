-- `boxes::is_wire_under` meets its contract: no hit where an end is a port or past the rerouters, else that of the run. Assumes nothing.
use Rattle.std.proofs.Common.{◌≡◌, ◌<◌, ◌≤◌, [], length, get_or, sym, ◌∙◌, rules}
use Rattle.routes_hits.proofs.Hitting.{port_first, port_second, past_first, past_second, found_both}
use Rattle.routes_hits.proofs.boxes.is_wire_under.Goals as goal
use Rattle.routes_hits.proofs.boxes.is_wire_under.Goals.{then-wire-ne-MISSING-via-then-wire-ne-MISSING, then-wire-ne-MISSING-via-else-wire-ne-MISSING+then-wire-ne-MISSING-2}

pub returns-then-wire-ne-MISSING : goal.returns-then-wire-ne-MISSING
returns-then-wire-ne-MISSING c =
    elim c.then-wire-ne-MISSING.branch [
      | then-wire-ne-MISSING-via-then-wire-ne-MISSING w ↦ sym (port_first c.args.q c.args.rerouters.now (length c.args.rerouters.now) c.args.wire.now w.if-wire-ne-MISSING.true)
      | then-wire-ne-MISSING-via-else-wire-ne-MISSING+then-wire-ne-MISSING-2 w ↦
          sym (port_second c.args.q c.args.rerouters.now (length c.args.rerouters.now) c.args.wire.now w.if-wire-ne-MISSING.false w.if-wire-ne-MISSING-2.true)
    ]

pub returns-in_default : goal.returns-in_default
returns-in_default c =
    let beyond : length c.args.rerouters.now ≤ get_or c.args.wire.now 0 0 = search rules in
    sym (past_first c.args.q c.args.rerouters.now (length c.args.rerouters.now) c.args.wire.now c.if-wire-ne-MISSING.false c.if-wire-ne-MISSING-2.false beyond)

pub returns-in_default-get : goal.returns-in_default-get
returns-in_default-get c =
    let inside : get_or c.args.wire.now 0 0 < length c.args.rerouters.now = search rules in
    let beyond : length c.args.rerouters.now ≤ get_or c.args.wire.now 2 0 = search rules in
    sym (past_second c.args.q c.args.rerouters.now (length c.args.rerouters.now) c.args.wire.now c.if-wire-ne-MISSING.false c.if-wire-ne-MISSING-2.false inside beyond)

pub returns : goal.returns
returns c =
    let from : c.in-Some.from.now ≡ get_or c.args.rerouters.now (get_or c.args.wire.now 0 0) [] = search rules in
    let to : c.in-Some-get.to.now ≡ get_or c.args.rerouters.now (get_or c.args.wire.now 2 0) [] = search rules in
    let inside : get_or c.args.wire.now 0 0 < length c.args.rerouters.now = search rules in
    let inside' : get_or c.args.wire.now 2 0 < length c.args.rerouters.now = search rules in
    (rw (from, to) at c.is_run_under.ensures)
    ∙ sym (found_both c.args.q c.args.rerouters.now (length c.args.rerouters.now) c.args.wire.now c.if-wire-ne-MISSING.false c.if-wire-ne-MISSING-2.false inside inside')
