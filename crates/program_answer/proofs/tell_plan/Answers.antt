-- Each kind of row is there, as many as are counted.
use native.Mathlib.Omega.{arith}
use mathlib.Core.Path.{sym}
use lib.Seq.{length-take-le}
use Rattle.routes_plan_sheet.proofs.PlanWritten.{plan_fits_lem}
use Rattle.program_answer.proofs.tell_plan.Goals as goal

pub slice_bounds-rows-end : goal.slice_bounds-rows-end
slice_bounds-rows-end c = sym (length-take-le c.args.plan.counts.pages c.args.answers.now c.requires.2.page_rows)

pub slice_bounds-rows-end-2 : goal.slice_bounds-rows-end-2
slice_bounds-rows-end-2 c = sym (length-take-le c.args.plan.laid.bus.rerouters c.args.rerouters.now c.requires.2.rerouter_rows)

pub slice_bounds-rows-end-3 : goal.slice_bounds-rows-end-3
slice_bounds-rows-end-3 c = sym (length-take-le c.args.plan.laid.bus.bus_wires c.args.bus_wires.now c.requires.2.wire_rows)

pub slice_bounds-rows-end-4 : goal.slice_bounds-rows-end-4
slice_bounds-rows-end-4 c = sym (length-take-le c.args.plan.laid.bus.ports c.args.ports.now c.requires.2.port_rows)

pub write_plan-requires : goal.write_plan-requires
write_plan-requires c =
    let a = c.args in
    let t = c.requires.2 in
    let bus = a.plan.laid.bus in
    let page_rows = length-take-le a.plan.counts.pages a.answers.now t.page_rows in
    let rerouter_rows = length-take-le bus.rerouters a.rerouters.now t.rerouter_rows in
    let wire_rows = length-take-le bus.bus_wires a.bus_wires.now t.wire_rows in
    let port_rows = length-take-le bus.ports a.ports.now t.port_rows in
    let fits = plan_fits_lem c.requires.0 c.requires.1 _ _ _ _ _ _ t.held a.out.now (omega (arith, t.text_room, page_rows, rerouter_rows, wire_rows, port_rows)) in record {
      room = fits.0;
      few = fits.2;
      wires_bound = (fits.3, fits.4);
    }

pub returns : goal.returns
returns c = λ b ps t. c.write_plan.ensures b ps t.held
