-- `cut_sections` meets its contract. Assumes nothing.
use native.Mathlib.Omega.{arith}
use Rattle.board.proofs.Slices.{slices}
use Rattle.board.proofs.sections.cut_sections.Goals as goal

pub overflow_add-chips : goal.overflow_add-chips
overflow_add-chips c =
    let k = let r = c.requires in slices r.0 c.args.records.now c.args.counts r.1 r.2 r.3 in omega (arith, k.few, k.below)

pub overflow_add-inner : goal.overflow_add-inner
overflow_add-inner c =
    let k = let r = c.requires in slices r.0 c.args.records.now c.args.counts r.1 r.2 r.3 in omega (arith, k.few, k.below)

pub overflow_add-execs : goal.overflow_add-execs
overflow_add-execs c =
    let k = let r = c.requires in slices r.0 c.args.records.now c.args.counts r.1 r.2 r.3 in omega (arith, k.few, k.below)

pub overflow_add-wires : goal.overflow_add-wires
overflow_add-wires c =
    let k = let r = c.requires in slices r.0 c.args.records.now c.args.counts r.1 r.2 r.3 in omega (arith, k.few, k.below)

pub overflow_add-end : goal.overflow_add-end
overflow_add-end c =
    let k = let r = c.requires in slices r.0 c.args.records.now c.args.counts r.1 r.2 r.3 in omega (arith, k.few, k.below)

pub returns : goal.returns
returns c = λ b s e f. let k = slices b c.args.records.now c.args.counts s e f in record { pages_cut = k.pages; nodes_cut = k.nodes; chips_cut = k.chips; inner_cut = k.inner; execs_cut = k.execs; wires_cut = k.wires }
