-- `find_fault` meets its contract: the three walks, one after the other. Assumes nothing.
use Prim.Native.Nat.{◌+◌}
use mathlib.Core.Path.{ap₂, ◌∙◌}
use native.Mathlib.Omega.{arith}
use Rattle.base.proofs.Passing.{passed}
use Rattle.board.specs.Refusals.{chip_twice, inner_twice}
use Rattle.board.specs.Walk.{sheet_board, LineTwice}
use Rattle.board.proofs.BySection.{part_start}
use Rattle.board.proofs.Faults.{counted, counts_few, walk_sections, fresh_fewer, ids_at, fault_nodes, fault_chips, fault_inner, fault_rest}
use Rattle.board.proofs.refusals.find_fault.Goals as goal

pub skip_lines-requires-clause-n_in_bounds : goal.skip_lines-requires-clause-n_in_bounds
skip_lines-requires-clause-n_in_bounds c =
    let n = counted c.args.text.now c.args.counts c.requires.ready c.requires.counts_value in
    omega (arith, n.pages, part_start (walk_sections c.args.text.now c.requires.ready).nodes)

pub walk_nodes-requires-clause-first_value : goal.walk_nodes-requires-clause-first_value
walk_nodes-requires-clause-first_value c = let n = counted c.args.text.now c.args.counts c.requires.ready c.requires.counts_value in (n.pages, n.nodes)

pub walk_nodes-requires-clause-n_in_bounds : goal.walk_nodes-requires-clause-n_in_bounds
walk_nodes-requires-clause-n_in_bounds c = omega (arith, counts_few c.args.text.now c.args.counts c.requires.ready c.requires.counts_value)

pub walk_nodes-requires-clause-fresh : goal.walk_nodes-requires-clause-fresh
walk_nodes-requires-clause-fresh c =
    fresh_fewer _ c.requires.fresh (omega (arith, counts_few c.args.text.now c.args.counts c.requires.ready c.requires.counts_value))

pub returns-in_err-after_nodes-clause-value : goal.returns-in_err-after_nodes-clause-value
returns-in_err-after_nodes-clause-value c =
    let n = counted c.args.text.now c.args.counts c.requires.ready c.requires.counts_value in
    passed c.from_residual.result _ c.from_residual.ensures.1 ∙ fault_nodes _ c.args.counts n _ c.in_err-after_nodes.ensures

pub behind-lines-requires : goal.behind-lines-requires
behind-lines-requires c = omega (arith, counts_few c.args.text.now c.args.counts c.requires.ready c.requires.counts_value)

pub invariant_of-known : goal.invariant_of-known
invariant_of-known c = record { kinds_there = omega (arith, counts_few c.args.text.now c.args.counts c.requires.ready c.requires.counts_value, c.walk_nodes.auto.kinds) }

pub walk_chips-requires-clause-chips_ready : goal.walk_chips-requires-clause-chips_ready
walk_chips-requires-clause-chips_ready c =
    let n = counted c.args.text.now c.args.counts c.requires.ready c.requires.counts_value in
    let w = c.in_ok-after_nodes.ensures in
    let s = c.behind-lines.ensures in
    rw (s.0, s.2, s.3)
    (record {
      behind = ap₂ ◌+◌ n.pages n.nodes;
      count = n.chips;
      bodies = n.nodes;
      body = w.0.entered;
      room = omega (arith, counts_few c.args.text.now c.args.counts c.requires.ready c.requires.counts_value, c.walk_nodes.auto.kinds);
      kinds_are = w.1.kinds;
    })

pub walk_chips-requires-clause-fresh : goal.walk_chips-requires-clause-fresh
walk_chips-requires-clause-fresh c =
    fresh_fewer _ c.requires.fresh_2 (omega (arith, c.behind-lines.ensures.3, counts_few c.args.text.now c.args.counts c.requires.ready c.requires.counts_value))

pub returns-in_err-after_chips-clause-value : goal.returns-in_err-after_chips-clause-value
returns-in_err-after_chips-clause-value c =
    let n = counted c.args.text.now c.args.counts c.requires.ready c.requires.counts_value in
    let s = c.behind-lines.ensures in
    let x = c.behind-lines.result in
    let here : LineTwice (sheet_board x.text.now) x.first x.count (chip_twice (sheet_board x.text.now)) c.in_err-after_chips.field-0.0 = c.in_err-after_chips.ensures in
    let twice = rw (s.0, s.2, s.3) at here in
    passed c.from_residual-in_err-after_chips.result _ c.from_residual-in_err-after_chips.ensures.1 ∙ fault_chips _ c.args.counts n c.in_ok-after_nodes.ensures.0.once _ twice

pub behind-requires : goal.behind-requires
behind-requires c = omega (arith, c.behind-lines.ensures.2, c.behind-lines.ensures.3, counts_few c.args.text.now c.args.counts c.requires.ready c.requires.counts_value)

pub walk_inner-requires-clause-inner_ready : goal.walk_inner-requires-clause-inner_ready
walk_inner-requires-clause-inner_ready c =
    let n = counted c.args.text.now c.args.counts c.requires.ready c.requires.counts_value in
    let s = c.behind-lines.ensures in
    let w = rw (s.0, s.2, s.3) at c.in_ok-after_chips.ensures in
    let t = c.behind.ensures in
    rw (t.0, t.2, t.3, s.0, s.2, s.3)
    (record {
      behind = ap₂ ◌+◌ (ap₂ ◌+◌ n.pages n.nodes) n.chips;
      count = n.inner;
      bodies = n.nodes;
      chips_are = n.chips;
      body = c.in_ok-after_nodes.ensures.0.entered;
      chip = w.0.entered;
    })

pub walk_inner-requires-clause-fresh : goal.walk_inner-requires-clause-fresh
walk_inner-requires-clause-fresh c =
    fresh_fewer _ c.requires.fresh_3 (omega (arith, c.behind.ensures.3, counts_few c.args.text.now c.args.counts c.requires.ready c.requires.counts_value))

pub returns-in_err-after_inner-clause-value : goal.returns-in_err-after_inner-clause-value
returns-in_err-after_inner-clause-value c =
    let n = counted c.args.text.now c.args.counts c.requires.ready c.requires.counts_value in
    let s = c.behind-lines.ensures in
    let t = c.behind.ensures in
    let w = rw (s.0, s.2, s.3) at c.in_ok-after_chips.ensures in
    let x = c.behind.result in
    let here : LineTwice (sheet_board x.text.now) x.first x.count (inner_twice (sheet_board x.text.now)) c.in_err-after_inner.field-0.0 = c.in_err-after_inner.ensures in
    let twice = rw (t.0 ∙ s.0, t.2 ∙ ap₂ ◌+◌ s.2 s.3, t.3) at here in
    passed c.from_residual-in_err-after_inner.result _ c.from_residual-in_err-after_inner.ensures.1 ∙ fault_inner _ c.args.counts n c.in_ok-after_nodes.ensures.0.once w.0.once _ twice

pub returns-clause-value : goal.returns-clause-value
returns-clause-value c =
    let n = counted c.args.text.now c.args.counts c.requires.ready c.requires.counts_value in
    let s = c.behind-lines.ensures in
    let t = c.behind.ensures in
    let w₁ = c.in_ok-after_nodes.ensures in
    let w₂ = rw (s.0, s.2, s.3) at c.in_ok-after_chips.ensures in
    let w₃ = rw (t.0, t.2, t.3, s.0, s.2, s.3) at c.in_ok-after_inner.ensures in
    c.verdict.ensures ∙ fault_rest _ c.args.counts n w₁.0.once w₂.0.once _ _ _ _ w₃.0.once w₁.0.missing w₂.0.missing w₃.0.missing (w₃.1 ∙ w₂.1 ∙ w₁.1.unplaced)

pub returns-clause-indexed : goal.returns-clause-indexed
returns-clause-indexed c = λ z.
    let n = counted c.args.text.now c.args.counts c.requires.ready c.requires.counts_value in
    let s = c.behind-lines.ensures in
    let t = c.behind.ensures in
    let w₂ = rw (s.0, s.2, s.3) at c.in_ok-after_chips.ensures in
    let w₃ = rw (t.0, t.2, t.3, s.0, s.2, s.3) at c.in_ok-after_inner.ensures in
    record { body = ids_at n.nodes c.in_ok-after_nodes.ensures.0.entered; chips = ids_at n.chips w₂.0.entered; inner = ids_at n.inner w₃.0.entered }
