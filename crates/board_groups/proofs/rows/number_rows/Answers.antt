-- `number_rows` meets its contract: the keys are those of all nodes, in order. Assumes nothing.
use mathlib.Core.Path.{◌≡◌}
use native.Mathlib.Omega.{arith}
use lib.ListN.{length}
use lib.Seq.{length-take-le}
use Rattle.board_groups.proofs.KeyLaws.{keys_ranked, keys_index, facts_of_nodes}
use Rattle.board_groups.proofs.rows.number_rows.Goals as goal

pub assign_rows-requires-clause-by_index : goal.assign_rows-requires-clause-by_index
assign_rows-requires-clause-by_index c = λ k h.
    let nodes = c.args.nodes.now in
    let room : length c.fill_row_keys.new.keys ≡ length nodes = omega (arith, length-take-le (length nodes) c.args.keys.now c.requires.nodes_in_bounds.0) in
    omega (arith, keys_index nodes c.fill_row_keys.new.keys c.sort_rows.new.rows room c.requires.accepted_nodes c.fill_row_keys.ensures c.sort_rows.ensures k h)

pub returns : goal.returns
returns c = λ b e.
    let nodes = c.args.nodes.now in
    let room : length c.fill_row_keys.new.keys ≡ length nodes = omega (arith, length-take-le (length nodes) c.args.keys.now c.requires.nodes_in_bounds.0) in
    facts_of_nodes b _ _ e (c.assign_rows.ensures _ (keys_ranked nodes c.fill_row_keys.new.keys c.sort_rows.new.rows room c.requires.accepted_nodes c.fill_row_keys.ensures c.sort_rows.ensures))
