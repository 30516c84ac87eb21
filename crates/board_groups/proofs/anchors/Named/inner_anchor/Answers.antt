-- `inner_anchor` meets its contract: the anchor found is then known. Assumes nothing.
use native.Mathlib.Omega.{arith}
use Rattle.board_groups.proofs.Ends.{anchor_found, anchor_entered}
use Rattle.board_groups.proofs.anchors.Named.inner_anchor.Goals as goal

pub returns : goal.returns
returns c = λ b n p i some.
    let s = c.args.self.now.sections in
    let is = anchor_found s.nodes.now s.chips.now s.inner.now c.args.self.now.body_index.now c.args.self.now.indexed.body c.args.f c.top_chip-top.result.0 c.body_node-anchor.result c.top_chip-top.ensures c.body_node-anchor.ensures.value b n p i in
    (is, anchor_entered b c.args.anchors.now c.args.f c.body_node-anchor.result (omega (arith, c.requires.f_in_bounds)) some is)
