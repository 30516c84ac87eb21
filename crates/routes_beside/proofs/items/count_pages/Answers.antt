use Rattle.std.proofs.Common.{◌≡◌, length, ◌∙◌, arith}
use lib.ListN.{get_or-replicate}
use Rattle.routes_beside.proofs.Filling.{counted_few, counted_all_lem}
use Rattle.routes_beside.proofs.items.count_pages.Goals as goal

pub loop-node-init : goal.loop-node-init
loop-node-init c = λ p h. get_or-replicate 64 p 0 0 h

pub count_page-requires : goal.count_page-requires
count_page-requires c = λ p h. let e = c.loop-node.invariant p h in let m = counted_few c.args.nodes.now p c.loop-node.node-index in omega arith

pub returns : goal.returns
returns c = λ p h. let z : c.loop-node.node-index ≡ length c.args.nodes.now = omega arith in c.loop-node.invariant p h ∙ counted_all_lem c.args.nodes.now p c.loop-node.node-index z
