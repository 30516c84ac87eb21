-- `wire_crosses` meets its contract: a wire that became a tap has both anchors. Assumes nothing.
use Rattle.std.proofs.Common.{rules}
use mathlib.Core.Path.{◌≡◌, ◌∙◌}
use mathlib.Core.List.{[]}
use lib.ListN.{get_or}
use Rattle.board_lanes.proofs.PageLaws.{source_inside, target_inside, crosses_out, crosses_into}
use Rattle.board_lanes.proofs.needs.wire_crosses.Goals as goal

pub returns-in_default : goal.returns-in_default
returns-in_default c = λ b w t n v f g e. source_inside b w t c.args.nodes.now n c.args.wire v _ _ f g e (search rules)

pub returns-in_default-get : goal.returns-in_default-get
returns-in_default-get c = λ b w t n v f g e. target_inside b w t c.args.nodes.now n c.args.wire v _ _ f g e (search rules)

pub returns-then-crosses_at : goal.returns-then-crosses_at
returns-then-crosses_at c = λ b w t n v f g e.
    let source : c.in-Some.source.now ≡ get_or c.args.nodes.now (get_or c.args.fact 2 0) [] = search rules in
    c.if-crosses_at.true ∙ crosses_out b w t c.args.nodes.now n c.args.wire v _ _ f g e c.crosses_at.result (rw source at c.crosses_at.ensures) c.if-crosses_at.true

pub returns-else-crosses_at : goal.returns-else-crosses_at
returns-else-crosses_at c = λ b w t n v f g e.
    let source : c.in-Some.source.now ≡ get_or c.args.nodes.now (get_or c.args.fact 2 0) [] = search rules in
    let target : c.in-Some-get.target.now ≡ get_or c.args.nodes.now (get_or c.args.fact 3 0) [] = search rules in
    crosses_into b w t c.args.nodes.now n c.args.wire v _ _ f g e c.crosses_at.result (rw source at c.crosses_at.ensures) c.crosses_at-else-crosses_at.result (rw target at c.crosses_at-else-crosses_at.ensures) c.if-crosses_at.false
