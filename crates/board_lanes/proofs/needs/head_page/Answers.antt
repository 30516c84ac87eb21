use Rattle.board.specs.Tables.{tap_in}
use Rattle.board_lanes.proofs.PageLaws.{head_later, head_needs}
use Rattle.board_lanes.proofs.needs.head_page.Goals as goal

pub returns-then-tap : goal.returns-then-tap
returns-then-tap c = λ b ts n e h f l x. head_later b ts (tap_in c.args.tap) c.if-tap.true

pub returns : goal.returns
returns c = λ b ts n e h f l x. head_needs b ts (tap_in c.args.tap) c.if-tap.false c.needs_lane.result (c.needs_lane.ensures b _ n e h ts f l x) _ c.then_some.ensures
