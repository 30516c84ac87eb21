use native.Mathlib.Omega.{arith}
use Prim.Native.Nat.{◌<◌}
use mathlib.Core.Path.{◌∙◌}
use lib.ListN.{length}
use Rattle.board_groups.proofs.Ends.{byte_flag}
use Rattle.board_groups.proofs.TapLaws.{ends_nodes, ends_more}
use Rattle.board_groups.proofs.anchors.write_ends.Goals as goal

pub loop-w-preserved : goal.loop-w-preserved
loop-w-preserved c = λ b n p f e a k.
    let room : c.loop-w.w < length c.loop-w.facts = omega arith in
    let i = c.loop-w.invariant b n p f e a k in
    let x = c.find_end-source.ensures b n p f i.2 in
    let y = c.find_end-target.ensures b n p f x.1 in (
      ends_nodes b c.loop-w.facts c.loop-w.w _ _ _ room i.0,
      ends_more b c.loop-w.facts c.loop-w.w _ _ _ room _ e _ _ c.wire_open-passes.result (c.held.ensures _ x.0.0, x.0.1) (c.held-in-loop-w.ensures _ y.0.0, y.0.1) c.wire_open-passes.ensures (c.from.ensures ∙ byte_flag c.wire_open-passes.result) i.1,
      y.1,
    )
