use native.Mathlib.Omega.{arith}
use Prim.Native.Nat.{ℕ, ◌<◌}
use mathlib.Core.Path.{ap, ◌∙◌}
use Rattle.board_groups.proofs.Facts.{rows_wide}
use mathlib.Core.List.{List, []}
use lib.ListN.{length, get_or}
use Rattle.board_groups.proofs.TapLaws.{targets_more}
use Rattle.board_groups.proofs.groups.mark_wires.Goals as goal

pub loop-w-preserved : goal.loop-w-preserved
loop-w-preserved c =
    let w = c.loop-w.w in
    let same = c.loop-w.invariant.0 in
    let room : w < length c.loop-w.facts = omega arith in
    let wide : 5 < length (get_or c.loop-w.facts w []) = omega (arith, same w, c.told-facts w (omega arith)) in (
      λ k. rows_wide c.loop-w.facts w 5 c.held.result room k ∙ same k,
      λ b n x e k f.
          let i = c.loop-w.invariant.1 b n x e k f in
          let q = ap length e in
          let v = c.tap_target.ensures b w n x (ap (λ (ws : List (List ℕ)). get_or ws w []) e) (i.wires.sources w (omega arith)) (i.wires.targets w (omega arith)) (i.wires.opens w (omega arith)) in
          targets_more b c.loop-w.facts w c.held.result room wide (c.held.ensures _ v) i,
    )
