use native.Mathlib.Omega.{arith}
use Prim.Native.Nat.{◌<◌}
use mathlib.Core.Path.{refl, ◌∙◌}
use lib.ListN.{length}
use Rattle.board.specs.Board.{field}
use Rattle.board_groups.proofs.KeyLaws.{walk_more, walk_end, run_told}
use Rattle.board_groups.proofs.rows.assign_rows.Goals as goal

pub loop-key-preserved : goal.loop-key-preserved
loop-key-preserved c =
    let k = c.loop-key.key-index in
    let below : field c.args.keys.now k 3 < length c.loop-key.facts = omega (arith, c.requires.by_index k c.loop-key-test.true) in (
      c.run_after-run.ensures.row_bound k c.loop-key.invariant.0,
      λ b r. walk_more b _ r _ _ _ (c.loop-key.invariant.1 b r) c.loop-key-test.true _ _ (c.run_after-run.ensures.value ∙ run_told b _ r k c.loop-key-test.true c.loop-key.before) refl below,
    )

pub returns : goal.returns
returns c = λ b r. walk_end b _ r _ _ _ (c.loop-key.invariant.1 b r) (omega arith)
