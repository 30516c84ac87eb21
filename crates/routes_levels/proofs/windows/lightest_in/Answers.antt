-- `lightest_in` meets its contract: a level is taken where it is no heavier, and passed where it is claimed or heavier. Assumes nothing.
use native.Mathlib.Omega.{arith}
use mathlib.Core.Path.{sym, ◌∙◌}
use borrow.Author.Tests.{leb-true, leb-false}
use Rattle.routes_levels.proofs.WindowLaws.{window_passed, window_heavier, window_lighter}
use Rattle.routes_levels.proofs.windows.lightest_in.Goals as goal
use Rattle.routes_levels.proofs.windows.lightest_in.Goals.{else-load-via-then-load+else-is_as_light, else-load-via-else-load}

pub loop-j-preserved-then-is_as_light : goal.loop-j-preserved-then-is_as_light
loop-j-preserved-then-is_as_light c = let l = c.loop-j in
    let a = c.args in
    λ row lane base count k few w s m b. window_lighter row lane a.loads.now a.start base count k l.j _ _ few w s c.loop-j-test.true l.auto.j (omega arith) (l.invariant row lane base count k few w s m b) c.if-load.true (leb-true _ _ (sym c.is_as_light.ensures ∙ c.if-is_as_light.true))

pub loop-j-preserved : goal.loop-j-preserved
loop-j-preserved c = let l = c.loop-j in
    let a = c.args in
    elim c.else-load.branch [
      | else-load-via-then-load+else-is_as_light t ↦
          λ row lane base count k few w s m b. window_heavier row lane a.loads.now a.start base count k l.j _ _ few w s c.loop-j-test.true l.auto.j (omega arith) (l.invariant row lane base count k few w s m b) t.if-load.true (leb-false _ _ (sym t.is_as_light.ensures ∙ t.if-is_as_light.false))
      | else-load-via-else-load t ↦
          λ row lane base count k few w s m b. window_passed row lane a.loads.now a.start base count k l.j _ _ few w s c.loop-j-test.true l.auto.j (omega arith) (l.invariant row lane base count k few w s m b) t.if-load.false
    ]
