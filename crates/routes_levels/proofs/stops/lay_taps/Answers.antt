-- `lay_taps` meets its contract: the laid taps, picked newest first, brought nearly into order and sorted by all eight numbers. Assumes nothing.
use Prim.Native.Nat.{◌≤◌}
use mathlib.Core.Path.{◌≡◌, sym, ap, ◌∙◌}
use native.Mathlib.Omega.{arith}
use lib.ListN.{length, take, drop}
use lib.Seq.{length-take-le}
use Rattle.base.specs.Sort.{sorted_rows}
use Rattle.routes_levels.proofs.PickLaws.{laid_sorted}
use Rattle.routes_levels.proofs.stops.lay_taps.Goals as goal

pub returns-clause-result_after : goal.returns-clause-result_after
returns-clause-result_after c = λ b ps a.
    let s = c.sort_rows in
    let n = c.pick_laid-n.result in
    let few : n ≤ length c.args.taps.now = c.pick_laid-n.ensures.upper_bound in
    let picked : length (take n c.pick_laid-n.new.laid) ≡ n = length-take-le n c.pick_laid-n.new.laid (omega (arith, few, c.requires.room, c.pick_laid-n.auto.laid)) in
    let near : length (take n c.bring_near.new.to) ≡ n = length-take-le n c.bring_near.new.to (omega (arith, few, c.requires.room, c.bring_near.auto.to)) in
    laid_sorted b _ ps _ s.new.rows (drop n c.bring_near.new.to) n (c.pick_laid-n.ensures.laid_after b ps a) (s.auto.rows ∙ near) (s.ensures ∙ ap (λ m. sorted_rows (take m c.bring_near.new.to)) (sym picked) ∙ c.bring_near.ensures)
