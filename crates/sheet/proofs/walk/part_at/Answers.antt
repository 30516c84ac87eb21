-- `sheet::walk::part_at` meets its contract: the text up to where the part ends is the part. Assumes nothing.
use Rattle.std.proofs.Common.{ℕ, ◌-◌, take, drop, sym, ap, ◌∙◌, arith}
use Rattle.sheet.proofs.Parts.{part_none, part_between, part_inside}
use Rattle.sheet.proofs.walk.part_at.Goals as goal

pub returns-then-text-at : goal.returns-then-text-at
returns-then-text-at c = let a = c.args in sym (part_none a.end a.text.now a.at (omega (arith, c.if-text-at.true)))

pub slice_bounds-result-end-2 : goal.slice_bounds-result-end-2
slice_bounds-result-end-2 c = let a = c.args in omega (arith, c.part_end.ensures, part_inside a.end a.text.now a.at c.if-text-at.false)

pub returns : goal.returns
returns c = let a = c.args in ap (λ (to : ℕ). take (to - a.at) (drop a.at a.text.now)) c.part_end.ensures ∙ part_between a.end a.text.now a.at
