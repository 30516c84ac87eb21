use Rattle.std.proofs.Common.{drop, refl, ◌∙◌}
use Rattle.sheet.specs.Text.{part_of}
use Rattle.sheet.specs.Places.{part_end}
use Rattle.sheet.proofs.Parts.{at_end, part_none, part_stops, part_on}
use Rattle.sheet.proofs.walk.part_end.Goals as goal

pub loop-i-init : goal.loop-i-init
loop-i-init c = refl

pub returns-then-text-i : goal.returns-then-text-i
returns-then-text-i c = let p = c.args in
    let t = p.text.now in
    let i = c.loop-i.i in
    at_end i (part_end p.end t p.at) (part_of p.end (drop i t)) c.loop-i.invariant (part_stops p.end t i c.loop-i-test.true c.if-text-i.true)

pub loop-i-preserved : goal.loop-i-preserved
loop-i-preserved c = c.loop-i.invariant ∙ part_on c.args.end c.args.text.now c.loop-i.i c.loop-i-test.true c.if-text-i.false

pub returns : goal.returns
returns c = let p = c.args in
    let t = p.text.now in
    let i = c.loop-i.i in
    at_end i (part_end p.end t p.at) (part_of p.end (drop i t)) c.loop-i.invariant (part_none p.end t i c.loop-i-test.false)
