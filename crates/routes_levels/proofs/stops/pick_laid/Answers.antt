-- `pick_laid` meets its contract: each turn takes the newest tap that is left, and stores it where it passes. Assumes nothing.
use native.Mathlib.Omega.{arith}
use mathlib.Core.Path.{sym}
use Rattle.routes_levels.proofs.PickLaws.{pick_mem, pick_more, pick_pass}
use Rattle.routes_levels.proofs.stops.pick_laid.Goals as goal

pub loop-tap-preserved-then-is_laid : goal.loop-tap-preserved-then-is_laid
loop-tap-preserved-then-is_laid c =
    let new = c.next.new.self.iter.rest.now in
    let steps = c.in-Some.ensures.steps in
    let left = c.loop-tap.invariant in
    pick_more new _ steps left (λ b ps a. c.is_laid.ensures b _ ps _ a (pick_mem new _ steps left) (sym c.group_of.ensures.0)) c.if-is_laid.true (omega (arith, c.requires.room)) c.group_of.ensures.1

pub loop-tap-preserved : goal.loop-tap-preserved
loop-tap-preserved c =
    let new = c.next.new.self.iter.rest.now in
    let steps = c.in-Some.ensures.steps in
    let left = c.loop-tap.invariant in
    pick_pass new _ steps left (λ b ps a. c.is_laid.ensures b _ ps _ a (pick_mem new _ steps left) (sym c.group_of.ensures.0)) c.if-is_laid.false
