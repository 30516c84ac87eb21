use Prim.Native.Nat.{◌*◌, ◌+◌, ◌-◌}
use native.Mathlib.Omega.{arith}
use mathlib.Core.Path.{sym, ap, ◌∙◌}
use Rattle.routes.specs.Levels.{STAGGER_STEP, lowest}
use Rattle.board.specs.Index.{found_of}
use Rattle.routes_levels.specs.Search.{free_in}
use Rattle.routes_levels.proofs.Searches.{found_at, found_none}
use Rattle.routes_levels.proofs.WindowLaws.{in_window, past_more}
use Rattle.routes_levels.proofs.finding.Search.lowest_free.Goals as goal

pub returns-in-Some : goal.returns-in-Some
returns-in-Some c = let a = c.args.self in
    let l = c.loop-done in
    let f = free_in a.row.now a.lane.now in
    sym (ap found_of (l.invariant.1 ∙ in_window f (a.base + STAGGER_STEP * l.done) c.min-size.result (a.count - l.done) (omega (arith, c.min-size.ensures)) _ (found_at (lowest f (a.base + STAGGER_STEP * l.done) c.min-size.result) _ (sym c.in-Some.is ∙ c.free_in_window.ensures))))

pub loop-done-preserved : goal.loop-done-preserved
loop-done-preserved c = let a = c.args.self in
    let l = c.loop-done in
    let f = free_in a.row.now a.lane.now in
    (omega (arith, c.min-size.ensures, l.invariant.0), l.invariant.1 ∙ past_more f a.base l.done c.min-size.result a.count (omega (arith, c.min-size.ensures, l.invariant.0)) (found_none (lowest f (a.base + STAGGER_STEP * l.done) c.min-size.result) (sym c.in_default.is ∙ c.free_in_window.ensures)))
