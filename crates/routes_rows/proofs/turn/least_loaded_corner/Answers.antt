use Rattle.std.proofs.Common.{◌≡◌, ◌-◌, ◌<◌, ◌≤◌, sym, ◌∙◌, subst, ℕ, arith, le-leb}
use Rattle.std.proofs.lemmas.Bool.{lt-leb}
use Rattle.routes_rows.specs.Blocked.{count_in}
use Rattle.routes_rows.proofs.Searching.{Best, best_passed, best_heavier, best_lighter, best_all}
use Rattle.routes_rows.proofs.turn.least_loaded_corner.Goals as goal

pub loop-k-preserved-then-load-least : goal.loop-k-preserved-then-load-least
loop-k-preserved-then-load-least c = λ clear load h g.
    let l = c.loop-k in
    let reach : l.k ≤ count_in c.args.span = omega (arith, l.auto.k, c.levels_in-k.ensures) in
    let low : l.k - 1 < count_in c.args.span = omega (arith, reach, c.loop-k-test.true) in
    best_lighter (l.invariant clear load h g) c.loop-k-test.true reach (sym (h (l.k - 1) low) ∙ le-leb _ _ c.if-notes-k.true) (g (l.k - 1) low).0 c.if-load-least.true

pub loop-k-preserved-else-load-least : goal.loop-k-preserved-else-load-least
loop-k-preserved-else-load-least c = λ clear load h g.
    let l = c.loop-k in
    let reach : l.k ≤ count_in c.args.span = omega (arith, l.auto.k, c.levels_in-k.ensures) in
    let low : l.k - 1 < count_in c.args.span = omega (arith, reach, c.loop-k-test.true) in
    best_heavier (l.invariant clear load h g) c.loop-k-test.true reach (sym (h (l.k - 1) low) ∙ le-leb _ _ c.if-notes-k.true) (g (l.k - 1) low).0 (g (l.k - 1) low).1 c.if-load-least.false

pub loop-k-preserved : goal.loop-k-preserved
loop-k-preserved c = λ clear load h g.
    let l = c.loop-k in
    let reach : l.k ≤ count_in c.args.span = omega (arith, l.auto.k, c.levels_in-k.ensures) in
    let low : l.k - 1 < count_in c.args.span = omega (arith, reach, c.loop-k-test.true) in
    best_passed (l.invariant clear load h g) c.loop-k-test.true reach (sym (h (l.k - 1) low) ∙ lt-leb _ _ c.if-notes-k.false)

pub returns : goal.returns
returns c = λ clear load h g.
    let l = c.loop-k in
    let none : l.k ≡ 0 = omega (arith, c.loop-k-test.false) in
    best_all (subst (λ (k : ℕ). Best clear load c.args.span.x0 (count_in c.args.span) k l.best l.least) none (l.invariant clear load h g))
