-- A stop's level: taken over where the group's last kept stop has its base, else the finder's.
use mathlib.Core.Path.{◌≡◌, sym, ◌∙◌}
use Rattle.base.specs.Lists.{none}
use Rattle.board.specs.Tables.{tap_in}
use Rattle.routes_levels.specs.Laying.{kept_end}
use Rattle.routes_levels.proofs.EndLaws.{level_shared, level_own, level_dropped, kept_other, kept_nothing}
use Rattle.routes_levels.proofs.laying.level_of.Goals as goal
use Rattle.routes_levels.proofs.laying.level_of.Goals.{in-Some+else-kept-base, in_default}

pub returns-then-kept-base : goal.returns-then-kept-base
returns-then-kept-base c = λ b ss er el k t.
    let a = c.args in
    level_shared b ss a.lane a.base a.top a.end (tap_in a.tap) k c.in-Some.kept c.in-Some.is c.if-kept-base.true

pub returns-in-Some-find : goal.returns-in-Some-find
returns-in-Some-find c = λ b ss er el k t.
    let a = c.args in
    let other : kept_end a.end a.base ≡ none = elim c.match-end.branch [ in-Some+else-kept-base w ↦ kept_other a.end w.in-Some.kept a.base w.in-Some.is w.if-kept-base.false | in_default w ↦ kept_nothing a.end a.base w.in_default.is ] in
    level_own b ss a.lane a.base a.top a.end (tap_in a.tap) k other t _ (sym c.in-Some-find.is ∙ c.find.ensures ss (tap_in a.tap).page er el)

pub returns-in-None : goal.returns-in-None
returns-in-None c = λ b ss er el k t.
    let a = c.args in
    let other : kept_end a.end a.base ≡ none = elim c.match-end.branch [ in-Some+else-kept-base w ↦ kept_other a.end w.in-Some.kept a.base w.in-Some.is w.if-kept-base.false | in_default w ↦ kept_nothing a.end a.base w.in_default.is ] in
    level_dropped b ss a.lane a.base a.top a.end (tap_in a.tap) k other t (sym c.in-None.is ∙ c.find.ensures ss (tap_in a.tap).page er el)
