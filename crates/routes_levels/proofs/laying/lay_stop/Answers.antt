-- One more stop: its x, its level, its row, its group's ends and its level in the runs.
use native.Mathlib.Omega.{arith}
use mathlib.Core.Path.{sym, ◌∙◌}
use Rattle.base.specs.Views.{view}
use Rattle.board.specs.Tables.{tap_in}
use Rattle.routes.specs.Levels.{previous_stop}
use Rattle.routes.specs.Tables.{stop_in}
use Rattle.routes_levels.proofs.LayLaws.{laid_with, stop_is, end_previous, end_kept}
use Rattle.routes_levels.proofs.laying.lay_stop.Goals as goal

pub returns-clause-stop_laid : goal.returns-clause-stop_laid
returns-clause-stop_laid c = let a = c.args in
    let x = c.requires.stop_index.0 in
    let kept = c.keep in
    let inside = x.room in
    laid_with a.stops.now a.s (tap_in a.tap) a.lane c.stop_x-base.result c.level_of-level.result c.stop_row.result (omega (arith, inside)) c.stop_row.ensures x.lasts c.requires.page_runs.0
    (λ ss u g b l e. c.note_end.ensures ss u (g ∙ sym c.group_of-g.ensures.0) b l e)
    (λ v rows lanes rows' lanes' e y g h. kept.ensures.runs v a.runs.now.starts rows lanes rows' lanes' e y c.requires.page_runs.1 g h) kept.ensures.onward

pub returns-clause-s_after : goal.returns-clause-s_after
returns-clause-s_after c = let a = c.args in
    let x = c.requires.stop_index.0 in
    let held = c.requires.page_runs.0 in
    let room = c.requires.page_runs.1 in
    let inside = x.room in
    let base = c.stop_x-base in
    let group = c.group_of-g in
    let t = tap_in a.tap in
    λ b top. stop_is a.stops.now a.s t a.lane base.result c.level_of-level.result c.stop_row.result (omega (arith, inside)) c.stop_row.ensures b
    (base.ensures (previous_stop (view stop_in a.stops.now a.s) t.group) (end_previous x t group.result group.ensures.0 c.requires.stop_index.1))
    (c.level_of-level.ensures b (view stop_in a.stops.now a.s) (held.runs.row_runs t.row room.row_small) (held.runs.lane_runs a.lane room.lane_small) (end_kept x t group.result group.ensures.0 c.requires.stop_index.1 base.result) top)
