-- The lanes of a planned board: each step's needs are supplied by what is known of the board.
use native.Mathlib.Omega.{arith}
use mathlib.Core.Path.{◌∙◌}
use Rattle.routes_gutter.proofs.Supply.{taps_fit}
use Rattle.routes_gutter.proofs.Emitted.{to_stop, cut_groups, laid_ready}
use Rattle.routes_gutter.proofs.lay.lay_lanes.Goals as goal

pub lay_taps-n-requires : goal.lay_taps-n-requires
lay_taps-n-requires c = let r = c.requires.2 in
    let room = c.requires.3 in record {
      taps_fit = taps_fit r;
      room = (omega (arith, r.count, room.on_laid), omega (arith, r.count, room.on_marks));
    }

pub lane_stops-stop_count-requires : goal.lane_stops-stop_count-requires
lane_stops-stop_count-requires c = let g = c.requires in
    let t = c.lay_taps-n in
    to_stop g.2 g.3 t.new.laid t.result t.auto.laid t.ensures.upper_bound (t.ensures.result_after g.0 g.1)

pub emit_laid-count-requires : goal.emit_laid-count-requires
emit_laid-count-requires c = let g = c.requires in
    let t = c.lay_taps-n in
    let s = c.lane_stops-stop_count in (
      g.0,
      g.1,
      laid_ready g.2 g.3 t.new.laid t.result t.auto.laid t.ensures.upper_bound (t.ensures.result_after g.0 g.1) s.new.stops s.result s.auto.stops s.ensures.0 (s.ensures.1 g.0 g.1) t.new.spare t.auto.spare,
    )

pub returns : goal.returns
returns c = λ b ps r.
    let room = c.requires.3 in
    let t = c.lay_taps-n in
    let s = c.lane_stops-stop_count in
    let told = t.ensures.result_after b ps in (
      c.emit_laid-count.ensures b ps (laid_ready r room t.new.laid t.result t.auto.laid t.ensures.upper_bound told s.new.stops s.result s.auto.stops s.ensures.0 (s.ensures.1 b ps) t.new.spare t.auto.spare),
      c.count_groups.ensures ∙ cut_groups r room t.new.laid t.result t.auto.laid t.ensures.upper_bound told,
    )
