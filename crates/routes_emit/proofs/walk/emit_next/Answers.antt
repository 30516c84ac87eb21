-- `emit_next` meets its contract. Assumes nothing.
use mathlib.Core.Bool.{Bool}
use mathlib.Core.Path.{subst}
use mathlib.Core.List.{[]}
use lib.ListN.{length, get_or}
use Rattle.base.specs.Views.{view}
use Rattle.board.specs.Tables.{tap_in}
use Rattle.routes.specs.Holding.{stop_level_of}
use Rattle.routes_taps.specs.Asking.{told_in, tap_by}
use Rattle.routes_taps.specs.Taps.{ReachedNext}
use Rattle.routes_taps.proofs.Reaching.{lane_next, target_next, went_on}
use Rattle.routes_emit.proofs.Steps.{becomes_as}
use Rattle.routes_emit.proofs.Next.{emit_as}
use Rattle.routes_emit.proofs.walk.emit_next.Goals as goal

pub returns : goal.returns
returns c = let h = c.emit_tap in
    let told = c.answers_at-answers in
    let next = c.reach-reached in
    let news = c.news_at-news in
    let lane = c.lane_of-l in
    let tap = c.from-t in
    let a = c.args in
    let reached = subst (λ (fresh : Bool). ReachedNext a.stops.now a.w.now.reached fresh next.result) c.begins_row.ensures next.ensures in
    let row = get_or a.laid.taps.now a.k [] in
    let before = view tap_in a.laid.taps.now a.k in record {
      spends = h.ensures.spends;
      went_on = went_on a.laid.taps.now a.k a.stops.now a.w.now.reached next.result news.result news.ensures c.requires.next_in_range reached;
      becomes = λ b ts ps k on.
          becomes_as _ (λ x. tap_by b ts ps (told_in a.asked.now a.flags.now (length a.s.nodes.now) a.k) x before (tap_in row) (stop_level_of next.result.level)) _ _ _ _ _ _
          (h.ensures.becomes b ts ps (lane_next b ts ps a.s.pages.now a.s.nodes.now a.s.wires.now a.laid.facts.now a.laid.groups.now row tap.result lane.result k on c.requires.lane_in_range tap.ensures lane.ensures) (target_next b ts row tap.result on tap.ensures))
          (λ x. emit_as b ts ps told.result _ before row tap.result news.result (stop_level_of next.result.level) x told.ensures tap.ensures news.ensures);
    }
