-- `ask_next` meets its contract. Assumes nothing.
use Prim.Native.Nat.{ℕ}
use mathlib.Core.Bool.{Bool}
use mathlib.Core.Path.{sym, subst, subst₂}
use mathlib.Core.List.{[]}
use lib.ListN.{get_or}
use Rattle.base.specs.Views.{view}
use Rattle.board.specs.Tables.{tap_in}
use Rattle.routes.specs.Holding.{stop_level_of}
use Rattle.routes_taps.specs.Taps.{ReachedNext}
use Rattle.routes_taps.proofs.Reaching.{lane_next, went_on}
use Rattle.routes_columns.specs.Columns.{lane_key, ClaimRoom, TwoMore}
use Rattle.routes_columns.proofs.Asking.{lane_keyed, next_asked}
use Rattle.routes_columns.proofs.columns.ask_next.Goals as goal

pub ask_tap-placed-requires : goal.ask_tap-placed-requires
ask_tap-placed-requires c = let a = c.args in
    let tap = c.from-t in
    let lane = c.lane_of-l in
    let news = c.news_at-news in
    let next = c.reach-reached in
    let reached = subst (λ (fresh : Bool). ReachedNext a.stops.now a.old fresh next.result) c.begins_row.ensures next.ensures in
    let here = lane_keyed a.s.pages.now a.s.nodes.now a.s.wires.now a.laid.facts.now a.laid.groups.now a.laid.taps.now a.k tap.result lane.result tap.ensures lane.ensures in
    let on = c.requires.tap_keyed.0 in record {
      page_bound = (rw here.0 on.page, rw here.1 on.lane);
      claim_room = subst₂ (λ (p l : ℕ). ClaimRoom 2 a.claims.now.starts a.claims.now.nexts a.claims.now.xs (lane_key p l)) (sym here.0) (sym here.1) c.requires.tap_keyed.1;
      level_range = (went_on a.laid.taps.now a.k a.stops.now a.old next.result news.result news.ensures c.requires.next_in_range reached).at_stop.range;
    }

pub returns : goal.returns
returns c = let a = c.args in
    let tap = c.from-t in
    let lane = c.lane_of-l in
    let news = c.news_at-news in
    let next = c.reach-reached in
    let reached = subst (λ (fresh : Bool). ReachedNext a.stops.now a.old fresh next.result) c.begins_row.ensures next.ensures in
    let q = c.ask_tap-placed in
    let row = c.question_row in
    let here = lane_keyed a.s.pages.now a.s.nodes.now a.s.wires.now a.laid.facts.now a.laid.groups.now a.laid.taps.now a.k tap.result lane.result tap.ensures lane.ensures in record {
      same_places = q.ensures.same_places;
      two_more = subst₂ (λ (p l : ℕ). TwoMore (lane_key p l) a.claims.now.nexts q.new.claims.nexts) here.0 here.1 q.ensures.tap_asked.more;
      went_on = went_on a.laid.taps.now a.k a.stops.now a.old next.result news.result news.ensures c.requires.next_in_range reached;
      next_asked = λ b ts ps tb on.
          next_asked b ts ps (view tap_in a.laid.taps.now a.k) (get_or a.laid.taps.now a.k []) tap.result lane.result news.result (stop_level_of next.result.level) tap.ensures
          (lane_next b ts ps a.s.pages.now a.s.nodes.now a.s.wires.now a.laid.facts.now a.laid.groups.now (get_or a.laid.taps.now a.k []) tap.result lane.result tb on c.requires.lane_in_range tap.ensures lane.ensures)
          news.ensures q.ensures.tap_asked row.ensures;
    }
