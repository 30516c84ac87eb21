use mathlib.Core.Path.{refl, sym, subst}
use mathlib.Core.List.{List, []}
use Prim.Native.Nat.{ℕ, ◌<◌}
use native.Mathlib.Omega.{arith}
use lib.ListN.{length, get_or}
use Rattle.board.specs.Tables.{tap_in}
use Rattle.base.specs.Views.{view}
use Rattle.routes.specs.Holding.{stop_level_of}
use Rattle.routes_taps.proofs.Reaching.{next_in_range}
use Rattle.routes_columns.specs.Columns.{tap_key, ClaimRoom, NextAsked}
use Rattle.routes_columns.proofs.Asking.{both_same}
use Rattle.routes_columns.proofs.Walking.{come_start, come_next, come_end, room_for_one}
use Rattle.routes_columns.proofs.columns.ask_all.Goals as goal

pub loop-k-init : goal.loop-k-init
loop-k-init c = let a = c.args in (
  record { starts = refl; nexts_long = refl; xs_long = refl },
  come_start a.s.pages.now a.s.nodes.now a.s.wires.now a.laid.facts.now a.laid.groups.now a.laid.taps.now (length a.laid.taps.now) a.stops.now (length a.stops.now) a.claims.now.starts a.claims.now.nexts a.claims.now.xs a.asked.now _ refl c.requires.ask_room c.requires.claims_held,
)

pub ask_next-reached-requires : goal.ask_next-reached-requires
ask_next-reached-requires c = let l = c.loop-k in
    let a = c.args in
    let t : l.k < length a.laid.taps.now = omega arith in
    let come = l.invariant.1 in
    let room = c.requires.ask_room in
    let lane = c.requires.laid_in_range.lanes l.k t in record {
      tap_keyed = (
        room.keyed l.k t,
        subst (λ (starts : List ℕ). ClaimRoom 2 starts l.claims.nexts l.claims.xs (tap_key a.laid.groups.now a.laid.taps.now l.k)) (sym l.invariant.0.starts)
            (room_for_one a.s.pages.now a.s.nodes.now a.s.wires.now a.laid.facts.now a.laid.groups.now a.laid.taps.now (length a.laid.taps.now) a.stops.now (length a.stops.now) a.claims.now.starts l.claims.nexts l.claims.xs l.asked l.reached l.k come t (room.keyed l.k t) lane.on_pages (omega (arith, room.small, l.invariant.0.xs_long))),
      );
      lane_in_range = lane;
      next_in_range = next_in_range a.s.pages.now a.s.nodes.now a.s.wires.now a.laid.facts.now a.laid.groups.now a.laid.taps.now (length a.laid.taps.now) a.stops.now (length a.stops.now) c.requires.laid_in_range l.k t l.reached come.count come.at_stop;
      k_in_bounds = omega (arith, t, room.rows, l.auto.asked);
    }

pub loop-k-preserved : goal.loop-k-preserved
loop-k-preserved c = let l = c.loop-k in
    let a = c.args in
    let t : l.k < length a.laid.taps.now = omega arith in
    let n = c.ask_next-reached in
    let kept = l.invariant.0 in
    let room = c.requires.ask_room in (
      both_same kept n.ensures.same_places,
      come_next a.s.pages.now a.s.nodes.now a.s.wires.now a.laid.facts.now a.laid.groups.now a.laid.taps.now (length a.laid.taps.now) a.stops.now (length a.stops.now) a.claims.now.starts l.claims.nexts l.claims.xs l.asked l.reached l.k l.invariant.1 t (room.keyed l.k t) (c.requires.laid_in_range.lanes l.k t).on_pages n.new.claims.nexts n.new.claims.xs n.new.asked n.result (omega (arith, t, room.rows, l.auto.asked)) n.ensures.same_places.nexts_long n.ensures.same_places.xs_long n.ensures.two_more n.ensures.went_on
          (λ b ts ps tb on. subst (λ (starts : List ℕ). NextAsked b ts ps (view tap_in a.laid.taps.now l.k) (tap_in (get_or a.laid.taps.now l.k [])) (stop_level_of n.result.level) l.k starts l.claims.nexts l.claims.xs l.asked n.new.claims.nexts n.new.claims.xs n.new.asked) kept.starts (n.ensures.next_asked b ts ps tb on)),
    )

pub returns : goal.returns
returns c = let l = c.loop-k in
    let a = c.args in
    come_end a.s.pages.now a.s.nodes.now a.s.wires.now a.laid.facts.now a.laid.groups.now a.laid.taps.now (length a.laid.taps.now) a.stops.now (length a.stops.now) a.claims.now.starts l.claims.nexts l.claims.xs l.asked l.reached l.k l.invariant.1 (omega arith) c.requires.laid_in_range.a_stop_each
