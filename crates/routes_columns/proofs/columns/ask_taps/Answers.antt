-- `ask_taps` meets its contract, with local runs. Assumes nothing.
use Prim.Native.Nat.{ℕ}
use mathlib.Core.Path.{sym, subst}
use mathlib.Core.List.{List}
use lib.Dec.{lit≤}
use lib.ListN.{length}
use native.Mathlib.Omega.{arith}
use Rattle.base.specs.Views.{view}
use Rattle.routes.specs.Tables.{stop_in}
use Rattle.routes_columns.specs.Columns.{AskRoom, ClaimsHeld}
use Rattle.routes_columns.proofs.Rooms.{taps_keyed, no_counts, still_long, starts_grow, stops_room, ask_room}
use Rattle.routes_columns.proofs.Claiming.{stops_held}
use Rattle.routes_columns.proofs.columns.ask_taps.Goals as goal

pub make_room-requires : goal.make_room-requires
make_room-requires c = let p = c.requires.few_stops in
    let none = no_counts 32770 (lit≤ tt) in record {
      few_stops = (p.0, p.1, p.3, none.0, taps_keyed c.requires.laid_in_range p.3 p.4);
      by_index = none.1;
    }

pub put_stops-requires : goal.put_stops-requires
put_stops-requires c = let a = c.args in
    let p = c.requires.few_stops in
    let laid = a.laid.taps.now in
    let stops = a.stops.now in
    let made = c.make_room in
    let long = still_long 32770 made.new.starts (lit≤ tt) made.auto.starts in record {
      room = (p.3, starts_grow (length a.s.pages.now) a.laid.groups.now laid (length laid) stops (length stops) made.new.starts p.3 p.0 p.1 long made.ensures 24576 (lit≤ tt) (omega arith));
      by_index = stops_room (length a.s.pages.now) a.laid.groups.now laid (length laid) stops (length stops) made.new.starts p.3 p.0 p.1 long made.ensures 24576 (lit≤ tt) (omega arith);
    }

pub ask_all-requires : goal.ask_all-requires
ask_all-requires c = let a = c.args in
    let p = c.requires.few_stops in
    let r = c.requires.laid_in_range in
    let pages = length a.s.pages.now in
    let groups = a.laid.groups.now in
    let laid = a.laid.taps.now in
    let stops = a.stops.now in
    let made = c.make_room in
    let put = c.put_stops in
    let claims = put.new.self in
    let long = still_long 32770 made.new.starts (lit≤ tt) made.auto.starts in record {
      laid_in_range = r;
      ask_room = subst (λ (starts : List ℕ). AskRoom pages groups laid (length laid) starts claims.nexts claims.xs a.asked.now) (sym put.ensures.same_places.starts)
          (ask_room pages groups laid (length laid) stops (length stops) made.new.starts p.3 p.0 p.1 long made.ensures 24576 (lit≤ tt) (omega arith) claims.nexts claims.xs a.asked.now put.ensures.filled put.ensures.same_places.xs_long p.2 (taps_keyed r p.3 p.4));
      claims_held = subst (λ (starts : List ℕ). ClaimsHeld pages (view stop_in stops (length stops)) starts claims.nexts claims.xs) (sym put.ensures.same_places.starts)
          (stops_held pages stops (length stops) made.new.starts claims.nexts claims.xs put.ensures.filled);
    }
