-- The laid taps of a planned board, asked for and emitted: what each pass needs, and that the bus is the rules'.
use Prim.Native.Nat.{ℕ, ◌≤◌, ◌<◌}
use native.Mathlib.Omega.{arith}
use mathlib.Core.Path.{◌≡◌, ap, ◌∙◌}
use mathlib.Core.List.{List, []}
use lib.ListN.{length, get_or, take}
use lib.Seq.{length-take-le}
use Rattle.base.specs.Views.{view}
use Rattle.board.specs.Board.{Board}
use Rattle.board.specs.Groups.{taps_of}
use Rattle.board.specs.Demands.{PageLanes}
use Rattle.board.specs.Tables.{tap_in}
use Rattle.routes.specs.Stops.{laid_taps}
use Rattle.routes.specs.Levels.{stops_of}
use Rattle.routes.specs.Plan.{bus_of, group_count, laid_groups}
use Rattle.routes.specs.Tables.{stop_in}
use Rattle.routes_levels.specs.Laying.{Tabled, LaidFits, LaidFacts}
use Rattle.routes_taps.specs.Taps.{LaidInRange, Tables, TapOn}
use Rattle.routes_taps.specs.Asking.{QuestionsIn, RowsTold, emit_by, told_in}
use Rattle.routes_taps.proofs.Answering.{emit_told, rows_in_view}
use Rattle.routes_taps.proofs.Told.{told_right}
use Rattle.routes_taps.proofs.Fronts.{view_front}
use Rattle.routes_beside.specs.Beside.{RowsAskable}
use Rattle.routes_emit.specs.Emitting.{RoomForTaps}
use Rattle.routes_gutter.specs.Lay.{LanesReady, LayingRoom, LaidReady}
use Rattle.routes_gutter.proofs.Supply.{few_wires, few_pages, tables, laid_are, laid_fits, laid_known, groups_laid, laid_at, laid_on_lem, lanes_few_lem, laid_range, bus_is}
use Rattle.routes_gutter.proofs.Askable.{rows_there, rows_askable}

-- The taps laid and their stops, each cut to those that there are.
module _ {b : Board} {ps : List PageLanes} {pages nodes wires facts groups taps rerouters bus_wires : List (List ℕ)} (r : LanesReady b ps pages nodes wires facts groups taps rerouters bus_wires)
    {laid stops marks : List (List ℕ)} (room : LayingRoom nodes wires laid stops marks) (rows : List (List ℕ)) (n : ℕ) (long : length rows ≡ length laid) (few : n ≤ length taps)
    (told : Tabled b (view tap_in taps (length taps)) ps nodes facts groups → view tap_in rows n ≡ laid_taps b (view tap_in taps (length taps)) ps) where
  pub on_rows : n ≤ length rows
  on_rows = omega (arith, few, r.count, room.on_laid, long)

  cut_few : length (take n rows) ≤ length taps
  cut_few = omega (arith, few, length-take-le n rows on_rows)

  cut_are : view tap_in (take n rows) (length (take n rows)) ≡ laid_taps b (taps_of b) ps
  cut_are = view_front tap_in rows n on_rows ∙ laid_are r told

  pub to_stop : LaidFits facts groups (take n rows) (length (take n rows)) × (length (take n rows) ≤ length stops)
  to_stop = (laid_fits r (take n rows) cut_few cut_are, omega (arith, cut_few, r.count, room.on_stops))

  pub cut_groups : group_count (view tap_in (take n rows) (length (take n rows))) ≡ laid_groups b ps
  cut_groups = groups_laid r (take n rows) cut_few cut_are

  module _ (levels : List (List ℕ)) (s : ℕ) (wide : length levels ≡ length stops) (fewer : s ≤ length (take n rows))
      (are : LaidFacts b ps facts groups (take n rows) (length (take n rows)) → view stop_in levels s ≡ stops_of b ps (view tap_in (take n rows) (length (take n rows)))) where
    pub on_levels : s ≤ length levels
    on_levels = omega (arith, fewer, cut_few, r.count, room.on_stops, wide)

    pub laid_ready : (spare : List (List ℕ)) → length spare ≡ length marks → LaidReady b ps pages nodes wires facts groups taps (take n rows) (take s levels) spare rerouters bus_wires
    laid_ready spare same =
        record {
          ready = r;
          few = cut_few;
          laid_are = cut_are;
          fewer = omega (arith, fewer, length-take-le s levels on_levels);
          stops_are = view_front stop_in levels s on_levels ∙ are (laid_known r (take n rows) cut_few cut_are);
          on_marks = omega (arith, same, room.on_marks);
        }

module _ {b : Board} {ps : List PageLanes} {pages nodes wires facts groups taps laid stops marks rerouters bus_wires : List (List ℕ)}
    (l : LaidReady b ps pages nodes wires facts groups taps laid stops marks rerouters bus_wires) where
  pub range : LaidInRange pages nodes wires facts groups laid (length laid) stops (length stops)
  range = laid_range l.ready laid l.few l.laid_are stops l.fewer l.stops_are

  pub board_tables : Tables b (taps_of b) ps pages nodes wires facts groups
  board_tables = tables l.ready

  pub taps_on_lem : (k : ℕ) → k < length laid → TapOn b (taps_of b) (get_or laid k [])
  taps_on_lem = laid_on_lem l.ready laid l.few l.laid_are

  pub few_taps : length laid ≤ 8192
  few_taps = let w = few_wires l.ready in let c = l.ready.count in let f = l.few in omega arith

  pub lanes_to_ask : (length pages ≤ 64) × ((k : ℕ) → k < length laid → get_or (get_or groups (get_or (get_or laid k []) 1 0) []) 4 0 < 512)
  lanes_to_ask = (few_pages l.ready, lanes_few_lem l.ready laid l.few l.laid_are)

  pub room_to_emit : RoomForTaps (length laid) rerouters bus_wires
  room_to_emit =
      let c = l.ready.count in let f = l.few in let r = l.ready.bus_room.0 in let w = l.ready.bus_room.1 in let few = few_taps in
      record { rerouter_rows = omega arith; wire_rows = omega arith; numbers = omega arith }

  module _ (asked : List (List ℕ)) (questions : QuestionsIn b (taps_of b) ps (view stop_in stops (length stops)) asked (view tap_in laid (length laid)) (view stop_in stops (length stops))) where
    pub can_answer : (flags : List ℕ) → length asked ≡ length taps → 20480 ≤ length flags → ((i : ℕ) → i < 20480 → get_or flags i 0 ≡ 0)
        → RowsAskable nodes facts laid asked marks flags
    can_answer flags la lf no_flag =
        rows_askable l.ready laid l.few l.laid_are stops l.fewer l.stops_are asked marks flags questions (let f = l.few in omega arith) l.on_marks lf no_flag

    pub bus_emitted : (flags : List ℕ) → ((k : ℕ) → k < length laid → RowsTold b laid asked (length nodes) flags k)
        → (emit_by b (taps_of b) ps (told_in asked flags (length nodes)) (view tap_in laid (length laid)) (view stop_in stops (length stops))).bus ≡ bus_of b ps
    bus_emitted flags told =
        let levels = view stop_in stops (length stops) in
        ap (λ e. e.bus)
        (emit_told b (taps_of b) ps levels (told_in asked flags (length nodes)) (view tap_in laid (length laid)) levels
        (rows_in_view b laid (length laid) (λ k h. rows_there l.ready (tap_in (get_or laid k [])) (laid_at l.ready laid l.few l.laid_are k h).0))
        (told_right b (taps_of b) ps levels laid asked flags (length nodes) (length laid) levels questions told))
        ∙ bus_is l.ready laid l.few l.laid_are stops l.fewer l.stops_are
