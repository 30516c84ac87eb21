-- Corners decided row by row and written by their answers are those of the rules.
use Rattle.std.proofs.Common.{◌≡◌, ℕ, zero, suc, ◌<◌, ◌≤◌, Bool, true, false, eqb, List, [], ◌∷◌, length, get_or, sym, refl, ap, ◌∙◌, subst, arith, eqb-true}
use borrow.Author.Tests.{eqb-false}
use Rattle.sheet.specs.Table.{MISSING}
use Rattle.base.specs.Lists.{keep, upto}
use Rattle.board.specs.Board.{Board, field}
use Rattle.board.specs.Rows.{brick_cell}
use Rattle.board.specs.Tables.{nodes_alone}
use Rattle.routes.specs.Bus
use Rattle.routes.specs.Corners.{turns, corners}
use Rattle.routes.specs.Holding.{BusHeld}
use Rattle.routes.specs.declared.bus.BusCount.{BusCount}
use Rattle.routes.specs.declared.bus.BusCounts.{BusCounts}
use Rattle.routes_turns.specs.Deciding.{sink_of, with_corners, decided}
use Rattle.routes_turns.specs.CornerItems.{EDGE, LevelsHeld}
use Rattle.routes_turns.specs.Told.{answers_in, told_corners, SinksLow}
use Rattle.routes_turns.proofs.Decided.{corners_decided}
use Rattle.routes_turns.proofs.Told.{told_decided}
use Rattle.routes_corners.specs.CornerTables.{BoardOf, Classed, firsts}
use Rattle.routes_corners.specs.Handed.{CellRows}
use Rattle.routes_corners.specs.Answering.{RowsRoom}
use Rattle.routes_corners.specs.Listing.{TurnsListed, TurnsOf}
use Rattle.routes_corners.specs.Turning.{has_room, BoardFits, Lent, TurnersFound}
use Rattle.routes_corners.specs.Writing.{EndsOf, WriteRoom}
use Rattle.routes_corners.proofs.TurnLaws.{room_found}
use Rattle.routes_corners.proofs.Writing.{turn_ends}

-- What holds of each of a list.
abbrev Passes : (ℕ → Bool) → List ℕ → Type 0
Passes f [] = Unit {0}
Passes f (w ∷ l) = (f w ≡ true) × Passes f l

kept_passes : (f : ℕ → Bool) (l : List ℕ) → Passes f (keep f l)
kept_passes f [] = tt
kept_passes f (w ∷ l) = go (f w) refl (kept_passes f l)
  where
    go : (t : Bool) → f w ≡ t → Passes f (keep f l) → Passes f (elim t as (λ _. List ℕ) [ true ↦ w ∷ keep f l | false ↦ keep f l ])
    go true e rest = (e, rest)
    go false e rest = rest

first_passes : (f : ℕ → Bool) (list : List ℕ) (n : ℕ) → Passes f (firsts list n) → (q : ℕ) → q < n → f (get_or list q 0) ≡ true
first_passes f list zero all q h = absurd (omega arith)
first_passes f list (suc n) all q h = go (eqb q n) refl (first_passes f list n all.1 q)
  where
    go : (t : Bool) → eqb q n ≡ t → (q < n → f (get_or list q 0) ≡ true) → f (get_or list q 0) ≡ true
    go true e below = ap (λ i. f (get_or list i 0)) (eqb-true q n e) ∙ all.0
    go false e below = let other = eqb-false q n e in below (omega (arith, other))

module _ (b : Board) (bus : Bus.Bus) (pages nodes wires facts : List (List ℕ)) (classes list : List ℕ) (n : ℕ) (rerouters : List (List ℕ)) (m : ℕ)
    (is : BoardOf b pages nodes wires facts) (listed : (q : ℕ) → q < n → get_or list q 0 < length wires) (all : firsts list n ≡ keep (turns b bus) (upto (length b.wires))) where
  pub list_ends : (q : ℕ) → q < n → EndsOf b facts (get_or list q 0)
  list_ends q h =
      let long : length b.wires ≡ length wires = ap length is.wires_are in
      let low = listed q h in
      turn_ends b bus pages nodes wires facts (get_or list q 0) is (omega arith)
      (first_passes (turns b bus) list n (subst (λ (l : List ℕ). Passes (turns b bus) l) (sym all) (kept_passes (turns b bus) (upto (length b.wires)))) q h)

  pub turns_of : length wires ≤ MISSING → Classed wires classes (length wires) → CellRows bus.rerouters rerouters → m ≡ length bus.rerouters → TurnsOf b bus pages nodes wires facts classes list n rerouters m
  turns_of few classed rows count = record { board = is; wires_few = few; classed = classed; rows = rows; count = count; listed = listed; ends = list_ends }

  sinks_low : TurnsListed nodes facts classes list n → (q : ℕ) → q ≤ n → SinksLow b (firsts list q)
  unfolding brick_cell
  sinks_low ok zero h = tt
  sinks_low ok (suc q) h = (
    let low : (brick_cell (nodes_alone nodes) (field facts (get_or list q 0) 3)).x1 ≤ EDGE = ok.low q (omega arith) in
        let own : sink_of b (get_or list q 0) ≡ field facts (get_or list q 0) 3 = (list_ends q (omega arith)).1 in
        let same : (brick_cell b (sink_of b (get_or list q 0))).x1 ≡ (brick_cell (nodes_alone nodes) (field facts (get_or list q 0) 3)).x1 = λ i. (brick_cell (nodes_alone (is.nodes_are i)) (own i)).x1 in
        omega arith,
    sinks_low ok q (omega arith),
  )

  -- The bus with the corners told is that of the rules.
  pub corners_told : TurnsListed nodes facts classes list n → (answers : List ℕ) → LevelsHeld b bus answers (firsts list n) → with_corners b bus (told_corners (answers_in answers) (firsts list n)) ≡ corners b bus
  corners_told ok answers levels =
      ap (with_corners b bus) (told_decided b bus answers (firsts list n) levels (sinks_low ok n (omega arith)) ∙ ap (decided b bus) all) ∙ sym (corners_decided b bus)

  pub laid_by_rows : TurnsListed nodes facts classes list n → (answers : List ℕ) → LevelsHeld b bus answers (firsts list n) → (old old_wires R W : List (List ℕ)) (r : BusCount)
      → BusHeld (with_corners b bus (told_corners (answers_in answers) (firsts list n))) old old_wires R W r → BusHeld (corners b bus) old old_wires R W r
  laid_by_rows ok answers levels old old_wires R W r h = subst (λ (v : Bus.Bus). BusHeld v old old_wires R W r) (corners_told ok answers levels) h

-- What the pass asks for, where there is room for all that turns: the wires found can be listed, decided and written.
module _ (pages nodes wires facts R W ports items : List (List ℕ)) (held : BusCounts) (classes list : List ℕ) (n : ℕ) (fits : BoardFits pages nodes wires facts)
    (lent : Lent (length nodes) (length wires) R W ports items held) (f : TurnersFound nodes wires facts ports held.ports classes list n) (room : has_room (length wires) held n ≡ true) where
  found_listed : length wires ≤ length classes → n ≤ length list → TurnsListed nodes facts classes list n
  found_listed on_classes on_list =
      let few = fits.wires_few in
      let long = fits.ends_long in
      let turning = f.few in
      record {
        few = omega arith;
        list_long = omega arith;
        there = λ q h. let low = f.below q h in let class = f.classed.low (get_or list q 0) low in record { on_facts = omega arith; on_classes = omega arith; class = omega arith; ends = f.ends q h };
        low = λ q h. let e = f.ends q h in (fits.inside (field facts (get_or list q 0) 3) e.target e.on_row).low;
        wide = λ q h. let e = f.ends q h in (fits.inside (field facts (get_or list q 0) 3) e.target e.on_row).wide;
        flat = λ q h. let e = f.ends q h in (fits.inside (field facts (get_or list q 0) 2) e.source e.source_row).flat;
      }

  found_room : RowsRoom nodes wires list n R held.rerouters items
  found_room =
      let r = (room_found (length wires) held n room).0 in
      let nodes_few = fits.bricks.few in
      let wires_few = fits.wires_few in
      let turning = f.few in
      let marks = lent.mark_room in
      record { rerouters_there = lent.rerouters_there; few = omega arith; few_turns = omega arith; on_items = omega arith; listed = f.below }

  found_writes : WriteRoom n R W (record { rerouters = held.rerouters; wires = held.bus_wires })
  found_writes =
      let r = room_found (length wires) held n room in
      let wires_few = fits.wires_few in
      let rerouter_room = lent.rerouter_room in
      let wire_room = lent.wire_room in
      record { rerouter_room = omega (arith, r); wire_room = omega (arith, r); numbers = omega (arith, r) }

  pub found_ready : length wires ≤ length classes → n ≤ length list
      → BoardFits pages nodes wires facts × (TurnsListed nodes facts classes list n × (RowsRoom nodes wires list n R held.rerouters items × WriteRoom n R W (record { rerouters = held.rerouters; wires = held.bus_wires })))
  found_ready on_classes on_list = (fits, (found_listed on_classes on_list, (found_room, found_writes)))
