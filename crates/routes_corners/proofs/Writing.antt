-- Corners written one after the other, each at the level told.
use Rattle.std.proofs.Common.{◌≡◌, ℕ, zero, suc, ◌+◌, ◌-◌, ◌*◌, ◌<◌, ◌≤◌, Bool, true, false, not, ◌&&◌, List, [], length, Option, None, Some, get_or, sym, refl, ap, ◌∙◌, subst, add-one, arith}
use Rattle.sheet.specs.Table.{MISSING}
use Rattle.base.specs.Lists.{Found, none, at}
use Rattle.base.proofs.Bools.{clash}
use Rattle.board.specs.Board.{Board, field, given, source_node, target_node}
use Rattle.board.specs.Groups.{anchor_of, wire_open}
use Rattle.board.specs.Index.{found_of}
use Rattle.board.specs.Refusals.{body_of}
use Rattle.board.specs.Rows.{row_of}
use Rattle.board.specs.Tables.{held}
use Rattle.routes.specs.Bus
use Rattle.routes.specs.Bus.{role_line, part_corner, muted, place, placed_feed, port_feed, deliver, unfed}
use Rattle.routes.specs.Corners.{corner_rerouter, turns_down, turns}
use Rattle.routes.specs.Holding.{feed_of, rerouter_of, BusHeld, Placing, Delivering}
use Rattle.routes.specs.declared.bus.Rerouter.{Rerouter}
use Rattle.routes.specs.declared.bus.BusCount.{BusCount}
use Rattle.routes.specs.declared.bus.End.TheVariants.{Port}
use Rattle.routes.specs.declared.bus.Feed.{Feed}
use Rattle.routes.specs.declared.bus.Placed.{Placed}
use Rattle.routes_turns.specs.Deciding.{node_in, decide_if, source_of, sink_of, with_corners}
use Rattle.routes_turns.specs.Told.{answers_in, told_corners}
use Rattle.routes_corners.specs.CornerTables.{BoardOf, EndsThere, firsts}
use Rattle.routes_corners.specs.Turning.{BoardFits}
use Rattle.routes_corners.specs.Writing.{WriteRoom, EndsOf, CornerThere, turned_bus, CornerWritten, WireWritten}

-- What an Option tells.
abbrev pub told_in : Option ℕ → Found
told_in None = none
told_in (Some level) = at level

pub told_back : (level : Option ℕ) (told : Found) → level ≡ found_of told → told_in level ≡ told
told_back level none e = ap told_in e
told_back level (at l) e = ap told_in e

-- A corner pushed and its delivery.
module _ (R W : List (List ℕ)) (count : BusCount) (wire : List ℕ) (w : ℕ) (new : Rerouter) (R' W₁ W' : List (List ℕ)) (placed : Placed) (r : BusCount) where
  abbrev feed : Feed
  feed = record { end = Port (record { 0 = get_or wire 1 0 }) (get_or wire 2 0); depth = 0 }

  pub corner_written : Placing R W count feed new placed R' W₁ → Delivering W₁ placed.count placed.feed (get_or wire 3 0) (get_or wire 4 0) w r W' → CornerWritten R W count wire w new R' W' r
  corner_written p d =
      record {
        rerouter_count = d.rerouter_count ∙ p.rerouter_count;
        wire_count = d.wire_count ∙ ap suc p.wire_count;
        holds = λ b bus old old_wires e h.
            let fed : feed_of feed ≡ port_feed b w = ap {B = Bus.Feed} (λ r. record { end = Bus.port (get_or r 1 0) (get_or r 2 0); depth = 0 }) (sym e) in
            let on : feed_of placed.feed ≡ placed_feed bus (port_feed b w) = p.gives ∙ ap {B = Bus.Feed} (λ n. record { end = Bus.rerouter n; depth = 1 }) h.rerouter_count in
            subst (λ (g : Bus.Feed). BusHeld (deliver b (place bus (port_feed b w) (rerouter_of new)) g w) old old_wires R' W' r) on
            (subst (λ (g : Bus.Feed). BusHeld (deliver b (place bus g (rerouter_of new)) (feed_of placed.feed) w) old old_wires R' W' r) fed
            (d.held b (place bus (feed_of feed) (rerouter_of new)) old old_wires R' (ap (λ r. get_or r 3 0) (sym e)) (ap (λ r. get_or r 4 0) (sym e)) (p.held bus old old_wires h)));
      }

-- The corner of a wire whose ends are there can be read off the tables.
pub corner_there : (pages nodes wires facts : List (List ℕ)) (w : ℕ) → BoardFits pages nodes wires facts → w < length wires → EndsThere nodes facts w → CornerThere pages nodes facts w
corner_there pages nodes wires facts w f low e =
    let long = f.ends_long in
    let nodesLong = f.bricks.on_facts in
    let target = e.target in
    record { on_facts = omega arith; ends = e; sink_facts = omega arith; page = f.on_pages (field facts w 3) target e.on_row }

pub corner_read : (b : Board) (pages nodes wires facts : List (List ℕ)) (w level : ℕ) → CornerThere pages nodes facts w → BoardOf b pages nodes wires facts
    → ◌≡◌ {A = Bus.Rerouter}
    (record { x = level; y = field nodes (field facts w 2) 9; z = field pages (field nodes (field facts w 3) 10) 2; rotation = 2; role = role_line; part = part_corner; colour = field nodes (field facts w 2) 1; page = field nodes (field facts w 3) 10; lane = MISSING; row = field facts (field facts w 3) 0; depth = unfed })
    (corner_rerouter b (field facts w 2) (field facts w 3) level)
unfolding corner_rerouter
corner_read b pages nodes wires facts w level there is =
    let s : ℕ = field facts w 2 in
    let t : ℕ = field facts w 3 in
    let same : nodes ≡ b.nodes = sym is.nodes_are in
    let long : length b.nodes ≡ length nodes = ap length is.nodes_are in
    let low = there.ends.target in
    let row : field facts t 0 ≡ row_of b t = is.nodes_known.rows t (omega arith) ((λ i. given (field (is.nodes_are i) t 10)) ∙ there.ends.on_row) in
    λ i. record { x = level; y = field (same i) s 9; z = field (sym is.pages_are i) (field (same i) t 10) 2; rotation = 2; role = role_line; part = part_corner; colour = field (same i) s 1; page = field (same i) t 10; lane = MISSING; row = row i; depth = unfed }

-- What a wire leaves, with a level or without.
module _ (pages nodes wires facts : List (List ℕ)) (w : ℕ) (R W : List (List ℕ)) (count : BusCount) where
  pub none_written : WireWritten pages nodes wires facts w none R W count R W count
  none_written =
      record {
        room = λ left r.
            let rerouters : count.rerouters + suc left ≤ length R = r.rerouter_room in
            let lines : count.wires + 2 * suc left ≤ length W = r.wire_room in
            let numbers : count.rerouters + suc left ≤ MISSING = r.numbers in
            record { rerouter_room = omega arith; wire_room = omega arith; numbers = omega arith };
        holds = λ b bus old old_wires done is ends h. h;
      }

  pub told_written : (level : ℕ) (new : Rerouter) → ((b : Board) (ws : List (List ℕ)) → BoardOf b pages nodes ws facts → rerouter_of new ≡ corner_rerouter b (field facts w 2) (field facts w 3) level)
      → (R' W' : List (List ℕ)) (r : BusCount) → CornerWritten R W count (get_or wires w []) w new R' W' r
      → length R' ≡ length R → length W' ≡ length W → WireWritten pages nodes wires facts w (at level) R W count R' W' r
  unfolding with_corners
  told_written level new stands R' W' r p lr lw =
      record {
        room = λ left q.
            let rerouters : count.rerouters + suc left ≤ length R = q.rerouter_room in
            let lines : count.wires + 2 * suc left ≤ length W = q.wire_room in
            let numbers : count.rerouters + suc left ≤ MISSING = q.numbers in
            let more : r.rerouters ≡ suc count.rerouters = p.rerouter_count in
            let two : r.wires ≡ suc (suc count.wires) = p.wire_count in
            record { rerouter_room = omega arith; wire_room = omega arith; numbers = omega arith };
        holds = λ b bus old old_wires done is own h.
            let same : rerouter_of new ≡ corner_rerouter b (source_of b w) (sink_of b w) level = stands b wires is ∙ (λ i. corner_rerouter b (sym own.0 i) (sym own.1 i) level) in
            subst (λ (x : Bus.Rerouter). BusHeld (turned_bus b (with_corners b bus done) w x) old old_wires R' W' r) same
            (p.holds b (with_corners b bus done) old old_wires (ap (λ x. get_or x w []) is.wires_are) h);
      }

-- The pass after k of the n wires in the list.
pub record Writing (pages nodes wires facts : List (List ℕ)) (list answers : List ℕ) (n : ℕ) (R₀ W₀ : List (List ℕ)) (count₀ : BusCount) (k : ℕ) (R W : List (List ℕ)) (count : BusCount) : Type 0 where
  pub far : k ≤ n
  pub room : WriteRoom (n - k) R W count
  pub holds : (b : Board) (bus : Bus.Bus) (old old_wires : List (List ℕ)) → BoardOf b pages nodes wires facts → ((q : ℕ) → q < n → EndsOf b facts (get_or list q 0))
      → BusHeld bus old old_wires R₀ W₀ count₀ → BusHeld (with_corners b bus (told_corners (answers_in answers) (firsts list k))) old old_wires R W count

room_few : (n m : ℕ) → m ≤ n → (R W : List (List ℕ)) (count : BusCount) → WriteRoom n R W count → WriteRoom m R W count
room_few n m h R W count r =
    let rerouters : count.rerouters + n ≤ length R = r.rerouter_room in
    let lines : count.wires + 2 * n ≤ length W = r.wire_room in
    let numbers : count.rerouters + n ≤ MISSING = r.numbers in
    record { rerouter_room = omega arith; wire_room = omega arith; numbers = omega arith }

pub length-firsts : (list : List ℕ) (n : ℕ) → length (firsts list n) ≡ n
length-firsts list zero = refl
length-firsts list (suc n) = ap suc (length-firsts list n)

module _ (pages nodes wires facts : List (List ℕ)) (list answers : List ℕ) (n : ℕ) (R₀ W₀ : List (List ℕ)) (count₀ : BusCount) where
  abbrev After : ℕ → List (List ℕ) → List (List ℕ) → BusCount → Type 0
  After k R W count = Writing pages nodes wires facts list answers n R₀ W₀ count₀ k R W count

  pub writing_start : WriteRoom n R₀ W₀ count₀ → After 0 R₀ W₀ count₀
  unfolding told_corners with_corners
  writing_start r = record { far = omega arith; room = room_few n (n - 0) (omega arith) R₀ W₀ count₀ r; holds = λ b bus old old_wires is ends h. h }

  module _ (k : ℕ) (R W : List (List ℕ)) (count : BusCount) (t : After k R W count) where
    pub writing_more : k < n → (R' W' : List (List ℕ)) (r : BusCount) → WireWritten pages nodes wires facts (get_or list k 0) (answers_in answers k) R W count R' W' r → After (k + 1) R' W' r
    unfolding told_corners
    writing_more h R' W' r step =
        rw (add-one k)
        (record {
          far = omega arith;
          room = step.room (n - suc k) (room_few (n - k) (suc (n - suc k)) (omega arith) R W count t.room);
          holds = λ b bus old old_wires is ends q.
              subst (λ (m : ℕ). BusHeld (with_corners b bus (decide_if (answers_in answers m) (get_or list k 0) (told_corners (answers_in answers) (firsts list k)))) old old_wires R' W' r) (sym (length-firsts list k))
              (step.holds b bus old old_wires (told_corners (answers_in answers) (firsts list k)) is (ends k h) (t.holds b bus old old_wires is ends q));
        })

    pub writing_end : n ≤ k → (b : Board) (bus : Bus.Bus) (old old_wires : List (List ℕ)) → BoardOf b pages nodes wires facts → ((q : ℕ) → q < n → EndsOf b facts (get_or list q 0))
        → BusHeld bus old old_wires R₀ W₀ count₀ → BusHeld (with_corners b bus (told_corners (answers_in answers) (firsts list n))) old old_wires R W count
    writing_end h b bus old old_wires is ends q =
        let far = t.far in
        let end : k ≡ n = omega arith in
        subst (λ (m : ℕ). BusHeld (with_corners b bus (told_corners (answers_in answers) (firsts list m))) old old_wires R W count) end (t.holds b bus old old_wires is ends q)

-- The ends of a wire that turns are those that its row of facts names.
anchor_body : (b : Board) (id s : ℕ) → body_of b id ≡ at s → held (anchor_of b id) ≡ s
unfolding anchor_of
anchor_body b id s e = rw (e, anchor_of) refl

pub turn_ends : (b : Board) (bus : Bus.Bus) (pages nodes wires facts : List (List ℕ)) (w : ℕ) → BoardOf b pages nodes wires facts → w < length b.wires → turns b bus w ≡ true → EndsOf b facts w
unfolding turns source_of sink_of
turn_ends b bus pages nodes wires facts w is low e = go (wire_open b w && not (muted b bus w)) (body_of b (source_node b w)) (body_of b (target_node b w)) refl refl e
  where
    go : (o : Bool) (f g : Found) → body_of b (source_node b w) ≡ f → body_of b (target_node b w) ≡ g
        → elim o as (λ _. Bool) [ false ↦ false | true ↦ elim f as (λ _. Bool) [ none ↦ false | at s ↦ elim g as (λ _. Bool) [ none ↦ false | at t ↦ turns_down b s t ] ] ] ≡ true → EndsOf b facts w
    go false f g ef eg h = clash h refl
    go true none g ef eg h = clash h refl
    go true (at s) none ef eg h = clash h refl
    go true (at s) (at t) ef eg h = (
      ap node_in ef ∙ sym (is.wires_known.sources w low ∙ anchor_body b (source_node b w) s ef),
      ap node_in eg ∙ sym (is.wires_known.targets w low ∙ anchor_body b (target_node b w) t eg),
    )
