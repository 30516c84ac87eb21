-- The emission and the corner pass, walked once: each keeps a plan's numbers in range.
use Rattle.std.proofs.Common.{◌≡◌, ℕ, zero, suc, ◌+◌, ◌*◌, ◌<◌, ◌≤◌, Bool, true, false, not, ◌&&◌, eqb, ltb, List, [], ◌∷◌, length, sym, refl, ap, ◌∙◌, subst, arith}
use mathlib.Core.List.Memᴰ
use Rattle.board.specs.Accepted.{Y_HIGH, Accepted}
use Rattle.base.specs.Lists.{Found, none, at, found, any, fold, upto}
use Rattle.board.specs.Board.{Board, placed, has_line, has_row, line_of, x_of, y_of, down_of, page_of, rotation_of, source_node, target_node}
use Rattle.board.specs.Refusals.{body_of}
use Rattle.board.specs.Rows.{REROUTER_SIZE, row_of, brick_cell}
use Rattle.board.specs.Groups.{Tap, taps_of, taps_in, wire_open, source_anchor, source_row}
use Rattle.board.specs.Demands.{PageLanes, lane_of, lane_y, planned, plan_lanes}
use Rattle.base.proofs.Bools.{never, clash, and_left, and_right}
use Rattle.base.proofs.Lists.{by_test, by_found}
use Rattle.board.proofs.LanesFit.{planned_fits}
use Rattle.routes.specs.Stops.{laid_taps, is_laid, new_group, new_row, new_column}
use Rattle.routes.specs.Levels.{Level, dropped, shared, own, Stop, levels_in, lowest, stops_of, lane_for}
use Rattle.routes.specs.Bus.{Bus, Rerouter, port_feed, deliver, empty_bus, muted}
use Rattle.routes.specs.Rerouters.{Emission, column_free, level_here, source, chain_rotation, lane_rerouter, row_rerouter, head_rerouter, link_rerouter, tap_rerouter, source_rerouter, gate_side_rerouter, clear_for, hang_on, tap_off, chain_on, with_source, start_group, with_link, start_row, with_gate_side, serve, emit_tap, emit}
use Rattle.routes.specs.Corners.{Cornering, turns_down, turn_wire, with_corner, corner_level, corner_clear, sink_load, corner_rerouter, corners}
use Rattle.routes.specs.Plan.{bus_of, finished}
use Rattle.routes.proofs.LaidTaps.{of_laid}
use Rattle.routes.proofs.Claims.{stops_before_lem}
use Rattle.routes.proofs.Room.{room_finished}
use Rattle.board.proofs.Reach.{All, all_none, REACH_MOST, row_most_lem, end_most}
use Rattle.routes_plan_sheet.proofs.LevelRange.{TapInRange, taps_in_range, lowest_most, lightest_most, levels_most, LevelInRange, level_in_range}
use Rattle.routes_plan_sheet.proofs.InRange.{RerouterInRange, InRange, PlanInRange, FeedInRange, feed_port, feed_more, feed_placed, placed_in, delivered_in}

module _ (b : Board) (r : Accepted b) (ps : List PageLanes) (lanes : plan_lanes b ≡ planned ps) where
  abbrev ts : List Tap
  ts = taps_of b

  -- What is known of a laid tap.
  record LaidTap (t : Tap) : Type 0 where
    ranged : TapInRange b t
    laned : found (lane_of ps t.page t.group) ≡ true

  laid_taps_lem : All LaidTap (laid_taps b ts ps)
  unfolding is_laid
  laid_taps_lem t m =
      let l = of_laid b ts ps t m in
      record { ranged = taps_in_range b r t l.0; laned = and_left (found (lane_of ps t.page t.group)) _ l.1 }

  module _ (t : Tap) (h : LaidTap t) where
    rotation_most : chain_rotation b ts ps t ≤ 3
    unfolding chain_rotation
    rotation_most =
        by_test (λ n. n ≤ 3) (placed b (source b ts ps t) && not (any (λ u. not (ltb (x_of b (source b ts ps t)) u.x)) (taps_in b ts t.group)))
        (λ e. omega arith) (λ e. omega arith)

    lane_rerouter_lem : (x rotation part : ℕ) → x ≤ REACH_MOST + REROUTER_SIZE → rotation ≤ 3 → part ≤ 6 → RerouterInRange (lane_rerouter b ts ps t x rotation part)
    unfolding lane_rerouter lane_y
    lane_rerouter_lem x rotation part low turn kind = go (lane_of ps t.page t.group) refl
      where
        go : (f : Found) → lane_of ps t.page t.group ≡ f → RerouterInRange (lane_rerouter b ts ps t x rotation part)
        go none e = clash (rw e at h.laned) refl
        go (at lane) e =
            let fits = (planned_fits b ps lanes t.page t.group lane e).1 in
            let same : lane_for ps t ≡ lane = ap {B = ℕ} (λ f. elim f [ at l ↦ l | none ↦ zero ]) e in
            record {
              x = low;
              y = omega (arith, r.min_y t.page fits.gutter);
              z = r.z t.page;
              rotation = turn;
              role = omega arith;
              part = kind;
              colour = r.id (source b ts ps t);
              page = h.ranged.page;
              lane = omega (arith, same, fits.inside, fits.most);
              row = omega arith;
            }

    row_rerouter_lem : (row x y rotation role part : ℕ) → row ≤ length b.nodes → x ≤ REACH_MOST → y ≤ Y_HIGH → rotation ≤ 3 → role ≤ 2 → part ≤ 6
        → RerouterInRange (row_rerouter b ts ps t row x y rotation role part)
    unfolding row_rerouter
    row_rerouter_lem row x y rotation role part few across up turn what kind =
        record {
          x = omega arith;
          y = up;
          z = r.z t.page;
          rotation = turn;
          role = what;
          part = kind;
          colour = r.id (source b ts ps t);
          page = h.ranged.page;
          lane = omega arith;
          row = omega (arith, r.few_nodes);
        }

  -- The walk's state: a plan in range, and feeds of it.
  record Going (e : Emission) : Type 0 where
    plan : InRange b e.bus
    upstream : FeedInRange e.bus e.upstream
    stop_tap : FeedInRange e.bus e.stop_tap
    row_end : FeedInRange e.bus e.row_end

  hang_on_lem : (e : Emission) (k : Rerouter) → Going e → RerouterInRange k → Going (hang_on b ts ps e e.upstream k)
  hang_on_lem e k g q =
      record {
        plan = placed_in b r g.plan g.upstream q;
        upstream = feed_placed b r k g.upstream;
        stop_tap = feed_more b r e.upstream k g.stop_tap;
        row_end = feed_more b r e.upstream k g.row_end;
      }

  tap_off_lem : (e : Emission) (k : Rerouter) → Going e → RerouterInRange k → Going (tap_off b ts ps e k)
  tap_off_lem e k g q =
      record {
        plan = placed_in b r g.plan g.upstream q;
        upstream = feed_more b r e.upstream k g.upstream;
        stop_tap = feed_placed b r k g.upstream;
        row_end = feed_placed b r k g.upstream;
      }

  chain_on_lem : (e : Emission) (k : Rerouter) → Going e → RerouterInRange k → Going (chain_on b ts ps e k)
  chain_on_lem e k g q =
      record {
        plan = placed_in b r g.plan g.row_end q;
        upstream = feed_more b r e.row_end k g.upstream;
        stop_tap = feed_more b r e.row_end k g.stop_tap;
        row_end = feed_placed b r k g.row_end;
      }

  -- One tap.
  module _ (stops : List Stop) (t : Tap) (h : LaidTap t) where
    with_source_lem : (e : Emission) → placed b (source b ts ps t) ≡ true → Going e → Going (with_source b ts ps e t)
    unfolding with_source source_row
    with_source_lem e p g =
        by_found Going (source_row b t.group t.page) (λ n. g)
        (λ row n. by_test Going (clear_for b ts ps e.bus (source_rerouter b ts ps t row))
        (λ c. hang_on_lem e (source_rerouter b ts ps t row) g
        (row_rerouter_lem t h row _ _ 2 2 1 (known row n) (omega (arith, r.x (source b ts ps t) p)) (omega (arith, r.y (source b ts ps t) p)) (omega arith) (omega arith) (omega arith)))
        (λ c. g))
      where
        known : (row : ℕ) → source_row b t.group t.page ≡ at row → row ≤ length b.nodes
        known row n =
            by_test (λ f. f ≡ at row → row ≤ length b.nodes) (has_row b (source_anchor b t.group) && eqb (page_of b (source_anchor b t.group)) t.page)
            (λ c d. let same : row_of b (source_anchor b t.group) ≡ row = cc in omega (arith, row_most_lem b (source_anchor b t.group))) (λ c d. never cc) n

    start_group_lem : (e : Emission) → Going e → Going (start_group b ts ps stops e t)
    unfolding start_group
    start_group_lem e g =
        by_test Going (placed b (source b ts ps t) && column_free stops e.bus t.page (lane_for ps t) (x_of b (source b ts ps t)))
        (λ c.
        let p = and_left (placed b (source b ts ps t)) _ c in
        hang_on_lem (with_source b ts ps at_port_lem t) (head_rerouter b ts ps t) (with_source_lem at_port_lem p begun)
        (lane_rerouter_lem t h _ _ 2 (omega (arith, r.x (source b ts ps t) p)) (rotation_most t h) (omega arith)))
        (λ c. begun)
      where
        at_port_lem : Emission
        at_port_lem = record { bus = e.bus; upstream = port_feed b t.group; stop_tap = e.stop_tap; row_end = e.row_end }

        begun : Going at_port_lem
        begun = record { plan = g.plan; upstream = feed_port b r e.bus t.group; stop_tap = g.stop_tap; row_end = g.row_end }

    start_row_lem : (e : Emission) (level : Level) → LevelInRange level → Going e → Going (start_row b ts ps stops e t level)
    unfolding start_row with_link
    start_row_lem e dropped i g = g
    start_row_lem e (shared x) i g = record { plan = g.plan; upstream = g.upstream; stop_tap = g.stop_tap; row_end = g.stop_tap }
    start_row_lem e (own x) i g =
        tap_off_lem (with_link b ts ps stops e t x) (tap_rerouter b ts ps t x)
        (by_test Going (column_free stops e.bus t.page (lane_for ps t) (x + REROUTER_SIZE))
        (λ c. hang_on_lem e (link_rerouter b ts ps t x) g (lane_rerouter_lem t h _ _ 3 (omega arith) (rotation_most t h) (omega arith))) (λ c. g))
        (lane_rerouter_lem t h x 0 4 (omega arith) (omega arith) (omega arith))

    served : (e : Emission) (fresh : Bool) (x : ℕ) → x ≤ REACH_MOST → Going e → Going (serve b ts ps e t fresh x)
    unfolding serve with_gate_side
    served e fresh x i g = done (elim fresh [ true ↦ with_gate_side b ts ps e t x | false ↦ e ]) beside
      where
        beside : Going (elim fresh [ true ↦ with_gate_side b ts ps e t x | false ↦ e ])
        beside =
            by_test Going fresh
            (λ f. by_test Going (clear_for b ts ps e.bus (gate_side_rerouter b ts ps t x))
            (λ c. chain_on_lem e (gate_side_rerouter b ts ps t x) g (row_rerouter_lem t h t.row x _ 0 0 5 h.ranged.row i (omega (arith, h.ranged.y)) (omega arith) (omega arith) (omega arith)))
            (λ c. g))
            (λ f. g)

        done : (e : Emission) → Going e → Going (record { bus = deliver b e.bus e.row_end t.wire; upstream = e.upstream; stop_tap = e.stop_tap; row_end = e.row_end })
        done e g =
            record {
              plan = delivered_in b r t.wire h.ranged.wire g.plan g.row_end;
              upstream = record { end = g.upstream.end; depth = g.upstream.depth };
              stop_tap = record { end = g.stop_tap.end; depth = g.stop_tap.depth };
              row_end = record { end = g.row_end.end; depth = g.row_end.depth };
            }

    emit_tap_lem : (e : Emission) (l : List Tap) (level : Level) → LevelInRange level → Going e → Going (emit_tap b ts ps stops e l t level)
    unfolding emit_tap
    emit_tap_lem e l level i g = go level i (by_test Going (new_row l t) (λ n. start_row_lem _ level i begun) (λ n. begun))
      where
        begun : Going (elim (new_group l t) [ true ↦ start_group b ts ps stops e t | false ↦ e ])
        begun = by_test Going (new_group l t) (λ n. start_group_lem e g) (λ n. g)

        go : {e : Emission} (level : Level) → LevelInRange level → Going e
            → Going (elim level as (λ _. Emission) [ dropped ↦ e | shared x ↦ serve b ts ps e t (new_column l t) x | own x ↦ serve b ts ps e t (new_column l t) x ])
        go dropped i g = g
        go (shared x) i g = served _ (new_column l t) x i g
        go (own x) i g = served _ (new_column l t) x i g

  emits : (stops : List Stop) (l : List Tap) → All LaidTap l → Going (emit b ts ps stops l (stops_of b ps l))
  unfolding emit
  emits stops [] h =
      record { plan = record { rerouters = all_none _; depths = all_none _; wires = all_none _; ports = all_none _ }; upstream = none_yet; stop_tap = none_yet; row_end = none_yet }
    where
      none_yet : FeedInRange empty_bus (record { end = Rattle.routes.specs.Bus.port 0 0; depth = 0 })
      none_yet = record { end = (omega arith, omega arith); depth = omega arith }
  emits stops (t ∷ l) h =
      let before : Going (emit b ts ps stops l (stops_of b ps l)) = emits stops l (λ u m. h u (Memᴰ.tail m)) in
      subst (λ old. Going (emit_tap b ts ps stops (emit b ts ps stops l old) l t (level_here (stops_of b ps (t ∷ l))))) (sym (stops_before_lem b ps t l))
      (emit_tap_lem stops t (h t (Memᴰ.head refl)) (emit b ts ps stops l (stops_of b ps l)) l (level_here (stops_of b ps (t ∷ l)))
      (level_in_range b r ps (t ∷ l) (λ u m. (h u m).ranged)) before)

  bus_in_range : InRange b (bus_of b ps)
  unfolding bus_of
  bus_in_range = (emits (stops_of b ps (laid_taps b ts ps)) (laid_taps b ts ps) laid_taps_lem).plan

-- The corner pass.
both_rows : (a c d e f g h i j : Bool) → (a && c && d && e && f && g && h && i && j) ≡ true → (f ≡ true) × (g ≡ true)
both_rows a c d e f g h i j q =
    let six = and_left (a && c && d && e && f && g) h (and_left (a && c && d && e && f && g && h) i (and_left (a && c && d && e && f && g && h && i) j q)) in
    (and_right (a && c && d && e) f (and_left (a && c && d && e && f) g six), and_right (a && c && d && e && f) g six)

module _ (b : Board) (r : Accepted b) where
  turning : (s t : ℕ) → turns_down b s t ≡ true → (has_row b s ≡ true) × (has_row b t ≡ true)
  unfolding turns_down
  turning s t h =
      both_rows (eqb (rotation_of b t) 1) (has_line b s) (has_line b t) (eqb (line_of b s) (line_of b t)) (has_row b s) (has_row b t) (eqb (page_of b s) (page_of b t))
      (ltb (down_of b s) (down_of b t)) (ltb (y_of b t) (y_of b s)) h

  corner_level_lem : (c : Cornering) (s t x : ℕ) → has_row b t ≡ true → corner_level b c s t ≡ at x → x ≤ REACH_MOST
  unfolding corner_level
  corner_level_lem c s t x h e =
      by_found (λ f. f ≡ at x → x ≤ REACH_MOST) (lowest (λ l. eqb (sink_load b c.taken t l) 0 && corner_clear b c.bus s t l) (x_of b t) n)
      (λ a d. omega (arith, most, lightest_most (corner_clear b c.bus s t) (sink_load b c.taken t) (x_of b t) n x d))
      (λ l a d. omega (arith, most, lowest_most (λ l. eqb (sink_load b c.taken t l) 0 && corner_clear b c.bus s t l) (x_of b t) n x (a ∙ d)))
      e
    where
      n : ℕ
      n = levels_in (x_of b t) (brick_cell b t).x1

      most : x_of b t + 2 * n ≤ REACH_MOST
      most = levels_most (x_of b t) (brick_cell b t).x1 REACH_MOST (omega (arith, r.x t (r.row_placed t h))) (end_most b r t h)

  corner_in : (s t x : ℕ) → has_row b s ≡ true → has_row b t ≡ true → x ≤ REACH_MOST → RerouterInRange (corner_rerouter b s t x)
  unfolding corner_rerouter
  corner_in s t x h k low =
      record {
        x = omega arith;
        y = r.y s (r.row_placed s h);
        z = r.z (page_of b t);
        rotation = omega arith;
        role = omega arith;
        part = omega arith;
        colour = r.id s;
        page = r.page t k;
        lane = omega arith;
        row = omega (arith, row_most_lem b t, r.few_nodes);
      }

  turn_wire_lem : (c : Cornering) (n : ℕ) → n < length b.wires → InRange b c.bus → InRange b (turn_wire b c n).bus
  unfolding turn_wire with_corner
  turn_wire_lem c n h q =
      by_test P (wire_open b n && not (muted b c.bus n))
      (λ e. by_found P (body_of b (source_node b n)) (λ f. q)
      (λ s f. by_found P (body_of b (target_node b n)) (λ g. q)
      (λ t g. by_test P (turns_down b s t) (λ d. by_found P (corner_level b c s t) (λ l. q) (λ x l. turned s t x (turning s t d) l)) (λ d. q))))
      (λ e. q)
    where
      P : Cornering → Type 0
      P c = InRange b c.bus

      turned : (s t x : ℕ) → (has_row b s ≡ true) × (has_row b t ≡ true) → corner_level b c s t ≡ at x → P (with_corner b c n s t x)
      turned s t x rows l =
          delivered_in b r n h (placed_in b r q (feed_port b r c.bus n) (corner_in s t x rows.0 rows.1 (corner_level_lem c s t x rows.1 l)))
          (feed_placed b r (corner_rerouter b s t x) (feed_port b r c.bus n))

  turn_wires : (c : Cornering) (n : ℕ) → n ≤ length b.wires → InRange b c.bus → InRange b (fold (turn_wire b) c (upto n)).bus
  turn_wires c zero h q = q
  turn_wires c (suc n) h q = turn_wire_lem (fold (turn_wire b) c (upto n)) n h (turn_wires c n (omega arith) q)

-- Every number of a finished plan is in range.
pub plan_in_range : (b : Board) → Accepted b → (ps : List PageLanes) → plan_lanes b ≡ planned ps → PlanInRange b (finished b ps)
unfolding finished corners
plan_in_range b r ps plan =
    let few = r.few_wires in
    let room = room_finished b ps plan r in
    record {
      ranges = turn_wires b r (record { bus = bus_of b ps; taken = [] }) (length b.wires) (omega arith) (bus_in_range b r ps plan);
      few_on_board = few;
      few_rerouters = omega (arith, room.rerouters);
      few_wires = omega (arith, room.wires);
      few_ports = omega (arith, room.ports);
    }
