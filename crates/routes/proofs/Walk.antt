-- The emission, walked once, tap by tap: begin a group, begin a row, serve.
use Rattle.std.proofs.Common.{◌≡◌, ℕ, zero, suc, ◌+◌, ◌<◌, ◌≤◌, Bool, true, false, ◌&&◌, eqb, List, [], ◌∷◌, sym, refl, ap, ◌∙◌, subst, arith, ne_eqb, eqb-true}
use mathlib.Core.List.Memᴰ
use borrow.Author.Tests.{not-false}
use Rattle.base.specs.Lists.{Found, none, at, found, any}
use Rattle.board.specs.Board.{Board, placed, x_of}
use Rattle.board.specs.Groups.{Tap, taps_of, source_row}
use Rattle.board.specs.Accepted.{Accepted}
use Rattle.board.specs.Demands.{PageLanes, lane_of, planned, plan_lanes}
use Rattle.base.proofs.Bools.{clash, and_right}
use Rattle.base.proofs.Lists.{same_two, by_test, by_found, none_at_all}
use Rattle.board.proofs.Taps.{taps_of_lem}
use Rattle.board.proofs.LanesFit.{planned_fits}
use Rattle.routes.specs.Stops.{laid_taps, new_group, new_row, new_column}
use Rattle.routes.specs.Levels.{Level, dropped, shared, own, Stop, kept_at, unclaimed, stop_for, stops_of, lane_for}
use Rattle.routes.specs.Bus.{Bus, Rerouter, Feed, place, placed_feed, port_feed, deliver}
use Rattle.routes.specs.Rerouters.{Emission, column_free, rerouter_near, level_here, source, lane_rerouter, row_rerouter, head_rerouter, link_rerouter, tap_rerouter, source_rerouter, gate_side_rerouter, clear_for, hang_on, with_source, start_group, with_link, start_row, with_gate_side, serve, emit_tap, emit}
use Rattle.routes.specs.Plan.{bus_of}
use Rattle.routes.specs.Demand3.{at_port}
use Rattle.routes.proofs.Made.{InLane, Served, within, place_grows, deliver_grows, Grown}
use Rattle.routes.proofs.LaidTaps.{LaidIn, laid_in, row_of_group, laid_tail, new_wire, new_group_lem, rows_seen, columns_seen, rows_new, rows_old, columns_new, columns_old, rows_bound, columns_bound}
use Rattle.routes.proofs.Claims.{kept_in_lem, kept_later, own_unclaimed, shared_kept, stops_more, stops_same, stops_before_lem, claimed_before, stop_group}
use Rattle.routes.proofs.Kept.{Live, Stands, live_feeds, live_grows, stands_grows, live_placed, stands_placed, Kept, kept_empty, kept_more, kept_stop, kept_skip, kept_serve, kept_beside, kept_chain, kept_tap, is_chain}

-- Where the bus stays, feeds stay.
same_bus : (bus : Bus) → Grown bus bus
same_bus bus = record { wires_in = λ w m. m; rerouters_in = λ n k m. m; longer = omega arith }

-- A rerouter that is no head or link takes no column.
still_free : (stops : List Stop) (bus : Bus) (f : Feed) (k : Rerouter) (p lane x : ℕ) → is_chain k ≡ false → column_free stops bus p lane x ≡ true
    → column_free stops (place bus f k) p lane x ≡ true
unfolding column_free
still_free stops bus f k p lane x c h = rw (off (eqb k.page p && eqb k.lane lane) refl) h
  where
    off : (t : Bool) → (eqb k.page p && eqb k.lane lane) ≡ t → rerouter_near p lane x k ≡ false
    off true e = rw (e, c)
    off false e = rw e

-- The rerouters that a tap may have placed before it is served.
abbrev cost : Level → ℕ
cost dropped = 2
cost (shared x) = 4
cost (own x) = 4

module _ (b : Board) (ps : List PageLanes) (plan : plan_lanes b ≡ planned ps) (accepted : Accepted b) where
  -- The heads, links and taps of a laid tap stand in an open lane of a gutter.
  in_lane : (t : Tap) → found (lane_of ps t.page t.group) ≡ true → (x rotation part : ℕ) → InLane b ps (lane_rerouter b (taps_of b) ps t x rotation part)
  unfolding lane_rerouter
  in_lane t h x rotation part = go (lane_of ps t.page t.group) refl
    where
      go : (f : Found) → lane_of ps t.page t.group ≡ f → InLane b ps (lane_rerouter b (taps_of b) ps t x rotation part)
      go none e = clash (rw e at h) refl
      go (at lane) e =
          let fits = planned_fits b ps plan t.page t.group lane e in
          let r = fits.1 in
          let same : lane_for ps t ≡ lane = ap {B = ℕ} (λ f. elim f [ at l ↦ l | none ↦ zero ]) e in
          let low = accepted.min_y_low t.page fits.0 in
          record { high = omega arith; most = r.most; opened = omega (arith, same, r.inside); height = refl }

  module _ (stops : List Stop) where
    abbrev ts : List Tap
    ts = taps_of b

    -- The taps `l` are behind, and the group g is at hand, with r of its rows begun and c rerouters placed for the next tap.
    record At (old : List Stop) (l : List Tap) (c g r : ℕ) (e : Emission) : Type 0 where
      kept : Kept b ps stops old l c e.bus
      hang : Live b e.bus e.upstream g (2 + r)
      tapped : any (kept_in_lem g) old ≡ true → Stands b e.bus e.stop_tap g (3 + r)

    -- Where the row is kept its chain ends in a rerouter within d of the port.
    abbrev Ended : Level → ℕ → ℕ → Emission → Type 0
    Ended level g d e = found (kept_at level) ≡ true → Stands b e.bus e.row_end g d

    -- The stops so far claim no more than all of them do.
    abbrev Before : List Stop → Type 0
    Before old = (p lane x : ℕ) → unclaimed stops p lane x ≡ true → unclaimed old p lane x ≡ true

    -- A group begins at its port, with a source rerouter and a head where they find room.
    module _ (t : Tap) (l : List Tap) (old : List Stop) (r : ℕ) (lane : found (lane_of ps t.page t.group) ≡ true) (before : Before old)
        (fresh : any (kept_in_lem t.group) old ≡ false) where
      record Sourced (e : Emission) : Type 0 where
        kept : Kept b ps stops old l 1 e.bus
        hang : Live b e.bus e.upstream t.group 1
        free : column_free stops e.bus t.page (lane_for ps t) (x_of b (source b ts ps t)) ≡ true

      sourced : (e : Emission) → Kept b ps stops old l 0 e.bus → Live b e.bus e.upstream t.group 0
          → column_free stops e.bus t.page (lane_for ps t) (x_of b (source b ts ps t)) ≡ true
          → Sourced (with_source b ts ps e t)
      unfolding with_source row_rerouter
      sourced e k h f =
          by_found Sourced (source_row b t.group t.page) (λ n. same)
          (λ row n. by_test Sourced (clear_for b ts ps e.bus (source_rerouter b ts ps t row))
          (λ c. record {
            kept = kept_beside b ps stops e.upstream (source_rerouter b ts ps t row) (live_feeds h) refl k;
            hang = live_placed b (source_rerouter b ts ps t row) (omega arith) h;
            free = still_free stops e.bus e.upstream (source_rerouter b ts ps t row) t.page (lane_for ps t) (x_of b (source b ts ps t)) refl f;
          })
          (λ c. same))
        where
          same : Sourced e
          same = record { kept = kept_more b ps stops 1 (omega arith) k; hang = live_grows b (same_bus e.bus) (omega arith) h; free = f }

      begins : (e : Emission) → Kept b ps stops old l 0 e.bus → At old l 2 t.group r (start_group b ts ps stops e t)
      unfolding start_group lane_rerouter
      begins e k =
          by_test (At old l 2 t.group r) (placed b (source b ts ps t) && column_free stops e.bus t.page (lane_for ps t) (x_of b (source b ts ps t)))
          (λ h. head (sourced at_port_lem k port_live (and_right (placed b (source b ts ps t)) _ h)))
          (λ h. record {
            kept = kept_more b ps stops 2 (omega arith) k;
            hang = live_grows b (same_bus e.bus) (omega arith) port_live;
            tapped = λ a. clash a fresh;
          })
        where
          at_port_lem : Emission
          at_port_lem = record { bus = e.bus; upstream = port_feed b t.group; stop_tap = e.stop_tap; row_end = e.row_end }

          port_live : Live b e.bus (port_feed b t.group) t.group 0
          port_live = record { back = at_port; low = tt; short = omega arith }

          head : {s : Emission} → Sourced s → At old l 2 t.group r (hang_on b ts ps s s.upstream (head_rerouter b ts ps t))
          head {s} q =
              record {
                kept = kept_chain b ps stops s.upstream (head_rerouter b ts ps t) (live_feeds q.hang) (in_lane t lane _ _ _) refl q.free before q.kept;
                hang = live_placed b (head_rerouter b ts ps t) (omega arith) q.hang;
                tapped = λ a. clash a fresh;
              }

    -- A row begins: at a level of its own with a link, where it finds room, and a tap.
    module _ (t : Tap) (l : List Tap) (old : List Stop) (r : ℕ) (lane : found (lane_of ps t.page t.group) ≡ true) where
      abbrev stop : Stop
      stop = stop_for b old (lane_for ps t) t

      record Linked (e : Emission) : Type 0 where
        kept : Kept b ps stops old l 3 e.bus
        hang : Live b e.bus e.upstream t.group (3 + r)

      linked : (e : Emission) (x : ℕ) → Before old → At old l 2 t.group r e → Linked (with_link b ts ps stops e t x)
      unfolding with_link lane_rerouter
      linked e x before a =
          by_test Linked (column_free stops e.bus t.page (lane_for ps t) (x + 2))
          (λ h. record {
            kept = kept_chain b ps stops e.upstream (link_rerouter b ts ps t x) (live_feeds a.hang) (in_lane t lane _ _ _) refl h before a.kept;
            hang = live_placed b (link_rerouter b ts ps t x) (omega arith) a.hang;
          })
          (λ h. record { kept = kept_more b ps stops 3 (omega arith) a.kept; hang = live_grows b (same_bus e.bus) (omega arith) a.hang })

      row_own : (e : Emission) (x : ℕ) → Before (stop ∷ old) → Before old → stop.level ≡ own x → At old l 2 t.group r e
          → At (stop ∷ old) l 4 t.group (suc r) (start_row b ts ps stops e t (own x)) × Ended (own x) t.group (4 + r) (start_row b ts ps stops e t (own x))
      unfolding start_row lane_rerouter stop_for
      row_own e x after before level a = (
        record {
          kept =
              kept_tap b ps stops stop s.upstream (tap_rerouter b ts ps t x) (live_feeds q.hang) (in_lane t lane _ _ _) refl refl refl level
              (own_unclaimed b old (lane_for ps t) _ t x level) after q.kept;
          hang = live_grows b (place_grows s.bus s.upstream (tap_rerouter b ts ps t x)) (omega arith) q.hang;
          tapped = λ k. stands_grows b (same_bus _) (omega arith) stands;
        },
        λ f. stands,
      )
        where
          s : Emission
          s = with_link b ts ps stops e t x

          q : Linked s
          q = linked e x before a

          stands : Stands b (place s.bus s.upstream (tap_rerouter b ts ps t x)) (placed_feed s.bus s.upstream) t.group (4 + r)
          stands = stands_placed b (tap_rerouter b ts ps t x) (λ e. omega arith) (omega arith) q.hang

      -- A dropped stop keeps nothing, a shared one hangs its row on the tap of the kept stop before it.
      row_new : (c : ℕ) (e : Emission) (level : Level) → Before (stop ∷ old) → Before old → stop.level ≡ level → At old l 2 t.group r e
          → At (stop ∷ old) l (cost level) t.group (suc r) (start_row b ts ps stops e t level)
          × Ended level t.group (3 + suc r + c) (start_row b ts ps stops e t level)
      unfolding start_row stop_for
      row_new c e dropped after before level a = (
        record {
          kept = kept_stop b ps stops stop a.kept;
          hang = live_grows b (same_bus e.bus) (omega arith) a.hang;
          tapped = λ k. stands_grows b (same_bus e.bus) (omega arith) (a.tapped (kept_later t.group stop old level k));
        },
        λ f. clash f refl,
      )
      row_new c e (shared x) after before level a = (
        record {
          kept = kept_more b ps stops 4 (omega arith) (kept_stop b ps stops stop a.kept);
          hang = live_grows b (same_bus e.bus) (omega arith) a.hang;
          tapped = λ k. stands (omega arith);
        },
        λ f. stands (omega arith),
      )
        where
          stands : {n : ℕ} → 3 + r ≤ n → Stands b e.bus e.stop_tap t.group n
          stands h = stands_grows b (same_bus e.bus) h (a.tapped (shared_kept b old (lane_for ps t) _ t x level))
      row_new c e (own x) after before level a = let q = row_own e x after before level a in (q.0, λ f. stands_grows b (same_bus _) (omega arith) (q.1 f))

    -- The state after the taps `l`, of the group and the row of the newest.
    record Walked (l : List Tap) (e : Emission) : Type 0 where
      kept : Kept b ps stops (stops_of b ps l) l 0 e.bus
      state : (t : Tap) → new_group l t ≡ false → At (stops_of b ps l) l 0 t.group (rows_seen l t.group) e
      ended : (t : Tap) → new_row l t ≡ false → Ended (level_here (stops_of b ps l)) t.group (3 + rows_seen l t.group + columns_seen l t) e

    -- After the three turns of the tap t: its group is begun, its row is, it is served or passed over.
    record Begun (t : Tap) (l : List Tap) (e : Emission) : Type 0 where
      state : At (stops_of b ps l) l 2 t.group (rows_seen l t.group) e
      ended : new_row l t ≡ false → Ended (level_here (stops_of b ps l)) t.group (3 + rows_seen l t.group + columns_seen l t) e

    record Rowed (t : Tap) (l : List Tap) (level : Level) (e : Emission) : Type 0 where
      state : At (stops_of b ps (t ∷ l)) l (cost level) t.group (rows_seen (t ∷ l) t.group) e
      ended : Ended level t.group (3 + rows_seen (t ∷ l) t.group + columns_seen l t) e

    module _ (t : Tap) (l : List Tap) (h : LaidIn b ps (t ∷ l)) (before : Before (stops_of b ps (t ∷ l))) where
      lane : found (lane_of ps t.page t.group) ≡ true
      lane = h.laned t (Memᴰ.head refl)

      earlier : Before (stops_of b ps l)
      earlier p column x u = claimed_before b ps t l p column x (before p column x u)

      begun : (e : Emission) → Walked l e → Begun t l (elim (new_group l t) [ true ↦ start_group b ts ps stops e t | false ↦ e ])
      begun e w =
          by_test (Begun t l) (new_group l t)
          (λ n. record {
            state = begins t l (stops_of b ps l) (rows_seen l t.group) lane earlier (none_kept n) e w.kept;
            ended = λ r. clash n (row_of_group t l r);
          })
          (λ n. record { state = later (w.state t n); ended = w.ended t })
        where
          none_kept : new_group l t ≡ true → any (kept_in_lem t.group) (stops_of b ps l) ≡ false
          none_kept n =
              none_at_all (kept_in_lem t.group) (stops_of b ps l)
              (λ s m. let u = stop_group b ps l s m in rw (ne_eqb s.group t.group (λ e. new_group_lem b ps t l h n u.0 u.1 (sym u.2 ∙ e))))

          later : At (stops_of b ps l) l 0 t.group (rows_seen l t.group) e → At (stops_of b ps l) l 2 t.group (rows_seen l t.group) e
          later a = record { kept = kept_more b ps stops 2 (omega arith) a.kept; hang = a.hang; tapped = a.tapped }

      rowed : (level : Level) → level_here (stops_of b ps (t ∷ l)) ≡ level → (e : Emission) → Begun t l e
          → Rowed t l level (elim (new_row l t) [ true ↦ start_row b ts ps stops e t level | false ↦ e ])
      rowed level d e g =
          by_test (Rowed t l level) (new_row l t)
          (λ n.
          let after = rw (stops_more b ps t l n) at before in
          let here = rw (stops_more b ps t l n) at d in
          let q = row_new t l (stops_of b ps l) (rows_seen l t.group) lane (columns_seen l t) e level after earlier here g.state in
          record { state = rw (stops_more b ps t l n, rows_new b ps t l h n) q.0; ended = rw (rows_new b ps t l h n) q.1 })
          (λ n. record {
            state = rw (stops_same b ps t l n, rows_old b ps t l n) (more level g.state);
            ended = rw (rows_old b ps t l n, ← d, stops_same b ps t l n) (g.ended n);
          })
        where
          more : (level : Level) → At (stops_of b ps l) l 2 t.group (rows_seen l t.group) e
              → At (stops_of b ps l) l (cost level) t.group (rows_seen l t.group) e
          more level a = record { kept = kept_more b ps stops (cost level) (least level) a.kept; hang = a.hang; tapped = a.tapped }
            where
              least : (level : Level) → 2 ≤ cost level
              least dropped = omega arith
              least (shared x) = omega arith
              least (own x) = omega arith

      abbrev rows : ℕ
      rows = rows_seen (t ∷ l) t.group

      -- A gate-side rerouter for a new column, where it finds room.
      record Gated (e : Emission) : Type 0 where
        state : At (stops_of b ps (t ∷ l)) l 5 t.group rows e
        stands : Stands b e.bus e.row_end t.group (3 + rows + columns_seen (t ∷ l) t)

      gated : (e : Emission) (x : ℕ) → At (stops_of b ps (t ∷ l)) l 4 t.group rows e → Stands b e.bus e.row_end t.group (3 + rows + columns_seen l t)
          → Gated (elim (new_column l t) [ true ↦ with_gate_side b ts ps e t x | false ↦ e ])
      unfolding with_gate_side row_rerouter
      gated e x a s =
          by_test Gated (new_column l t)
          (λ n.
          let k = gate_side_rerouter b ts ps t x in
          let more : 3 + rows + columns_seen l t < 3 + rows + columns_seen (t ∷ l) t = omega (arith, columns_new b ps t l h n) in
          by_test Gated (clear_for b ts ps e.bus k)
          (λ c. record {
            state =
                record {
                  kept = kept_beside b ps stops e.row_end k (live_feeds s.live) refl a.kept;
                  hang = live_grows b (place_grows e.bus e.row_end k) (omega arith) a.hang;
                  tapped = λ q. stands_grows b (place_grows e.bus e.row_end k) (omega arith) (a.tapped q);
                };
            stands = stands_placed b k (λ q. omega arith) more s.live;
          })
          (λ c. same (omega arith)))
          (λ n. same (omega (arith, columns_old b ps t l n)))
        where
          same : 3 + rows + columns_seen l t ≤ 3 + rows + columns_seen (t ∷ l) t → Gated e
          same q =
              record {
                state = record { kept = kept_more b ps stops 5 (omega arith) a.kept; hang = a.hang; tapped = a.tapped };
                stands = stands_grows b (same_bus e.bus) q s;
              }

      -- The delivery of the tap's wire: not delivered before, from its own source, within the bound.
      to_serve : (e : Emission) → Gated e → Served b ps e.bus e.row_end t.wire
      to_serve e g =
          let tap = h.in_taps t (Memᴰ.head refl) in
          let group = (taps_of_lem b).grouped t tap in
          let s = g.stands in
          record {
            on_board = (taps_of_lem b).below t tap;
            fresh = g.state.kept.named t.wire (new_wire b ps t l h);
            back = rw (group.node, group.port) at s.live.back;
            number = s.number;
            standing = s.standing;
            ends = s.ends;
            numbered = s.numbered;
            far =
                within s.no_corner
                (record { tap = t; tap_of_group = tap; of_wire = refl; bound = omega (arith, s.live.short, rows_bound b ps t l h, columns_bound b ps t l h) });
          }

      walked : (level : Level) → level_here (stops_of b ps (t ∷ l)) ≡ level → (e : Emission) → At (stops_of b ps (t ∷ l)) (t ∷ l) 0 t.group rows e
          → Ended level t.group (3 + rows + columns_seen (t ∷ l) t) e → Walked (t ∷ l) e
      walked level d e a s =
          record {
            kept = a.kept;
            state = λ u n. let q = eqb-true t.group u.group (not-false _ n) in rw (← q) a;
            ended = λ u n. let q = same_two t.group u.group t.row u.row (not-false _ n) in rw (d, ← q.0, ← q.1) s;
          }

      serves : (level : Level) → level_here (stops_of b ps (t ∷ l)) ≡ level → (e : Emission) (x : ℕ) → At (stops_of b ps (t ∷ l)) l 4 t.group rows e
          → Stands b e.bus e.row_end t.group (3 + rows + columns_seen l t) → Walked (t ∷ l) (serve b ts ps e t (new_column l t) x)
      unfolding serve
      serves level d e x a s =
          walked level d _
          (record {
            kept = kept_serve b ps stops t f.row_end (to_serve f g) g.state.kept;
            hang = live_grows b grown (omega arith) g.state.hang;
            tapped = λ q. stands_grows b grown (omega arith) (g.state.tapped q);
          })
          (λ q. stands_grows b grown (omega arith) g.stands)
        where
          f : Emission
          f = elim (new_column l t) [ true ↦ with_gate_side b ts ps e t x | false ↦ e ]

          g : Gated f
          g = gated e x a s

          grown : Grown f.bus (deliver b f.bus f.row_end t.wire)
          grown = deliver_grows b f.bus f.row_end t.wire

      served : (level : Level) → level_here (stops_of b ps (t ∷ l)) ≡ level → (e : Emission) → Rowed t l level e
          → Walked (t ∷ l) (elim level [ dropped ↦ e | shared x ↦ serve b ts ps e t (new_column l t) x | own x ↦ serve b ts ps e t (new_column l t) x ])
      served dropped d e r =
          walked dropped d e (record { kept = kept_skip b ps stops t r.state.kept; hang = r.state.hang; tapped = r.state.tapped }) (λ q. clash q refl)
      served (shared x) d e r = serves (shared x) d e x r.state (r.ended refl)
      served (own x) d e r = serves (own x) d e x r.state (r.ended refl)

      emits : (e : Emission) → Walked l e → Walked (t ∷ l) (emit_tap b ts ps stops e l t (level_here (stops_of b ps (t ∷ l))))
      unfolding emit_tap
      emits e w = served (level_here (stops_of b ps (t ∷ l))) refl _ (rowed (level_here (stops_of b ps (t ∷ l))) refl _ (begun e w))

    walks_none : Walked [] (emit b ts ps stops [] (stops_of b ps []))
    unfolding emit stops_of
    walks_none = record { kept = kept_empty b ps stops; state = λ t n. clash refl n; ended = λ t n. clash refl n }

    walks_more : (t : Tap) (l : List Tap) → LaidIn b ps (t ∷ l) → Before (stops_of b ps (t ∷ l)) → Walked l (emit b ts ps stops l (stops_of b ps l))
        → Walked (t ∷ l) (emit b ts ps stops (t ∷ l) (stops_of b ps (t ∷ l)))
    unfolding emit
    walks_more t l h before w =
        subst (λ old. Walked (t ∷ l) (emit_tap b ts ps stops (emit b ts ps stops l old) l t (level_here (stops_of b ps (t ∷ l)))))
        (sym (stops_before_lem b ps t l)) (emits t l h before (emit b ts ps stops l (stops_of b ps l)) w)

    walks : (l : List Tap) → LaidIn b ps l → Before (stops_of b ps l) → Walked l (emit b ts ps stops l (stops_of b ps l))
    walks [] h before = walks_none
    walks (t ∷ l) h before = walks_more t l h before (walks l (laid_tail b ps t l h) (λ p lane x u. claimed_before b ps t l p lane x (before p lane x u)))

  -- What `lay_bus` leaves.
  pub bus_kept : Kept b ps (stops_of b ps (laid_taps b (taps_of b) ps)) (stops_of b ps (laid_taps b (taps_of b) ps)) (laid_taps b (taps_of b) ps) 0 (bus_of b ps)
  unfolding bus_of
  bus_kept = (walks (stops_of b ps (laid_taps b (taps_of b) ps)) (laid_taps b (taps_of b) ps) (laid_in b ps) (λ p lane x u. u)).kept
