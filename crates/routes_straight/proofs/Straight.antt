-- The emission, walked tap by tap: each rerouter is placed in line with its feed. So the finished plan of every board runs straight.
use Prim.Native.Nat.{ℕ, zero, ◌+◌, ◌<◌}
use mathlib.Core.Path.{◌≡◌, refl, sym, ap, ◌∙◌, subst}
use mathlib.Core.Logic.{inl, inr}
use mathlib.Core.Bool.{Bool, true, false, ◌&&◌}
use mathlib.Core.List.Memᴰ
use mathlib.Core.List.{List, [], ◌∷◌}
use lib.ListN.{length, get_or}
use borrow.Author.Tests.{eqb-true, not-false}
use Rattle.base.specs.Lists.{none, at}
use Rattle.base.proofs.Bools.{never, clash}
use Rattle.base.proofs.Lists.{same_two, by_test, by_found}
use Rattle.sheet.specs.declared.Counts.{Counts}
use Rattle.board.specs.Board.{Board, placed, x_of, min_y_of, page_of, source_node, source_port}
use Rattle.board.specs.Groups.{Tap, taps_of, target_anchor, source_row}
use Rattle.board.specs.Demands.{PageLanes, no_lanes, lane_y, lane_of}
use Rattle.board.specs.Planning.{Planning, lanes_for, planning}
use Rattle.board.proofs.Taps.{taps_of_lem}
use Rattle.routes.specs.Stops.{laid_taps, new_group, new_row, new_column}
use Rattle.routes.specs.Levels.{Level, dropped, shared, own, Stop, kept_at, level_with_base, stop_for, stops_of, lane_for}
use Rattle.routes.specs.Bus.{Bus, Rerouter, Feed, fed_by, place, placed_feed, port_feed, deliver}
use Rattle.routes.specs.Rerouters.{Emission, column_free, level_here, source, lane_rerouter, row_rerouter, head_rerouter, link_rerouter, tap_rerouter, source_rerouter, gate_side_rerouter, clear_for, hang_on, with_source, start_group, with_link, start_row, with_gate_side, serve, emit_tap, emit}
use Rattle.routes.specs.Corners.{corner_rerouter, corners, turns}
use Rattle.routes.specs.Plan.{bus_of, finished}
use Rattle.routes.specs.Route.{plan, routed, routed_by}
use Rattle.routes.proofs.Made.{Grown, place_grows, deliver_grows}
use Rattle.routes.proofs.LaidTaps.{LaidIn, laid_in, laid_tail, row_of_group, new_group_lem}
use Rattle.routes.proofs.Claims.{stops_more, stops_same, stops_before_lem, stop_group}
use Rattle.routes.proofs.Turned.{with_turn, turned}
use Rattle.routes_straight.specs.Straight.{InLine, Straight}
use Rattle.routes_straight.proofs.Drawn.{Feeds, from_port, feeds_grows, feeds_placed, Drawn, drawn_empty, drawn_placed, drawn_served, drawn_straight}
use Rattle.routes_straight.proofs.LastKept.{kept_of_group, kept_this, kept_before, shared_last}

module _ (b : Board) (ps : List PageLanes) where
  -- A group's page, and the y of its lane there.
  abbrev page_for : ℕ → ℕ
  page_for g = page_of b (target_anchor b g)

  abbrev height_for : ℕ → ℕ
  height_for g = lane_y (min_y_of b (page_for g)) (get_or ps (page_for g) no_lanes).count (elim (lane_of ps (page_for g) g) [ at l ↦ l | none ↦ zero ])

  -- A rerouter at the y of the group's lane; one at a given x.
  record OnLane (g : ℕ) (k : Rerouter) : Type 0 where
    page : k.page ≡ page_for g
    lane : k.y ≡ height_for g

  record OnLevel (g x : ℕ) (k : Rerouter) : Type 0 where
    page : k.page ≡ page_for g
    level : k.x ≡ x

  -- Both are so whatever feeds it.
  lane_fed : {g : ℕ} {k : Rerouter} (f : Feed) → OnLane g k → OnLane g (fed_by f k)
  lane_fed f r = record { page = r.page; lane = r.lane }

  level_fed : {g x : ℕ} {k : Rerouter} (f : Feed) → OnLevel g x k → OnLevel g x (fed_by f k)
  level_fed f r = record { page = r.page; level = r.level }

  -- Two of one lane, or of one level, stand in one line.
  lane_line_lem : (g : ℕ) (j k : Rerouter) → OnLane g k → OnLane g j → InLine j k
  lane_line_lem g j k p q = record { page = q.page ∙ sym p.page; line = inr (q.lane ∙ sym p.lane) }

  level_line : (g x : ℕ) (j k : Rerouter) → OnLevel g x k → OnLevel g x j → InLine j k
  level_line g x j k p q = record { page = q.page ∙ sym p.page; line = inl (q.level ∙ sym p.level) }

  module _ (stops : List Stop) where
    abbrev ts : List Tap
    ts = taps_of b

    -- The group g is at hand: links and taps hang on a port or at its lane, and the tap of its last kept stop stands at that level.
    record At (old : List Stop) (g : ℕ) (e : Emission) : Type 0 where
      drawn : Drawn e.bus
      hang : Feeds (OnLane g) e.bus e.upstream
      tapped : (base x : ℕ) → level_with_base old g base ≡ at x → Feeds (OnLevel g x) e.bus e.stop_tap

    -- Where the row is kept its chain ends at its level.
    abbrev Ended : Level → ℕ → Emission → Type 0
    Ended level g e = (x : ℕ) → kept_at level ≡ at x → Feeds (OnLevel g x) e.bus e.row_end

    module _ (t : Tap) (page : t.page ≡ page_for t.group) where
      on_lane_lem : (x rotation part : ℕ) → OnLane t.group (lane_rerouter b ts ps t x rotation part)
      unfolding lane_rerouter
      on_lane_lem x rotation part =
          record { page = page; lane = ap (λ p. lane_y (min_y_of b p) (get_or ps p no_lanes).count (elim (lane_of ps p t.group) [ at l ↦ l | none ↦ zero ])) page }

      lane_level : (x rotation part : ℕ) → OnLevel t.group x (lane_rerouter b ts ps t x rotation part)
      unfolding lane_rerouter
      lane_level x rotation part = record { page = page; level = refl }

      row_level : (r x y rotation role part : ℕ) → OnLevel t.group x (row_rerouter b ts ps t r x y rotation role part)
      unfolding row_rerouter
      row_level r x y rotation role part = record { page = page; level = refl }

      -- A group begins at its port, with a source rerouter and a head at one x.
      record Sourced (e : Emission) : Type 0 where
        drawn : Drawn e.bus
        hang : Feeds (OnLevel t.group (x_of b (source b ts ps t))) e.bus e.upstream

      sourced : (e : Emission) → Drawn e.bus → Feeds (OnLevel t.group (x_of b (source b ts ps t))) e.bus e.upstream
          → Sourced (with_source b ts ps e t)
      unfolding with_source
      sourced e d h =
          by_found Sourced (source_row b t.group t.page) (λ n. record { drawn = d; hang = h })
          (λ r n. by_test Sourced (clear_for b ts ps e.bus (source_rerouter b ts ps t r))
          (λ c. record {
            drawn =
                drawn_placed e.upstream (source_rerouter b ts ps t r)
                (λ j q. level_line t.group (x_of b (source b ts ps t)) j (source_rerouter b ts ps t r) (row_level r _ _ _ _ _) q) h d;
            hang = feeds_placed (source_rerouter b ts ps t r) (level_fed e.upstream (row_level r _ _ _ _ _));
          })
          (λ c. record { drawn = d; hang = h }))

      begins : (old : List Stop) → ((base x : ℕ) → level_with_base old t.group base ≡ at x → ⊥) → (e : Emission) → Drawn e.bus
          → At old t.group (start_group b ts ps stops e t)
      unfolding start_group
      begins old fresh e d =
          by_test (At old t.group) (placed b (source b ts ps t) && column_free stops e.bus t.page (lane_for ps t) (x_of b (source b ts ps t)))
          (λ h. head (sourced at_port_lem d at_its_port))
          (λ h. record { drawn = d; hang = at_its_port; tapped = λ base x k. absurd (fresh base x k) })
        where
          at_port_lem : Emission
          at_port_lem = record { bus = e.bus; upstream = port_feed b t.group; stop_tap = e.stop_tap; row_end = e.row_end }

          at_its_port : {P : Rerouter → Type 0} → Feeds P e.bus (port_feed b t.group)
          at_its_port = from_port (source_node b t.group) (source_port b t.group) refl

          head : {s : Emission} → Sourced s → At old t.group (hang_on b ts ps s s.upstream (head_rerouter b ts ps t))
          head {s} q =
              record {
                drawn =
                    drawn_placed s.upstream (head_rerouter b ts ps t)
                    (λ j r. level_line t.group (x_of b (source b ts ps t)) j (head_rerouter b ts ps t) (lane_level _ _ _) r) q.hang q.drawn;
                hang = feeds_placed (head_rerouter b ts ps t) (lane_fed s.upstream (on_lane_lem _ _ _));
                tapped = λ base x k. absurd (fresh base x k);
              }

      -- A row begins: at a level of its own with a link, where it finds room, and a tap.
      record Linked (e : Emission) : Type 0 where
        drawn : Drawn e.bus
        hang : Feeds (OnLane t.group) e.bus e.upstream

      linked : (old : List Stop) (e : Emission) (x : ℕ) → At old t.group e → Linked (with_link b ts ps stops e t x)
      unfolding with_link
      linked old e x a =
          by_test Linked (column_free stops e.bus t.page (lane_for ps t) (x + 2))
          (λ h. record {
            drawn =
                drawn_placed e.upstream (link_rerouter b ts ps t x) (λ j q. lane_line_lem t.group j (link_rerouter b ts ps t x) (on_lane_lem _ _ _) q) a.hang
                a.drawn;
            hang = feeds_placed (link_rerouter b ts ps t x) (lane_fed e.upstream (on_lane_lem _ _ _));
          })
          (λ h. record { drawn = a.drawn; hang = a.hang })

      module _ (old : List Stop) where
        abbrev stop : Stop
        stop = stop_for b old (lane_for ps t) t

        row_own : (e : Emission) (x : ℕ) → stop.level ≡ own x → At old t.group e
            → At (stop ∷ old) t.group (start_row b ts ps stops e t (own x)) × Ended (own x) t.group (start_row b ts ps stops e t (own x))
        unfolding start_row stop_for
        row_own e x level a = (
          record {
            drawn =
                drawn_placed s.upstream (tap_rerouter b ts ps t x) (λ j r. lane_line_lem t.group j (tap_rerouter b ts ps t x) (on_lane_lem _ _ _) r) q.hang
                q.drawn;
            hang = feeds_grows (place_grows s.bus s.upstream (tap_rerouter b ts ps t x)) q.hang;
            tapped = λ base y k. stands y (kept_this stop old t.group base y x refl (ap kept_at level) k);
          },
          λ y k. stands y cc,
        )
          where
            s : Emission
            s = with_link b ts ps stops e t x

            q : Linked s
            q = linked old e x a

            stands : (y : ℕ) → x ≡ y → Feeds (OnLevel t.group y) (place s.bus s.upstream (tap_rerouter b ts ps t x)) (placed_feed s.bus s.upstream)
            stands y d = rw (← d) (feeds_placed (tap_rerouter b ts ps t x) (level_fed s.upstream (lane_level x _ _)))

        -- A dropped stop leaves the last kept one, a shared one goes by its tap, which stands at that level.
        row_new : (e : Emission) (level : Level) → stop.level ≡ level → At old t.group e
            → At (stop ∷ old) t.group (start_row b ts ps stops e t level) × Ended level t.group (start_row b ts ps stops e t level)
        unfolding start_row stop_for
        row_new e dropped level a = (
          record { drawn = a.drawn; hang = a.hang; tapped = λ base x k. a.tapped base x (kept_before stop old t.group base x level k) },
          λ x k. never cc,
        )
        row_new e (shared x) level a = (
          record { drawn = a.drawn; hang = a.hang; tapped = λ base y k. stands y (kept_this stop old t.group base y x refl (ap kept_at level) k) },
          λ y k. stands y cc,
        )
          where
            stands : (y : ℕ) → x ≡ y → Feeds (OnLevel t.group y) e.bus e.stop_tap
            stands y d = rw (← d) (a.tapped _ x (shared_last b old (lane_for ps t) _ t x level))
        row_new e (own x) level a = row_own e x level a

    -- The state after the taps `l`, of the group and the row of the newest.
    record Walked (l : List Tap) (e : Emission) : Type 0 where
      drawn : Drawn e.bus
      state : (t : Tap) → new_group l t ≡ false → At (stops_of b ps l) t.group e
      ended : (t : Tap) → new_row l t ≡ false → Ended (level_here (stops_of b ps l)) t.group e

    record Begun (t : Tap) (l : List Tap) (e : Emission) : Type 0 where
      state : At (stops_of b ps l) t.group e
      ended : new_row l t ≡ false → Ended (level_here (stops_of b ps l)) t.group e

    record Rowed (t : Tap) (l : List Tap) (level : Level) (e : Emission) : Type 0 where
      state : At (stops_of b ps (t ∷ l)) t.group e
      ended : Ended level t.group e

    module _ (t : Tap) (l : List Tap) (h : LaidIn b ps (t ∷ l)) where
      page : t.page ≡ page_for t.group
      page = ((taps_of_lem b).grouped t (h.in_taps t (Memᴰ.head refl))).page

      begun : (e : Emission) → Walked l e → Begun t l (elim (new_group l t) [ true ↦ start_group b ts ps stops e t | false ↦ e ])
      begun e w =
          by_test (Begun t l) (new_group l t)
          (λ n. record { state = begins t page (stops_of b ps l) (none_kept n) e w.drawn; ended = λ r. clash n (row_of_group t l r) })
          (λ n. record { state = w.state t n; ended = w.ended t })
        where
          none_kept : new_group l t ≡ true → (base x : ℕ) → level_with_base (stops_of b ps l) t.group base ≡ at x → ⊥
          none_kept n base x k =
              let s = kept_of_group (stops_of b ps l) t.group base x k in
              let u = stop_group b ps l s.0 s.1 in
              new_group_lem b ps t l h n u.0 u.1 (sym u.2 ∙ s.2)

      rowed : (level : Level) → level_here (stops_of b ps (t ∷ l)) ≡ level → (e : Emission) → Begun t l e
          → Rowed t l level (elim (new_row l t) [ true ↦ start_row b ts ps stops e t level | false ↦ e ])
      rowed level d e g =
          by_test (Rowed t l level) (new_row l t)
          (λ n.
          let here = rw (stops_more b ps t l n) at d in
          let q = row_new t page (stops_of b ps l) e level here g.state in
          record { state = rw (stops_more b ps t l n) q.0; ended = q.1 })
          (λ n. record { state = rw (stops_same b ps t l n) g.state; ended = rw (← d, stops_same b ps t l n) (g.ended n) })

      walked : (level : Level) → level_here (stops_of b ps (t ∷ l)) ≡ level → (e : Emission) → At (stops_of b ps (t ∷ l)) t.group e → Ended level t.group e
          → Walked (t ∷ l) e
      walked level d e a s =
          record {
            drawn = a.drawn;
            state = λ u n. let q = eqb-true t.group u.group (not-false _ n) in rw (← q) a;
            ended = λ u n. let q = same_two t.group u.group t.row u.row (not-false _ n) in rw (d, ← q.0) s;
          }

      -- A gate-side rerouter for a new column, where it finds room, at the row's level.
      record Gated (x : ℕ) (e : Emission) : Type 0 where
        state : At (stops_of b ps (t ∷ l)) t.group e
        stands : Feeds (OnLevel t.group x) e.bus e.row_end

      gated : (e : Emission) (x : ℕ) → At (stops_of b ps (t ∷ l)) t.group e → Feeds (OnLevel t.group x) e.bus e.row_end
          → Gated x (elim (new_column l t) [ true ↦ with_gate_side b ts ps e t x | false ↦ e ])
      unfolding with_gate_side
      gated e x a s =
          by_test (Gated x) (new_column l t)
          (λ n.
          let k = gate_side_rerouter b ts ps t x in
          let grown = place_grows e.bus e.row_end k in
          by_test (Gated x) (clear_for b ts ps e.bus k)
          (λ c. record {
            state =
                record {
                  drawn = drawn_placed e.row_end k (λ j q. level_line t.group x j k (row_level t page _ _ _ _ _ _) q) s a.drawn;
                  hang = feeds_grows grown a.hang;
                  tapped = λ base y q. feeds_grows grown (a.tapped base y q);
                };
            stands = feeds_placed k (level_fed e.row_end (row_level t page _ _ _ _ _ _));
          })
          (λ c. same))
          (λ n. same)
        where
          same : Gated x e
          same = record { state = a; stands = s }

      serves : (level : Level) → level_here (stops_of b ps (t ∷ l)) ≡ level → (e : Emission) (x : ℕ) → kept_at level ≡ at x
          → At (stops_of b ps (t ∷ l)) t.group e → Feeds (OnLevel t.group x) e.bus e.row_end → Walked (t ∷ l) (serve b ts ps e t (new_column l t) x)
      unfolding serve
      serves level d e x k a s =
          walked level d _
          (record {
            drawn = drawn_served b f.row_end t.wire g.state.drawn;
            hang = feeds_grows grown g.state.hang;
            tapped = λ base y q. feeds_grows grown (g.state.tapped base y q);
          })
          (λ y q. let same : x ≡ y = cc in rw (← same) (feeds_grows grown g.stands))
        where
          f : Emission
          f = elim (new_column l t) [ true ↦ with_gate_side b ts ps e t x | false ↦ e ]

          g : Gated x f
          g = gated e x a s

          grown : Grown f.bus (deliver b f.bus f.row_end t.wire)
          grown = deliver_grows b f.bus f.row_end t.wire

      served : (level : Level) → level_here (stops_of b ps (t ∷ l)) ≡ level → (e : Emission) → Rowed t l level e
          → Walked (t ∷ l) (elim level [ dropped ↦ e | shared x ↦ serve b ts ps e t (new_column l t) x | own x ↦ serve b ts ps e t (new_column l t) x ])
      served dropped d e r = walked dropped d e r.state (λ x k. never cc)
      served (shared x) d e r = serves (shared x) d e x refl r.state (r.ended x refl)
      served (own x) d e r = serves (own x) d e x refl r.state (r.ended x refl)

      emits : (e : Emission) → Walked l e → Walked (t ∷ l) (emit_tap b ts ps stops e l t (level_here (stops_of b ps (t ∷ l))))
      unfolding emit_tap
      emits e w = served (level_here (stops_of b ps (t ∷ l))) refl _ (rowed (level_here (stops_of b ps (t ∷ l))) refl _ (begun e w))

    walks_none : Walked [] (emit b ts ps stops [] (stops_of b ps []))
    unfolding emit stops_of
    walks_none = record { drawn = drawn_empty; state = λ t n. clash refl n; ended = λ t n. clash refl n }

    walks_more : (t : Tap) (l : List Tap) → LaidIn b ps (t ∷ l) → Walked l (emit b ts ps stops l (stops_of b ps l))
        → Walked (t ∷ l) (emit b ts ps stops (t ∷ l) (stops_of b ps (t ∷ l)))
    unfolding emit
    walks_more t l h w =
        subst (λ old. Walked (t ∷ l) (emit_tap b ts ps stops (emit b ts ps stops l old) l t (level_here (stops_of b ps (t ∷ l)))))
        (sym (stops_before_lem b ps t l)) (emits t l h (emit b ts ps stops l (stops_of b ps l)) w)

    walks : (l : List Tap) → LaidIn b ps l → Walked l (emit b ts ps stops l (stops_of b ps l))
    walks [] h = walks_none
    walks (t ∷ l) h = walks_more t l h (walks l (laid_tail b ps t l h))

  -- What `lay_bus` leaves.
  bus_drawn : Drawn (bus_of b ps)
  unfolding bus_of
  bus_drawn = (walks (stops_of b ps (laid_taps b (taps_of b) ps)) (laid_taps b (taps_of b) ps) (laid_in b ps)).drawn

-- A corner is fed by a port and feeds a port.
turn_drawn : (b : Board) (n s t level : ℕ) (bus : Bus) → n < length b.wires → turns b bus n ≡ true → Drawn bus → Drawn (with_turn b bus n s t level)
turn_drawn b n s t level bus h e d =
    drawn_served b (placed_feed bus (port_feed b n)) n
    (drawn_placed {P = λ j. InLine j (corner_rerouter b s t level)} (port_feed b n) (corner_rerouter b s t level) (λ j q. q)
    (from_port (source_node b n) (source_port b n) refl) d)

-- The finished plan of every board, whatever the lanes.
pub straight_finished : (b : Board) (ps : List PageLanes) → Straight (finished b ps)
unfolding finished
straight_finished b ps =
    drawn_straight (corners b (bus_of b ps)) (turned b (λ n bus. Drawn bus) (λ n bus d. d) (turn_drawn b) (bus_of b ps) (bus_drawn b ps))

-- So whatever the sheet, a plan that it is routed to runs straight.
pub straight_routed : (most : Counts) (fits : Board → Bool) (text : List ℕ) (b : Board) (ps : List PageLanes) (bus : Bus) (laid : ℕ)
    → routed most fits text ≡ plan b ps bus laid → Straight bus
unfolding routed
straight_routed most fits text b ps bus laid = go (planning most fits text)
  where
    go : (p : Planning) → routed_by finished p ≡ plan b ps bus laid → Straight bus
    go (Planning.refused r) d = never cc
    go (lanes_for c qs) d = let plan-is : finished c qs ≡ bus = cc in rw (← plan-is) (straight_finished c qs)
