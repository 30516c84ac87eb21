-- Steps of the emission, one after the other, and what each of them by its answer says in the code's numbers.
use Prim.Native.Nat.{ℕ, ◌+◌, ◌-◌, ◌≤◌}
use mathlib.Core.Path.{◌≡◌, refl, ap, sym, subst, subst₂, ◌∙◌}
use mathlib.Core.Bool.{Bool, true, false}
use mathlib.Core.List.{List}
use native.Mathlib.Omega.{arith}
use lib.ListN.{length}
use Rattle.std.specs.Prelude.{Option}
use Rattle.std.specs.Option.{unwrap_or}
use Rattle.sheet.specs.Table.{MISSING}
use Rattle.base.specs.Lists.{Found, none, at}
use Rattle.board.specs.Board.{Board, y_of}
use Rattle.board.specs.Groups
use Rattle.board.specs.Groups.{source_row}
use Rattle.board.specs.Demands.{PageLanes}
use Rattle.board.specs.Index.{found_of}
use Rattle.board.specs.Tables.{held}
use Rattle.routes.specs.Levels.{Level, dropped, shared, own}
use Rattle.routes.specs.Bus
use Rattle.routes.specs.Bus.{part_source, part_head, part_link, part_tap, part_gate_side, role_source, role_gutter, unfed}
use Rattle.routes.specs.News.{begins_group, begins_row}
use Rattle.routes.specs.Rerouters
use Rattle.routes.specs.Rerouters.{TAP_RESERVE, source, row_rerouter, lane_rerouter, head_rerouter}
use Rattle.routes.specs.Holding.{turns_of, rerouter_of, BusHeld, Delivering}
use Rattle.routes.specs.declared.bus.Rerouter.{Rerouter}
use Rattle.routes.specs.declared.bus.BusCount.{BusCount}
use Rattle.routes_taps.specs.Asking
use Rattle.routes_taps.specs.Asking.{told_in, source_by, at_port, group_by, link_by, row_by, serve_by}
use Rattle.routes_taps.specs.Taps.{LaneOf}
use Rattle.routes_taps.specs.declared.taps.Lane.{Lane}
use Rattle.routes_taps.specs.declared.taps.Tap.{Tap}
use Rattle.routes.specs.declared.news.News.{News}
use Rattle.routes_emit.specs.Emitting.{lane_rerouter_of, row_rerouter_of, EmissionHeld, Ready, Spends, Becomes, hung_on, tapped_off, chained_on, port_of, shared_tap, delivered_at, Delivered, gate_side_by, begin_group, begin_tap}
use Rattle.routes_emit.specs.declared.chain.Emission.{Emission}

-- Where the counts stay and no feed is deeper, the room stays.
pub unmoved : (n m reroutersLeft wiresLeft : ℕ) (rerouters wires : List (List ℕ)) (e e' : Emission) → e'.count ≡ e.count
    → (Ready (reroutersLeft + n) (wiresLeft + m) rerouters wires e → (e'.upstream.depth ≤ e.count.rerouters) × (e'.stop_tap.depth ≤ e.count.rerouters) × (e'.row_end.depth ≤ e.count.rerouters))
    → Ready (reroutersLeft + n) (wiresLeft + m) rerouters wires e → Ready reroutersLeft wiresLeft rerouters wires e'
unmoved n m reroutersLeft wiresLeft rer wires e e' same depths r =
    let d = depths r in
    let cr : e'.count.rerouters ≡ e.count.rerouters = ap (λ c. c.rerouters) same in
    let cw : e'.count.wires ≡ e.count.wires = ap (λ c. c.wires) same in
    record {
      rerouter_room = let h = r.rerouter_room in omega arith;
      wire_room = let h = r.wire_room in omega arith;
      numbers = let h = r.numbers in omega arith;
      upstream_depth = let h = d.0 in omega arith;
      stop_tap_depth = let h = d.1 in omega arith;
      row_end_depth = let h = d.2 in omega arith;
    }

-- A step that places nothing.
pub spends_none : (n m : ℕ) (rerouters wires : List (List ℕ)) (e : Emission) → Spends n m rerouters wires e rerouters wires e
spends_none n m rer wires e = record { spent = λ bl wl. unmoved n m bl wl rer wires e e refl (λ r. (r.upstream_depth, r.stop_tap_depth, r.row_end_depth)) }

pub spends_port : (n m : ℕ) (rerouters wires : List (List ℕ)) (e : Emission) (l : Lane) → Spends n m rerouters wires e rerouters wires (port_of e l)
spends_port n m rer wires e l = record { spent = λ bl wl. unmoved n m bl wl rer wires e (port_of e l) refl (λ r. (omega arith, r.stop_tap_depth, r.row_end_depth)) }

pub spends_shared : (n m : ℕ) (rerouters wires : List (List ℕ)) (e : Emission) → Spends n m rerouters wires e rerouters wires (shared_tap e)
spends_shared n m rer wires e = record { spent = λ bl wl. unmoved n m bl wl rer wires e (shared_tap e) refl (λ r. (r.upstream_depth, r.stop_tap_depth, r.stop_tap_depth)) }

-- Two steps.
module _ (rer wires : List (List ℕ)) (e : Emission) (rer₁ wires₁ : List (List ℕ)) (e₁ : Emission) (rer₂ wires₂ : List (List ℕ)) (e₂ : Emission) where
  pub spends_then : (n m n' m' : ℕ) → Spends n m rer wires e rer₁ wires₁ e₁ → Spends n' m' rer₁ wires₁ e₁ rer₂ wires₂ e₂ → Spends (n + n') (m + m') rer wires e rer₂ wires₂ e₂
  spends_then n m n' m' s s' =
      record {
        spent = λ bl wl r.
            s'.spent bl wl (s.spent (bl + n') (wl + m')
            (subst₂ (λ (x y : ℕ). Ready x y rer wires e) (let z : bl + (n + n') ≡ bl + n' + n = omega arith in z) (let z : wl + (m + m') ≡ wl + m' + m = omega arith in z) r));
      }

  pub becomes_then : (f g : Rerouters.Emission → Rerouters.Emission) → Becomes f rer wires e rer₁ wires₁ e₁ → Becomes g rer₁ wires₁ e₁ rer₂ wires₂ e₂ → Becomes (λ s. g (f s)) rer wires e rer₂ wires₂ e₂
  becomes_then f g p q = record { becomes = λ s old old_wires h. q.becomes (f s) old old_wires (p.becomes s old old_wires h) }

-- A step read as another rule that gives the same.
pub becomes_as : (f g : Rerouters.Emission → Rerouters.Emission) (rer wires rer' wires' : List (List ℕ)) (e e' : Emission) → Becomes f rer wires e rer' wires' e' → ((s : Rerouters.Emission) → f s ≡ g s)
    → Becomes g rer wires e rer' wires' e'
becomes_as f g rer wires rer' wires' e e' p same =
    record { becomes = λ s old old_wires h. subst (λ (x : Rerouters.Emission). EmissionHeld x old old_wires rer' wires' e') (same s) (p.becomes s old old_wires h) }

pub becomes_none : (rer wires : List (List ℕ)) (e : Emission) → Becomes (λ s. s) rer wires e rer wires e
becomes_none rer wires e = record { becomes = λ s old old_wires h. h }

abbrev pub sharing : Rerouters.Emission → Rerouters.Emission
sharing s = record { bus = s.bus; upstream = s.upstream; stop_tap = s.stop_tap; row_end = s.stop_tap }

pub becomes_shared : (rer wires : List (List ℕ)) (e : Emission) → Becomes sharing rer wires e rer wires (shared_tap e)
becomes_shared rer wires e = record { becomes = λ s old old_wires h. record { bus = h.bus; upstream = h.upstream; stop_tap = h.stop_tap; row_end = h.stop_tap } }

-- A lane's rerouter, and a row's, in the rules' words.
module _ (b : Board) (ts : List Groups.Tap) (ps : List PageLanes) (t : Groups.Tap) (l : Lane) (k : LaneOf b ts ps t l) where
  pub lane_rerouter_lem : (x x' rotation rotation' part : ℕ) → x ≡ x' → rotation ≡ rotation' → lane_rerouter_of l x rotation part ≡ lane_rerouter b ts ps t x' rotation' part
  unfolding lane_rerouter
  lane_rerouter_lem x x' rotation rotation' part ex er =
      λ i. record { x = ex i; y = k.y i; z = k.z i; rotation = er i; role = role_gutter; part = part; colour = k.colour i; page = k.page i; lane = k.lane i; row = MISSING; depth = unfed }

  pub row_rerouter_lem : (row row' x x' y y' rotation role part : ℕ) → row ≡ row' → x ≡ x' → y ≡ y' → row_rerouter_of l row x y rotation role part ≡ row_rerouter b ts ps t row' x' y' rotation role part
  unfolding row_rerouter
  row_rerouter_lem row row' x x' y y' rotation role part er ex ey =
      λ i. record { x = ex i; y = ey i; z = k.z i; rotation = rotation; role = role; part = part; colour = k.colour i; page = k.page i; lane = MISSING; row = er i; depth = unfed }

  row_held : unwrap_or l.source_row MISSING ≡ held (source_row b t.group t.page)
  row_held = ap (λ (o : Option ℕ). unwrap_or o MISSING) k.row ∙ go (source_row b t.group t.page)
    where
      go : (f : Found) → unwrap_or (found_of f) MISSING ≡ held f
      go none = refl
      go (at r) = refl

  -- R6: a source rerouter.
  module _ (s : Rerouters.Emission) (so : Bool) where
    pub source_stands : (new : Rerouter) → rerouter_of new ≡ row_rerouter_of l (unwrap_or l.source_row MISSING) l.source_x (l.source_y - TAP_RESERVE) 2 role_source part_source → so ≡ true → hung_on (rerouter_of new) s ≡ source_by b ts ps so s t
    source_stands new e y =
        ap (λ x. hung_on x s) (e ∙ row_rerouter_lem _ _ _ _ (l.source_y - TAP_RESERVE) (y_of b (source b ts ps t) - TAP_RESERVE) 2 role_source part_source row_held k.source_x (ap (λ v. v - TAP_RESERVE) k.source_y))
        ∙ ap (λ v. source_by b ts ps v s t) (sym y)

    pub source_left_out : so ≡ false → s ≡ source_by b ts ps so s t
    source_left_out n = ap (λ v. source_by b ts ps v s t) (sym n)

  -- R5: a group begins at its port, with its head.
  pub becomes_port : (rer wires : List (List ℕ)) (e : Emission) → Becomes (λ s. at_port b ts ps s t) rer wires e rer wires (port_of e l)
  becomes_port rer wires e =
      record {
        becomes = λ s old old_wires h.
            record { bus = h.bus; upstream = λ i. record { end = Bus.port (k.node i) (k.port i); depth = 0 }; stop_tap = h.stop_tap; row_end = h.row_end };
      }

  module _ (a : Asking.Answers) (s : Rerouters.Emission) where
    abbrev sourced : Rerouters.Emission
    sourced = source_by b ts ps a.source (at_port b ts ps s t) t

    abbrev head_case : Bool → Rerouters.Emission
    head_case so = elim so [ true ↦ hung_on (head_rerouter b ts ps t) sourced | false ↦ at_port b ts ps s t ]

    pub group_headed : (new : Rerouter) → rerouter_of new ≡ lane_rerouter_of l l.source_x (turns_of l.rotation) part_head → a.head ≡ true → hung_on (rerouter_of new) sourced ≡ group_by b ts ps a s t
    unfolding group_by
    group_headed new e y = ap (λ x. hung_on x sourced) (e ∙ lane_rerouter_lem _ _ _ _ part_head k.source_x k.rotation) ∙ ap head_case (sym y)

    pub group_headless : a.head ≡ false → at_port b ts ps s t ≡ group_by b ts ps a s t
    unfolding group_by
    group_headless n = ap head_case (sym n)

  -- R8: a link.
  module _ (s : Rerouters.Emission) (level : ℕ) (so : Bool) where
    pub link_stands : (new : Rerouter) → rerouter_of new ≡ lane_rerouter_of l (level + 2) (turns_of l.rotation) part_link → so ≡ true → hung_on (rerouter_of new) s ≡ link_by b ts ps so s t level
    link_stands new e y = ap (λ x. hung_on x s) (e ∙ lane_rerouter_lem (level + 2) (level + 2) _ _ part_link refl k.rotation) ∙ ap (λ v. link_by b ts ps v s t level) (sym y)

  -- R7: a row by its level.
  module _ (a : Asking.Answers) (s : Rerouters.Emission) where
    pub row_own : (level : ℕ) (new : Rerouter) → rerouter_of new ≡ lane_rerouter_of l level 0 part_tap → tapped_off (rerouter_of new) (link_by b ts ps a.link s t level) ≡ row_by b ts ps a s t (own level)
    unfolding row_by
    row_own level new e = ap (λ x. tapped_off x (link_by b ts ps a.link s t level)) (e ∙ lane_rerouter_lem level level 0 0 part_tap refl refl)

    pub row_shared : (level : ℕ) → sharing s ≡ row_by b ts ps a s t (shared level)
    unfolding row_by
    row_shared level = refl

    pub row_dropped : s ≡ row_by b ts ps a s t dropped
    unfolding row_by
    row_dropped = refl

  -- R10: a gate-side rerouter.
  module _ (level : ℕ) (s : Rerouters.Emission) (so : Bool) where
    pub gate_stands : (new : Rerouter) → rerouter_of new ≡ row_rerouter_of l t.row level (t.y - TAP_RESERVE) 0 role_gutter part_gate_side → so ≡ true → chained_on (rerouter_of new) s ≡ gate_side_by b ts ps so s t level
    gate_stands new e y =
        ap (λ x. chained_on x s) (e ∙ row_rerouter_lem t.row t.row level level (t.y - TAP_RESERVE) (t.y - TAP_RESERVE) 0 role_gutter part_gate_side refl refl refl)
        ∙ ap (λ v. gate_side_by b ts ps v s t level) (sym y)

    pub gate_left_out : so ≡ false → s ≡ gate_side_by b ts ps so s t level
    gate_left_out n = ap (λ v. gate_side_by b ts ps v s t level) (sym n)

-- A delivery at the row's end.
pub delivered : (wires wires' : List (List ℕ)) (e : Emission) (t : Tap) (count : BusCount) → length wires' ≡ length wires
    → Delivering wires e.count e.row_end t.node t.port t.wire count wires'
    → Delivered wires e t wires' (record { count = count; upstream = e.upstream; stop_tap = e.stop_tap; row_end = e.row_end })
delivered wires wires' e t count lw d =
    let cr = d.rerouter_count in
    let cw = d.wire_count in
    record {
      spends = λ rer.
          record {
            spent = λ bl wl r.
                record {
                  rerouter_room = let h = r.rerouter_room in omega arith;
                  wire_room = let h = r.wire_room in omega arith;
                  numbers = let h = r.numbers in omega arith;
                  upstream_depth = let h = r.upstream_depth in omega arith;
                  stop_tap_depth = let h = r.stop_tap_depth in omega arith;
                  row_end_depth = let h = r.row_end_depth in omega arith;
                };
          };
      becomes = λ b rer en ep.
          record {
            becomes = λ s old old_wires h.
                record {
                  bus = subst (λ (f : Bus.Feed). BusHeld (Bus.deliver b s.bus f t.wire) old old_wires rer wires' count) h.row_end (d.held b s.bus old old_wires rer en ep h.bus);
                  upstream = h.upstream;
                  stop_tap = h.stop_tap;
                  row_end = h.row_end;
                };
          };
    }

-- What a tap begins, and how it is served.
module _ (b : Board) (ts : List Groups.Tap) (ps : List PageLanes) (a : Asking.Answers) (t : Groups.Tap) where
  pub serve_as : (level : ℕ) (s : Rerouters.Emission) → delivered_at b t.wire (gate_side_by b ts ps a.gate_side s t level) ≡ serve_by b ts ps a s t level
  unfolding serve_by
  serve_as level s = refl

  abbrev pub group_case : Bool → Rerouters.Emission → Rerouters.Emission
  group_case g s = elim g [ true ↦ group_by b ts ps a s t | false ↦ s ]

  pub group_new : (news : News) → begins_group news ≡ true → (s : Rerouters.Emission) → group_by b ts ps a s t ≡ begin_group b ts ps a t news s
  group_new news e s = ap (λ g. group_case g s) (sym e)

  pub group_same : (news : News) → begins_group news ≡ false → (s : Rerouters.Emission) → s ≡ begin_group b ts ps a t news s
  group_same news e s = ap (λ g. group_case g s) (sym e)

  abbrev pub row_case : Level → Bool → Rerouters.Emission → Rerouters.Emission
  row_case level r s = elim r [ true ↦ row_by b ts ps a s t level | false ↦ s ]

  pub row_new : (level : Level) (news : News) → begins_row news ≡ true → (s : Rerouters.Emission) → row_by b ts ps a (begin_group b ts ps a t news s) t level ≡ begin_tap b ts ps a t news level s
  row_new level news e s = ap (λ r. row_case level r (begin_group b ts ps a t news s)) (sym e)

  pub row_same : (level : Level) (news : News) → begins_row news ≡ false → (s : Rerouters.Emission) → begin_group b ts ps a t news s ≡ begin_tap b ts ps a t news level s
  row_same level news e s = ap (λ r. row_case level r (begin_group b ts ps a t news s)) (sym e)

  abbrev pub served : Level → Rerouters.Emission → Rerouters.Emission
  served level s = elim level [ dropped ↦ s | shared x ↦ serve_by b ts ps a s t x | own x ↦ serve_by b ts ps a s t x ]
