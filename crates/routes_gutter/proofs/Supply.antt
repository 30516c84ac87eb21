-- What the steps of laying ask for, of a planned board of an accepted sheet.
use Prim.Native.Nat.{ℕ, ◌≤◌, ◌<◌}
use native.Mathlib.Omega.{arith}
use native.Mathlib.Decide.{dec_lt}
use mathlib.Core.Path.{◌≡◌, refl, sym, ap, subst, ◌∙◌}
use mathlib.Core.Bool.{true, not}
use mathlib.Core.List.{List, [], map, Memᴰ as Mem}
use lib.ListN.{length, get_or, get_or-eq_default}
use borrow.Author.Tests.{ne_eqb}
use Rattle.sheet.specs.Table.{MISSING}
use Rattle.base.specs.Lists.{Found, none, at, found}
use Rattle.board.specs.Board.{Board, field, has_row, page_of, min_y_of}
use Rattle.board.specs.Groups.{Tap, taps_of, taps_in, source_anchor}
use Rattle.board.specs.Demands.{PageLanes, no_lanes, lane_of}
use Rattle.board.specs.Tables
use Rattle.base.specs.Views.{view}
use Rattle.board.specs.Tables.{held, tap_in, group_row}
use Rattle.base.proofs.Bools.{never, and_left}
use Rattle.base.proofs.Members.{map_in}
use Rattle.board_groups.proofs.RowLaws.{row_below}
use Rattle.board_groups.proofs.TapLaws.{carried_row, carried_below}
use Rattle.board_lanes.proofs.GroupLaws.{Known, known, known_row, source_held, source_below, target_held, target_below, least_any, in_group}
use Rattle.board.proofs.LanesFit.{planned_fits}
use Rattle.base.proofs.Views.{view_mem, length-view}
use Rattle.routes.specs.Stops.{is_laid, laid_taps}
use Rattle.routes.specs.Levels.{Level, dropped, shared, own, kept_at, stops_of}
use Rattle.routes.specs.Tables.{GroupFacts, stop_in}
use Rattle.routes_levels.specs.Laying.{TapsFit, Tabled, LaidFits, LaidFacts, LANES_MOST}
use Rattle.routes_taps.specs.Taps.{LowLevel, LaneInRange, LaidInRange, Tables, TapOn}
use Rattle.routes.specs.Plan.{bus_of, laid_groups, group_count}
use Rattle.routes.specs.Rerouters.{TAP_RESERVE, emit}
use Rattle.routes_levels.proofs.TapTables.{laid_facts, pages_rise}
use Rattle.routes.proofs.LaidTaps.{of_laid}
use Rattle.routes_taps.proofs.Reaching.{stops_count}
use Rattle.routes_gutter.specs.Lay.{LanesReady}
use Rattle.board.proofs.Reach.{REACH_MOST, top_most}
use Rattle.routes_gutter.proofs.Boards.{Stands, tap_stands}
use Rattle.routes_gutter.proofs.Heights.{stops_low}

-- The groups' rows in the words that laying has for them: a tap's group has a tap, so the least does not fall back.
pub groups_are : (b : Board) (ps : List PageLanes) (groups : List (List ℕ)) → Tables.GroupFacts b ps groups → GroupFacts b (taps_of b) ps groups
unfolding group_row
groups_are b ps groups g =
    record {
      lanes = λ t m. ap (λ (r : List ℕ). get_or r 4 0) (g t m);
      lows = λ t m.
          ap (λ (r : List ℕ). get_or r 5 0) (g t m)
          ∙ least_any MISSING 0 (map (λ u. u.x) (taps_in b (taps_of b) t.group)) t.x (map_in (λ u. u.x) (taps_in b (taps_of b) t.group) (in_group b (taps_of b) t m));
      highs = λ t m. ap (λ (r : List ℕ). get_or r 6 0) (g t m);
    }

-- A lane that is given is on a page that was planned.
page_planned : (ps : List PageLanes) (p g lane : ℕ) → lane_of ps p g ≡ at lane → p < length ps
page_planned ps p g lane e = go (dec_lt p (length ps))
  where
    go : Dec (p < length ps) → p < length ps
    go (yes h) = h
    go (no h) = let d : ◌≡◌ {A = Found} none (at lane) = rw (get_or-eq_default ps no_lanes {n = p} (omega arith)) at e in never cc

-- A level is low enough where kept levels are.
level_range : (l : Level) → ((x : ℕ) → kept_at l ≡ at x → x ≤ REACH_MOST) → LowLevel l
level_range dropped h = tt
level_range (shared x) h = let l = h x refl in omega arith
level_range (own x) h = let l = h x refl in omega arith

module _ {b : Board} {ps : List PageLanes} {pages nodes wires facts groups taps rerouters bus_wires : List (List ℕ)}
    (r : LanesReady b ps pages nodes wires facts groups taps rerouters bus_wires) where
  wires_long_lem : length b.wires ≡ length wires
  wires_long_lem = ap length r.wires_are

  nodes_long : length b.nodes ≡ length nodes
  nodes_long = ap length r.nodes_are

  pages_long : length b.pages ≡ length pages
  pages_long = ap length r.pages_are

  pub few_nodes : length nodes ≤ 4096
  few_nodes = let h = r.accepted.few_nodes in let e = nodes_long in omega arith

  pub few_wires : length wires ≤ 8192
  few_wires = let h = r.accepted.few_wires in let e = wires_long_lem in omega arith

  pub few_pages : length pages ≤ 64
  few_pages = let h = r.accepted.few_pages in let e = pages_long in omega arith

  group_facts : GroupFacts b (taps_of b) ps groups
  group_facts = groups_are b ps groups r.groups_known

  -- Where a tap's numbers point to, and their ranges.
  module _ (t : Tap) (mem : Mem t (taps_of b)) where
    here' : Stands b t
    here' = tap_stands b t mem

    of : Known b (length b.wires) t
    of = known b t mem

    pub wire_in_lem : t.wire < length wires
    wire_in_lem = let h = of.wire in let e = wires_long_lem in omega arith

    pub group_in : t.group < length wires
    group_in = let h = of.group in let k = wire_in_lem in omega arith

    source_is' : field facts t.group 2 ≡ source_anchor b t.group
    source_is' = source_held b t.group of.first of.leads _ (r.wires_known.sources t.group (let h = group_in in let e = wires_long_lem in omega arith))

    pub source_in_lem : field facts t.group 2 < length nodes
    source_in_lem = let h = source_below b t.group of.first of.leads in let e = source_is' in let l = nodes_long in omega arith

    pub target_in : field facts t.wire 3 < length nodes
    target_in =
        let h = target_below b t.wire of.target of.carries in
        let e = target_held b t.wire of.target of.carries _ (r.wires_known.targets t.wire of.wire) in
        let l = nodes_long in
        omega arith

    pub x_low : t.x ≤ REACH_MOST
    x_low =
        let h = r.accepted.x here'.target (r.accepted.row_placed here'.target (carried_row b t.wire here'.target here'.carries)) in
        let e = here'.x in
        omega arith

    pub y_high : TAP_RESERVE ≤ t.y
    y_high =
        let h = r.accepted.y_low here'.target (carried_below b t.wire here'.target here'.carries) in
        let e = here'.y in
        omega arith

    pub row_in_lem : t.row < length nodes
    row_in_lem = let h = known_row b (length b.wires) t of in let e = nodes_long in omega arith

    -- The source of a group, as the tables hold it.
    source_y_lem : TAP_RESERVE ≤ field nodes (field facts t.group 2) 9
    source_y_lem =
        subst (λ (ns : List (List ℕ)). TAP_RESERVE ≤ field ns (field facts t.group 2) 9) r.nodes_are
        (let y = r.accepted.y_low (field facts t.group 2) (let h = source_in_lem in let e = nodes_long in omega arith) in omega arith)

    source_row_lem : t.page < 64 → field nodes (field facts t.group 2) 10 ≡ t.page → field facts (field facts t.group 2) 0 < MISSING
    source_row_lem small e =
        let s : ℕ = field facts t.group 2 in
        let on : page_of b s ≡ t.page = ap (λ (ns : List (List ℕ)). field ns s 10) r.nodes_are ∙ e in
        let inside : s < length b.nodes = let h = source_in_lem in let l = nodes_long in omega arith in
        let has : has_row b s ≡ true = ap not (ne_eqb (page_of b s) MISSING (λ z. omega arith)) in
        let below = row_below b (page_of b s) s (record { there_is = inside; row = has; page = refl }) in
        let is = r.nodes_known.rows s inside has in
        let few = r.accepted.few_nodes in
        omega arith

  pub tabled : Tabled b (taps_of b) ps nodes facts groups
  tabled =
      record {
        node_rows = r.nodes_are;
        wire_ends = r.wires_known;
        group_rows = group_facts;
        wired = λ t mem. let h = group_in t mem in let e = wires_long_lem in omega arith;
        lanes_few = λ p g l e. let f = (planned_fits b ps r.plan p g l e).1 in let i = f.inside in let o = f.most in omega arith;
      }

  -- The taps laid, from what `lay_taps` says of them.
  pub laid_are : {us : List Tap} → (Tabled b (view tap_in taps (length taps)) ps nodes facts groups → us ≡ laid_taps b (view tap_in taps (length taps)) ps) → us ≡ laid_taps b (taps_of b) ps
  laid_are h = h (subst (λ (ts : List Tap). Tabled b ts ps nodes facts groups) (sym r.taps_are) tabled) ∙ ap (λ (ts : List Tap). laid_taps b ts ps) r.taps_are

  pub taps_fit : TapsFit nodes facts groups taps
  taps_fit =
      record {
        few = let c = r.count in let w = few_wires in omega arith;
        fits = λ k h.
            let mem : Mem (tap_in (get_or taps k [])) (taps_of b) = subst (Mem (tap_in (get_or taps k []))) r.taps_are (view_mem tap_in taps (length taps) k h) in
            let g = group_in (tap_in (get_or taps k [])) mem in
            record {
              nodes_few = let f = few_nodes in omega arith;
              group = let w = r.wire_room.1 in omega arith;
              wire = let w = r.wire_room.0 in omega arith;
              source = source_in_lem (tap_in (get_or taps k [])) mem;
            };
      }

  pub tables : Tables b (taps_of b) ps pages nodes wires facts groups
  tables =
      record {
        pages = r.pages_are;
        nodes = r.nodes_are;
        wires = r.wires_are;
        facts = r.nodes_known;
        ends = r.wires_known;
        groups = group_facts;
        page_facts = r.pages_known;
      }

  lane_range : (t : Tap) → Mem t (taps_of b) → is_laid b (taps_of b) ps t ≡ true → LaneInRange pages nodes wires facts groups t.page t.group
  unfolding is_laid
  lane_range t mem l = go (lane_of ps t.page t.group) refl (and_left _ _ l)
    where
      go : (f : Found) → lane_of ps t.page t.group ≡ f → found f ≡ true → LaneInRange pages nodes wires facts groups t.page t.group
      go none e h = never cc
      go (at lane) e h =
          let fits = planned_fits b ps r.plan t.page t.group lane e in
          let on = fits.0 in
          let inside = fits.1.inside in
          let most = fits.1.most in
          let lane_is : field groups t.group 4 ≡ lane = group_facts.lanes t mem ∙ ap held e in
          let count_is : field facts t.page 6 ≡ (get_or ps t.page no_lanes).count = r.pages_known t.page (page_planned ps t.page t.group lane e) in
          let high = r.accepted.min_y_low t.page on in
          let high' : min_y_of b t.page ≡ field pages t.page 1 = ap (λ (q : List (List ℕ)). field q t.page 1) r.pages_are in
          let few = r.accepted.few_pages in
          let few-n = few_nodes in
          let long = pages_long in
          let g = group_in t mem in
          record {
            on_pages = omega arith;
            on_facts = let p = r.page_room in omega arith;
            page_small = omega arith;
            on_wires = g;
            on_ends = let w = r.wire_room.0 in omega arith;
            on_groups = let w = r.wire_room.1 in omega arith;
            anchor = source_in_lem t mem;
            facts_long = r.node_room;
            nodes_few = omega arith;
            lane_small = omega arith;
            lane_open = omega arith;
            lane_room = omega arith;
            source_room = source_y_lem t mem;
            row_small = source_row_lem t mem (omega arith);
          }

  lane_few : (t : Tap) → Mem t (taps_of b) → is_laid b (taps_of b) ps t ≡ true → field groups t.group 4 < LANES_MOST
  unfolding is_laid
  lane_few t mem l = go (lane_of ps t.page t.group) refl (and_left _ _ l)
    where
      go : (f : Found) → lane_of ps t.page t.group ≡ f → found f ≡ true → field groups t.group 4 < LANES_MOST
      go none e h = never cc
      go (at lane) e h =
          let fits = (planned_fits b ps r.plan t.page t.group lane e).1 in
          let inside = fits.inside in
          let most = fits.most in
          let lane_is : field groups t.group 4 ≡ lane = group_facts.lanes t mem ∙ ap held e in
          omega arith

  -- The taps laid, and their stops.
  module _ (rows : List (List ℕ)) (few : length rows ≤ length taps) (are : view tap_in rows (length rows) ≡ laid_taps b (taps_of b) ps) where
    abbrev tap_at : ℕ → Tap
    tap_at k = tap_in (get_or rows k [])

    pub laid_at : (k : ℕ) → k < length rows → Mem (tap_at k) (taps_of b) × (is_laid b (taps_of b) ps (tap_at k) ≡ true)
    laid_at k h = of_laid b (taps_of b) ps (tap_at k) (subst (Mem (tap_at k)) are (view_mem tap_in rows (length rows) k h))

    pub laid_fits : LaidFits facts groups rows (length rows)
    laid_fits =
        let c = r.count in
        let w = few_wires in
        let ends = r.wire_room.0 in
        let sums = r.wire_room.1 in
        record {
          places =
              record {
                rows = omega arith;
                most = omega arith;
                group = λ k h. let g = group_in (tap_at k) (laid_at k h).0 in omega arith;
                row = λ k h. let o = row_in_lem (tap_at k) (laid_at k h).0 in let f = few_nodes in omega arith;
                lane = λ k h. let i = laid_at k h in lane_few (tap_at k) i.0 i.1;
                pages = pages_rise b ps rows (length rows) are;
              };
          first = λ k h. let g = group_in (tap_at k) (laid_at k h).0 in omega arith;
          wire = λ k h. let g = wire_in_lem (tap_at k) (laid_at k h).0 in omega arith;
          target = λ k h. let g = target_in (tap_at k) (laid_at k h).0 in let l = r.node_room in omega arith;
          x = λ k h. let x = x_low (tap_at k) (laid_at k h).0 in omega arith;
        }

    pub laid_known : LaidFacts b ps facts groups rows (length rows)
    laid_known = laid_facts b ps nodes facts groups rows (length rows) tabled r.nodes_known are

    pub laid_on_lem : (k : ℕ) → k < length rows → TapOn b (taps_of b) (get_or rows k [])
    laid_on_lem k h = let s = tap_stands b (tap_at k) (laid_at k h).0 in record { member = (laid_at k h).0; node = s.node; port = s.port }

    pub lanes_few_lem : (k : ℕ) → k < length rows → field groups (field rows k 1) 4 < 512
    lanes_few_lem k h = lane_few (tap_at k) (laid_at k h).0 (laid_at k h).1

    module _ (levels : List (List ℕ)) (fewer : length levels ≤ length rows) (stops_are : view stop_in levels (length levels) ≡ stops_of b ps (view tap_in rows (length rows))) where
      level_at_lem : (i : ℕ) → i < length levels → LowLevel (stop_in (get_or levels i [])).level
      level_at_lem i h =
          level_range (stop_in (get_or levels i [])).level
          (stops_low REACH_MOST b ps (top_most b r.accepted) (laid_taps b (taps_of b) ps) (λ t q. x_low t (of_laid b (taps_of b) ps t q).0) (stop_in (get_or levels i []))
          (subst (Mem (stop_in (get_or levels i []))) (stops_are ∙ ap (stops_of b ps) are) (view_mem stop_in levels (length levels) i h))).level

      pub laid_range : LaidInRange pages nodes wires facts groups rows (length rows) levels (length levels)
      laid_range =
          let few-n = few_nodes in
          record {
            on_laid = omega arith;
            lanes = λ k h. lane_range (tap_at k) (laid_at k h).0 (laid_at k h).1;
            tap_room = λ k h. y_high (tap_at k) (laid_at k h).0;
            tap_row = λ k h. let w = row_in_lem (tap_at k) (laid_at k h).0 in omega arith;
            on_stops = omega arith;
            levels = level_at_lem;
            a_stop_each = sym (stops_count b ps (view tap_in rows (length rows))) ∙ ap length (sym stops_are) ∙ length-view stop_in levels (length levels);
          }

      pub bus_is : (emit b (taps_of b) ps (view stop_in levels (length levels)) (view tap_in rows (length rows)) (view stop_in levels (length levels))).bus ≡ bus_of b ps
      unfolding bus_of
      bus_is = let e = stops_are ∙ ap (stops_of b ps) are in λ i. (emit b (taps_of b) ps (e i) (are i) (e i)).bus

    pub groups_laid : group_count (view tap_in rows (length rows)) ≡ laid_groups b ps
    unfolding laid_groups
    groups_laid = ap group_count are
