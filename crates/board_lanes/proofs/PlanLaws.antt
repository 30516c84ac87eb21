-- Planning page by page: the groups' rows and the pages' counts hold what the definition gives.
use Prim.Native.Nat.{ℕ, zero, suc, ◌+◌, ◌-◌, ◌≤◌, ◌<◌}
use native.Mathlib.Omega.{arith}
use native.Mathlib.Decide.{dec_lt, ℕ_discrete}
use native.Mathlib.Numerals.{add-one}
use mathlib.Core.Path.{◌≡◌, refl, sym, ap, ◌∙◌, subst}
use mathlib.Core.Bool.{Bool, true, false, ◌&&◌}
use mathlib.Core.List.Memᴰ.{head as here}
use mathlib.Core.List.Memᴰ.{not-nil as nowhere}
use mathlib.Core.List.Memᴰ.{tail as there}
use mathlib.Core.List.{List, [], ◌∷◌, ◌++◌, map, reverse, Memᴰ as Mem}
use lib.Dec.{eqb}
use lib.ListN.{length, get_or, set, take, length-append, get_or-append, get_or-eq_default}
use lib.Seq.{get_or-set_other, get_or_at, take-length}
use borrow.Author.Tests.{eqb-true}
use Rattle.sheet.specs.Table.{MISSING}
use Rattle.base.specs.Sort.{sorted}
use Rattle.lanes.specs.Lanes.{full, laned, packed, pack_in, ranked, entries}
use Rattle.std.specs.Prelude.{Ok, Err}
use Rattle.lanes.specs.declared.pack.LanesFull.{LanesFull}
use Rattle.base.proofs.Bools.{never, clash}
use Rattle.base.specs.Lists.{Found, none, at, keep}
use Rattle.board.specs.Board.{Board, field, given, has_gutter, min_y_of, page_of}
use Rattle.board.specs.Groups.{Tap, taps_of}
use Rattle.board.specs.Demands.{PageLanes, crowded, planned, no_lanes, lane_in, lane_of, needs_lane, demand_of, groups_on, packed_on, plan_upto, plan_lanes}
use Rattle.board.specs.Tables.{held, tap_in, tap_target, group_row, NodeFacts, WireFacts, GroupFacts, PageFacts}
use Rattle.base.specs.Views.{view}
use Rattle.board_groups.specs.Collecting.{relaned, GroupSums, Packable}
use Rattle.board_lanes.specs.PagePlan.{group_demand, asking, GutterPacked, Surveyed, Collected}
use Rattle.base.proofs.Members.{keep_from, map_from}
use Rattle.base.proofs.Views.{view-take, view_mem, length-view}
use Rattle.board_groups.proofs.Facts.{Agree, column_kept, column_more, same_nodes, same_wires_lem}
use Rattle.board_lanes.proofs.GroupLaws.{Known, known, known_row, row_first, row_last, row_consumers, first_last, last_most, length_group}
use Rattle.board_lanes.proofs.PageLaws.{asking_is, asker, map_same, reverse_from}

-- The pages planned so far.
pub record SoFar (b : Board) (groups facts : List (List ℕ)) (p : ℕ) : Type 0 where
  pub lanes : List PageLanes
  pub plan : plan_upto b (taps_of b) p ≡ planned lanes
  pub count : length lanes ≡ p
  pub groups_hold : GroupFacts b lanes groups
  pub pages_hold : PageFacts lanes facts

pub nothing_planned : (b : Board) (groups facts : List (List ℕ)) → GroupSums b (taps_of b) groups → SoFar b groups facts 0
unfolding plan_upto
nothing_planned b groups facts sums =
    record {
      lanes = [];
      plan = refl;
      count = refl;
      groups_hold = λ t m. let k = known b t m in let w = k.wire in let g = k.group in sums t.group (omega arith);
      pages_hold = λ p h. absurd (omega arith);
    }

not_in : (gs ls : List ℕ) (g : ℕ) → (Mem g gs → ⊥) → lane_in gs ls g ≡ none
not_in [] ls g h = refl
not_in (x ∷ gs) [] g h = refl
not_in (x ∷ gs) (l ∷ ls) g h = go (eqb x g) refl (not_in gs ls g (λ m. h (there m)))
  where
    go : (s : Bool) → eqb x g ≡ s → lane_in gs ls g ≡ none → ◌≡◌ {A = Found} (elim s [ true ↦ at l | false ↦ lane_in gs ls g ]) none
    go true e ih = absurd (h (here (sym (eqb-true x g e))))
    go false e ih = ih

row_with : (b : Board) (ts : List Tap) (g : ℕ) (f : Found) → relaned f (group_row b ts g MISSING) ≡ group_row b ts g (held f)
unfolding group_row
row_with b ts g none = refl
row_with b ts g (at l) = refl

relaned_none : (f : Found) (r : List ℕ) → f ≡ none → relaned f r ≡ r
relaned_none f r e = ap (λ (h : Found). relaned h r) e

module _ (b : Board) where
  pub no_gutter : (p : ℕ) → has_gutter b p ≡ false → groups_on b (taps_of b) p ≡ []
  unfolding groups_on
  no_gutter p h = rw (h, groups_on) refl

  gutter : (p : ℕ) → has_gutter b p ≡ true → groups_on b (taps_of b) p ≡ reverse (map (λ t. t.group) (keep (λ t. eqb t.group t.wire && eqb t.page p && needs_lane b (taps_of b) t.group) (taps_of b)))
  unfolding groups_on
  gutter p h = rw (h, groups_on) refl

  page_of_lem : (x y z : Bool) → (x && y && z) ≡ true → y ≡ true
  page_of_lem true true z h = refl
  page_of_lem true false z h = h
  page_of_lem false y z h = clash h refl

  on_page_lem : (p g : ℕ) → Mem g (groups_on b (taps_of b) p) → (u : Tap) × Mem u (taps_of b) × (u.group ≡ g) × (u.page ≡ p)
  on_page_lem p g m = go (has_gutter b p) refl
    where
      go : (s : Bool) → has_gutter b p ≡ s → (u : Tap) × Mem u (taps_of b) × (u.group ≡ g) × (u.page ≡ p)
      go false h = absurd (nowhere (subst (Mem g) (no_gutter p h) m))
      go true h =
          let r = map_from (λ (t : Tap). t.group) (keep (λ t. eqb t.group t.wire && eqb t.page p && needs_lane b (taps_of b) t.group) (taps_of b)) (reverse_from _ (subst (Mem g) (gutter p h) m)) in
          let k = keep_from (λ t. eqb t.group t.wire && eqb t.page p && needs_lane b (taps_of b) t.group) (taps_of b) r.1 in
          (r.0, k.0, sym r.2, eqb-true r.0.page p (page_of_lem (eqb r.0.group r.0.wire) (eqb r.0.page p) (needs_lane b (taps_of b) r.0.group) k.1))

  -- Taps of one group are on one page.
  pub same_home : (t u : Tap) → Mem t (taps_of b) → Mem u (taps_of b) → u.group ≡ t.group → u.page ≡ t.page
  same_home t u m n e =
      let k = known b t m in
      let j = known b u n in
      let firsts : at j.first ≡ at k.first = sym j.leads ∙ ap (tap_target b) e ∙ k.leads in
      let same : j.first ≡ k.first = cc in
      j.home ∙ ap (page_of b) same ∙ sym k.home

  elsewhere : (t : Tap) → Mem t (taps_of b) → (p : ℕ) (ls : List ℕ) → (t.page ≡ p → ⊥) → lane_in (groups_on b (taps_of b) p) ls t.group ≡ none
  elsewhere t m p ls h = not_in (groups_on b (taps_of b) p) ls t.group (λ n. let r = on_page_lem p t.group n in h (sym (same_home t r.0 m r.1 r.2) ∙ r.3))

  module _ (before after facts : List (List ℕ)) (p : ℕ) (done : SoFar b before facts p) (wide : length b.wires ≤ length before) (ls : List ℕ) (count : ℕ)
      (packs : packed_on b (taps_of b) p ≡ laned ls count)
      (rows : (g : ℕ) → g < length before → get_or after g [] ≡ relaned (lane_in (groups_on b (taps_of b) p) ls g) (get_or before g [])) where
    this : PageLanes
    this = record { groups = groups_on b (taps_of b) p; lane_list = ls; count = count }

    page_now : get_or (done.lanes ++ (this ∷ [])) p no_lanes ≡ this
    page_now = get_or_at done.lanes this [] no_lanes p done.count

    page_then : get_or done.lanes p no_lanes ≡ no_lanes
    page_then = get_or-eq_default done.lanes no_lanes (let c = done.count in omega arith)

    page_other : (q : ℕ) → (q ≡ p → ⊥) → get_or (done.lanes ++ (this ∷ [])) q no_lanes ≡ get_or done.lanes q no_lanes
    page_other q h =
        let c = done.count in
        elim (dec_lt q p) [
          | yes l ↦ get_or-append done.lanes (this ∷ []) no_lanes q (omega arith)
          | no f ↦
              get_or-eq_default (done.lanes ++ (this ∷ [])) no_lanes (let e = length-append done.lanes (this ∷ []) in omega (arith, h)) ∙ sym (get_or-eq_default done.lanes no_lanes (omega arith))
        ]

    lanes_after : (t : Tap) → Mem t (taps_of b) → get_or after t.group [] ≡ group_row b (taps_of b) t.group (held (lane_of (done.lanes ++ (this ∷ [])) t.page t.group))
    unfolding this
    lanes_after t m =
        let k = known b t m in
        let w = k.wire in
        let g = k.group in
        rows t.group (omega arith) ∙ ap (relaned (lane_in (groups_on b (taps_of b) p) ls t.group)) (done.groups_hold t m)
        ∙ elim (ℕ_discrete t.page p) [ yes e ↦ here' e | no h ↦ away h ]
      where
        here' : t.page ≡ p → relaned (lane_in (groups_on b (taps_of b) p) ls t.group) (group_row b (taps_of b) t.group (held (lane_of done.lanes t.page t.group)))
            ≡ group_row b (taps_of b) t.group (held (lane_of (done.lanes ++ (this ∷ [])) t.page t.group))
        here' e =
            (λ z. relaned (lane_in (groups_on b (taps_of b) p) ls t.group) (group_row b (taps_of b) t.group (held (lane_of done.lanes (e z) t.group))))
            ∙ ap (λ (q : PageLanes). relaned (lane_in (groups_on b (taps_of b) p) ls t.group) (group_row b (taps_of b) t.group (held (lane_in q.groups q.lane_list t.group)))) page_then
            ∙ row_with b (taps_of b) t.group (lane_in (groups_on b (taps_of b) p) ls t.group)
            ∙ ap (λ (q : PageLanes). group_row b (taps_of b) t.group (held (lane_in q.groups q.lane_list t.group))) (sym page_now)
            ∙ (λ z. group_row b (taps_of b) t.group (held (lane_of (done.lanes ++ (this ∷ [])) (sym e z) t.group)))

        away : (t.page ≡ p → ⊥) → relaned (lane_in (groups_on b (taps_of b) p) ls t.group) (group_row b (taps_of b) t.group (held (lane_of done.lanes t.page t.group)))
            ≡ group_row b (taps_of b) t.group (held (lane_of (done.lanes ++ (this ∷ [])) t.page t.group))
        away h =
            relaned_none (lane_in (groups_on b (taps_of b) p) ls t.group) (group_row b (taps_of b) t.group (held (lane_of done.lanes t.page t.group))) (elsewhere t m p ls h)
            ∙ ap (λ (q : PageLanes). group_row b (taps_of b) t.group (held (lane_in q.groups q.lane_list t.group))) (sym (page_other t.page h))

    pub page_done : (row : List ℕ) → p < length facts → get_or row 6 0 ≡ count → SoFar b after (set facts p row) (p + 1)
    unfolding plan_upto this
    page_done row room is =
        record {
          lanes = done.lanes ++ (this ∷ []);
          plan = ap (plan_upto b (taps_of b)) (add-one p) ∙ rw (done.plan, packs, plan_upto) refl;
          count = length-append done.lanes (this ∷ []) ∙ (let c = done.count in omega arith);
          groups_hold = lanes_after;
          pages_hold = λ q h. column_more facts p row room 6 (λ j. (get_or (done.lanes ++ (this ∷ [])) j no_lanes).count) (is ∙ ap (λ (l : PageLanes). l.count) (sym page_now)) before' q (let c = done.count in let e = length-append done.lanes (this ∷ []) in omega arith);
        }
      where
        before' : (q : ℕ) → q < p → field facts q 6 ≡ (get_or (done.lanes ++ (this ∷ [])) q no_lanes).count
        before' q h = done.pages_hold q (let c = done.count in omega arith) ∙ ap (λ (l : PageLanes). l.count) (sym (page_other q (λ e. omega arith)))

  -- The demands of a page are those of the definition.
  module _ (taps before facts : List (List ℕ)) (marks : List ℕ) (m p : ℕ) (low : p < MISSING) (done : SoFar b before facts p) (groups₀ : List (List ℕ)) (seen : Surveyed b taps m groups₀ marks) where
    asked_groups : has_gutter b p ≡ true → reverse (asking taps marks p m) ≡ groups_on b (taps_of b) p
    asked_groups h =
        ap reverse (asking_is b (taps_of b) taps marks m p low seen.heads m (omega arith))
        ∙ ap (λ (ts : List Tap). reverse (map (λ (t : Tap). t.group) (keep (λ t. eqb t.group t.wire && eqb t.page p && needs_lane b (taps_of b) t.group) ts))) seen.taps_are
        ∙ sym (gutter p h)

    same_demand : (g : ℕ) → Mem g (reverse (asking taps marks p m)) → group_demand before g ≡ demand_of b (taps_of b) g
    unfolding demand_of
    same_demand g n = go (asker taps marks p m (reverse_from (asking taps marks p m) n))
      where
        go : (k : ℕ) × (k < m) × (g ≡ field taps k 1) → group_demand before g ≡ demand_of b (taps_of b) g
        go r =
            let t = tap_in (get_or taps r.0 []) in
            let mem : Mem t (taps_of b) = subst (Mem t) seen.taps_are (view_mem tap_in taps m r.0 r.1) in
            let is = done.groups_hold t mem in
            let lane = held (lane_of done.lanes t.page t.group) in
            let first = row_first b (taps_of b) t mem lane (get_or before t.group []) is in
            let last = row_last b (taps_of b) t mem lane (get_or before t.group []) is in
            let consumers = row_consumers b (taps_of b) t mem lane (get_or before t.group []) is in
            subst (λ (j : ℕ). group_demand before j ≡ demand_of b (taps_of b) j) (sym r.2) (λ z. record { first = first z; last = last z; consumers = consumers z; order = t.group })

    pub asked_packed : has_gutter b p ≡ true → packed (map (group_demand before) (reverse (asking taps marks p m))) ≡ packed_on b (taps_of b) p
    unfolding packed_on
    asked_packed h =
        ap packed (map_same (group_demand before) (demand_of b (taps_of b)) (reverse (asking taps marks p m)) same_demand ∙ ap (map (demand_of b (taps_of b))) (asked_groups h))

    pub lanes_of_page : (after : List (List ℕ)) (count : ℕ) → GutterPacked (min_y_of b p) taps marks m p before after (Ok count)
        → (ls : List ℕ) × (packed_on b (taps_of b) p ≡ laned ls count)
        × ((g : ℕ) → g < length before → get_or after g [] ≡ relaned (lane_in (groups_on b (taps_of b) p) ls g) (get_or before g []))
    unfolding packed_on packed ranked entries sorted pack_in
    lanes_of_page after count packs = go (has_gutter b p) refl
      where
        go : (s : Bool) → has_gutter b p ≡ s
            → (ls : List ℕ) × (packed_on b (taps_of b) p ≡ laned ls count)
            × ((g : ℕ) → g < length before → get_or after g [] ≡ relaned (lane_in (groups_on b (taps_of b) p) ls g) (get_or before g []))
        go false h =
            let none-there = packs.without h in
            let zero-lanes : count ≡ 0 = let q = none-there.0 in cc in (
              [],
              ap (λ (gs : List ℕ). packed (map (demand_of b (taps_of b)) gs)) (no_gutter p h) ∙ ap (laned []) (sym zero-lanes),
              λ g l. ap (λ (rs : List (List ℕ)). get_or rs g []) none-there.1 ∙ ap (λ (gs : List ℕ). relaned (lane_in gs [] g) (get_or before g [])) (sym (no_gutter p h)),
            )
        go true h =
            let w = packs.within h in
            (w.0, sym (asked_packed h) ∙ w.1, λ g l. w.2 g l ∙ (λ z. relaned (lane_in (asked_groups h z) w.0 g) (get_or before g [])))

    pub crowded_page : (after : List (List ℕ)) (crowd : LanesFull) → GutterPacked (min_y_of b p) taps marks m p before after (Err crowd) → plan_upto b (taps_of b) (suc p) ≡ crowded p
    unfolding plan_upto
    crowded_page after crowd packs = go (has_gutter b p) refl
      where
        go : (s : Bool) → has_gutter b p ≡ s → plan_upto b (taps_of b) (suc p) ≡ crowded p
        go false h = let q = (packs.without h).0 in never cc
        go true h = let e : packed_on b (taps_of b) p ≡ full crowd.index = sym (asked_packed h) ∙ packs.within h in rw (done.plan, e, plan_upto) refl

  crowded_stays : (n p q : ℕ) → plan_upto b (taps_of b) n ≡ crowded p → plan_upto b (taps_of b) (q + n) ≡ crowded p
  unfolding plan_upto
  crowded_stays n p zero e = ap (plan_upto b (taps_of b)) (let z : zero + n ≡ n = omega arith in z) ∙ e
  crowded_stays n p (suc q) e =
      let ih = crowded_stays n p q e in
      ap (plan_upto b (taps_of b)) (let z : suc q + n ≡ suc (q + n) = omega arith in z) ∙ rw (ih, plan_upto) refl

  pub crowded_all : (p : ℕ) → p < length b.pages → plan_upto b (taps_of b) (suc p) ≡ crowded p → plan_lanes b ≡ crowded p
  unfolding plan_lanes
  crowded_all p h e = ap (plan_upto b (taps_of b)) (let z : length b.pages ≡ (length b.pages - suc p) + suc p = omega arith in z) ∙ crowded_stays (suc p) p (length b.pages - suc p) e

  pub all_planned : (groups facts : List (List ℕ)) (p : ℕ) → SoFar b groups facts p → p ≡ length b.pages → (ps : List PageLanes) × (plan_lanes b ≡ planned ps) × GroupFacts b ps groups × PageFacts ps facts
  unfolding plan_lanes
  all_planned groups facts p done e = (done.lanes, ap (plan_upto b (taps_of b)) (sym e) ∙ done.plan, done.groups_hold, done.pages_hold)

-- A page's count stands beside the facts of nodes and wires, as `plan_pages` writes it.
pub count_keeps : (b : Board) (facts : List (List ℕ)) (p count : ℕ) → p < length facts → NodeFacts b facts × WireFacts b facts
    → NodeFacts b (set facts p (set (get_or facts p []) 6 count)) × WireFacts b (set facts p (set (get_or facts p []) 6 count))
count_keeps b facts p count room known =
    (same_nodes b facts _ (kept 0 (λ z. omega arith)) (kept 1 (λ z. omega arith)) known.0, same_wires_lem b facts _ (kept 2 (λ z. omega arith)) (kept 3 (λ z. omega arith)) (kept 4 (λ z. omega arith)) known.1)
  where
    kept : (c : ℕ) → (c ≡ 6 → ⊥) → Agree c facts (set facts p (set (get_or facts p []) 6 count))
    kept c o = column_kept facts p (set (get_or facts p []) 6 count) room c (get_or-set_other (get_or facts p []) 6 c count 0 o)

-- What packing takes of the groups' rows stays as it was.
relaned_column : (f : Found) (r : List ℕ) → (get_or (relaned f r) 0 0 ≡ get_or r 0 0) × (get_or (relaned f r) 1 0 ≡ get_or r 1 0) × (get_or (relaned f r) 2 0 ≡ get_or r 2 0)
relaned_column none r = (refl, refl, refl)
relaned_column (at l) r = (get_or-set_other r 4 0 l 0 (λ e. omega arith), get_or-set_other r 4 1 l 0 (λ e. omega arith), get_or-set_other r 4 2 l 0 (λ e. omega arith))

gutter_rows : (min_y : ℕ) (taps : List (List ℕ)) (marks : List ℕ) (m p : ℕ) (before after : List (List ℕ)) (count : ℕ) → GutterPacked min_y taps marks m p before after (Ok count)
    → (g : ℕ) → g < length before → (f : Found) × (get_or after g [] ≡ relaned f (get_or before g []))
gutter_rows min_y taps marks m p before after count packs g h = go (given min_y) refl
  where
    go : (s : Bool) → given min_y ≡ s → (f : Found) × (get_or after g [] ≡ relaned f (get_or before g []))
    go false e = (none, ap (λ (rs : List (List ℕ)). get_or rs g []) (packs.without e).1)
    go true e = let w = packs.within e in (lane_in (reverse (asking taps marks p m)) w.0 g, w.2 g h)

pub packable_kept : (min_y : ℕ) (taps : List (List ℕ)) (marks : List ℕ) (m p : ℕ) (before after : List (List ℕ)) (count : ℕ) → GutterPacked min_y taps marks m p before after (Ok count)
    → length after ≡ length before → Packable taps m before → Packable taps m after
packable_kept min_y taps marks m p before after count packs same old =
    record {
      group = λ k h. let o = old.group k h in omega arith;
      order = old.order;
      first = λ k h. let c = columns k h in let a = c.0 in let d = c.1 in let o = old.first k h in omega arith;
      last = λ k h. let c = columns k h in let d = c.1 in let o = old.last k h in omega arith;
      consumers = λ k h. let c = columns k h in let d = c.2 in let o = old.consumers k h in omega arith;
    }
  where
    columns : (k : ℕ) → k < m → (field after (field taps k 1) 0 ≡ field before (field taps k 1) 0) × (field after (field taps k 1) 1 ≡ field before (field taps k 1) 1) × (field after (field taps k 1) 2 ≡ field before (field taps k 1) 2)
    columns k h =
        let r = gutter_rows min_y taps marks m p before after count packs (field taps k 1) (old.group k h) in
        let c = relaned_column r.0 (get_or before (field taps k 1) []) in
        (ap (λ (q : List ℕ). get_or q 0 0) r.1 ∙ c.0, ap (λ (q : List ℕ). get_or q 1 0) r.1 ∙ c.1, ap (λ (q : List ℕ). get_or q 2 0) r.1 ∙ c.2)

-- A view of all rows of a front is the front's view.
pub view_front : {A : Type 0} (read : List ℕ → A) (s : List (List ℕ)) (n : ℕ) → n ≤ length s → view read (take n s) (length (take n s)) ≡ view read s n
view_front read s n h =
    view-take read (take n s) (length (take n s)) (omega arith) ∙ ap (λ (l : List (List ℕ)). reverse (map read l)) (take-length (take n s)) ∙ sym (view-take read s n h)

-- The taps of a board as planning takes them.
module _ (b : Board) (pages nodes wires facts taps : List (List ℕ)) (m : ℕ) (given' : Collected b pages nodes wires facts taps m) where
  tap_known : (k : ℕ) → k < m → Known b (length b.wires) (tap_in (get_or taps k []))
  tap_known k h = known b (tap_in (get_or taps k [])) (subst (Mem (tap_in (get_or taps k []))) given'.taps_are (view_mem tap_in taps m k h))

  pub tap_inside : (k : ℕ) → k < m → (field taps k 1 < length wires) × (field taps k 7 < length wires)
  tap_inside k h =
      let t = tap_known k h in
      let w = t.wire in
      let g = t.group in
      let c = ap length given'.wires_are in
      (omega arith, omega arith)

  pub board_packable : (groups : List (List ℕ)) → GroupSums b (taps_of b) groups → length wires ≤ length groups → length wires ≤ 8192 → m ≤ 8192 → length nodes ≤ 4096 → Packable taps m groups
  board_packable groups sums room few fewer fewest =
      record {
        group = λ k h. let i = (tap_inside k h).0 in omega arith;
        order = λ k h. let i = (tap_inside k h).0 in omega arith;
        first = λ k h. rows_order k h;
        last = λ k h. rows_low k h;
        consumers = λ k h. many k h;
      }
    where
      t_in : (k : ℕ) → k < m → Mem (tap_in (get_or taps k [])) (taps_of b)
      t_in k h = subst (Mem (tap_in (get_or taps k []))) given'.taps_are (view_mem tap_in taps m k h)

      row_is : (k : ℕ) → k < m → get_or groups (field taps k 1) [] ≡ group_row b (taps_of b) (field taps k 1) MISSING
      row_is k h = sums (field taps k 1) (let i = (tap_inside k h).0 in let c = ap length given'.wires_are in omega arith)

      rows_order : (k : ℕ) → k < m → field groups (field taps k 1) 0 ≤ field groups (field taps k 1) 1
      rows_order k h =
          let e = row_first b (taps_of b) (tap_in (get_or taps k [])) (t_in k h) MISSING (get_or groups (field taps k 1) []) (row_is k h) in
          let f = row_last b (taps_of b) (tap_in (get_or taps k [])) (t_in k h) MISSING (get_or groups (field taps k 1) []) (row_is k h) in
          let l = first_last b (taps_of b) (tap_in (get_or taps k [])) (t_in k h) in
          omega arith

      rows_low : (k : ℕ) → k < m → field groups (field taps k 1) 1 ≤ 4095
      rows_low k h =
          let f = row_last b (taps_of b) (tap_in (get_or taps k [])) (t_in k h) MISSING (get_or groups (field taps k 1) []) (row_is k h) in
          let l = last_most b (taps_of b) (field taps k 1) 4095 (λ t n. let z = known_row b (length b.wires) t (known b t n) in let c = ap length given'.nodes_are in omega arith) in
          omega arith

      many : (k : ℕ) → k < m → field groups (field taps k 1) 2 ≤ 8192
      many k h =
          let f = row_consumers b (taps_of b) (tap_in (get_or taps k [])) (t_in k h) MISSING (get_or groups (field taps k 1) []) (row_is k h) in
          let l = length_group b (taps_of b) (field taps k 1) in
          let n = ap length (sym given'.taps_are) ∙ length-view tap_in taps m in
          omega arith

-- What `collect_bus_groups` leaves, its taps cut to those that count.
pub collected_front : (b : Board) (facts taps : List (List ℕ)) (m : ℕ) → m ≤ length taps → NodeFacts b facts × WireFacts b facts × (view tap_in taps m ≡ taps_of b)
    → Collected b b.pages b.nodes b.wires facts (take m taps) (length (take m taps))
collected_front b facts taps m room r =
    record { pages_are = refl; nodes_are = refl; wires_are = refl; nodes_known = r.0; wires_known = r.1; taps_are = view_front tap_in taps m room ∙ r.2 }
