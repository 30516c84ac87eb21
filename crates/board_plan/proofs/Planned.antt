-- From the tables that `plan_board` leaves to what planning a text promises.
use Prim.Native.Nat.{ℕ, zero, suc, ◌≤◌, ◌<◌}
use native.Mathlib.Omega.{arith}
use mathlib.Core.Path.{◌≡◌, refl, ap, ◌∙◌, subst}
use mathlib.Core.List.{List, [], ◌∷◌, ◌++◌, map}
use lib.ListN.{length, get_or, length-append}
use Rattle.std.proofs.Common.{Result, Ok, Err}
use Rattle.std.specs.Result.{result_and}
use Rattle.base.specs.declared.refusal.Refusal.{Refusal}
use Rattle.sheet.specs.declared.Counts.{Counts}
use Rattle.lanes.specs.Lanes
use Rattle.lanes.specs.Lanes.{Packed, lane_most}
use Rattle.lanes.proofs.Promise.{lanes_apart}
use Rattle.board.specs.Board.{Board}
use Rattle.board.specs.Groups.{Tap, taps_of}
use Rattle.board.specs.Demands.{PageLanes, Planned, crowded, planned, no_lanes, plan_upto, plan_lanes, packed_on, groups_on, demand_of}
use Rattle.board.specs.Walk.{counts_in}
use Rattle.board_lanes.specs.PagePlan.{PlanHeld, BoardPlanned}
use Rattle.board_lanes.specs.declared.demands.BoardPlan.{BoardPlan}
use Rattle.base.proofs.Bools.{never}
use Rattle.board.proofs.LanesFit.{rising}
use Rattle.board.specs.Sections.{SectionsIn, SectionsCut}
use Rattle.board_plan.specs.TextPlan.{LanesPlanned}

-- A crowded page is one of the pages.
crowded_among : (b : Board) (ts : List Tap) (n q : ℕ) → plan_upto b ts n ≡ crowded q → q < n
unfolding plan_upto
crowded_among b ts zero q e = never cc
crowded_among b ts (suc p) q e = go (plan_upto b ts p) refl (packed_on b ts p) e (crowded_among b ts p q)
  where
    go : (r : Planned) → plan_upto b ts p ≡ r → (k : Packed)
        → elim r as (λ _. Planned) [
          | crowded q ↦ crowded q
          | planned ps ↦ elim k as (λ _. Planned) [ Lanes.full i ↦ crowded p | Lanes.laned ls n ↦ planned (ps ++ (record { groups = groups_on b ts p; lane_list = ls; count = n } ∷ [])) ]
        ] ≡ crowded q
        → (plan_upto b ts p ≡ crowded q → q < p) → q < suc p
    go (crowded q') is k d rec = let h = rec (is ∙ d) in omega arith
    go (planned ps) is (Lanes.full i) d rec = let same : p ≡ q = cc in omega arith
    go (planned ps) is (Lanes.laned ls n) d rec = never cc

pub crowded_page : (b : Board) (q : ℕ) → plan_lanes b ≡ crowded q → q < length b.pages
unfolding plan_lanes
crowded_page b q e = crowded_among b (taps_of b) (length b.pages) q e

-- Every page has its count of lanes, and no more than the most.
Counted : ℕ → List PageLanes → Type 0
Counted n ps = (length ps ≡ n) × ((p : ℕ) → (get_or ps p no_lanes).count ≤ lane_most)

counted_more : (qs : List PageLanes) (x : PageLanes) → ((p : ℕ) → (get_or qs p no_lanes).count ≤ lane_most) → x.count ≤ lane_most → (p : ℕ) → (get_or (qs ++ (x ∷ [])) p no_lanes).count ≤ lane_most
counted_more [] x h k zero = k
counted_more [] x h k (suc p) = h (suc p)
counted_more (y ∷ qs) x h k zero = h zero
counted_more (y ∷ qs) x h k (suc p) = counted_more qs x (λ q. h (suc q)) k p

counted_upto : (b : Board) (ts : List Tap) (n : ℕ) (ps : List PageLanes) → plan_upto b ts n ≡ planned ps → Counted n ps
unfolding plan_upto packed_on Counted
counted_upto b ts zero ps e = let q : ◌≡◌ {A = List PageLanes} [] ps = cc in rw (← q) (refl, λ p. omega arith)
counted_upto b ts (suc n) ps e = go (plan_upto b ts n) refl (packed_on b ts n) refl e (counted_upto b ts n)
  where
    go : (r : Planned) → plan_upto b ts n ≡ r → (k : Packed) → packed_on b ts n ≡ k
        → elim r as (λ _. Planned) [
          | crowded q ↦ crowded q
          | planned ps ↦ elim k as (λ _. Planned) [ Lanes.full i ↦ crowded n | Lanes.laned ls c ↦ planned (ps ++ (record { groups = groups_on b ts n; lane_list = ls; count = c } ∷ [])) ]
        ] ≡ planned ps
        → ((qs : List PageLanes) → plan_upto b ts n ≡ planned qs → Counted n qs) → Counted (suc n) ps
    go (crowded q) is k f d ih = never cc
    go (planned qs) is (Lanes.full i) f d ih = never cc
    go (planned qs) is (Lanes.laned ls c) f d ih =
        let page : PageLanes = record { groups = groups_on b ts n; lane_list = ls; count = c } in
        let q : qs ++ (page ∷ []) ≡ ps = cc in
        let h = ih qs is in
        let few = (lanes_apart (map (demand_of b ts) (groups_on b ts n)) (rising b ts (groups_on b ts n)) ls c f).most in
        rw (← q) (omega (arith, h.0, length-append qs (page ∷ [])), counted_more qs page h.1 few)

pub planned_counts : (b : Board) (ps : List PageLanes) → plan_lanes b ≡ planned ps → (length ps ≡ length b.pages) × ((p : ℕ) → (get_or ps p no_lanes).count ≤ lane_most)
unfolding plan_lanes Counted
planned_counts b ps e = counted_upto b (taps_of b) (length b.pages) ps e

-- The board of the sections as the code cuts them.
abbrev pub cut_board : (pages nodes chips inner execs wires : List (List ℕ)) → Board
cut_board pages nodes chips inner execs wires = record { pages = pages; nodes = nodes; chips = chips; inner = inner; execs = execs; wires = wires }

module _ {b : Board} {pages nodes chips inner execs wires : List (List ℕ)} (k : SectionsCut b pages nodes chips inner execs wires) where
  cut_is : cut_board pages nodes chips inner execs wires ≡ b
  cut_is = λ w. record { pages = k.pages_cut w; nodes = k.nodes_cut w; chips = k.chips_cut w; inner = k.inner_cut w; execs = k.execs_cut w; wires = k.wires_cut w }

  module _ {facts taps groups : List (List ℕ)} (r : BoardPlan) (held : BoardPlanned (cut_board pages nodes chips inner execs wires) facts taps groups r) where
    own : BoardPlanned b facts taps groups r
    own = subst (λ (d : Board). BoardPlanned d facts taps groups r) cut_is held

    -- The count of taps is handed on where every page has its lanes.
    pub lanes_planned : {rows : List (List ℕ)} {c : Counts} → SectionsIn b rows → c ≡ counts_in b → (t : Result ℕ Refusal) → t ≡ result_and r.plan (Ok r.taps)
        → LanesPlanned b (plan_lanes b) rows facts taps groups (record { counts = c; taps = t })
    lanes_planned {rows} {c} s same t told = go r.plan own.plan_held told
      where
        go : (q : Result (Unit {0}) Refusal) → PlanHeld b groups facts q → t ≡ result_and q (Ok r.taps) → LanesPlanned b (plan_lanes b) rows facts taps groups (record { counts = c; taps = t })
        go (Err e) (p, is, place) told =
            rw is ((λ i. record { counts = same i; taps = (told ∙ ap Err place) i }), record { sections = s; nodes_known = own.nodes_known; wires_known = own.wires_known })
        go (Ok u) (ps, is, groups_known, pages_known) told =
            rw is (
              r.taps,
              (λ i. record { counts = same i; taps = told i }),
              record {
                sections = s;
                nodes_known = own.nodes_known;
                wires_known = own.wires_known;
                few = own.count;
                taps_are = own.taps_are;
                lanes_are = is;
                groups_known = groups_known;
                pages_known = pages_known;
              },
            )
