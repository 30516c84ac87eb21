-- What is read of a lane in the tables is what the rules say of it.
use Rattle.std.specs.Prelude.{Option, None, Some as Known}
use Rattle.std.specs.Option.{unwrap_or}
use Prim.Native.Nat.{ℕ, zero, ◌<◌, min}
use mathlib.Core.Path.{◌≡◌, refl, ap, sym, ◌∙◌}
use mathlib.Core.Bool.{Bool, true, false, not, ◌&&◌, ◌||◌}
use mathlib.Core.List.Memᴰ
use mathlib.Core.List.{List, [], ◌∷◌, map, Memᴰ}
use mathlib.Core.Logic.{◌⊎◌, ⊎_elim}
use native.Mathlib.Omega.{arith}
use lib.Dec.{eqb, ltb}
use lib.ListN.{length, get_or, get_or-eq_default}
use borrow.Author.Tests.{eq-eqb, ne_eqb, eqb-true, lt-ltb, le-ltb, ltb-true, ltb-false}
use Rattle.sheet.specs.Table.{MISSING}
use Rattle.base.specs.Lists.{Found, none, at, any, keep, least}
use Rattle.board.specs.Board.{Board, field, has_row, page_of, x_of, source_node}
use Rattle.board.specs.Index.{found_of}
use Rattle.board.specs.Rows.{row_of}
use Rattle.board.specs.Groups
use Rattle.board.specs.Groups.{anchor_of, source_anchor, source_row, taps_in}
use Rattle.board.specs.Demands.{PageLanes, no_lanes, lane_of, lane_in, lane_y}
use Rattle.board.specs.Tables.{held}
use Rattle.base.proofs.Bools.{never, pick_true, pick_false}
use Rattle.routes.specs.Levels.{lane_for}
use Rattle.routes.specs.Rerouters.{source, chain_rotation}
use Rattle.routes.specs.Holding.{turns_of}
use Rattle.routes.specs.declared.bus.Rotation.{Rotation}
use Rattle.routes.specs.declared.bus.Rotation.TheVariants.{Deg90, Deg270}
use Rattle.routes_taps.specs.Taps.{LaneOf, LaneRead, LaneRanges, LaneInRange, lane_read, rotation_over, row_on_page, Tables}

-- The least is over x exactly when all are.
ltb-min : (x a b : ℕ) → not (ltb x (min a b)) ≡ not (ltb x a) || not (ltb x b)
ltb-min x a b = go (ltb x a) (ltb x b) refl refl
  where
    go : (s t : Bool) → ltb x a ≡ s → ltb x b ≡ t → not (ltb x (min a b)) ≡ not s || not t
    go true true es et = let p = ltb-true x a es in let q = ltb-true x b et in ap not (lt-ltb x (min a b) (omega arith))
    go true false es et = let q = ltb-false x b et in ap not (le-ltb x (min a b) (omega arith))
    go false t es et = let p = ltb-false x a es in ap not (le-ltb x (min a b) (omega arith))

min_self : (d : ℕ) → min d d ≡ d
min_self d = omega arith

over_all : (x d : ℕ) (l : List Groups.Tap) → not (ltb x d) || any (λ u. not (ltb x u.x)) l ≡ not (ltb x (min d (least d (map (λ u. u.x) l))))
over_all x d [] = go (ltb x d) ∙ ap (λ v. not (ltb x v)) (sym (min_self d))
  where
    go : (t : Bool) → not t || false ≡ not t
    go true = refl
    go false = refl
over_all x d (u ∷ l) = ap (λ v. not (ltb x d) || v) (over_all x u.x l) ∙ sym (ltb-min x d (min u.x (least u.x (map (λ v. v.x) l))))

not-not : (t : Bool) → not (not t) ≡ t
not-not true = refl
not-not false = refl

-- There is a tap.
data Some : List Groups.Tap → Type 0 where
  some : {u : Groups.Tap} {l : List Groups.Tap} → Some (u ∷ l)

kept_some : (p : Groups.Tap → Bool) (t : Groups.Tap) (l : List Groups.Tap) → p t ≡ true → Memᴰ t l → Some (keep p l)
kept_some p t [] e m = elim m [ ]
kept_some p t (u ∷ l) e m = go (p u) refl (kept_some p t l e) (Memᴰ.cases_cons m)
  where
    go : (s : Bool) → p u ≡ s → (Memᴰ t l → Some (keep p l)) → (t ≡ u) ⊎ Memᴰ t l → Some (elim s [ true ↦ u ∷ keep p l | false ↦ keep p l ])
    go true eu rest m' = some
    go false eu rest m' = ⊎_elim (λ same. let z : false ≡ true = sym eu ∙ ap p (sym same) ∙ e in absurd (let o : ◌≡◌ {A = ℕ} 0 1 = cc in omega arith)) rest m'

over_least : (x : ℕ) (l : List Groups.Tap) → Some l → not (any (λ u. not (ltb x u.x)) l) ≡ ltb x (least 0 (map (λ u. u.x) l))
over_least x [] h = elim h [ ]
over_least x (u ∷ l) h = ap not (over_all x u.x l) ∙ not-not (ltb x (min u.x (least u.x (map (λ v. v.x) l))))

abbrev turned : Bool → Rotation
turned c = elim c [ true ↦ Deg270 | false ↦ Deg90 ]

turns : (c : Bool) → turns_of (turned c) ≡ elim c as (λ _. ℕ) [ true ↦ 3 | false ↦ 1 ]
turns true = refl
turns false = refl

-- A number held for an index that is there.
held_at : (f : Found) (v : ℕ) → v ≡ held f → v < MISSING → elim f as (λ _. ℕ) [ at s ↦ s | none ↦ zero ] ≡ v
held_at none v e h = absurd (omega arith)
held_at (at s) v e h = sym e

module _ (b : Board) (ts : List Groups.Tap) (ps : List PageLanes) (pages nodes wires facts groups : List (List ℕ)) (k : Tables b ts ps pages nodes wires facts groups) (t : Groups.Tap) (mem : Memᴰ t ts)
    (r : LaneInRange pages nodes wires facts groups t.page t.group) where
  anchor_is : source_anchor b t.group ≡ field facts t.group 2
  unfolding source_anchor
  anchor_is =
      let long : length b.wires ≡ length wires = ap length k.wires in
      let small = r.anchor in
      let few = r.nodes_few in
      held_at (anchor_of b (source_node b t.group)) (field facts t.group 2) (k.ends.sources t.group (let w = r.on_wires in omega arith)) (omega arith)

  lane_is : lane_for ps t ≡ field groups t.group 4
  lane_is = held_at (lane_of ps t.page t.group) (field groups t.group 4) (k.groups.lanes t mem) r.lane_small

  count_is : field facts t.page 6 ≡ (get_or ps t.page no_lanes).count
  count_is = go (ltb t.page (length ps)) refl
    where
      go : (c : Bool) → ltb t.page (length ps) ≡ c → field facts t.page 6 ≡ (get_or ps t.page no_lanes).count
      go true e = k.page_facts t.page (ltb-true t.page (length ps) e)
      go false e =
          let gone : lane_of ps t.page t.group ≡ none = ap (λ q. lane_in q.groups q.lane_list t.group) (get_or-eq_default ps no_lanes (ltb-false t.page (length ps) e)) in
          let z : field groups t.group 4 ≡ MISSING = k.groups.lanes t mem ∙ ap held gone in
          let small = r.lane_small in absurd (omega arith)

  rotation_is : turns_of (rotation_over (field nodes (field facts t.group 2) 8) (field groups t.group 5)) ≡ chain_rotation b ts ps t
  unfolding chain_rotation taps_in
  rotation_is =
      let x : ℕ = x_of b (source b ts ps t) in
      let ex : field nodes (field facts t.group 2) 8 ≡ x = λ i. field (sym k.nodes i) (sym anchor_is i) 8 in
      let low : field groups t.group 5 ≡ least 0 (map (λ u. u.x) (keep (λ u. eqb u.group t.group) ts)) = k.groups.lows t mem in
      (λ i. turns_of (rotation_over (ex i) (low i)))
      ∙ turns _
      ∙ ap (λ c. elim (not (eqb x MISSING) && c) as (λ _. ℕ) [ true ↦ 3 | false ↦ 1 ])
      (sym (over_least x (keep (λ u. eqb u.group t.group) ts) (kept_some (λ u. eqb u.group t.group) t ts (eq-eqb t.group t.group refl) mem)))

  row_is : row_on_page nodes facts (field facts t.group 2) t.page ≡ found_of (source_row b t.group t.page)
  unfolding source_row
  row_is = go (eqb (page_of b (source_anchor b t.group)) t.page) refl
    where
      on_page : field nodes (field facts t.group 2) 10 ≡ page_of b (source_anchor b t.group)
      on_page = λ i. field (sym k.nodes i) (sym anchor_is i) 10

      row : Bool → Bool → Found
      row has here = elim (has && here) [ true ↦ at (row_of b (source_anchor b t.group)) | false ↦ none ]

      go : (c : Bool) → eqb (page_of b (source_anchor b t.group)) t.page ≡ c
          → row_on_page nodes facts (field facts t.group 2) t.page ≡ found_of (row (has_row b (source_anchor b t.group)) c)
      go true e =
          let here : field nodes (field facts t.group 2) 10 ≡ t.page = on_page ∙ eqb-true _ t.page e in
          let small = r.page_small in
          let has : has_row b (source_anchor b t.group) ≡ true = ap not (ne_eqb _ MISSING (λ z. let q : t.page ≡ MISSING = sym (eqb-true (page_of b (source_anchor b t.group)) t.page e) ∙ z in omega arith)) in
          let long : length b.nodes ≡ length nodes = ap length k.nodes in
          let inside : source_anchor b t.group < length b.nodes = let a = anchor_is in let q = r.anchor in omega arith in
          let known : field facts (field facts t.group 2) 0 ≡ row_of b (source_anchor b t.group) = ap (λ v. field facts v 0) (sym anchor_is) ∙ k.facts.rows (source_anchor b t.group) inside has in
          pick_true (eqb (field nodes (field facts t.group 2) 10) t.page) _ _ (eq-eqb _ t.page here) ∙ ap Known known ∙ ap (λ c. found_of (row c true)) (sym has)
      go false e = pick_false (eqb (field nodes (field facts t.group 2) 10) t.page) _ _ (ap (λ v. eqb v t.page) on_page ∙ e) ∙ away (has_row b (source_anchor b t.group))
        where
          away : (c : Bool) → None ≡ found_of (row c false)
          away true = refl
          away false = refl

  row_low : (row : ℕ) → row_on_page nodes facts (field facts t.group 2) t.page ≡ Known row → row < MISSING
  row_low row = go (eqb (field nodes (field facts t.group 2) 10) t.page) refl
    where
      go : (c : Bool) → eqb (field nodes (field facts t.group 2) 10) t.page ≡ c → elim c as (λ _. Option ℕ) [ true ↦ Known (field facts (field facts t.group 2) 0) | false ↦ None ] ≡ Known row → row < MISSING
      go true e h =
          let small = r.row_small (eqb-true _ t.page e) in
          let same : field facts (field facts t.group 2) 0 ≡ row = ap (λ (o : Option ℕ). unwrap_or o 0) h in omega arith
      go false e h = never cc

  pub lane_of_lem : LaneOf b ts ps t (lane_read pages nodes wires facts groups t.page t.group)
  lane_of_lem =
      record {
        page = refl;
        lane = sym lane_is;
        y = λ i. lane_y (field (sym k.pages i) t.page 1) (count_is i) (sym lane_is i);
        z = λ i. field (sym k.pages i) t.page 2;
        colour = λ i. field (sym k.nodes i) (sym anchor_is i) 1;
        rotation = rotation_is;
        node = λ i. field (sym k.wires i) t.group 1;
        port = λ i. field (sym k.wires i) t.group 2;
        source_x = λ i. field (sym k.nodes i) (sym anchor_is i) 8;
        source_y = λ i. field (sym k.nodes i) (sym anchor_is i) 9;
        row = row_is;
      }

  -- The same, with what is known of its row.
  pub lane_read_told : LaneRead b ts ps t (lane_read pages nodes wires facts groups t.page t.group)
  lane_read_told = record { told = lane_of_lem; row_small = row_low }

pub lane_ranges : (pages nodes wires facts groups : List (List ℕ)) (page group : ℕ) → LaneInRange pages nodes wires facts groups page group → LaneRanges (lane_read pages nodes wires facts groups page group)
lane_ranges pages nodes wires facts groups page group r =
    record { page = λ z. let h = r.page_small in omega arith; lane = λ z. let h = r.lane_small in omega arith; source_y = r.source_room }
