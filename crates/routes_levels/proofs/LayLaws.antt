-- Laying stops: one more stop keeps the ends and the runs, and is the definition's.
use Prim.Native.Nat.{ℕ, ◌+◌, ◌≤◌, ◌<◌}
use mathlib.Core.Path.{◌≡◌, refl, ap, sym, subst, ◌∙◌}
use mathlib.Core.Bool.{true, false}
use mathlib.Core.List.{List, [], ◌∷◌}
use native.Mathlib.Numerals.{add-one}
use native.Mathlib.Omega.{arith}
use lib.ListN.{length, get_or, set, replicate, length-replicate, get_or-replicate}
use Rattle.board.specs.Board.{Board, field}
use Rattle.board.specs.Groups.{Tap}
use Rattle.board.specs.Demands.{PageLanes}
use Rattle.base.specs.Views.{view}
use Rattle.board.specs.Tables.{tap_in}
use Rattle.base.proofs.Bools.{pick_true, pick_false}
use Rattle.base.proofs.Views.{view_more}
use Rattle.routes.specs.Stops.{new_row, stop_x}
use Rattle.routes.specs.Levels.{Level, Stop, kept_at, previous_stop, level_with_base, level_of, stop_for, stops_of, lane_for}
use Rattle.routes.specs.Tables.{stop_in}
use Rattle.routes.specs.Holding.{stop_level_of}
use Rattle.routes_levels.specs.Laying.{stop_answer, no_end, kept_end, Ends, StopIndex, WIRES_MOST}
use Rattle.board.specs.Index.{found_of}
use Rattle.routes_levels.specs.declared.laying.GroupEnd.{GroupEnd}
use Rattle.routes_levels.specs.Pages.{lane_key, claim_of, levels_on, claims_on, Grown, Runs, PageRuns, RoomFor, Onward, StopLaid}
use Rattle.routes_levels.proofs.PageLaws.{level_kept, claim_kept, none_later}
use Rattle.routes.specs.declared.levels.Level.{Level as LevelHeld}
use Rattle.routes.specs.declared.levels.Level.TheVariants.{Dropped, Shared, Own}

-- Every answer is that of a level.
answer_back : (a : LevelHeld) → a ≡ stop_answer (stop_level_of a)
answer_back Dropped = refl
answer_back (Shared l) = refl
answer_back (Own l) = refl

-- The stop of a tap in a lane, with its base and its level.
abbrev pub stop_with : Tap → ℕ → ℕ → Level → Stop
stop_with t lane base v = record { page = t.page; lane = lane; group = t.group; row = t.row; base = base; level = v }

module _ (stops : List (List ℕ)) (s : ℕ) (t : Tap) (lane base : ℕ) (a : LevelHeld) (row : List ℕ) (room : s < length stops)
    (row_is : (v : Level) → a ≡ stop_answer v → stop_in row ≡ stop_with t lane base v) where
  stop_seen : (v : Level) → a ≡ stop_answer v → view stop_in (set stops s row) (s + 1) ≡ stop_with t lane base v ∷ view stop_in stops s
  stop_seen v e =
      let more : view stop_in (set stops s row) (s + 1) ≡ stop_in row ∷ view stop_in stops s = rw (add-one s) (view_more stop_in stops s row room) in
      more ∙ ap (λ u. u ∷ view stop_in stops s) (row_is v e)

  -- The ends and the runs after the stop.
  pub laid_with : {ends ends' : List GroupEnd} {starts nexts xs nexts' xs' : List ℕ}
      → Ends ends (view stop_in stops s) → PageRuns t.page (view stop_in stops s) starts nexts xs
      → ((ss : List Stop) (u : Stop) → u.group ≡ t.group → u.base ≡ base → a ≡ stop_answer u.level → Ends ends ss → Ends ends' (u ∷ ss))
      → ((v : Level) (rows lanes rows' lanes' : ℕ → List ℕ) → a ≡ stop_answer v → Runs rows lanes starts nexts xs → Grown t.row (kept_at v) rows rows' → Grown lane (claim_of v) lanes lanes' → Runs rows' lanes' starts nexts' xs')
      → Onward t.row (lane_key lane) nexts nexts'
      → StopLaid t.page t.row lane (set stops s row) ends' starts nexts nexts' xs' (s + 1)
  laid_with {ends} {ends'} {starts} {nexts} {xs} {nexts'} {xs'} lasts held ends-are runs-are onward =
      let v : Level = stop_level_of a in
      let e = answer_back a in
      let u : Stop = stop_with t lane base v in
      let ss : List Stop = view stop_in stops s in
      let seen : u ∷ ss ≡ view stop_in (set stops s row) (s + 1) = sym (stop_seen v e) in
      let more : PageRuns t.page (u ∷ ss) starts nexts' xs' =
      record {
        runs = runs-are v (levels_on ss t.page) (claims_on ss t.page) (levels_on (u ∷ ss) t.page) (claims_on (u ∷ ss) t.page) e held.runs (level_kept u ss t.page refl) (claim_kept u ss t.page refl);
        later = none_later u ss t.page refl held.later;
      } in
      record {
        lasts = subst (Ends ends') seen (ends-are ss u refl refl e lasts);
        held = subst (λ l. PageRuns t.page l starts nexts' xs') seen more;
        onward = onward;
      }

  -- The stop is the definition's.
  pub stop_is : (b : Board) → base ≡ stop_x (previous_stop (view stop_in stops s) t.group) t.x
      → a ≡ stop_answer (level_of b (view stop_in stops s) lane base t)
      → view stop_in (set stops s row) (s + 1) ≡ stop_for b (view stop_in stops s) lane t ∷ view stop_in stops s
  unfolding stop_for
  stop_is b base-is e =
      let ss : List Stop = view stop_in stops s in
      stop_seen (level_of b ss lane base t) e ∙ (λ w. stop_with t lane (base-is w) (level_of b ss lane (base-is w) t) ∷ ss)

-- What the ends say of a tap's group.
module _ {n : ℕ} {stops : List (List ℕ)} {ends : List GroupEnd} {s : ℕ} (x : StopIndex n stops ends s)
    (t : Tap) (g : ℕ) (is : g ≡ t.group) (small : t.group < WIRES_MOST) where
  in_ends : t.group < length ends
  in_ends = let r = x.group_room in omega arith

  pub end_previous : (get_or ends g no_end).previous ≡ found_of (previous_stop (view stop_in stops s) t.group)
  end_previous = ap (λ h. (get_or ends h no_end).previous) is ∙ x.lasts.previous t.group in_ends

  pub end_kept : (base : ℕ) → level_with_base (view stop_in stops s) t.group base ≡ kept_end (get_or ends g no_end) base
  end_kept base = x.lasts.kept t.group base in_ends ∙ ap (λ h. kept_end (get_or ends h no_end) base) (sym is)

-- A group's lane, by the number of its row.
pub room_in_lane : (groups : List (List ℕ)) (row : ℕ) (starts nexts : List ℕ) (g : ℕ) {h : ℕ} → g ≡ h → RoomFor row (field groups h 4) starts nexts → RoomFor row (field groups g 4) starts nexts
room_in_lane groups row starts nexts g e r = subst (λ j. RoomFor row (field groups j 4) starts nexts) (sym e) r

pub stop_in_lane : (groups : List (List ℕ)) (g : ℕ) {h p row s : ℕ} {stops : List (List ℕ)} {ends : List GroupEnd} {starts nexts nexts' xs' : List ℕ} → g ≡ h
    → StopLaid p row (field groups g 4) stops ends starts nexts nexts' xs' s → StopLaid p row (field groups h 4) stops ends starts nexts nexts' xs' s
stop_in_lane groups g {h} {p} {row} {s} {stops} {ends} {starts} {nexts} {nexts'} {xs'} e x = subst (λ j. StopLaid p row (field groups j 4) stops ends starts nexts nexts' xs' s) e x

-- The stops of one more tap.
module _ (b : Board) (ps : List PageLanes) (laid : List (List ℕ)) (k : ℕ) where
  abbrev before : List Tap
  before = view tap_in laid k

  abbrev tap : Tap
  tap = tap_in (get_or laid k [])

  unrolled : stops_of b ps (view tap_in laid (k + 1)) ≡ elim (new_row before tap) [ true ↦ stop_for b (stops_of b ps before) (lane_for ps tap) tap ∷ stops_of b ps before | false ↦ stops_of b ps before ]
  unfolding stops_of
  unrolled = ap (λ i. stops_of b ps (view tap_in laid i)) (add-one k)

  pub stops_same : new_row before tap ≡ false → (ss : List Stop) → ss ≡ stops_of b ps before → ss ≡ stops_of b ps (view tap_in laid (k + 1))
  stops_same e ss h = h ∙ sym (unrolled ∙ pick_false (new_row before tap) _ _ e)

  pub stops_next : new_row before tap ≡ true → (ss ss' : List Stop) (lane : ℕ) → ss ≡ stops_of b ps before → lane ≡ lane_for ps tap
      → ss' ≡ stop_for b ss lane tap ∷ ss → ss' ≡ stops_of b ps (view tap_in laid (k + 1))
  stops_next e ss ss' lane h l n = n ∙ (λ w. stop_for b (h w) (l w) tap ∷ h w) ∙ sym (unrolled ∙ pick_true (new_row before tap) _ _ e)

-- No tap has no stop, and all taps have all.
pub no_stops : (b : Board) (ps : List PageLanes) → ◌≡◌ {A = List Stop} [] (stops_of b ps [])
unfolding stops_of
no_stops b ps = refl

pub stops_all : (b : Board) (ps : List PageLanes) (laid : List (List ℕ)) (n k : ℕ) (ss : List Stop) → k ≤ n → n ≤ k → ss ≡ stops_of b ps (view tap_in laid k) → ss ≡ stops_of b ps (view tap_in laid n)
stops_all b ps laid n k ss l m h = let e : k ≡ n = omega arith in h ∙ ap (λ i. stops_of b ps (view tap_in laid i)) e

-- The index of no stops.
pub no_index : (m n : ℕ) (stops : List (List ℕ)) → n ≤ length stops → WIRES_MOST ≤ m → StopIndex n stops (replicate m no_end) 0
no_index m n stops room groups =
    record {
      room = room;
      group_room = rw (length-replicate m no_end) groups;
      lasts =
          record {
            previous = λ g h. ap (λ e. e.previous) (none g h);
            kept = λ g base h. sym (ap (λ e. kept_end e base) (none g h));
          };
    }
  where
    none : (g : ℕ) → g < length (replicate m no_end) → get_or (replicate m no_end) g no_end ≡ no_end
    none g h = let l : g < m = rw (length-replicate m no_end) at h in get_or-replicate m g no_end no_end l
