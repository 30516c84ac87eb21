-- From tap to tap: what the next one is, and the stops that a walk has reached.
use Prim.Native.Nat.{ℕ, zero, suc, ◌≤◌, ◌<◌}
use mathlib.Core.Path.{◌≡◌, refl, ap, sym, subst, ◌∙◌}
use mathlib.Core.Bool.{Bool, true, false}
use mathlib.Core.List.{List, [], ◌∷◌}
use native.Mathlib.Omega.{arith}
use lib.Dec.{leb}
use borrow.Author.Tests.{leb-true, leb-false}
use lib.ListN.{length, get_or}
use Rattle.board.specs.Board.{Board}
use Rattle.board.specs.Groups
use Rattle.board.specs.Demands.{PageLanes}
use Rattle.base.specs.Views.{view}
use Rattle.board.specs.Tables.{tap_in}
use Rattle.base.proofs.Bools.{pick_true}
use Rattle.routes.specs.Stops.{new_row}
use Rattle.routes.specs.Levels.{Stop, stops_of, stop_for, lane_for}
use Rattle.routes.specs.Rerouters.{stops_before}
use Rattle.routes.specs.News.{begins_row, NewsOf}
use Rattle.routes.specs.declared.news.News.{News}
use Rattle.routes.specs.Tables.{stop_in}
use Rattle.routes_taps.specs.Taps.{LaneInRange, lane_read, tap_read, tap_of, Tables, TapOn, TapTarget, LaneOf, LaneRead, AtStop, ReachedNext, NextInRange, WentOn, rows_begun, LaidInRange}
use Rattle.routes_taps.specs.declared.taps.Lane.{Lane}
use Rattle.routes_taps.specs.declared.taps.Tap.{Tap}
use Rattle.routes_taps.specs.declared.taps.Reached.{Reached}
use Rattle.routes_taps.proofs.Lanes.{lane_read_told}

-- The lane of the tap that was read, and its target.
pub lane_read_next : (b : Board) (ts : List Groups.Tap) (ps : List PageLanes) (pages nodes wires facts groups : List (List ℕ)) (row : List ℕ) (t : Tap) (l : Lane)
    → Tables b ts ps pages nodes wires facts groups → TapOn b ts row → LaneInRange pages nodes wires facts groups (get_or row 0 0) (get_or row 1 0)
    → t ≡ tap_read row → l ≡ lane_read pages nodes wires facts groups t.page t.group → LaneRead b ts ps (tap_of t) l
lane_read_next b ts ps pages nodes wires facts groups row t l k on r et el =
    subst (λ (m : Lane). LaneRead b ts ps (tap_of t) m) (sym el)
    (subst (λ (u : Tap). LaneRead b ts ps (tap_of u) (lane_read pages nodes wires facts groups u.page u.group)) (sym et)
    (lane_read_told b ts ps pages nodes wires facts groups k (tap_in row) on.member r))

pub lane_next : (b : Board) (ts : List Groups.Tap) (ps : List PageLanes) (pages nodes wires facts groups : List (List ℕ)) (row : List ℕ) (t : Tap) (l : Lane)
    → Tables b ts ps pages nodes wires facts groups → TapOn b ts row → LaneInRange pages nodes wires facts groups (get_or row 0 0) (get_or row 1 0)
    → t ≡ tap_read row → l ≡ lane_read pages nodes wires facts groups t.page t.group → LaneOf b ts ps (tap_of t) l
lane_next b ts ps pages nodes wires facts groups row t l k on r et el =
    (lane_read_next b ts ps pages nodes wires facts groups row t l k on r et el).told

pub target_next : (b : Board) (ts : List Groups.Tap) (row : List ℕ) (t : Tap) → TapOn b ts row → t ≡ tap_read row → TapTarget b t
target_next b ts row t on et = subst (TapTarget b) (sym et) (record { node = on.node; port = on.port })

-- The stop that was reached.
pub went_on : (laid : List (List ℕ)) (k : ℕ) (stops : List (List ℕ)) (r r' : Reached) (news : News) → NewsOf (view tap_in laid k) (tap_in (get_or laid k [])) news → NextInRange laid k stops r → ReachedNext stops r (begins_row news) r'
    → WentOn laid k stops r r'
went_on laid k stops r r' news n range next =
    record {
      count = next.count ∙ (λ i. picked (n.row i));
      at_stop = next.newest range.at_stop (λ y. (range.next_stop (sym n.row ∙ y)).1);
    }
  where
    picked : Bool → ℕ
    picked fresh = elim fresh [ true ↦ suc r.stops | false ↦ r.stops ]

-- A row more is begun by each tap that begins one.
pub rows_grow : (laid : List (List ℕ)) (k n : ℕ) → k ≤ n → rows_begun (view tap_in laid k) ≤ rows_begun (view tap_in laid n)
rows_grow laid k zero h = let z : k ≡ 0 = omega arith in subst (λ (m : ℕ). rows_begun (view tap_in laid m) ≤ 0) (sym z) (omega arith)
rows_grow laid k (suc n) h = go (leb k n) refl (rows_grow laid k n)
  where
    step : (c : Bool) (m : ℕ) → m ≤ elim c as (λ _. ℕ) [ true ↦ suc m | false ↦ m ]
    step true m = omega arith
    step false m = omega arith

    go : (c : Bool) → leb k n ≡ c → (k ≤ n → rows_begun (view tap_in laid k) ≤ rows_begun (view tap_in laid n)) → rows_begun (view tap_in laid k) ≤ rows_begun (view tap_in laid (suc n))
    go true e rest =
        let below = rest (leb-true k n e) in
        let more = step (new_row (view tap_in laid n) (tap_in (get_or laid n []))) (rows_begun (view tap_in laid n)) in
        omega arith
    go false e rest = let above = leb-false k n e in let z : k ≡ suc n = omega arith in subst (λ (m : ℕ). rows_begun (view tap_in laid m) ≤ rows_begun (view tap_in laid (suc n))) (sym z) (omega arith)

-- The stop that the k-th tap reaches, where it begins a row, is there.
module _ (pages nodes wires facts groups laid : List (List ℕ)) (n : ℕ) (stops : List (List ℕ)) (claims : ℕ) (r : LaidInRange pages nodes wires facts groups laid n stops claims) (k : ℕ) (below : k < n) where
  next_there : new_row (view tap_in laid k) (tap_in (get_or laid k [])) ≡ true → rows_begun (view tap_in laid k) < claims
  next_there y =
      let more : rows_begun (view tap_in laid (suc k)) ≡ suc (rows_begun (view tap_in laid k)) = pick_true (new_row (view tap_in laid k) (tap_in (get_or laid k []))) _ _ y in
      let grow = rows_grow laid (suc k) n below in
      let all = r.a_stop_each in
      omega arith

  pub next_in_range : (reached : Reached) → reached.stops ≡ rows_begun (view tap_in laid k) → AtStop stops reached → NextInRange laid k stops reached
  next_in_range reached e here =
      record {
        on_laid = let h = r.on_laid in omega arith;
        tap_room = r.tap_room k below;
        tap_row = r.tap_row k below;
        at_stop = here;
        next_stop = λ y.
            let there : reached.stops < claims = let h = next_there y in omega arith in
            (let h = r.on_stops in omega arith, r.levels reached.stops there);
      }

-- The stops before the row of the k-th tap are those that were reached before it.
pub before_same : (stops : List (List ℕ)) (r : Reached) (fresh : Bool) (m : ℕ) → m ≡ elim fresh as (λ _. ℕ) [ true ↦ suc r.stops | false ↦ r.stops ] → stops_before fresh (view stop_in stops m) ≡ view stop_in stops r.stops
before_same stops r true m e = ap (λ j. stops_before true (view stop_in stops j)) e
before_same stops r false m e = ap (view stop_in stops) e

-- A stop for each row: what `a_stop_each` asks of the stops of the rules.
pub stops_count : (b : Board) (ps : List PageLanes) (l : List Groups.Tap) → length (stops_of b ps l) ≡ rows_begun l
unfolding stops_of
stops_count b ps [] = refl
stops_count b ps (t ∷ l) = go (new_row l t) (stops_count b ps l)
  where
    go : (c : Bool) → length (stops_of b ps l) ≡ rows_begun l
        → length {A = Stop} (elim c [ true ↦ stop_for b (stops_of b ps l) (lane_for ps t) t ∷ stops_of b ps l | false ↦ stops_of b ps l ]) ≡ elim c as (λ _. ℕ) [ true ↦ suc (rows_begun l) | false ↦ rows_begun l ]
    go true e = ap suc e
    go false e = e
