-- Laying page by page: what holds of all taps holds of the first ones, room for a page's next stop, and the next page.
use Prim.Native.Nat.{ℕ, zero, suc, ◌+◌, ◌-◌, ◌≤◌, ◌<◌}
use mathlib.Core.Path.{◌≡◌, refl, ap, sym, subst}
use mathlib.Core.List.{List}
use native.Mathlib.Omega.{arith}
use lib.ListN.{length, get_or, replicate}
use Rattle.base.specs.Views.{view}
use Rattle.board.specs.Board.{Board, field}
use Rattle.board.specs.Demands.{PageLanes}
use Rattle.routes.specs.Levels.{Stop}
use Rattle.routes.specs.Tables.{stop_in}
use Rattle.routes_levels.specs.declared.laying.GroupEnd.{GroupEnd}
use Rattle.routes_levels.specs.Laying.{Ends, StopIndex, PlacesFit, LaidFacts}
use Rattle.routes_levels.specs.Pages.{lane_key, NoneFrom, PageRuns, RoomFor, Onward, Wide, Used, OnePage}
use Rattle.routes_levels.proofs.PageLaws.{none_above}
use Rattle.routes_levels.proofs.ShareLaws.{room_for, used_next}

-- Of fewer taps.
module _ {m n : ℕ} (h : m ≤ n) where
  pub facts_fewer : {b : Board} {ps : List PageLanes} {facts groups laid : List (List ℕ)} → LaidFacts b ps facts groups laid n → LaidFacts b ps facts groups laid m
  facts_fewer f = record { lanes = λ k l. f.lanes k (omega arith); tops = λ k l. f.tops k (omega arith) }

-- The index of tables that are as long as before.
pub index_kept : {n : ℕ} {stops stops' : List (List ℕ)} {ends ends' : List GroupEnd} {s s' : ℕ} → StopIndex n stops ends s → length stops' ≡ length stops → length ends' ≡ length ends
    → Ends ends' (view stop_in stops' s') → StopIndex n stops' ends' s'
index_kept x l k e = record { room = omega (arith, x.room, l); group_room = omega (arith, x.group_room, k); lasts = e }

pub page_same : {p q : ℕ} {ss : List Stop} {starts nexts xs : List ℕ} → p ≡ q → PageRuns p ss starts nexts xs → PageRuns q ss starts nexts xs
page_same {p} {q} {ss} {starts} {nexts} {xs} e x = subst (λ i. PageRuns i ss starts nexts xs) e x

-- The k-th tap, of those from the a-th up to the e-th.
module _ (groups laid : List (List ℕ)) (a k : ℕ) (starts nexts : List ℕ) (h : a ≤ k) where
  abbrev row : ℕ → ℕ
  row j = field laid j 2

  abbrev lane : ℕ → ℕ
  lane j = field groups (field laid j 1) 4

  here : a + (k - a) ≡ k
  here = omega arith

  pub page_room_lem : (e : ℕ) → k < e → PlacesFit groups laid e → Wide groups laid a (e - a) starts → Used groups laid a (k - a) starts nexts → RoomFor (field laid k 2) (field groups (field laid k 1) 4) starts nexts
  page_room_lem e l f w u =
      subst (λ j. RoomFor (row j) (lane j) starts nexts) here
      (room_for groups laid a (e - a) (k - a) (lane (a + (k - a))) starts nexts (omega arith) (f.row (a + (k - a)) (omega arith)) (f.lane (a + (k - a)) (omega arith)) refl w u)

  pub page_used : (nexts' : List ℕ) → Used groups laid a (k - a) starts nexts → Onward (field laid k 2) (lane_key (field groups (field laid k 1) 4)) nexts nexts' → Used groups laid a (k + 1 - a) starts nexts'
  page_used nexts' u o =
      let n : suc (k - a) ≡ k + 1 - a = omega arith in
      let o' : Onward (row (a + (k - a))) (lane_key (lane (a + (k - a)))) nexts nexts' = subst (λ j. Onward (row j) (lane_key (lane j)) nexts nexts') (sym here) o in
      subst (λ i. Used groups laid a i starts nexts') n (used_next groups laid a (k - a) (lane (a + (k - a))) starts nexts nexts' refl u o')

-- The page that comes next is a later one.
pub next_page : (groups laid : List (List ℕ)) (n a e : ℕ) (ss : List Stop) → PlacesFit groups laid n → OnePage laid a e → a < e → e < n → (field laid e 0 ≡ field laid a 0 → ⊥)
    → NoneFrom (suc (field laid a 0)) ss → NoneFrom (field laid e 0) ss
next_page groups laid n a e ss f o h l d x =
    let z : suc (e - 1) ≡ e = omega arith in
    let same = o.same (e - 1) (omega arith) (omega arith) in
    let rise = f.pages (e - 1) (omega arith) in
    let on = ap (λ j. field laid j 0) z in
    none_above (suc (field laid a 0)) (field laid e 0) ss (omega (arith, d)) x

pub zero_all : (n k : ℕ) → ◌≡◌ {A = ℕ} (get_or (replicate n 0) k 0) 0
zero_all zero k = refl
zero_all (suc n) zero = refl
zero_all (suc n) (suc k) = zero_all n k
