-- The list of hits, written one by one.
use Prim.Native.Nat.{ℕ, zero, suc, ◌+◌, ◌-◌, ◌*◌, ◌/◌, ◌≤◌, ◌<◌}
use native.Mathlib.Omega.{arith}
use native.Mathlib.Numerals.{add-one}
use mathlib.Core.Path.{◌≡◌, refl, sym, ap, ◌∙◌}
use mathlib.Core.Bool.{Bool, true, false}
use mathlib.Core.List.{List, [], ◌∷◌, ◌++◌, map, reverse}
use lib.ListN.{length, get_or, take, drop, length-append}
use lib.Seq.{length-take-le, take_all}
use Rattle.std.proofs.lemmas.List.{get_or_default}
use Rattle.base.specs.Lists.{keep}
use Rattle.base.specs.Views.{view}
use Rattle.base.proofs.Lists.{keep_yes, keep_no, count_le}
use Rattle.base.proofs.Views.{length-view, view-take}
use Rattle.sheet.specs.Written.{Wrote, written}
use Rattle.sheet.proofs.Writing.{wrote_more}
use Rattle.routes.specs.Bus.{Rerouter, BusWire}
use Rattle.routes.specs.Buffers.{rerouter_in, wire_in}
use Rattle.routes.specs.PlanSheet.{numbered}
use Rattle.routes_plan_sheet.proofs.Lines.{numbered_more}
use Rattle.routes_hits.specs.declared.boxes.PageBox.{PageBox}
use Rattle.routes_hits.specs.Hits.{is_under, wire_under, rerouter_hit, rerouters_hit, wire_hit, wires_hit, hits, rerouters_under, wires_under}
use Rattle.routes_hits.specs.Listing.{Listed}
use Rattle.routes_hits.proofs.Picking.{picked, listed, count, count_yes, count_no}

-- A run behind a run, where the second one ends inside.
pub wrote_on : (old mid new : List ℕ) (at m n : ℕ) (xs ys : List ℕ) → n ≤ length old → Wrote old at xs mid m → Wrote mid m ys new n → Wrote old at (xs ++ ys) new n
wrote_on old mid new at m n xs ys room first second = wrote_more old mid new at m n xs ys (omega (arith, first.place, second.place)) first second

-- A rerouter that is hit, and one that is not.
pub hit_yes : (q : PageBox) (n : ℕ) (k : Rerouter) → is_under q k ≡ true → rerouter_hit q n k ≡ n ∷ k.part ∷ k.lane ∷ []
hit_yes q n k h = rw (h, rerouter_hit)

pub hit_no : (q : PageBox) (n : ℕ) (k : Rerouter) → is_under q k ≡ false → rerouter_hit q n k ≡ []
hit_no q n k h = rw (h, rerouter_hit)

pub wire_yes : (q : PageBox) (ks : List Rerouter) (n : ℕ) (w : BusWire) → wire_under q ks w ≡ true → wire_hit q ks n w ≡ n ∷ []
wire_yes q ks n w h = rw (h, wire_hit)

pub wire_no : (q : PageBox) (ks : List Rerouter) (n : ℕ) (w : BusWire) → wire_under q ks w ≡ false → wire_hit q ks n w ≡ []
wire_no q ks n w h = rw (h, wire_hit)

-- One row more.
rerouters_more : (q : PageBox) (s : List (List ℕ)) (i : ℕ)
    → rerouters_hit q (view rerouter_in s (suc i)) ≡ rerouters_hit q (view rerouter_in s i) ++ rerouter_hit q i (rerouter_in (get_or s i []))
unfolding rerouters_hit
rerouters_more q s i = ap (λ n. rerouters_hit q (view rerouter_in s i) ++ rerouter_hit q n (rerouter_in (get_or s i []))) (length-view rerouter_in s i)

wires_more : (q : PageBox) (ks : List Rerouter) (s : List (List ℕ)) (i : ℕ)
    → wires_hit q ks (view wire_in s (suc i)) ≡ wires_hit q ks (view wire_in s i) ++ wire_hit q ks i (wire_in (get_or s i []))
unfolding wires_hit
wires_more q ks s i = ap (λ n. wires_hit q ks (view wire_in s i) ++ wire_hit q ks n (wire_in (get_or s i []))) (length-view wire_in s i)

-- The lists by the rows: what is said of each, one behind the other.
pub rerouters_said : (q : PageBox) (s : List (List ℕ)) (n : ℕ) → n ≤ length s → rerouters_hit q (view rerouter_in s n) ≡ numbered (λ m row. rerouter_hit q m (rerouter_in row)) 0 (take n s)
unfolding rerouters_hit numbered
rerouters_said q s zero h = refl
rerouters_said q s (suc n) h =
    rerouters_more q s n
    ∙ (ap (λ l. l ++ rerouter_hit q n (rerouter_in (get_or s n []))) (rerouters_said q s n (omega arith))
    ∙ (sym (numbered_more (λ m row. rerouter_hit q m (rerouter_in row)) s n (get_or s n []) (omega arith) (get_or_default s n [] (get_or s n []) (omega arith)))
    ∙ ap (λ k. numbered (λ m row. rerouter_hit q m (rerouter_in row)) 0 (take k s)) (add-one n)))

pub wires_said : (q : PageBox) (ks : List Rerouter) (s : List (List ℕ)) (n : ℕ) → n ≤ length s → wires_hit q ks (view wire_in s n) ≡ numbered (λ m row. wire_hit q ks m (wire_in row)) 0 (take n s)
unfolding wires_hit numbered
wires_said q ks s zero h = refl
wires_said q ks s (suc n) h =
    wires_more q ks s n
    ∙ (ap (λ l. l ++ wire_hit q ks n (wire_in (get_or s n []))) (wires_said q ks s n (omega arith))
    ∙ (sym (numbered_more (λ m row. wire_hit q ks m (wire_in row)) s n (get_or s n []) (omega arith) (get_or_default s n [] (get_or s n []) (omega arith)))
    ∙ ap (λ k. numbered (λ m row. wire_hit q ks m (wire_in row)) 0 (take k s)) (add-one n)))

-- One row more, written.
module _ {A : Type 0} (said : ℕ → A → List ℕ) (old mid new : List ℕ) (at next r n : ℕ) (rows : List A) (row : A) where
  pub said_step : n < length rows → row ≡ get_or rows n row → r ≤ length old
      → Wrote old at (numbered said 0 (take n rows)) mid next → Wrote mid next (said n row) new r → Wrote old at (numbered said 0 (take (n + 1) rows)) new r
  said_step h is room first second = rw (numbered_more said rows n row h is) (wrote_on old mid new at next r (numbered said 0 (take n rows)) (said n row) room first second)

-- The first rows of a table, read as a list.
pub view_front : {A : Type 0} (read : List ℕ → A) (s : List (List ℕ)) (n : ℕ) → n ≤ length s → view read (take n s) (length (take n s)) ≡ view read s n
view_front read s n h =
    let long : length (take n s) ≡ n = length-take-le n s h in
    view-take read (take n s) (length (take n s)) (omega arith) ∙ (ap (λ l. reverse (map read l)) (take_all (length (take n s)) (take n s) (omega arith)) ∙ sym (view-take read s n h))

-- The lists are as long as their counts say.
pub rerouters_length : (q : PageBox) (ks : List Rerouter) → length (rerouters_hit q ks) ≡ 3 * rerouters_under q ks
unfolding rerouters_hit rerouters_under
rerouters_length q [] = refl
rerouters_length q (k ∷ l) = go (is_under q k) refl (rerouters_length q l)
  where
    go : (t : Bool) → is_under q k ≡ t → length (rerouters_hit q l) ≡ 3 * length (keep (is_under q) l)
        → length (rerouters_hit q l ++ rerouter_hit q (length l) k) ≡ 3 * length (keep (is_under q) (k ∷ l))
    go true e ih = rw (hit_yes q (length l) k e, keep_yes (is_under q) k l e, length-append) (omega (arith, ih))
    go false e ih = rw (hit_no q (length l) k e, keep_no (is_under q) k l e, length-append) (omega (arith, ih))

pub wires_length : (q : PageBox) (ks : List Rerouter) (ws : List BusWire) → length (wires_hit q ks ws) ≡ wires_under q ks ws
unfolding wires_hit wires_under
wires_length q ks [] = refl
wires_length q ks (w ∷ l) = go (wire_under q ks w) refl (wires_length q ks l)
  where
    go : (t : Bool) → wire_under q ks w ≡ t → length (wires_hit q ks l) ≡ length (keep (wire_under q ks) l)
        → length (wires_hit q ks l ++ wire_hit q ks (length l) w) ≡ length (keep (wire_under q ks) (w ∷ l))
    go true e ih = rw (wire_yes q ks (length l) w e, keep_yes (wire_under q ks) w l e, length-append) (omega (arith, ih))
    go false e ih = rw (wire_no q ks (length l) w e, keep_no (wire_under q ks) w l e, length-append) (omega (arith, ih))

-- No more are hit than there are.
pub under_few : (q : PageBox) (ks : List Rerouter) → rerouters_under q ks ≤ length ks
unfolding rerouters_under
under_few q ks = count_le (is_under q) ks

pub wires_few_lem : (q : PageBox) (ks : List Rerouter) (ws : List BusWire) → wires_under q ks ws ≤ length ws
unfolding wires_under
wires_few_lem q ks ws = count_le (wire_under q ks) ws

-- Both runs together, and the counts by where they end.
pub hits_listed : (q : PageBox) (ks : List Rerouter) (ws : List BusWire) (old mid new : List ℕ) (m n : ℕ) → n ≤ length old → Wrote old 0 (rerouters_hit q ks) mid m → Wrote mid m (wires_hit q ks ws) new n
    → Listed q ks ws old new (record { rerouters = m / 3; wires = n - m })
unfolding hits written
hits_listed q ks ws old mid new m n room first second =
    let all = wrote_on old mid new 0 m n (rerouters_hit q ks) (wires_hit q ks ws) room first second in
    let list : List ℕ = rerouters_hit q ks ++ wires_hit q ks ws in
    let front : 0 + length list ≡ length list = omega arith in
    record {
      list = all.buffer ∙ ap (λ k. list ++ drop k old) front;
      rerouters = omega (arith, first.place, rerouters_length q ks);
      wires = omega (arith, second.place, wires_length q ks ws);
    }

-- The lists by the rows of the buffers: of the numbers below n those that pass the test.
module _ (q : PageBox) (s : List (List ℕ)) where
  abbrev pub under_at : ℕ → Bool
  under_at m = is_under q (rerouter_in (get_or s m []))

  abbrev pub said_at : ℕ → List ℕ
  said_at m = m ∷ (rerouter_in (get_or s m [])).part ∷ (rerouter_in (get_or s m [])).lane ∷ []

  pub rerouters_picked : (n : ℕ) → rerouters_hit q (view rerouter_in s n) ≡ listed under_at said_at n
  unfolding rerouters_hit listed
  rerouters_picked zero = refl
  rerouters_picked (suc n) = rerouters_more q s n ∙ ap (λ l. l ++ picked under_at said_at n) (rerouters_picked n)

  pub rerouters_counted : (n : ℕ) → rerouters_under q (view rerouter_in s n) ≡ count under_at said_at n
  unfolding rerouters_under count
  rerouters_counted zero = refl
  rerouters_counted (suc n) = go (under_at n) refl (rerouters_counted n)
    where
      go : (t : Bool) → under_at n ≡ t → length (keep (is_under q) (view rerouter_in s n)) ≡ count under_at said_at n
          → length (keep (is_under q) (view rerouter_in s (suc n))) ≡ count under_at said_at (suc n)
      go true e ih = rw (keep_yes (is_under q) (rerouter_in (get_or s n [])) (view rerouter_in s n) e, count_yes under_at said_at n e) (ap suc ih)
      go false e ih = rw (keep_no (is_under q) (rerouter_in (get_or s n [])) (view rerouter_in s n) e, count_no under_at said_at n e) ih

module _ (q : PageBox) (ks : List Rerouter) (s : List (List ℕ)) where
  abbrev pub wire_under_at : ℕ → Bool
  wire_under_at m = wire_under q ks (wire_in (get_or s m []))

  abbrev pub number_at : ℕ → List ℕ
  number_at m = m ∷ []

  pub wires_picked : (n : ℕ) → wires_hit q ks (view wire_in s n) ≡ listed wire_under_at number_at n
  unfolding wires_hit listed
  wires_picked zero = refl
  wires_picked (suc n) = wires_more q ks s n ∙ ap (λ l. l ++ picked wire_under_at number_at n) (wires_picked n)

  pub wires_counted : (n : ℕ) → wires_under q ks (view wire_in s n) ≡ count wire_under_at number_at n
  unfolding wires_under count
  wires_counted zero = refl
  wires_counted (suc n) = go (wire_under_at n) refl (wires_counted n)
    where
      go : (t : Bool) → wire_under_at n ≡ t → length (keep (wire_under q ks) (view wire_in s n)) ≡ count wire_under_at number_at n
          → length (keep (wire_under q ks) (view wire_in s (suc n))) ≡ count wire_under_at number_at (suc n)
      go true e ih = rw (keep_yes (wire_under q ks) (wire_in (get_or s n [])) (view wire_in s n) e, count_yes wire_under_at number_at n e) (ap suc ih)
      go false e ih = rw (keep_no (wire_under q ks) (wire_in (get_or s n [])) (view wire_in s n) e, count_no wire_under_at number_at n e) ih
