-- The lists are exact: each hit stands there once, in order, and nothing else does.
use Prim.Native.Nat.{ℕ, ◌+◌, ◌*◌, ◌<◌}
use native.Mathlib.Omega.{arith}
use mathlib.Core.Path.{◌≡◌, refl, sym, ap, ◌∙◌}
use mathlib.Core.Bool.{Bool, true}
use mathlib.Core.List.{List, ◌++◌}
use lib.ListN.{length, get_or}
use lib.Seq.{get_or-append-add}
use Rattle.base.specs.Views.{view}
use Rattle.routes.specs.Bus.{Rerouter}
use Rattle.routes.specs.Buffers.{rerouter_in, wire_in}
use Rattle.routes_hits.specs.declared.boxes.PageBox.{PageBox}
use Rattle.routes_hits.specs.Hits.{rerouters_hit, wires_hit, rerouters_under, wires_under}
use Rattle.routes_hits.specs.Promise.{ReroutersListed, WiresListed}
use Rattle.routes_hits.proofs.Picking.{listed, count, at_place, count_past, earlier, entry_in}
use Rattle.routes_hits.proofs.Listing.{rerouters_length, wires_length, under_at, said_at, rerouters_picked, rerouters_counted, wire_under_at, number_at, wires_picked, wires_counted}

module _ (q : PageBox) (s : List (List ℕ)) (n : ℕ) (rest : List ℕ) where
  abbrev test : ℕ → Bool
  test = under_at q s

  abbrev said : ℕ → List ℕ
  said = said_at q s

  three_each : (m : ℕ) → length (listed test said m) ≡ 3 * count test said m
  three_each m = ap (λ (l : List ℕ). length l) (sym (rerouters_picked q s m)) ∙ (rerouters_length q (view rerouter_in s m) ∙ ap (λ k. 3 * k) (rerouters_counted q s m))

  -- The i-th of the list, by its number.
  at_three : (m i j : ℕ) → m < n → test m ≡ true → count test said m ≡ i → j < 3 → get_or (listed test said n ++ rest) (3 * i + j) 0 ≡ get_or (said m) j 0
  at_three m i j h t e l =
      let place : 3 * i + j ≡ length (listed test said m) + j = omega (arith, three_each m, e) in
      ap (λ k. get_or (listed test said n ++ rest) k 0) place ∙ entry_in test said n rest m j h t l

  first_three : (m i : ℕ) → m < n → test m ≡ true → count test said m ≡ i → get_or (listed test said n ++ rest) (3 * i) 0 ≡ m
  first_three m i h t e =
      let place : 3 * i ≡ 3 * i + 0 = omega arith in
      ap (λ k. get_or (listed test said n ++ rest) k 0) place ∙ at_three m i 0 h t e (omega arith)

  rerouters_exact : ReroutersListed q s n (listed test said n ++ rest) (count test said n)
  rerouters_exact =
      record {
        hit = λ i h. let p = at_place test said n i h in rw (first_three p.0 i p.1 p.2 p.3) (p.1, p.2);
        part = λ i h. let p = at_place test said n i h in rw (first_three p.0 i p.1 p.2 p.3) (at_three p.0 i 1 p.1 p.2 p.3 (omega arith));
        lane = λ i h. let p = at_place test said n i h in rw (first_three p.0 i p.1 p.2 p.3) (at_three p.0 i 2 p.1 p.2 p.3 (omega arith));
        all = λ m h t. (count test said m, count_past test said n m h t, first_three m (count test said m) h t refl);
        rising = λ i j l h.
            let p = at_place test said n i (omega arith) in
            let r = at_place test said n j h in
            rw (first_three p.0 i p.1 p.2 p.3, first_three r.0 j r.1 r.2 r.3) (earlier test said p.0 r.0 (omega (arith, p.3, r.3)));
      }

-- The rerouters hit stand in front.
pub rerouters_listed_lem : (q : PageBox) (s : List (List ℕ)) (n : ℕ) (rest : List ℕ)
    → ReroutersListed q s n (rerouters_hit q (view rerouter_in s n) ++ rest) (rerouters_under q (view rerouter_in s n))
rerouters_listed_lem q s n rest = rw (rerouters_picked q s n, rerouters_counted q s n) (rerouters_exact q s n rest)

module _ (q : PageBox) (ks : List Rerouter) (s : List (List ℕ)) (n : ℕ) (front rest : List ℕ) where
  abbrev wire_test : ℕ → Bool
  wire_test = wire_under_at q ks s

  abbrev number : ℕ → List ℕ
  number = number_at q ks s

  one_each : (m : ℕ) → length (listed wire_test number m) ≡ count wire_test number m
  one_each m = ap (λ (l : List ℕ). length l) (sym (wires_picked q ks s m)) ∙ (wires_length q ks (view wire_in s m) ∙ wires_counted q ks s m)

  at_one : (h m i : ℕ) → length front ≡ 3 * h → m < n → wire_test m ≡ true → count wire_test number m ≡ i
      → get_or (front ++ (listed wire_test number n ++ rest)) (3 * h + i) 0 ≡ m
  at_one h m i f l t e =
      let place : 3 * h + i ≡ length front + (length (listed wire_test number m) + 0) = omega (arith, one_each m, e, f) in
      ap (λ k. get_or (front ++ (listed wire_test number n ++ rest)) k 0) place
      ∙ (get_or-append-add front (listed wire_test number n ++ rest) (length (listed wire_test number m) + 0) 0 ∙ entry_in wire_test number n rest m 0 l t (omega arith))

-- The bus wires hit stand behind them.
pub wires_listed_lem : (q : PageBox) (rerouters : List (List ℕ)) (m : ℕ) (s : List (List ℕ)) (n : ℕ) (front rest : List ℕ) (h : ℕ) → length front ≡ 3 * h
    → WiresListed q rerouters m s n (front ++ (wires_hit q (view rerouter_in rerouters m) (view wire_in s n) ++ rest)) h (wires_under q (view rerouter_in rerouters m) (view wire_in s n))
wires_listed_lem q rerouters m s n front rest h f =
    let ks : List Rerouter = view rerouter_in rerouters m in
    let at = at_one q ks s n front rest h in
    rw (wires_picked q ks s n, wires_counted q ks s n)
    (record {
      hit = λ i l. let p = at_place (wire_under_at q ks s) (number_at q ks s) n i l in rw (at p.0 i f p.1 p.2 p.3) (p.1, p.2);
      all = λ w l t. (count (wire_under_at q ks s) (number_at q ks s) w, count_past (wire_under_at q ks s) (number_at q ks s) n w l t, at w (count (wire_under_at q ks s) (number_at q ks s) w) f l t refl);
      rising = λ i j k l.
          let p = at_place (wire_under_at q ks s) (number_at q ks s) n i (omega arith) in
          let r = at_place (wire_under_at q ks s) (number_at q ks s) n j l in
          rw (at p.0 i f p.1 p.2 p.3, at r.0 j f r.1 r.2 r.3) (earlier (wire_under_at q ks s) (number_at q ks s) p.0 r.0 (omega (arith, p.3, r.3)));
    })
