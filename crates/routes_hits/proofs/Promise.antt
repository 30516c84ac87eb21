-- What a user of `find_hits` may rely on, from its promise alone.
use Prim.Native.Nat.{ℕ, ◌*◌}
use native.Mathlib.Omega.{arith}
use mathlib.Core.Path.{◌≡◌, refl, sym, ap, ◌∙◌, subst}
use mathlib.Core.Bool.{Bool, true, false, ◌&&◌}
use mathlib.Core.List.{List, ◌++◌, append_assoc}
use lib.Dec.{leb}
use lib.ListN.{length, drop}
use borrow.Author.Tests.{leb-true}
use Rattle.base.specs.Views.{view}
use Rattle.base.proofs.Bools.{never, and_left, and_right}
use Rattle.std.proofs.Common.{Result, Ok, Err}
use Rattle.base.specs.declared.refusal.Reason.TheVariants.{BadBox}
use Rattle.base.specs.declared.refusal.Refusal.{Refusal}
use Rattle.base.specs.Refusal.{refusal}
use Rattle.sheet.specs.Table.{library_most}
use Rattle.board.specs.Board.{Board}
use Rattle.board.specs.Demands.{PageLanes}
use Rattle.board.specs.Planning.{Planning, refused, lanes_for, planning, records}
use Rattle.board.proofs.Accepting.{sheet_accepted}
use Rattle.board.proofs.Planning.{lanes_from}
use Rattle.board_plan.specs.TextPlan.{shortest}
use Rattle.board_plan.proofs.Calling.{within_library}
use Rattle.routes.specs.Bus.{Bus}
use Rattle.routes.specs.Buffers.{rerouter_row, wire_row, rerouter_in, wire_in, bus_held}
use Rattle.routes.specs.Tables.{written_over}
use Rattle.routes.specs.Plan.{finished, laid_groups}
use Rattle.routes.specs.Route.{turned_away, plan, routed_by, fits_plan, routed}
use Rattle.routes.specs.declared.bus.BusCounts.{BusCounts}
use Rattle.routes_ports.specs.Settling.{ports_over}
use Rattle.routes_gutter.specs.Calls.{bus_laid}
use Rattle.routes_straight.specs.Straight.{Straight}
use Rattle.routes_straight.proofs.Straight.{straight_finished}
use Rattle.routes_promise.proofs.Promise.{rows_counted}
use Rattle.routes_promise.proofs.ReadBack.{done_few, done_back, done_promised}
use Rattle.routes_hits.specs.declared.boxes.PageBox.{PageBox}
use Rattle.routes_hits.specs.declared.list.HitCounts.{HitCounts}
use Rattle.routes_hits.specs.declared.find.HitsFound.{HitsFound}
use Rattle.routes_hits.specs.Hits.{on_board, rerouters_hit, wires_hit, hits, rerouters_under, wires_under}
use Rattle.routes_hits.specs.Finding.{HITS_A_WIRE, boxed, hits_fit, hits_call, HitsCalled}
use Rattle.routes_hits.specs.Promise.{ReroutersListed, WiresListed, HitsPromised}
use Rattle.routes_hits.proofs.Listing.{rerouters_length, under_few, wires_few_lem}
use Rattle.routes_hits.proofs.Exact.{rerouters_listed_lem, wires_listed_lem}

-- The rows that a plan was written to, read back.
read_back : (done : Bus) (old old_wires oldPorts : List (List ℕ)) {rerouters bus_wires ports : List (List ℕ)} {n k u : ℕ} → rerouters ≡ written_over rerouter_row done.rerouters old → bus_wires ≡ written_over wire_row done.wires old_wires
    → ports ≡ ports_over done.ports oldPorts → n ≡ length done.rerouters → k ≡ length done.wires → u ≡ length done.ports
    → bus_held (written_over rerouter_row done.rerouters old) (length done.rerouters) (written_over wire_row done.wires old_wires) (length done.wires) (ports_over done.ports oldPorts) (length done.ports) ≡ done
    → bus_held rerouters n bus_wires k ports u ≡ done
read_back done old old_wires oldPorts {rerouters} {bus_wires} {ports} {n} {k} {u} r w p n-is k-is u-is back =
    (λ i. bus_held (r i) (n-is i) (w i) (k-is i) (p i) (u-is i)) ∙ back

-- The list in front of a buffer is that of its rows.
lists : (q : PageBox) (rerouters bus_wires : List (List ℕ)) (n k : ℕ) (rest : List ℕ)
    → ReroutersListed q rerouters n (hits q (view rerouter_in rerouters n) (view wire_in bus_wires k) ++ rest) (rerouters_under q (view rerouter_in rerouters n))
    × WiresListed q rerouters n bus_wires k (hits q (view rerouter_in rerouters n) (view wire_in bus_wires k) ++ rest) (rerouters_under q (view rerouter_in rerouters n)) (wires_under q (view rerouter_in rerouters n) (view wire_in bus_wires k))
unfolding hits
lists q rerouters bus_wires n k rest =
    let first : List ℕ = rerouters_hit q (view rerouter_in rerouters n) in
    let second : List ℕ = wires_hit q (view rerouter_in rerouters n) (view wire_in bus_wires k) in
    rw (append_assoc first second rest)
    (rerouters_listed_lem q rerouters n (second ++ rest), wires_listed_lem q rerouters n bus_wires k first rest (rerouters_under q (view rerouter_in rerouters n)) (rerouters_length q (view rerouter_in rerouters n)))

module _ (q : PageBox) (text : List ℕ) (work : List ℕ) (oldHits : List ℕ) (old old_wires oldPorts oldAnswers : List (List ℕ)) (after : List ℕ) (rerouters bus_wires ports answers : List (List ℕ)) (r : Result HitsFound Refusal) where
  abbrev fits : Board → Bool
  fits = hits_fit (length oldHits) (length old) (length old_wires) (length oldPorts) (length oldAnswers) work

  -- Of a plan of a board that has the box.
  promised : (b : Board) (ps : List PageLanes) → planning library_most fits text ≡ lanes_for b ps → on_board q (length b.pages) ≡ true
      → HitsCalled q (plan b ps (finished b ps) (laid_groups b ps)) oldHits old old_wires oldPorts oldAnswers after rerouters bus_wires ports answers r
      → (f : HitsFound) → r ≡ Ok f
      → HitsPromised q text rerouters f.laid.bus.rerouters bus_wires f.laid.bus.bus_wires ports f.laid.bus.ports after f.hits.rerouters f.hits.wires
  unfolding fits_plan bus_held
  promised b ps e there c f is =
      let from = lanes_from library_most text fits b ps e in
      let accepted = sheet_accepted library_most text b within_library from.accepted in
      let done : Bus = finished b ps in
      let W : ℕ = length b.wires in
      let rest : Bool = leb W (length oldPorts) && (leb (length b.pages) (length oldAnswers) && leb (records b) (shortest work)) in
      let room = and_right (leb (HITS_A_WIRE * W) (length oldHits)) (leb (5 * W) (length old) && (leb (6 * W) (length old_wires) && rest)) from.fitting in
      let one = and_right (leb (5 * W) (length old)) (leb (6 * W) (length old_wires) && rest) room in
      let two = and_right (leb (6 * W) (length old_wires)) rest one in
      let long = leb-true (5 * W) (length old) (and_left (leb (5 * W) (length old)) (leb (6 * W) (length old_wires) && rest) room) in
      let wires_long_lem = leb-true (6 * W) (length old_wires) (and_left (leb (6 * W) (length old_wires)) rest one) in
      let ports-long = leb-true W (length oldPorts) (and_left (leb W (length oldPorts)) (leb (length b.pages) (length oldAnswers) && leb (records b) (shortest work)) two) in
      let same : Ok (record {
        hits = record { rerouters = rerouters_under q done.rerouters; wires = wires_under q done.rerouters done.wires };
        laid = bus_laid done (laid_groups b ps);
      }) ≡ Ok f = sym c.answer ∙ is in
      let whole : record {
        hits = record { rerouters = rerouters_under q done.rerouters; wires = wires_under q done.rerouters done.wires };
        laid = bus_laid done (laid_groups b ps);
      } ≡ f = cc in
      let found-is : f.hits ≡ record { rerouters = rerouters_under q done.rerouters; wires = wires_under q done.rerouters done.wires } = sym (ap (λ (z : HitsFound). z.hits) whole) in
      let held_is : f.laid.bus ≡ record { rerouters = length done.rerouters; bus_wires = length done.wires; ports = length done.ports } = sym (ap (λ (z : HitsFound). z.laid.bus) whole) in
      let n-is : f.laid.bus.rerouters ≡ length done.rerouters = ap (λ (z : BusCounts). z.rerouters) held_is in
      let k-is : f.laid.bus.bus_wires ≡ length done.wires = ap (λ (z : BusCounts). z.bus_wires) held_is in
      let u-is : f.laid.bus.ports ≡ length done.ports = ap (λ (z : BusCounts). z.ports) held_is in
      let back = read_back done old old_wires oldPorts c.rerouters_are c.wires_are c.ports_are n-is k-is u-is (done_back b accepted ps from.lanes old old_wires oldPorts long wires_long_lem ports-long) in
      let ks : view rerouter_in rerouters f.laid.bus.rerouters ≡ done.rerouters = ap (λ (z : Bus). z.rerouters) back in
      let ws : view wire_in bus_wires f.laid.bus.bus_wires ≡ done.wires = ap (λ (z : Bus). z.wires) back in
      let list = lists q rerouters bus_wires f.laid.bus.rerouters f.laid.bus.bus_wires (drop (length (hits q done.rerouters done.wires)) oldHits) in
      let h-is : rerouters_under q (view rerouter_in rerouters f.laid.bus.rerouters) ≡ f.hits.rerouters = ap (rerouters_under q) ks ∙ sym (ap (λ (z : HitCounts). z.rerouters) found-is) in
      let v-is : wires_under q (view rerouter_in rerouters f.laid.bus.rerouters) (view wire_in bus_wires f.laid.bus.bus_wires) ≡ f.hits.wires =
      (λ i. wires_under q (ks i) (ws i)) ∙ sym (ap (λ (z : HitCounts). z.wires) found-is) in
      let after_is : hits q (view rerouter_in rerouters f.laid.bus.rerouters) (view wire_in bus_wires f.laid.bus.bus_wires) ++ drop (length (hits q done.rerouters done.wires)) oldHits ≡ after =
      (λ i. hits q (ks i) (ws i) ++ drop (length (hits q done.rerouters done.wires)) oldHits) ∙ sym c.hits_are in
      let few = done_few b accepted ps from.lanes in
      let f0 = few.0 in let f1 = few.1 in
      let h-few = under_few q done.rerouters in
      let v-few = wires_few_lem q done.rerouters done.wires in
      let h-done : f.hits.rerouters ≡ rerouters_under q done.rerouters = ap (λ (z : HitCounts). z.rerouters) found-is in
      let v-done : f.hits.wires ≡ wires_under q done.rerouters done.wires = ap (λ (z : HitCounts). z.wires) found-is in
      record {
        drawn = b;
        accepted = from.accepted;
        box_there = there;
        rows =
            rows_counted done old old_wires oldPorts c.rerouters_are c.wires_are c.ports_are n-is k-is u-is
            (done_promised b accepted ps from.lanes old old_wires oldPorts long wires_long_lem ports-long);
        rerouters_listed = rw (after_is, h-is) at list.0;
        wires_listed = rw (after_is, h-is, v-is) at list.1;
        room = omega arith;
        straight = subst (λ (z : Bus). Straight z) (sym back) (straight_finished b ps);
      }

  pub hits_promised : HitsCalled q (hits_call q text fits) oldHits old old_wires oldPorts oldAnswers after rerouters bus_wires ports answers r → (f : HitsFound) → r ≡ Ok f
      → HitsPromised q text rerouters f.laid.bus.rerouters bus_wires f.laid.bus.bus_wires ports f.laid.bus.ports after f.hits.rerouters f.hits.wires
  unfolding hits_call routed
  hits_promised called f is = go (planning library_most fits text) refl called
    where
      away : (e : Refusal) → HitsCalled q (turned_away e) oldHits old old_wires oldPorts oldAnswers after rerouters bus_wires ports answers r
          → HitsPromised q text rerouters f.laid.bus.rerouters bus_wires f.laid.bus.bus_wires ports f.laid.bus.ports after f.hits.rerouters f.hits.wires
      away e c = let no : Err e ≡ Ok f = sym c.answer ∙ is in never cc

      on : (b : Board) (ps : List PageLanes) → planning library_most fits text ≡ lanes_for b ps → (t : Bool) → on_board q (length b.pages) ≡ t
          → HitsCalled q (elim t [ true ↦ plan b ps (finished b ps) (laid_groups b ps) | false ↦ turned_away (refusal BadBox 0) ]) oldHits old old_wires oldPorts oldAnswers after rerouters bus_wires ports answers r
          → HitsPromised q text rerouters f.laid.bus.rerouters bus_wires f.laid.bus.bus_wires ports f.laid.bus.ports after f.hits.rerouters f.hits.wires
      on b ps e true o c = promised b ps e o c f is
      on b ps e false o c = away (refusal BadBox 0) c

      go : (p : Planning) → planning library_most fits text ≡ p → HitsCalled q (boxed q (routed_by finished p)) oldHits old old_wires oldPorts oldAnswers after rerouters bus_wires ports answers r
          → HitsPromised q text rerouters f.laid.bus.rerouters bus_wires f.laid.bus.bus_wires ports f.laid.bus.ports after f.hits.rerouters f.hits.wires
      go (refused d) e c = away d c
      go (lanes_for b ps) e c = on b ps e (on_board q (length b.pages)) refl c
