-- S15: the plan fits into what is lent, and after `lay_bus` so does all that the corner pass may add.
use Rattle.std.proofs.Common.{◌≡◌, ℕ, zero, suc, ◌+◌, ◌*◌, ◌<◌, ◌≤◌, Bool, true, false, ◌&&◌, ◌||◌, eqb, ltb, List, [], ◌∷◌, length, refl, ap, arith, eq-eqb, ne_eqb}
use native.Mathlib.Decide.{ℕ_discrete}
use mathlib.Core.Bool.{or-true}
use Rattle.base.specs.Lists.{any, keep, fold, upto}
use Rattle.board.specs.Board.{Board}
use Rattle.board.specs.Accepted.{Accepted}
use Rattle.board.specs.Demands.{PageLanes, planned, plan_lanes}
use Rattle.base.proofs.Bools.{clash}
use Rattle.base.proofs.Lists.{by_test, keep_yes, keep_no, none_counted, count_tail, count_weaker, count_apart}
use Rattle.routes.specs.Bus.{Bus, Port, insert_port, same_port, port_of, port_feed, placed_feed, muted}
use Rattle.routes.specs.Corners.{turns, turnable, turn_wire}
use Rattle.routes.specs.Plan.{deliveries, bus_of, finished}
use Rattle.routes.specs.Route.{Room}
use Rattle.routes.specs.Demand3.{names, times_delivered}
use Rattle.routes.proofs.Made.{Made, nothing, placing, serving, totals}
use Rattle.routes.proofs.Turned.{not-muted, turns_open, muted_stays, with_turn, turned, turn_wires, corners_made}
use Rattle.routes.proofs.LaidTaps.{laid_short}
use Rattle.routes.proofs.Walk.{bus_kept}

-- Counting wires by number.
length-upto : (n : ℕ) → length (upto n) ≡ n
length-upto zero = refl
length-upto (suc n) = ap suc (length-upto n)

abbrev or_this : (ℕ → Bool) → ℕ → ℕ → Bool
or_this p v w = eqb v w || p w

-- One more wire passes the test than before.
one_more : (p : ℕ → Bool) (v n : ℕ) → v < n → p v ≡ false → length (keep p (upto n)) < length (keep (or_this p v) (upto n))
one_more p v zero h e = absurd (omega arith)
one_more p v (suc n) h e = go (ℕ_discrete v n) (p n) refl (one_more p v n)
  where
    weaker : (w : ℕ) → p w ≡ true → or_this p v w ≡ true
    weaker w q = rw q (or-true (eqb v w))

    go : Dec (v ≡ n) → (t : Bool) → p n ≡ t → (v < n → p v ≡ false → length (keep p (upto n)) < length (keep (or_this p v) (upto n)))
        → length (keep p (n ∷ upto n)) < length (keep (or_this p v) (n ∷ upto n))
    go (yes d) t f ih =
        rw (keep_no p n (upto n) (rw d at e), keep_yes (or_this p v) n (upto n) (rw (eq-eqb v n d))) (omega (arith, count_weaker p (or_this p v) (upto n) weaker))
    go (no d) true f ih = rw (keep_yes p n (upto n) f, keep_yes (or_this p v) n (upto n) (weaker n f)) (omega (arith, ih (omega arith) e))
    go (no d) false f ih = rw (keep_no p n (upto n) f, keep_no (or_this p v) n (upto n) (rw (ne_eqb v n d, f))) (ih (omega arith) e)

port_more : (p : Port) (l : List Port) → length (insert_port p l) ≤ suc (length l)
port_more p [] = omega arith
port_more p (q ∷ l) =
    let ih = port_more p l in
    by_test P (ltb p.node q.node || (eqb p.node q.node && ltb p.port q.port)) (λ e. omega arith)
    (λ e. by_test P (same_port p q) (λ f. omega arith) (λ f. omega arith))
  where
    P : List Port → Type 0
    P r = length r ≤ suc (suc (length l))

module _ (b : Board) (ps : List PageLanes) where
  -- Whether a wire is delivered. Each delivery is of another wire, and suppresses at most one port more.
  abbrev sent : Bus → ℕ → Bool
  sent bus w = any (names w) bus.wires

  sent_count : {bus : Bus} → Made b ps bus → deliveries bus ≤ length (keep (sent bus) (upto (length b.wires)))
  unfolding deliveries times_delivered
  sent_count nothing = omega arith
  sent_count (placing m f k l s) = sent_count m
  sent_count (serving {bus} m f v s) =
      let ih = sent_count m in let h = one_more (sent bus) v (length b.wires) s.on_board (none_counted (names v) bus.wires s.fresh) in omega arith

  ports_count : {bus : Bus} → Made b ps bus → length bus.ports ≤ deliveries bus
  unfolding deliveries
  ports_count nothing = omega arith
  ports_count (placing m f k l s) = ports_count m
  ports_count (serving {bus} m f v s) = omega (arith, ports_count m, port_more (port_of b v) bus.ports)

  -- Wires delivered and wires that may still turn are different wires.
  sent_or_turns : {bus : Bus} → Made b ps bus → deliveries bus + turnable b bus ≤ length b.wires
  unfolding turnable times_delivered
  sent_or_turns {bus} m =
      omega
      (arith, sent_count m, count_apart (sent bus) (turns b bus) (upto (length b.wires)) (λ w e. apart w e (turns b bus w) refl), length-upto (length b.wires))
    where
      apart : (w : ℕ) → sent bus w ≡ true → (t : Bool) → turns b bus w ≡ t → turns b bus w ≡ false
      apart w e true f = clash e (none_counted (names w) bus.wires (not-muted b ps m w (turns_open b bus w f)))
      apart w e false f = f

  module _ (plan : plan_lanes b ≡ planned ps) (accepted : Accepted b) where
    made : Made b ps (bus_of b ps)
    made = (bus_kept b ps plan accepted).made

    -- The corner pass never runs out of room.
    pub room_to_turn : Room b (bus_of b ps) (turnable b (bus_of b ps))
    room_to_turn =
        let paid = (bus_kept b ps plan accepted).paid in
        let one = sent_or_turns made in
        record { rerouters = omega (arith, laid_short b ps); wires = omega (arith, laid_short b ps, totals b ps made); ports = omega (arith, ports_count made) }

    -- A corner is a rerouter and a delivery.
    abbrev Even : ℕ → Bus → Type 0
    Even n r = length r.rerouters + deliveries (bus_of b ps) ≡ length (bus_of b ps).rerouters + deliveries r

    -- S15: what is lent holds the finished plan.
    pub room_finished : Room b (finished b ps) 0
    unfolding finished deliveries
    room_finished =
        let paid = (bus_kept b ps plan accepted).paid in
        let last = corners_made b ps (bus_of b ps) made in
        let one = sent_or_turns made in
        let two = sent_or_turns last in
        let even = turned b Even (λ n r q. q) (λ n s t level r h e q. omega arith) (bus_of b ps) refl in
        record { rerouters = omega (arith, laid_short b ps); wires = omega (arith, laid_short b ps, totals b ps last); ports = omega (arith, ports_count last) }

module _ (b : Board) where
  -- What the corner pass has added after n wires: at most a rerouter, two bus wires and a port for each of them that passed its tests at the start.
  pub record Added (bus : Bus) (n : ℕ) (r : Bus) : Type 0 where
    pub rerouters : length r.rerouters ≤ length bus.rerouters + length (keep (turns b bus) (upto n))
    pub wires : length r.wires ≤ length bus.wires + 2 * length (keep (turns b bus) (upto n))
    pub ports : length r.ports ≤ length bus.ports + length (keep (turns b bus) (upto n))
    pub muting : (w : ℕ) → muted b bus w ≡ true → muted b r w ≡ true

  -- What turns later turned at the start.
  pub turned_before : (bus r : Bus) (w : ℕ) → (muted b bus w ≡ true → muted b r w ≡ true) → turns b r w ≡ true → turns b bus w ≡ true
  unfolding turns
  turned_before bus r w h e = go (muted b bus w) refl
    where
      later : muted b r w ≡ false
      later = turns_open b r w e

      go : (t : Bool) → muted b bus w ≡ t → turns b bus w ≡ true
      go true f = clash (h f) later
      go false f = rw (f, turns) (rw (later, turns) at e)

  muted_turned : (r : Bus) (k s t level w : ℕ) → muted b r w ≡ true → muted b (with_turn b r k s t level) w ≡ true
  unfolding muted
  muted_turned r k s t level w m = muted_stays b r (placed_feed r (port_feed b k)) k w m

  pub corner_room : (bus : Bus) (n : ℕ) → n ≤ length b.wires → Added bus n (fold (turn_wire b) (record { bus = bus; taken = [] }) (upto n)).bus
  corner_room bus n h =
      turn_wires b (Added bus) skip turn (record { bus = bus; taken = [] }) n h
      (record { rerouters = omega arith; wires = omega arith; ports = omega arith; muting = λ w m. m })
    where
      skip : (k : ℕ) (r : Bus) → Added bus k r → Added bus (suc k) r
      skip k r q =
          let m = count_tail (turns b bus) k (upto k) in
          record { rerouters = omega (arith, q.rerouters); wires = omega (arith, q.wires); ports = omega (arith, q.ports); muting = q.muting }

      turn : (k s t level : ℕ) (r : Bus) → k < length b.wires → turns b r k ≡ true → Added bus k r → Added bus (suc k) (with_turn b r k s t level)
      turn k s t level r i e q =
          let m = ap length (keep_yes (turns b bus) k (upto k) (turned_before bus r k (q.muting k) e)) in
          record {
            rerouters = omega (arith, q.rerouters);
            wires = omega (arith, q.wires);
            ports = omega (arith, q.ports, port_more (port_of b k) r.ports);
            muting = λ w n. muted_turned r k s t level w (q.muting w n);
          }
