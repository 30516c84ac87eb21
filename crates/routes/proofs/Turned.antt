-- The corner pass, walked once: what each corner keeps, the pass keeps. It keeps how a bus comes about.
use Rattle.std.proofs.Common.{◌≡◌, ℕ, zero, suc, ◌<◌, ◌≤◌, Bool, true, false, not, ◌&&◌, ◌||◌, eqb, ltb, List, [], ◌∷◌, length, refl, ap, ◌∙◌, subst, arith, eq-eqb, ne_eqb}
use native.Mathlib.Decide.{ℕ_discrete}
use mathlib.Core.List.Memᴰ
use Rattle.base.specs.Lists.{any, fold, upto}
use Rattle.board.specs.Board.{Board, source_node, target_node}
use Rattle.board.specs.Groups.{wire_open}
use Rattle.board.specs.Refusals.{body_of}
use Rattle.board.specs.Demands.{PageLanes}
use Rattle.base.proofs.Bools.{clash}
use Rattle.base.proofs.Lists.{by_test, by_found, keep_no}
use Rattle.routes.specs.Bus.{Bus, Feed, Port, insert_port, same_port, port_of, port_feed, placed_feed, fed_by, place, deliver, muted}
use Rattle.routes.specs.Demand3.{here, names, times_delivered, at_port, through}
use Rattle.routes.specs.Corners.{Cornering, turns_down, turns, turn_wire, with_corner, corner_level, corner_rerouter, corners}
use Rattle.routes.proofs.Made.{Made, nothing, placing, serving, aside, cornered, delivery_wire, onward_wire}

-- A port suppressed is there, and stays.
port_there : (p : Port) (l : List Port) → any (same_port p) (insert_port p l) ≡ true
port_there p [] = rw (eq-eqb p.node p.node refl, eq-eqb p.port p.port refl)
port_there p (q ∷ l) =
    by_test P (ltb p.node q.node || (eqb p.node q.node && ltb p.port q.port))
    (λ e. rw (eq-eqb p.node p.node refl, eq-eqb p.port p.port refl))
    (λ e. by_test P (same_port p q) (λ f. rw f) (λ f. rw f (port_there p l)))
  where
    P : List Port → Type 0
    P r = any (same_port p) r ≡ true

port_stays : (s p : Port) (l : List Port) → any (same_port s) l ≡ true → any (same_port s) (insert_port p l) ≡ true
port_stays s p [] h = clash h refl
port_stays s p (q ∷ l) h =
    by_test P (ltb p.node q.node || (eqb p.node q.node && ltb p.port q.port))
    (λ e. later (same_port s p) refl)
    (λ e. by_test P (same_port p q) (λ f. h) (λ f. deeper (same_port s q) refl (port_stays s p l)))
  where
    P : List Port → Type 0
    P r = any (same_port s) r ≡ true

    later : (t : Bool) → same_port s p ≡ t → P (p ∷ q ∷ l)
    later true e = rw e
    later false e = rw e h

    deeper : (t : Bool) → same_port s q ≡ t → (any (same_port s) l ≡ true → P (insert_port p l)) → P (q ∷ insert_port p l)
    deeper true e ih = rw e
    deeper false e ih = rw e (ih (rw (e, any) at h))

pub muted_there : (b : Board) (bus : Bus) (f : Feed) (v w : ℕ) → v ≡ w → muted b (deliver b bus f v) w ≡ true
unfolding muted
muted_there b bus f v w e = subst (λ u. muted b (deliver b bus f v) u ≡ true) e (port_there (port_of b v) bus.ports)

pub muted_stays : (b : Board) (bus : Bus) (f : Feed) (v w : ℕ) → muted b bus w ≡ true → muted b (deliver b bus f v) w ≡ true
unfolding muted
muted_stays b bus f v w h = port_stays (port_of b w) (port_of b v) bus.ports h

module _ (b : Board) where
  -- The bus with a corner, which its source port feeds and which feeds its target.
  abbrev pub with_turn : Bus → ℕ → ℕ → ℕ → ℕ → Bus
  with_turn bus w s t level = deliver b (place bus (port_feed b w) (corner_rerouter b s t level)) (placed_feed bus (port_feed b w)) w

  -- Q n holds of the bus after n wires, if it goes on to hold where a wire is passed over and where one that passes the tests gets a corner.
  module _ (Q : ℕ → Bus → Type 0) (skip : (n : ℕ) (bus : Bus) → Q n bus → Q (suc n) bus)
      (turn : (n s t level : ℕ) (bus : Bus) → n < length b.wires → turns b bus n ≡ true → Q n bus → Q (suc n) (with_turn bus n s t level)) where
    turn_wire_lem : (c : Cornering) (n : ℕ) → n < length b.wires → Q n c.bus → Q (suc n) (turn_wire b c n).bus
    unfolding turn_wire turns with_corner
    turn_wire_lem c n h q =
        by_test P (wire_open b n && not (muted b c.bus n))
        (λ e. by_found P (body_of b (source_node b n)) (λ f. same)
        (λ s f. by_found P (body_of b (target_node b n)) (λ g. same)
        (λ t g. by_test P (turns_down b s t)
        (λ d. by_found P (corner_level b c s t) (λ l. same) (λ level l. turn n s t level c.bus h (rw (e, f, g, turns) d) q))
        (λ d. same))))
        (λ e. same)
      where
        P : Cornering → Type 0
        P r = Q (suc n) r.bus

        same : P c
        same = skip n c.bus q

    pub turn_wires : (c : Cornering) (n : ℕ) → n ≤ length b.wires → Q 0 c.bus → Q n (fold (turn_wire b) c (upto n)).bus
    turn_wires c zero h q = q
    turn_wires c (suc n) h q = turn_wire_lem (fold (turn_wire b) c (upto n)) n h (turn_wires c n (omega arith) q)

    pub turned : (bus : Bus) → Q 0 bus → Q (length b.wires) (corners b bus)
    unfolding corners
    turned bus q = turn_wires (record { bus = bus; taken = [] }) (length b.wires) (omega arith) q

  -- No wire to a suppressed port turns.
  pub turns_open : (bus : Bus) (w : ℕ) → turns b bus w ≡ true → muted b bus w ≡ false
  unfolding turns
  turns_open bus w h = go (muted b bus w) refl (wire_open b w) refl
    where
      go : (t : Bool) → muted b bus w ≡ t → (s : Bool) → wire_open b w ≡ s → muted b bus w ≡ false
      go false e s f = e
      go true e true f = clash (rw (f, e, turns) at h) refl
      go true e false f = clash (rw (f, turns) at h) refl

module _ (b : Board) (ps : List PageLanes) where
  -- A wire is delivered only where its target is suppressed.
  pub not-muted : {bus : Bus} → Made b ps bus → (w : ℕ) → muted b bus w ≡ false → times_delivered bus.wires w ≡ 0
  unfolding times_delivered muted
  not-muted nothing w h = refl
  not-muted (placing m f k l s) w h = not-muted m w h
  not-muted (serving {bus} m f v s) w h = go (ℕ_discrete v w) (muted b bus w) refl (λ q. not-muted m w q)
    where
      go : Dec (v ≡ w) → (t : Bool) → muted b bus w ≡ t → (muted b bus w ≡ false → times_delivered bus.wires w ≡ 0)
          → times_delivered (delivery_wire b f v ∷ bus.wires) w ≡ 0
      go (yes e) t q ih = clash (muted_there b bus f v w e) h
      go (no e) true q ih = clash (muted_stays b bus f v w q) h
      go (no e) false q ih = ap length (keep_no (names w) (delivery_wire b f v) bus.wires (ne_eqb v w e)) ∙ ih q

  turn_made : (n s t level : ℕ) (bus : Bus) → n < length b.wires → turns b bus n ≡ true → Made b ps bus → Made b ps (with_turn b bus n s t level)
  unfolding corner_rerouter times_delivered
  turn_made n s t level bus h e m =
      serving (placing m (port_feed b n) (corner_rerouter b s t level) (record { low = tt; node = _; port = _; back = at_port }) (aside refl)) (placed_feed bus (port_feed b n)) n
      (record {
        on_board = h;
        fresh = not-muted m n (turns_open b bus n e);
        back = through (onward_wire bus (port_feed b n)) (Memᴰ.head refl) refl at_port;
        number = length bus.rerouters;
        standing = fed_by (port_feed b n) (corner_rerouter b s t level);
        ends = refl;
        numbered = here refl;
        far = cornered refl refl;
      })

  pub corners_made : (bus : Bus) → Made b ps bus → Made b ps (corners b bus)
  corners_made bus m = turned b (λ n r. Made b ps r) (λ n r q. q) turn_made bus m
