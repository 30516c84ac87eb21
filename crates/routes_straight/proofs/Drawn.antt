-- What the two operations keep: the rerouters at the ends of a bus wire stand in one line, if each is placed in line with its feed.
use Prim.Native.Nat.{ℕ}
use mathlib.Core.Path.{◌≡◌, refl, sym, ap, ◌∙◌}
use mathlib.Core.Logic.{◌⊎◌, inl, inr}
use mathlib.Core.List.Memᴰ
use mathlib.Core.List.{Memᴰ}
use lib.ListN.{length}
use Rattle.base.proofs.Bools.{never}
use Rattle.board.specs.Board.{Board}
use Rattle.routes.specs.Bus.{Bus, Rerouter, BusWire, Feed, End, port, rerouter, empty_bus, fed_by, place, placed_feed, deliver}
use Rattle.routes.specs.Demand3.{Numbered, here, there}
use Rattle.routes.proofs.Made.{Grown, place_grows, deliver_grows, numbered_one, onward_wire, delivery_wire}
use Rattle.routes_straight.specs.Straight.{InLine, Straight}

-- A feed that is a port, or a rerouter of which P holds.
pub data Feeds (P : Rerouter → Type 0) (bus : Bus) (f : Feed) : Type 0 where
  from_port : (n p : ℕ) → f.end ≡ port n p → Feeds P bus f
  from_rerouter : (m : ℕ) (k : Rerouter) → f.end ≡ rerouter m → Numbered m k bus.rerouters → P k → Feeds P bus f

pub feeds_grows : {P : Rerouter → Type 0} {bus more : Bus} {f : Feed} → Grown bus more → Feeds P bus f → Feeds P more f
feeds_grows g (from_port n p e) = from_port n p e
feeds_grows g (from_rerouter m k e n h) = from_rerouter m k e (g.rerouters_in m k n) h

pub feeds_placed : {P : Rerouter → Type 0} {bus : Bus} {f : Feed} (k : Rerouter) → P (fed_by f k) → Feeds P (place bus f k) (placed_feed bus f)
feeds_placed {bus = bus} {f = f} k h = from_rerouter (length bus.rerouters) (fed_by f k) refl (here refl) h

-- The two rerouters of those numbers stand in one line.
pub record Run (bus : Bus) (m n : ℕ) : Type 0 where
  pub first : Rerouter
  pub second : Rerouter
  pub leaves : Numbered m first bus.rerouters
  pub arrives : Numbered n second bus.rerouters
  pub straight : InLine first second

run_grows : {bus more : Bus} {m n : ℕ} → Grown bus more → Run bus m n → Run more m n
run_grows {m = m} {n = n} g r =
    record {
      first = r.first;
      second = r.second;
      leaves = g.rerouters_in m r.first r.leaves;
      arrives = g.rerouters_in n r.second r.arrives;
      straight = r.straight;
    }

-- Every bus wire between two rerouters is such a run.
pub record Drawn (bus : Bus) : Type 0 where
  pub run : (w : BusWire) (m n : ℕ) → Memᴰ w bus.wires → w.source ≡ rerouter m → w.target ≡ rerouter n → Run bus m n

-- Ends are told apart.
other_end : {C : Type 0} {n p m : ℕ} {e : End} → e ≡ port n p → e ≡ rerouter m → C
other_end h k = never cc

pub drawn_empty : Drawn empty_bus
drawn_empty = record { run = λ w m n i. absurd (Memᴰ.not-nil i) }

-- A rerouter is placed in line with the one that feeds it.
pub drawn_placed : {P : Rerouter → Type 0} {bus : Bus} (f : Feed) (k : Rerouter) → ((j : Rerouter) → P j → InLine j k) → Feeds P bus f
    → Drawn bus → Drawn (place bus f k)
drawn_placed {P} {bus} f k line feeds d = record { run = λ w m n i s t. go w m n s t feeds (Memᴰ.cases_cons i) }
  where
    go : (w : BusWire) (m n : ℕ) → w.source ≡ rerouter m → w.target ≡ rerouter n → Feeds P bus f → (w ≡ onward_wire bus f) ⊎ Memᴰ w bus.wires
        → Run (place bus f k) m n
    go w m n s t q (inr i) = run_grows (place_grows bus f k) (d.run w m n i s t)
    go w m n s t (from_port a p e) (inl i) = other_end e (sym (ap (λ v. v.source) i) ∙ s)
    go w m n s t (from_rerouter a j e r h) (inl i) =
        let left : rerouter a ≡ rerouter m = sym e ∙ (sym (ap (λ v. v.source) i) ∙ s) in
        let right : rerouter (length bus.rerouters) ≡ rerouter n = sym (ap (λ v. v.target) i) ∙ t in
        let a-is : a ≡ m = cc in
        let n-is : n ≡ length bus.rerouters = cc in
        let below : Numbered m j bus.rerouters = rw (← a-is) r in
        let straight = line j h in
        record { first = j; second = fed_by f k; leaves = there below; arrives = here n-is; straight = record { page = straight.page; line = straight.line } }

-- A delivery ends at a port.
pub drawn_served : (b : Board) {bus : Bus} (f : Feed) (w : ℕ) → Drawn bus → Drawn (deliver b bus f w)
drawn_served b {bus} f w d = record { run = λ v m n i s t. go v m n s t (Memᴰ.cases_cons i) }
  where
    go : (v : BusWire) (m n : ℕ) → v.source ≡ rerouter m → v.target ≡ rerouter n → (v ≡ delivery_wire b f w) ⊎ Memᴰ v bus.wires
        → Run (deliver b bus f w) m n
    go v m n s t (inr i) = run_grows (deliver_grows b bus f w) (d.run v m n i s t)
    go v m n s t (inl i) = other_end (ap (λ u. u.target) i) t

-- A number has one rerouter, so that the plan runs straight.
pub drawn_straight : (bus : Bus) → Drawn bus → Straight bus
drawn_straight bus d = record { runs = λ w m n j k i s t p q. same m n j k p q (d.run w m n i s t) }
  where
    same : (m n : ℕ) (j k : Rerouter) → Numbered m j bus.rerouters → Numbered n k bus.rerouters → Run bus m n → InLine j k
    same m n j k p q r = rw (numbered_one bus.rerouters p r.leaves, numbered_one bus.rerouters q r.arrives) r.straight
