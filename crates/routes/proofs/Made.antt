-- How a bus comes about: rerouter by rerouter and delivery by delivery, each at a feed that stands already. Most of demand 3 follows from this alone.
use Rattle.std.proofs.Common.{◌≡◌, ℕ, suc, ◌+◌, ◌*◌, ◌<◌, ◌≤◌, true, false, ltb, ◌⊎◌, List, [], ◌∷◌, length, get_or, sym, refl, ap, ◌∙◌, inl, inr, arith, lt-ltb, eq-eqb, ne_eqb}
use native.Mathlib.Decide.{ℕ_discrete}
use mathlib.Core.List.Memᴰ
use mathlib.Core.List.{Memᴰ}
use Rattle.lanes.specs.Lanes.{lane_most}
use Rattle.board.specs.Board.{Board, min_y_of, source_node, source_port, target_node, target_port}
use Rattle.board.specs.Demands.{PageLanes, no_lanes, lane_y, BUS_BAND_GUTTER, LANE_PITCH}
use Rattle.board.proofs.LanesFit.{heights_apart}
use Rattle.base.proofs.Bools.{clash, both}
use Rattle.base.proofs.Lists.{keep_yes, keep_no}
use Rattle.routes.specs.Stops.{near}
use Rattle.routes.specs.Bus.{Bus, Rerouter, BusWire, Feed, End, port, rerouter, onward, delivery, empty_bus, fed_by, place, deliver, part_corner}
use Rattle.routes.specs.Plan.{deliveries}
use Rattle.routes.specs.Demand3.{Numbered, here, there, arrives_at, arriving, PortOrLower, WayBack, at_port, through, names, times_delivered, in_gutter, Overlap, Delivered, Bounded}

-- Ways back and numbers stay when the bus grows.
pub back_grows : {ws vs : List BusWire} → ((w : BusWire) → Memᴰ w ws → Memᴰ w vs) → {e : End} {d n p : ℕ} → WayBack ws e d n p → WayBack vs e d n p
back_grows g at_port = at_port
back_grows g (through w m e r) = through w (g w m) e (back_grows g r)

pub lower_grows : (e : End) (m n : ℕ) → m ≤ n → PortOrLower e m → PortOrLower e n
lower_grows (port a p) m n h k = tt
lower_grows (rerouter a) m n h k = omega arith

pub numbered_cases : {n : ℕ} {k j : Rerouter} {l : List Rerouter} → Numbered n k (j ∷ l) → ((n ≡ length l) × (k ≡ j)) ⊎ Numbered n k l
numbered_cases (here e) = inl (e, refl)
numbered_cases (there m) = inr m

pub numbered_below : {n : ℕ} {k : Rerouter} {l : List Rerouter} → Numbered n k l → n < length l
numbered_below (here e) = omega arith
numbered_below (there m) = let h = numbered_below m in omega arith

numbered_in : {n : ℕ} {k : Rerouter} {l : List Rerouter} → Numbered n k l → Memᴰ k l
numbered_in (here e) = Memᴰ.head refl
numbered_in (there m) = Memᴰ.tail (numbered_in m)

pub numbered_one : {n : ℕ} {j k : Rerouter} (l : List Rerouter) → Numbered n j l → Numbered n k l → j ≡ k
numbered_one [] q r = absurd (let h = numbered_below q in omega arith)
numbered_one {n} {j} {k} (x ∷ l) q r = go (numbered_cases q) (numbered_cases r) (numbered_one l)
  where
    go : ((n ≡ length l) × (j ≡ x)) ⊎ Numbered n j l → ((n ≡ length l) × (k ≡ x)) ⊎ Numbered n k l → (Numbered n j l → Numbered n k l → j ≡ k) → j ≡ k
    go (inl a) (inl c) ih = a.1 ∙ sym c.1
    go (inl a) (inr c) ih = absurd (omega (arith, a.0, numbered_below c))
    go (inr a) (inl c) ih = absurd (omega (arith, c.0, numbered_below a))
    go (inr a) (inr c) ih = ih a c

-- The wires that the two operations write.
abbrev pub onward_wire : Bus → Feed → BusWire
onward_wire bus f = record { source = f.end; target = rerouter (length bus.rerouters); carries = onward }

abbrev pub delivery_wire : Board → Feed → ℕ → BusWire
delivery_wire b f w = record { source = f.end; target = port (target_node b w) (target_port b w); carries = delivery w f.depth }

pub record Grown (bus more : Bus) : Type 0 where
  pub wires_in : (w : BusWire) → Memᴰ w bus.wires → Memᴰ w more.wires
  pub rerouters_in : (n : ℕ) (k : Rerouter) → Numbered n k bus.rerouters → Numbered n k more.rerouters
  pub longer : length bus.rerouters ≤ length more.rerouters

pub place_grows : (bus : Bus) (f : Feed) (k : Rerouter) → Grown bus (place bus f k)
place_grows bus f k = record { wires_in = λ w m. Memᴰ.tail m; rerouters_in = λ n j m. there m; longer = omega arith }

pub deliver_grows : (b : Board) (bus : Bus) (f : Feed) (w : ℕ) → Grown bus (deliver b bus f w)
deliver_grows b bus f w = record { wires_in = λ w m. Memᴰ.tail m; rerouters_in = λ n j m. m; longer = omega arith }

-- A port or a rerouter of the bus, with its way back.
pub record Feeds (bus : Bus) (f : Feed) : Type 0 where
  pub low : PortOrLower f.end (length bus.rerouters)
  pub node : ℕ
  pub port : ℕ
  pub back : WayBack bus.wires f.end f.depth node port

-- A rerouter in a lane's column near x.
pub record Touches (p lane x : ℕ) (j : Rerouter) : Type 0 where
  pub page : j.page ≡ p
  pub column : j.lane ≡ lane
  pub close : near x j.x ≡ true

module _ (b : Board) (ps : List PageLanes) where
  -- A head, link or tap stands in an open lane of a gutter that is high enough.
  pub record InLane (k : Rerouter) : Type 0 where
    pub high : BUS_BAND_GUTTER + LANE_PITCH * lane_most ≤ min_y_of b k.page
    pub most : (get_or ps k.page no_lanes).count ≤ lane_most
    pub opened : k.lane < (get_or ps k.page no_lanes).count
    pub height : k.y ≡ lane_y (min_y_of b k.page) (get_or ps k.page no_lanes).count k.lane

  pub data Stood (bus : Bus) (k : Rerouter) : Type 0 where
    aside : in_gutter k ≡ false → Stood bus k
    in_column : InLane k → ((j : Rerouter) → Memᴰ j bus.rerouters → in_gutter j ≡ true → Touches k.page k.lane k.x j → ⊥) → Stood bus k

  -- Where a rerouter stands does not hang on its depth.
  stood_fed : {bus : Bus} {k : Rerouter} (f : Feed) → Stood bus k → Stood bus (fed_by f k)
  stood_fed f (aside a) = aside a
  stood_fed f (in_column l c) = in_column (record { high = l.high; most = l.most; opened = l.opened; height = l.height }) c

  -- What a delivery leaves: a corner at distance 1, or another rerouter within the bound.
  pub data Far (j : Rerouter) (w d : ℕ) : Type 0 where
    cornered : j.part ≡ part_corner → d ≡ 1 → Far j w d
    within : (j.part ≡ part_corner → ⊥) → Bounded b w d → Far j w d

  pub record Served (bus : Bus) (f : Feed) (w : ℕ) : Type 0 where
    pub on_board : w < length b.wires
    pub fresh : times_delivered bus.wires w ≡ 0
    pub back : WayBack bus.wires f.end f.depth (source_node b w) (source_port b w)
    pub number : ℕ
    pub standing : Rerouter
    pub ends : f.end ≡ rerouter number
    pub numbered : Numbered number standing bus.rerouters
    pub far : Far standing w f.depth

  pub data Made : Bus → Type 0 where
    nothing : Made empty_bus
    placing : {bus : Bus} → Made bus → (f : Feed) (k : Rerouter) → Feeds bus f → Stood bus k → Made (place bus f k)
    serving : {bus : Bus} → Made bus → (f : Feed) (w : ℕ) → Served bus f w → Made (deliver b bus f w)

  -- W7: one bus wire and no more arrives at each rerouter.
  pub arrives : {bus : Bus} → Made bus → (n : ℕ)
      → (n < length bus.rerouters → arriving bus.wires n ≡ 1) × (length bus.rerouters ≤ n → arriving bus.wires n ≡ 0)
  unfolding arriving
  arrives nothing n = (λ h. absurd (omega arith), λ h. refl)
  arrives (placing {bus} m f k l s) n = go (ℕ_discrete (length bus.rerouters) n) (arrives m n)
    where
      new : BusWire
      new = onward_wire bus f

      go : Dec (length bus.rerouters ≡ n) → (n < length bus.rerouters → arriving bus.wires n ≡ 1) × (length bus.rerouters ≤ n → arriving bus.wires n ≡ 0)
          → (n < suc (length bus.rerouters) → arriving (new ∷ bus.wires) n ≡ 1) × (suc (length bus.rerouters) ≤ n → arriving (new ∷ bus.wires) n ≡ 0)
      go (yes e) ih = (λ h. ap length (keep_yes (arrives_at n) new bus.wires (eq-eqb _ _ e)) ∙ ap suc (ih.1 (omega arith)), λ h. absurd (omega arith))
      go (no e) ih =
          let same = ap length (keep_no (arrives_at n) new bus.wires (ne_eqb _ _ e)) in
          (λ h. same ∙ ih.0 (omega arith), λ h. same ∙ ih.1 (omega arith))
  arrives (serving m f w s) n = arrives m n

  -- Every bus wire feeds a rerouter of the plan from below, or delivers a wire of the board.
  pub record Sent (bus : Bus) (w : BusWire) (k d : ℕ) : Type 0 where
    pub delivered : Delivered b bus.wires w k d
    pub number : ℕ
    pub standing : Rerouter
    pub ends : w.source ≡ rerouter number
    pub numbered : Numbered number standing bus.rerouters
    pub far : Far standing k d

  pub data WireOf (bus : Bus) (w : BusWire) : Type 0 where
    feeds : (n : ℕ) → w.target ≡ rerouter n → w.carries ≡ onward → PortOrLower w.source n → n < length bus.rerouters → WireOf bus w
    sends : (k d : ℕ) → w.carries ≡ delivery k d → Sent bus w k d → WireOf bus w

  wire_grows : {bus more : Bus} → Grown bus more → (w : BusWire) → WireOf bus w → WireOf more w
  wire_grows g w (feeds n t c l h) = feeds n t c l (omega (arith, g.longer))
  wire_grows g w (sends k d c s) =
      let old = s.delivered in
      sends k d c
      (record {
        delivered = record { on_board = old.on_board; to_target = old.to_target; back = back_grows g.wires_in old.back };
        number = s.number;
        standing = s.standing;
        ends = s.ends;
        numbered = g.rerouters_in s.number s.standing s.numbered;
        far = s.far;
      })

  pub wire_of : {bus : Bus} → Made bus → (w : BusWire) → Memᴰ w bus.wires → WireOf bus w
  wire_of nothing w h = absurd (Memᴰ.not-nil h)
  wire_of (placing {bus} m f k l s) w h = go (Memᴰ.cases_cons h) (λ i. wire_of m w i)
    where
      go : (w ≡ onward_wire bus f) ⊎ Memᴰ w bus.wires → (Memᴰ w bus.wires → WireOf bus w) → WireOf (place bus f k) w
      go (inl d) ih = feeds (length bus.rerouters) (ap (λ v. v.target) d) (ap (λ v. v.carries) d) (rw d l.low) (omega arith)
      go (inr i) ih = wire_grows (place_grows bus f k) w (ih i)
  wire_of (serving {bus} m f v s) w h = go (Memᴰ.cases_cons h) (λ i. wire_of m w i)
    where
      grown : Grown bus (deliver b bus f v)
      grown = deliver_grows b bus f v

      go : (w ≡ delivery_wire b f v) ⊎ Memᴰ w bus.wires → (Memᴰ w bus.wires → WireOf bus w) → WireOf (deliver b bus f v) w
      go (inl d) ih =
          sends v f.depth (ap (λ u. u.carries) d)
          (record {
            delivered = record { on_board = s.on_board; to_target = ap (λ u. u.target) d; back = rw d (back_grows grown.wires_in s.back) };
            number = s.number;
            standing = s.standing;
            ends = rw d s.ends;
            numbered = s.numbered;
            far = s.far;
          })
      go (inr i) ih = wire_grows grown w (ih i)

  -- W11: the counts add up.
  pub totals : {bus : Bus} → Made bus → length bus.wires ≡ length bus.rerouters + deliveries bus
  unfolding deliveries
  totals nothing = refl
  totals (placing m f k l s) = let h = totals m in omega arith
  totals (serving m f w s) = let h = totals m in omega arith

  -- W10: a wire has one delivery at most.
  pub once : {bus : Bus} → Made bus → (k : ℕ) → times_delivered bus.wires k ≤ 1
  unfolding times_delivered
  once nothing k = omega arith
  once (placing m f j l s) k = once m k
  once (serving {bus} m f w s) k = go (ℕ_discrete w k) (once m k)
    where
      new : BusWire
      new = delivery_wire b f w

      go : Dec (w ≡ k) → times_delivered bus.wires k ≤ 1 → times_delivered (new ∷ bus.wires) k ≤ 1
      go (yes e) ih = rw (keep_yes (names k) new bus.wires (eq-eqb w k e)) (let z : times_delivered bus.wires k ≡ 0 = rw e at s.fresh in omega arith)
      go (no e) ih = rw (keep_no (names k) new bus.wires (ne_eqb w k e)) ih

  -- W14: in one lane no lane rerouter is placed near another, and lanes lie 2 apart.
  clear_apart : (j k : Rerouter) → InLane j → InLane k → (Touches j.page j.lane j.x k → ⊥) → Overlap j k → ⊥
  clear_apart j k p q h o =
      h (record {
        page = sym o.page;
        column = sym lane;
        close = both (ltb j.x (k.x + 2)) (ltb k.x (j.x + 2)) (lt-ltb _ _ o.left) (lt-ltb _ _ o.right);
      })
    where
      there : k.lane < (get_or ps k.page no_lanes).count → k.y ≡ lane_y (min_y_of b k.page) (get_or ps k.page no_lanes).count k.lane
          → (k.lane < (get_or ps j.page no_lanes).count) × (k.y ≡ lane_y (min_y_of b j.page) (get_or ps j.page no_lanes).count k.lane)
      there a c = rw o.page (a, c)

      lane : j.lane ≡ k.lane
      lane =
          let t = there q.opened q.height in
          let below = rw (p.height, t.1) at o.below in
          let above = rw (p.height, t.1) at o.above in
          heights_apart (min_y_of b j.page) (get_or ps j.page no_lanes).count j.lane k.lane p.high p.most p.opened t.0 below above

  lane_of_lem : {bus : Bus} → Made bus → (k : Rerouter) → Memᴰ k bus.rerouters → in_gutter k ≡ true → InLane k
  lane_of_lem nothing k h g = absurd (Memᴰ.not-nil h)
  lane_of_lem (placing {bus} m f j l s) k h g = go (stood_fed f s) (Memᴰ.cases_cons h) (λ i. lane_of_lem m k i g)
    where
      go : Stood bus (fed_by f j) → (k ≡ fed_by f j) ⊎ Memᴰ k bus.rerouters → (Memᴰ k bus.rerouters → InLane k) → InLane k
      go (aside a) (inl e) ih = clash g (rw e a)
      go (in_column a c) (inl e) ih = rw e a
      go (aside a) (inr i) ih = ih i
      go (in_column a c) (inr i) ih = ih i
  lane_of_lem (serving m f w s) k h g = lane_of_lem m k h g

  turned : (j k : Rerouter) → Overlap j k → Overlap k j
  turned j k o = record { page = sym o.page; left = o.right; right = o.left; below = o.above; above = o.below }

  pub apart : {bus : Bus} → Made bus → (m n : ℕ) (j k : Rerouter) → Numbered m j bus.rerouters → Numbered n k bus.rerouters → (m ≡ n → ⊥) → in_gutter j ≡ true
      → in_gutter k ≡ true → Overlap j k → ⊥
  apart nothing m n j k p q d g h o = let z = numbered_below p in omega arith
  apart (placing {bus} made f i l s) m n j k p q d g h o = go (numbered_cases p) (numbered_cases q) (λ u v. apart made m n j k u v d g h o)
    where
      new : Rerouter
      new = fed_by f i

      first : (u v : Rerouter) → u ≡ new → Memᴰ v bus.rerouters → in_gutter u ≡ true → in_gutter v ≡ true → Stood bus new → Overlap u v → ⊥
      first u v e r a c (aside x) w = clash a (rw e x)
      first u v e r a c (in_column x y) w = clear_apart new v x (lane_of_lem made v r c) (y v r c) (rw e at w)

      go : ((m ≡ length bus.rerouters) × (j ≡ new)) ⊎ Numbered m j bus.rerouters → ((n ≡ length bus.rerouters) × (k ≡ new)) ⊎ Numbered n k bus.rerouters
          → (Numbered m j bus.rerouters → Numbered n k bus.rerouters → ⊥) → ⊥
      go (inl u) (inl v) ih = d (u.0 ∙ sym v.0)
      go (inl u) (inr v) ih = first j k u.1 (numbered_in v) g h (stood_fed f s) o
      go (inr u) (inl v) ih = first k j v.1 (numbered_in u) h g (stood_fed f s) (turned j k o)
      go (inr u) (inr v) ih = ih u v
  apart (serving made f w s) m n j k p q d g h o = apart made m n j k p q d g h o

  -- W15: a rerouter's depth is the count of rerouters on its way back.
  pub deep : {bus : Bus} → Made bus → (n : ℕ) (k : Rerouter) → Numbered n k bus.rerouters → (m p : ℕ) × WayBack bus.wires (rerouter n) k.depth m p
  deep nothing n k h = absurd (let z = numbered_below h in omega arith)
  deep (placing {bus} m f j l s) n k h = go (numbered_cases h) (λ i. deep m n k i)
    where
      more : Grown bus (place bus f j)
      more = place_grows bus f j

      go : ((n ≡ length bus.rerouters) × (k ≡ fed_by f j)) ⊎ Numbered n k bus.rerouters
          → (Numbered n k bus.rerouters → (a p : ℕ) × WayBack bus.wires (rerouter n) k.depth a p) → (a p : ℕ) × WayBack (place bus f j).wires (rerouter n) k.depth a p
      go (inl e) ih = (l.node, l.port, rw (e.0, e.1) (through (onward_wire bus f) (Memᴰ.head refl) refl (back_grows more.wires_in l.back)))
      go (inr i) ih = let r = ih i in (r.0, r.1, back_grows more.wires_in r.2)
  deep (serving {bus} m f w s) n k h = let r = deep m n k h in (r.0, r.1, back_grows (deliver_grows b bus f w).wires_in r.2)
