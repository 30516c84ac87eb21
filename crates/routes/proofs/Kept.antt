-- What the emission keeps, step by step: how the bus comes about, which wires are delivered, where heads, links and taps stand, what is paid for.
use Rattle.std.proofs.Common.{◌≡◌, ℕ, suc, ◌+◌, ◌*◌, ◌<◌, ◌≤◌, Bool, true, false, not, ◌||◌, eqb, ◌⊎◌, List, [], ◌∷◌, length, sym, refl, ap, ◌∙◌, inl, inr, arith, eq-eqb}
use mathlib.Core.List.Memᴰ
use mathlib.Core.List.{Memᴰ}
use borrow.Author.Tests.{not-true}
use Rattle.base.specs.Lists.{any}
use Rattle.board.specs.Board.{Board, source_node, source_port}
use Rattle.board.specs.Groups.{Tap}
use Rattle.board.specs.Demands.{PageLanes}
use Rattle.base.proofs.Bools.{clash, and_left, and_right, or_left, or_right}
use Rattle.base.proofs.Lists.{none_of, keep_no}
use Rattle.board.proofs.Taps.{wire_is}
use Rattle.routes.specs.Stops.{near}
use Rattle.routes.specs.Levels.{Stop, own, unclaimed, claim_near}
use Rattle.routes.specs.Bus.{Bus, Rerouter, Feed, rerouter, fed_by, place, placed_feed, deliver, part_head, part_link, part_tap, part_corner, empty_bus}
use Rattle.routes.specs.Rerouters.{column_free, rerouter_near}
use Rattle.routes.specs.Plan.{deliveries}
use Rattle.routes.specs.Demand3.{Numbered, here, PortOrLower, WayBack, through, times_delivered, names, in_gutter}
use Rattle.routes.proofs.Made.{Made, nothing, placing, serving, Stood, aside, in_column, Touches, InLane, Served, Grown, place_grows, back_grows, lower_grows, onward_wire, delivery_wire, Feeds}
use Rattle.routes.proofs.Claims.{still_claimed, claimed_more, near_turned}

-- A feed of a group's port, within so many rerouters of it.
pub record Live (b : Board) (bus : Bus) (f : Feed) (g bound : ℕ) : Type 0 where
  pub back : WayBack bus.wires f.end f.depth (source_node b g) (source_port b g)
  pub low : PortOrLower f.end (length bus.rerouters)
  pub short : f.depth ≤ bound

-- One that ends in a rerouter, as a delivery's has to.
pub record Stands (b : Board) (bus : Bus) (f : Feed) (g bound : ℕ) : Type 0 where
  pub live : Live b bus f g bound
  pub number : ℕ
  pub standing : Rerouter
  pub ends : f.end ≡ rerouter number
  pub numbered : Numbered number standing bus.rerouters
  pub no_corner : standing.part ≡ part_corner → ⊥

pub live_feeds : {b : Board} {bus : Bus} {f : Feed} {g bound : ℕ} → Live b bus f g bound → Feeds bus f
live_feeds r = record { low = r.low; node = _; port = _; back = r.back }

module _ (b : Board) where
  pub live_grows : {bus more : Bus} {f : Feed} {g m n : ℕ} → Grown bus more → m ≤ n → Live b bus f g m → Live b more f g n
  live_grows {f = f} g h r =
      record {
        back = back_grows g.wires_in r.back;
        low = lower_grows f.end _ _ g.longer r.low;
        short = omega (arith, r.short);
      }

  pub stands_grows : {bus more : Bus} {f : Feed} {g m n : ℕ} → Grown bus more → m ≤ n → Stands b bus f g m → Stands b more f g n
  stands_grows g h r =
      record {
        live = live_grows g h r.live;
        number = r.number;
        standing = r.standing;
        ends = r.ends;
        numbered = g.rerouters_in r.number r.standing r.numbered;
        no_corner = r.no_corner;
      }

  pub live_placed : {bus : Bus} {f : Feed} {g m n : ℕ} (k : Rerouter) → m < n → Live b bus f g m → Live b (place bus f k) (placed_feed bus f) g n
  live_placed {bus} {f} k h r =
      record {
        back = through (onward_wire bus f) (Memᴰ.head refl) refl (back_grows (place_grows bus f k).wires_in r.back);
        low = omega arith;
        short = omega (arith, r.short);
      }

  pub stands_placed : {bus : Bus} {f : Feed} {g m n : ℕ} (k : Rerouter) → (k.part ≡ part_corner → ⊥) → m < n → Live b bus f g m
      → Stands b (place bus f k) (placed_feed bus f) g n
  stands_placed {bus} {f} k c h r = record { live = live_placed k h r; number = length bus.rerouters; standing = fed_by f k; ends = refl; numbered = here refl; no_corner = c }

abbrev pub is_chain : Rerouter → Bool
is_chain k = eqb k.part part_head || eqb k.part part_link

abbrev pub is_tap : Rerouter → Bool
is_tap k = eqb k.part part_tap

module _ (b : Board) (ps : List PageLanes) (stops : List Stop) where
  -- With the stops `old` and the taps `l` behind it, and c rerouters placed since for the next tap.
  pub record Kept (old : List Stop) (l : List Tap) (c : ℕ) (bus : Bus) : Type 0 where
    pub made : Made b ps bus
    pub named : (k : ℕ) → any (wire_is k) l ≡ false → times_delivered bus.wires k ≡ 0
    -- Every tap stands on the claim of a stop, heads and links on none.
    pub taps_on : (j : Rerouter) → Memᴰ j bus.rerouters → is_tap j ≡ true → (x : ℕ) → near x j.x ≡ true → unclaimed old j.page j.lane x ≡ false
    pub chains_off : (j : Rerouter) → Memᴰ j bus.rerouters → is_chain j ≡ true → unclaimed stops j.page j.lane j.x ≡ true
    -- A tap pays for five rerouters if it is delivered, and else for two.
    pub paid : length bus.rerouters ≤ 3 * deliveries bus + 2 * length l + c

  pub kept_empty : Kept [] [] 0 empty_bus
  unfolding times_delivered
  kept_empty =
      record {
        made = nothing;
        named = λ k h. refl;
        taps_on = λ j m. absurd (Memᴰ.not-nil m);
        chains_off = λ j m. absurd (Memᴰ.not-nil m);
        paid = omega arith;
      }

  pub kept_more : {old : List Stop} {l : List Tap} {c : ℕ} {bus : Bus} (n : ℕ) → c ≤ n → Kept old l c bus → Kept old l n bus
  kept_more n h r = record { made = r.made; named = r.named; taps_on = r.taps_on; chains_off = r.chains_off; paid = omega (arith, r.paid) }

  pub kept_stop : {old : List Stop} {l : List Tap} {c : ℕ} {bus : Bus} (s : Stop) → Kept old l c bus → Kept (s ∷ old) l c bus
  kept_stop {old} s r =
      record {
        made = r.made;
        named = r.named;
        taps_on = λ j m t x n. still_claimed s old j.page j.lane x (r.taps_on j m t x n);
        chains_off = r.chains_off;
        paid = r.paid;
      }

  pub kept_skip : {old : List Stop} {l : List Tap} {bus : Bus} (t : Tap) → Kept old l 2 bus → Kept old (t ∷ l) 0 bus
  kept_skip {l = l} t r =
      record {
        made = r.made;
        named = λ k h. r.named k (or_right (wire_is k t) (any (wire_is k) l) h);
        taps_on = r.taps_on;
        chains_off = r.chains_off;
        paid = omega (arith, r.paid);
      }

  pub kept_serve : {old : List Stop} {l : List Tap} {bus : Bus} (t : Tap) (f : Feed) → Served b ps bus f t.wire → Kept old l 5 bus
      → Kept old (t ∷ l) 0 (deliver b bus f t.wire)
  unfolding deliveries times_delivered
  kept_serve {old} {l} {bus} t f s r =
      record {
        made = serving r.made f t.wire s;
        named = named;
        taps_on = r.taps_on;
        chains_off = r.chains_off;
        paid = omega (arith, r.paid);
      }
    where
      named : (k : ℕ) → any (wire_is k) (t ∷ l) ≡ false → times_delivered (delivery_wire b f t.wire ∷ bus.wires) k ≡ 0
      named k h =
          ap length (keep_no (names k) (delivery_wire b f t.wire) bus.wires (or_left (wire_is k t) (any (wire_is k) l) h))
          ∙ r.named k (or_right (wire_is k t) (any (wire_is k) l) h)

  -- A rerouter placed, in general.
  kept_place : {old : List Stop} {l : List Tap} {c : ℕ} {bus : Bus} (new : List Stop) (f : Feed) (k : Rerouter) → Feeds bus f
      → Stood b ps bus k
      → (is_tap k ≡ true → (x : ℕ) → near x k.x ≡ true → unclaimed new k.page k.lane x ≡ false)
      → (is_chain k ≡ true → unclaimed stops k.page k.lane k.x ≡ true)
      → ((p lane x : ℕ) → unclaimed old p lane x ≡ false → unclaimed new p lane x ≡ false)
      → Kept old l c bus → Kept new l (suc c) (place bus f k)
  unfolding deliveries times_delivered
  kept_place {old} {l} {c} {bus} new f k fed stood taps chains stays r =
      record {
        made = placing r.made f k fed stood;
        named = r.named;
        taps_on = λ j m. on_tap j (Memᴰ.cases_cons m);
        chains_off = λ j m. on_chain j (Memᴰ.cases_cons m);
        paid = omega (arith, r.paid);
      }
    where
      on_tap : (j : Rerouter) → (j ≡ fed_by f k) ⊎ Memᴰ j bus.rerouters → is_tap j ≡ true → (x : ℕ) → near x j.x ≡ true → unclaimed new j.page j.lane x ≡ false
      on_tap j (inl e) = rw e taps
      on_tap j (inr m) = λ t x n. stays j.page j.lane x (r.taps_on j m t x n)

      on_chain : (j : Rerouter) → (j ≡ fed_by f k) ⊎ Memᴰ j bus.rerouters → is_chain j ≡ true → unclaimed stops j.page j.lane j.x ≡ true
      on_chain j (inl e) = rw e chains
      on_chain j (inr m) = r.chains_off j m

  -- Beside a row.
  pub kept_beside : {old : List Stop} {l : List Tap} {c : ℕ} {bus : Bus} (f : Feed) (k : Rerouter) → Feeds bus f
      → in_gutter k ≡ false → Kept old l c bus → Kept old l (suc c) (place bus f k)
  kept_beside {old} f k fed g r =
      kept_place old f k fed (aside g) (λ t. clash t (or_right (is_chain k) (is_tap k) g)) (λ t. clash t (or_left (is_chain k) (is_tap k) g)) (λ p lane x h. h) r

  -- What of a lane is near: heads and links, or taps on their claims.
  touching : {old : List Stop} {l : List Tap} {c : ℕ} {bus : Bus} (p lane x : ℕ) → Kept old l c bus → unclaimed old p lane x ≡ true
      → ((j : Rerouter) → Memᴰ j bus.rerouters → is_chain j ≡ true → Touches p lane x j → ⊥)
      → (j : Rerouter) → Memᴰ j bus.rerouters → in_gutter j ≡ true → Touches p lane x j → ⊥
  touching {old} p lane x r h chains j m g t = go (is_chain j) refl
    where
      go : (s : Bool) → is_chain j ≡ s → ⊥
      go true e = chains j m e t
      go false e = clash h (let u = r.taps_on j m (rw e at g) x t.close in rw (t.page, t.column) at u)

  -- A head or link, where the column is free.
  pub kept_chain : {old : List Stop} {l : List Tap} {c : ℕ} {bus : Bus} (f : Feed) (k : Rerouter) → Feeds bus f → InLane b ps k
      → is_tap k ≡ false
      → column_free stops bus k.page k.lane k.x ≡ true
      → ((p lane x : ℕ) → unclaimed stops p lane x ≡ true → unclaimed old p lane x ≡ true)
      → Kept old l c bus → Kept old l (suc c) (place bus f k)
  unfolding column_free
  kept_chain {old} {bus = bus} f k fed lane t free before r =
      kept_place old f k fed (in_column lane (touching k.page k.lane k.x r (before k.page k.lane k.x unclaimed_all) none_near))
      (λ e. clash e t)
      (λ e. unclaimed_all) (λ p lane x h. h) r
    where
      others : Bool
      others = any (rerouter_near k.page k.lane k.x) bus.rerouters

      unclaimed_all : unclaimed stops k.page k.lane k.x ≡ true
      unclaimed_all = and_left (unclaimed stops k.page k.lane k.x) (not others) free

      none_near : (j : Rerouter) → Memᴰ j bus.rerouters → is_chain j ≡ true → Touches k.page k.lane k.x j → ⊥
      none_near j m c u =
          let off = none_of (rerouter_near k.page k.lane k.x) (not-true others (and_right (unclaimed stops k.page k.lane k.x) (not others) free)) m in
          clash (rw (eq-eqb j.page k.page u.page, eq-eqb j.lane k.lane u.column, c) u.close) off

  claim_near_lem : (p lane x y : ℕ) (s : Stop) → s.page ≡ p → s.lane ≡ lane → s.level ≡ own y → near x y ≡ true → claim_near p lane x s ≡ true
  claim_near_lem p lane x y s e f g h = rw (eq-eqb s.page p e, eq-eqb s.lane lane f, g) h

  -- The tap of a stop with a level of its own.
  pub kept_tap : {old : List Stop} {l : List Tap} {c : ℕ} {bus : Bus} (s : Stop) (f : Feed) (k : Rerouter) → Feeds bus f
      → InLane b ps k → is_chain k ≡ false
      → s.page ≡ k.page → s.lane ≡ k.lane → s.level ≡ own k.x
      → unclaimed old k.page k.lane k.x ≡ true
      → ((p lane x : ℕ) → unclaimed stops p lane x ≡ true → unclaimed (s ∷ old) p lane x ≡ true)
      → Kept old l c bus → Kept (s ∷ old) l (suc c) (place bus f k)
  kept_tap {old} {bus = bus} s f k fed lane c page column level free before r =
      kept_place (s ∷ old) f k fed (in_column lane (touching k.page k.lane k.x r free chains))
      (λ t x n. on x n (unclaimed (s ∷ old) k.page k.lane x) refl) (λ e. clash e c) (λ p lane x h. still_claimed s old p lane x h) r
    where
      on : (x : ℕ) → near x k.x ≡ true → (t : Bool) → unclaimed (s ∷ old) k.page k.lane x ≡ t → unclaimed (s ∷ old) k.page k.lane x ≡ false
      on x n true e = clash (claim_near_lem k.page k.lane x k.x s page column level n) (claimed_more s old k.page k.lane x e).0
      on x n false e = e

      chains : (j : Rerouter) → Memᴰ j bus.rerouters → is_chain j ≡ true → Touches k.page k.lane k.x j → ⊥
      chains j m h u =
          clash (claim_near_lem j.page j.lane j.x k.x s (page ∙ sym u.page) (column ∙ sym u.column) level (near_turned k.x j.x u.close))
          (claimed_more s old j.page j.lane j.x (before j.page j.lane j.x (r.chains_off j m h))).0
