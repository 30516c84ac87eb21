-- W, demand 3: what holds of the finished plan of every accepted board, said of its rerouters, its bus wires and the board alone.
use Rattle.std.specs.Prelude.{◌≡◌, ℕ, zero, suc, ◌+◌, ◌<◌, ◌≤◌, Bool, true, false, ◌&&◌, ◌||◌, List, [], ◌∷◌, map, length, ◌==◌, ◌≢◌, nat_eq, nat_le}
use mathlib.Core.List.{Memᴰ}
use Rattle.base.specs.Lists.{any, keep}
use Rattle.board.specs.Board.{Board, source_node, source_port, target_node, target_port}
use Rattle.board.specs.Rows.{REROUTER_SIZE}
use Rattle.board.specs.Groups.{Tap, taps_of}
use Rattle.routes.specs.Bus.{Bus, Rerouter, BusWire, End, port, rerouter, onward, delivery, part_head, part_link, part_tap, part_corner}
use Rattle.routes.specs.Plan.{is_delivery, deliveries}

-- S13: the rerouter of that number: lists hold the newest first, and numbers count from 0.
pub data Numbered (n : ℕ) (k : Rerouter) : List Rerouter → Type 0 where
  here : {l : List Rerouter} → n ≡ length l → Numbered n k (k ∷ l)
  there : {j : Rerouter} {l : List Rerouter} → Numbered n k l → Numbered n k (j ∷ l)

-- W7: how many bus wires arrive at a rerouter.
abbrev pub arrives_at : ℕ → BusWire → Bool
arrives_at n w = elim w.target [ port m p ↦ false | rerouter k ↦ nat_eq k n ]

unfoldable pub arriving : List BusWire → ℕ → ℕ
arriving ws n = length (keep (arrives_at n) ws)

-- W7: a port, or a rerouter before the n-th.
abbrev pub PortOrLower : End → ℕ → Type 0
PortOrLower (port m p) n = Unit {0}
PortOrLower (rerouter m) n = m < n

-- W4: the way back from an end, through so many rerouters, to a node's port.
pub data WayBack (ws : List BusWire) : End → ℕ → ℕ → ℕ → Type 0 where
  at_port : {n p : ℕ} → WayBack ws (port n p) zero n p
  through : {k d n p : ℕ} (w : BusWire) → Memᴰ w ws → w.target ≡ rerouter k → WayBack ws w.source d n p → WayBack ws (rerouter k) (suc d) n p

-- W10: how often a wire is delivered.
abbrev pub names : ℕ → BusWire → Bool
names k w = elim w.carries [ onward ↦ false | delivery j d ↦ nat_eq j k ]

unfoldable pub times_delivered : List BusWire → ℕ → ℕ
times_delivered ws k = length (keep (names k) ws)

-- The distinct numbers of a list.
unfoldable pub distinct : List ℕ → List ℕ
distinct [] = []
distinct (x ∷ l) = elim (any (nat_eq x) l) [ true ↦ distinct l | false ↦ x ∷ distinct l ]

-- W5: how many rows the delivery of tap t has.
unfoldable pub rows_up_to : List Tap → Tap → ℕ
rows_up_to ts t = length (distinct (map (λ u. u.row) (keep (λ u. (u.group == t.group) && nat_le u.row t.row) ts)))

-- W5: how many columns it has.
unfoldable pub columns_on : List Tap → Tap → ℕ
columns_on ts t = length (distinct (map (λ u. u.y) (keep (λ u. (u.group == t.group) && u.row == t.row) ts)))

-- W6: the lane rerouters: heads, links and taps.
abbrev pub in_gutter : Rerouter → Bool
in_gutter k = k.part == part_head || k.part == part_link || k.part == part_tap

-- W6: two rerouters of one page whose spans overlap in x and in y.
pub record Overlap (j k : Rerouter) : Type 0 where
  pub page : j.page ≡ k.page
  pub left : j.x < k.x + REROUTER_SIZE
  pub right : k.x < j.x + REROUTER_SIZE
  pub below : j.y < k.y + REROUTER_SIZE
  pub above : k.y < j.y + REROUTER_SIZE

-- W3, W9: a bus wire delivers wire k, with distance d.
pub record Delivered (b : Board) (ws : List BusWire) (w : BusWire) (k d : ℕ) : Type 0 where
  pub on_board : k < length b.wires
  pub to_target : w.target ≡ port (target_node b k) (target_port b k)
  pub back : WayBack ws w.source d (source_node b k) (source_port b k)

-- W13: the distance d of wire k's delivery is within the bound.
pub record Bounded (b : Board) (k d : ℕ) : Type 0 where
  pub tap : Tap
  pub tap_of_group : Memᴰ tap (taps_of b)
  pub of_wire : tap.wire ≡ k
  pub bound : d ≤ 3 + rows_up_to (taps_of b) tap + columns_on (taps_of b) tap

pub record Demand3 (b : Board) (bus : Bus) : Type 0 where
  -- W7: one bus wire and no more arrives at each.
  pub one_arrives : (n : ℕ) → n < length bus.rerouters → arriving bus.wires n ≡ 1
  -- W7: it leaves a port or an earlier rerouter.
  pub from_lower : (w : BusWire) (n : ℕ) → Memᴰ w bus.wires → w.target ≡ rerouter n → PortOrLower w.source n
  -- W7: only rerouters of the plan are named.
  pub on_plan : (w : BusWire) (n : ℕ) → Memᴰ w bus.wires → w.target ≡ rerouter n → n < length bus.rerouters
  -- W2, W8: a bus wire to a port is a delivery, and leaves a rerouter.
  pub port_named : (w : BusWire) (n p : ℕ) → Memᴰ w bus.wires → w.target ≡ port n p → is_delivery w ≡ true
  pub leaves : (w : BusWire) → Memᴰ w bus.wires → is_delivery w ≡ true → (m : ℕ) × (m < length bus.rerouters) × (w.source ≡ rerouter m)
  -- W9: a delivery has its wire's target and source, and the distance of its way back.
  pub delivered : (w : BusWire) (k d : ℕ) → Memᴰ w bus.wires → w.carries ≡ delivery k d → Delivered b bus.wires w k d
  -- W10: a wire has one delivery at most.
  pub once : (k : ℕ) → times_delivered bus.wires k ≤ 1
  -- W11: the counts add up.
  pub total : length bus.wires ≡ length bus.rerouters + deliveries bus
  -- W12: the distance of a delivery that leaves a corner.
  pub corner_one : (w : BusWire) (k d m : ℕ) (j : Rerouter) → Memᴰ w bus.wires → w.carries ≡ delivery k d → w.source ≡ rerouter m → Numbered m j bus.rerouters → j.part ≡ part_corner → d ≡ 1
  -- W13: the bound on that of any other.
  pub other_bound : (w : BusWire) (k d m : ℕ) (j : Rerouter) → Memᴰ w bus.wires → w.carries ≡ delivery k d → w.source ≡ rerouter m → Numbered m j bus.rerouters → (j.part ≢ part_corner) → Bounded b k d
  -- W14: lane rerouters lie apart.
  pub apart : (m n : ℕ) (j k : Rerouter) → Numbered m j bus.rerouters → Numbered n k bus.rerouters → (m ≢ n) → in_gutter j ≡ true → in_gutter k ≡ true → Overlap j k → ⊥
  -- W15: a rerouter's depth is the count of rerouters on its way back, itself included.
  pub depths : (n : ℕ) (k : Rerouter) → Numbered n k bus.rerouters → (m p : ℕ) × WayBack bus.wires (rerouter n) k.depth m p
  -- W16: a delivery's distance is the depth of the rerouter that it leaves.
  pub leaves_at : (w : BusWire) (k d m : ℕ) (j : Rerouter) → Memᴰ w bus.wires → w.carries ≡ delivery k d → w.source ≡ rerouter m → Numbered m j bus.rerouters → d ≡ j.depth

-- W17: a rerouter that a port feeds has depth 1, any other has one more than its feeder.
pub record Deepening (bus : Bus) : Type 0 where
  pub at_port : (w : BusWire) (n : ℕ) (k : Rerouter) (m p : ℕ) → Memᴰ w bus.wires → w.target ≡ rerouter n → Numbered n k bus.rerouters → w.source ≡ port m p → k.depth ≡ 1
  pub further : (w : BusWire) (n m : ℕ) (k j : Rerouter) → Memᴰ w bus.wires → w.target ≡ rerouter n → Numbered n k bus.rerouters → w.source ≡ rerouter m → Numbered m j bus.rerouters → k.depth ≡ suc j.depth
