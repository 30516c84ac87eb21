-- H, hits: which rerouters and bus wires of a plan lie under a box of a page, and the list of them.
use Rattle.std.specs.Prelude.{ℕ, ◌+◌, ◌%◌, min, max, Bool, true, false, ◌&&◌, ◌||◌, List, [], ◌∷◌, ◌++◌, eqb, ltb, leb, length}
use Rattle.base.specs.Lists.{keep}
use Rattle.board.specs.Rows.{Cell, cells_overlap, rerouter_cell}
use Rattle.routes.specs.Bus.{Rerouter, BusWire, End, port, rerouter}
use Rattle.routes.specs.Buffers.{outward}
use Rattle.routes_hits.specs.declared.boxes.PageBox.{PageBox}

-- H1: a number of 32 bits in two's complement, counted from the least one, so that numbers in order stay in order.
abbrev pub lifted : ℕ → ℕ
lifted c = (c + 2147483648) % 4294967296

-- H1: the rectangle of a box.
abbrev pub rectangle : PageBox → Cell
rectangle q = record { x0 = lifted q.x0; x1 = lifted q.x1; y0 = lifted q.y0; y1 = lifted q.y1 }

-- H6: the box is on a board of so many pages: its page is there, and no range ends under its start.
unfoldable pub on_board : PageBox → ℕ → Bool
on_board q pages = ltb q.page pages && (leb (rectangle q).x0 (rectangle q).x1 && leb (rectangle q).y0 (rectangle q).y1)

-- H1: where a rerouter stands: its x and its y, as they are shown (P7).
abbrev pub x_shown : Rerouter → ℕ
x_shown k = lifted (outward k.x)

abbrev pub y_shown : Rerouter → ℕ
y_shown k = lifted (outward k.y)

-- H2: a rerouter of the page is hit where its cell overlaps the rectangle (C1): touching is a miss.
unfoldable pub is_under : PageBox → Rerouter → Bool
is_under q k = eqb k.page q.page && cells_overlap (rerouter_cell (x_shown k) (y_shown k)) (rectangle q)

-- H3: from a to b, whichever is less, meets the range from low to high, ends included.
abbrev pub meets : ℕ → ℕ → ℕ → ℕ → Bool
meets a b low high = leb (min a b) high && leb low (max a b)

-- H3: two rerouters of the page with equal x or equal y, and the straight run from the one to the other meets the rectangle, edges included.
unfoldable pub run_under : PageBox → Rerouter → Rerouter → Bool
run_under q j k =
    (eqb j.page q.page && eqb k.page q.page)
    && ((eqb (x_shown j) (x_shown k) || eqb (y_shown j) (y_shown k))
    && (meets (x_shown j) (x_shown k) (rectangle q).x0 (rectangle q).x1 && meets (y_shown j) (y_shown k) (rectangle q).y0 (rectangle q).y1))

-- S13: whether the rerouter of that number passes a test; there is none past the last.
abbrev pub test_at : (Rerouter → Bool) → ℕ → List Rerouter → Bool
test_at test n [] = false
test_at test n (k ∷ l) = elim (eqb n (length l)) [ true ↦ test k | false ↦ test_at test n l ]

-- H3: a bus wire between two rerouters is hit where their run is.
abbrev pub ends_under : PageBox → List Rerouter → End → End → Bool
ends_under q ks (port n p) target = false
ends_under q ks (rerouter m) (port n p) = false
ends_under q ks (rerouter m) (rerouter n) = test_at (λ j. test_at (run_under q j) n ks) m ks

unfoldable pub wire_under : PageBox → List Rerouter → BusWire → Bool
wire_under q ks w = ends_under q ks w.source w.target

-- H4: a rerouter that is hit: its number, its part, its lane. A missing lane is −1 in 32 bits.
abbrev pub rerouter_hit : PageBox → ℕ → Rerouter → List ℕ
rerouter_hit q n k = elim (is_under q k) [ true ↦ n ∷ k.part ∷ k.lane ∷ [] | false ↦ [] ]

-- H4: those that are, by rising number.
unfoldable pub rerouters_hit : PageBox → List Rerouter → List ℕ
rerouters_hit q [] = []
rerouters_hit q (k ∷ l) = rerouters_hit q l ++ rerouter_hit q (length l) k

-- H4: the numbers of the bus wires that are hit, rising.
abbrev pub wire_hit : PageBox → List Rerouter → ℕ → BusWire → List ℕ
wire_hit q ks n w = elim (wire_under q ks w) [ true ↦ n ∷ [] | false ↦ [] ]

unfoldable pub wires_hit : PageBox → List Rerouter → List BusWire → List ℕ
wires_hit q ks [] = []
wires_hit q ks (w ∷ l) = wires_hit q ks l ++ wire_hit q ks (length l) w

-- H4: the list of hits: the rerouters, and behind all of them the bus wires.
unfoldable pub hits : PageBox → List Rerouter → List BusWire → List ℕ
hits q ks ws = rerouters_hit q ks ++ wires_hit q ks ws

-- H5: the two counts.
unfoldable pub rerouters_under : PageBox → List Rerouter → ℕ
rerouters_under q ks = length (keep (is_under q) ks)

unfoldable pub wires_under : PageBox → List Rerouter → List BusWire → ℕ
wires_under q ks ws = length (keep (wire_under q ks) ws)
