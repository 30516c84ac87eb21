-- The finished plan: what `plan_bus`, `lay_bus` and `lay_mini_bus`, run in that order, give.
use Rattle.std.specs.Prelude.{ℕ, zero, suc, Bool, true, false, List, [], ◌∷◌, length}
use Rattle.base.specs.Lists.{keep}
use Rattle.board.specs.Board.{Board}
use Rattle.board.specs.Groups.{Tap, taps_of}
use Rattle.board.specs.Demands.{PageLanes}
use Rattle.routes.specs.Stops.{laid_taps, new_group}
use Rattle.routes.specs.Levels.{stops_of}
use Rattle.routes.specs.Bus.{Bus, BusWire, onward, delivery}
use Rattle.routes.specs.Rerouters.{emit}
use Rattle.routes.specs.Corners.{corners}

-- P6: the laid groups among taps in order.
abbrev pub group_count : List Tap → ℕ
group_count [] = zero
group_count (t ∷ l) = elim (new_group l t) [ true ↦ suc (group_count l) | false ↦ group_count l ]

-- What `lay_bus` gives for the lanes of the pages.
unfoldable pub bus_of : Board → List PageLanes → Bus
bus_of b ps =
    let ts = taps_of b in
    let laid = laid_taps b ts ps in
    let stops = stops_of b ps laid in
    (emit b ts ps stops laid stops).bus

-- P6: how many groups are laid.
unfoldable pub laid_groups : Board → List PageLanes → ℕ
laid_groups b ps = group_count (laid_taps b (taps_of b) ps)

-- W1: the finished plan.
unfoldable pub finished : Board → List PageLanes → Bus
finished b ps = corners b (bus_of b ps)

-- W2, P6: whether a bus wire names a wire, and how many do.
abbrev pub is_delivery : BusWire → Bool
is_delivery w = elim w.carries [ onward ↦ false | delivery k d ↦ true ]

unfoldable pub deliveries : Bus → ℕ
deliveries bus = length (keep is_delivery bus.wires)
