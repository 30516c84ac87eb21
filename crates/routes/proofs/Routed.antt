-- Demand 3 of every accepted board: whatever the sheet, a plan that it is routed to meets demand 3.
use Rattle.std.proofs.Common.{◌≡◌, ℕ, Bool, List, refl}
use Rattle.sheet.specs.declared.Counts.{Counts}
use Rattle.board.specs.Board.{Board}
use Rattle.board.specs.Demands.{PageLanes}
use Rattle.board.specs.Planning.{Planning, lanes_for, planning}
use Rattle.board.specs.Walk.{WithinLibrary}
use Rattle.base.proofs.Bools.{never}
use Rattle.board.proofs.Accepting.{sheet_accepted}
use Rattle.board.proofs.Planning.{lanes_from}
use Rattle.routes.specs.Bus.{Bus}
use Rattle.routes.specs.Plan.{finished}
use Rattle.routes.specs.Route.{plan, routed, routed_by}
use Rattle.routes.specs.Demand3.{Demand3}
use Rattle.routes.proofs.Demand3.{demand3}

-- The finished plan of every accepted board.
pub routed_demand3 : (most : Counts) → WithinLibrary most → (fits : Board → Bool) (text : List ℕ) (b : Board) (ps : List PageLanes) (bus : Bus) (laid : ℕ)
    → routed most fits text ≡ plan b ps bus laid → Demand3 b bus
unfolding routed
routed_demand3 most low fits text b ps bus laid = go (planning most fits text) refl
  where
    go : (p : Planning) → planning most fits text ≡ p → routed_by finished p ≡ plan b ps bus laid → Demand3 b bus
    go (Planning.refused r) e d = never cc
    go (lanes_for c qs) e d =
        let same : c ≡ b = cc in
        let plan-is : finished c qs ≡ bus = cc in
        rw (← same, ← plan-is) (let from = lanes_from most text fits c qs e in demand3 c qs from.lanes (sheet_accepted most text c low from.accepted))
