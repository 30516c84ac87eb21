-- What listing the hits of a plan leaves. No rule stands here.
use Rattle.std.specs.Prelude.{ℕ, ◌≡◌, List, ◌++◌, length, drop}
use Rattle.routes.specs.Bus.{Rerouter, BusWire}
use Rattle.routes_hits.specs.declared.boxes.PageBox.{PageBox}
use Rattle.routes_hits.specs.declared.list.HitCounts.{HitCounts}
use Rattle.routes_hits.specs.Hits.{hits, rerouters_under, wires_under}

-- The list stands in front of the hit buffer, with the old rest behind it, and both counts are told.
pub record Listed (q : PageBox) (ks : List Rerouter) (ws : List BusWire) (old new : List ℕ) (r : HitCounts) : Type 0 where
  pub list : new ≡ hits q ks ws ++ drop (length (hits q ks ws)) old
  pub rerouters : r.rerouters ≡ rerouters_under q ks
  pub wires : r.wires ≡ wires_under q ks ws
