-- Straight runs: every bus wire of a plan that joins two rerouters keeps to one page, and to one x or one y.
use Rattle.std.specs.Prelude.{ℕ, ◌≡◌, ◌⊎◌}
use mathlib.Core.List.{Memᴰ}
use Rattle.routes.specs.Bus.{Bus, Rerouter, BusWire, rerouter}
use Rattle.routes.specs.Demand3.{Numbered}

-- Two rerouters of one page that stand in one line: at one x or at one y.
pub record InLine (j k : Rerouter) : Type 0 where
  pub page : j.page ≡ k.page
  pub line : (j.x ≡ k.x) ⊎ (j.y ≡ k.y)

-- Every bus wire between two rerouters runs straight, on one page.
pub record Straight (bus : Bus) : Type 0 where
  pub runs : (w : BusWire) (m n : ℕ) (j k : Rerouter) → Memᴰ w bus.wires → w.source ≡ rerouter m → w.target ≡ rerouter n
      → Numbered m j bus.rerouters → Numbered n k bus.rerouters → InLine j k
