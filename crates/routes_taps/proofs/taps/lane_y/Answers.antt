-- `lane_y` meets its contract. Assumes nothing.
use Rattle.board.specs.Demands.{lane_y}
use mathlib.Core.Path.{refl}
use Rattle.routes_taps.proofs.taps.lane_y.Goals as goal

pub returns : goal.returns
unfolding lane_y
returns c = refl
