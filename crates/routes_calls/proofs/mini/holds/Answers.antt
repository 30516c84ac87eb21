use mathlib.Core.Path.{refl}
use Rattle.routes_calls.specs.Mini.{holds}
use Rattle.routes_calls.proofs.mini.holds.Goals as goal

pub returns : goal.returns
unfolding holds
returns c = refl
