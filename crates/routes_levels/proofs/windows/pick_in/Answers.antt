-- The lowest free level of a window, else its lightest.
use native.Mathlib.Omega.{arith}
use lib.ListN.{length}
use mathlib.Core.Path.{sym, ◌∙◌}
use Rattle.routes_levels.specs.Search.{load_in, open_in}
use Rattle.routes_levels.proofs.Picking.{picked_low, picked_light}
use Rattle.routes_levels.proofs.Searches.{best_start, best_all}
use Rattle.routes_levels.proofs.windows.pick_in.Goals as goal

pub returns-in-Some : goal.returns-in-Some
returns-in-Some c = λ row lane few w. picked_low row lane _ _ _ (sym c.in-Some.is ∙ c.lowest_in.ensures row lane w)

pub returns : goal.returns
returns c = λ row lane few w.
    let a = c.args in
    picked_light row lane _ _ (sym c.in_default.is ∙ c.lowest_in.ensures row lane w)
    (c.level_of.ensures ∙ best_all (open_in lane) (load_in row) a.start (length a.loads.now) 0 _ _ (c.lightest_in.ensures row lane a.start (length a.loads.now) 0 few w (omega arith) (omega arith) (best_start _ _ _ _ _ (omega arith))) (omega arith))
