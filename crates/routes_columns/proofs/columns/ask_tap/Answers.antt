-- `ask_tap` meets its contract: the head is asked for, then the link. Assumes nothing.
use mathlib.Core.Path.{refl, subst}
use mathlib.Core.Bool.{◌&&◌}
use mathlib.Core.List.{List}
use Prim.Native.Nat.{ℕ, ◌+◌}
use Rattle.board.specs.Rows.{REROUTER_SIZE}
use Rattle.routes.specs.Holding.{stop_level_of}
use Rattle.routes.specs.Levels.{is_own}
use Rattle.routes.specs.News.{begins_row}
use Rattle.routes_taps.specs.Asking.{served_at}
use Rattle.routes_columns.specs.Columns.{Claiming}
use Rattle.routes_columns.proofs.Asking.{both_same, tap_asked}
use Rattle.routes_columns.proofs.columns.ask_tap.Goals as goal

pub returns : goal.returns
returns c = let a = c.args in
    let h = c.ask_head-head in
    let l = c.ask_link-link in
    let level = stop_level_of a.level in record {
      same_places = both_same h.ensures.same_places l.ensures.same_places;
      tap_asked = tap_asked a.t a.l a.news level c.requires.page_bound.1 c.lane_key-k.ensures c.requires.claim_room h.ensures.claiming h.ensures.same_places.nexts_long refl refl
          (subst (λ (starts : List ℕ). Claiming starts c.lane_key-k.result (served_at level + REROUTER_SIZE) (begins_row a.news && is_own level) h.new.claims.nexts h.new.claims.xs l.new.claims.nexts l.new.claims.xs l.result) h.ensures.same_places.starts l.ensures.claiming);
    }
