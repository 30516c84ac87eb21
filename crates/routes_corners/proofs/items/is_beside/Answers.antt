-- `is_beside` meets its contract: the test on a rerouter. Assumes nothing.
use Rattle.std.proofs.Common.{◌≡◌, ◌<◌, ◌≤◌, length, get_or, arith, rules}
use Rattle.routes_corners.proofs.Listing.{off_pages, on_pages_lem}
use Rattle.routes_corners.proofs.items.is_beside.Goals as goal

pub returns-in_default : goal.returns-in_default
returns-in_default c = let a = c.args in
    let beyond : length a.counts.now ≤ a.page = search rules in
    off_pages a.page a.row (get_or a.counts.now a.page 0) a.x a.y (omega (arith, beyond))

pub returns : goal.returns
returns c = let a = c.args in
    let here : c.in-Some.count.now ≡ get_or a.counts.now a.page 0 = search rules in
    let low : a.page < length a.counts.now = search rules in
    rw here (on_pages_lem a.page a.row (get_or a.counts.now a.page 0) a.x a.y (omega (arith, low)))
