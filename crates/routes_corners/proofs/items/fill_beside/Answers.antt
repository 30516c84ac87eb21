use Rattle.std.proofs.Common.{ℕ, ◌+◌, ◌<◌, List, [], length, get_or, arith}
use Rattle.routes.specs.Buffers.{rerouter_in}
use Rattle.routes_corners.specs.Listing.{BesideIs}
use Rattle.routes_corners.proofs.Listing.{stored_at, kept_below}
use Rattle.routes_corners.proofs.items.fill_beside.Goals as goal

pub loop-i-preserved : goal.loop-i-preserved
loop-i-preserved c =
    let a = c.args in
    let l = c.loop-i in
    let room : length a.nodes.now + l.i < length l.items = omega (arith, c.loop-i-test.true, c.requires.items_room, l.auto.items) in
    let P : ℕ → List ℕ → Type 0 = λ j v. BesideIs a.nodes.now (rerouter_in (get_or a.rerouters.now j [])) v in (
      stored_at P a.items.now l.items (length a.nodes.now) l.i c.beside_item.result room c.beside_item.ensures l.invariant.0,
      kept_below P a.items.now l.items (length a.nodes.now) l.i c.beside_item.result room l.invariant.1,
    )
