-- `place_lanes` meets its contract: each demand taken from the end has its lane. Assumes nothing.
use mathlib.Core.Path.{sym, ◌∙◌, subst}
use mathlib.Core.List.{List}
use Prim.Native.Nat.{ℕ, ◌<◌}
use lib.ListN.{length, get_or, take}
use Rattle.board_lanes.proofs.PageLaws.{LanesFrom, left_inside, left_last, lanes_less}
use Rattle.board_lanes.proofs.demands.place_lanes.Goals as goal

pub loop-demand-preserved : goal.loop-demand-preserved
loop-demand-preserved c =
    let demands = c.args.demands.now in
    let rest = c.loop-demand.demand-iterator.iter.rest.now in
    let new = c.next.new.self.iter.rest.now in
    let d = c.in-Some.demand.now in
    let i = c.loop-demand.invariant in
    let e = c.in-Some.ensures.steps in
    let all = (λ z. take (length (sym e z)) demands) ∙ sym i.0 ∙ e in
    let before = c.args.groups.now in
    let after = c.loop-demand.groups in
    let same = c.loop-demand.auto.groups in
    let room = subst (λ (r : List ℕ). get_or r 3 0 < length before) (left_last demands before after new d same all) (c.requires _ (left_inside demands before after new d same all)) in
    lanes_less demands before after new d same all room (subst (λ (l : List (List ℕ)). LanesFrom demands c.args.groups.now (length l) c.loop-demand.groups) e i.1)
