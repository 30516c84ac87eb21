use native.Mathlib.Omega.{arith}
use Prim.Native.Nat.{◌<◌}
use mathlib.Core.Path.{ap, subst}
use mathlib.Core.List.{[], Memᴰ}
use lib.ListN.{length, get_or}
use Rattle.board.specs.Board.{field}
use Rattle.board.specs.Groups.{taps_of}
use Rattle.board.specs.Tables.{held, tap_in}
use Rattle.base.proofs.Views.{view_mem}
use Rattle.board_groups.specs.Collecting.{head_page}
use Rattle.board_groups.proofs.Filling.{filled_more}
use Rattle.board_lanes.proofs.GroupLaws.{known, source_held, source_below, row_first, row_last, row_crosses}
use Rattle.board_lanes.proofs.needs.mark_heads.Goals as goal

pub loop-k-preserved : goal.loop-k-preserved
loop-k-preserved c =
    let group-inside : field c.args.taps.now c.loop-k.k 1 < length c.args.s.wires.now = c.requires.by_index c.loop-k.k (omega arith) in
    let g = field c.args.taps.now c.loop-k.k 1 in
    let tap = tap_in (get_or c.args.taps.now c.loop-k.k []) in
    λ b n e f v z.
    let there : Memᴰ tap (taps_of b) = subst (Memᴰ tap) v (view_mem tap_in c.args.taps.now (length c.args.taps.now) c.loop-k.k (omega arith)) in
    let t = known b tap there in
    let inside = group-inside in
    let q = ap length e in
    let in-wires : g < length b.wires = omega arith in
    let source = source_held b g t.first t.leads (field c.args.facts.now g 2) (f.sources g in-wires) in
    let low = source_below b g t.first t.leads in
    let o = ap length n in
    filled_more (λ j. held (head_page b (taps_of b) (tap_in (get_or c.args.taps.now j [])))) c.loop-k.marks c.loop-k.k c.held.result 0 (omega arith) (c.loop-k.invariant b n e f v z)
    (c.held.ensures (head_page b (taps_of b) tap) (c.head_page.ensures b (taps_of b) n source (omega arith)
    (row_first b (taps_of b) tap there _ (get_or c.args.groups.now g []) (z g in-wires)) (row_last b (taps_of b) tap there _ (get_or c.args.groups.now g []) (z g in-wires)) (row_crosses b (taps_of b) tap there _ (get_or c.args.groups.now g []) (z g in-wires))))
