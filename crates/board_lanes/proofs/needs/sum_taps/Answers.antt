use Rattle.board_lanes.proofs.GroupLaws.{known, row_none, row_in_lem, sums_more, counts_more}
use native.Mathlib.Omega.{arith}
use Prim.Native.Nat.{ℕ, ◌+◌, ◌≤◌, ◌<◌}
use mathlib.Core.Path.{◌≡◌, refl, sym, ap, ◌∙◌, subst}
use mathlib.Core.List.{List, [], Memᴰ}
use lib.ListN.{length, get_or}
use Rattle.sheet.specs.Table.{MISSING}
use Rattle.board.specs.Board.{field}
use Rattle.board.specs.Groups.{taps_of}
use Rattle.base.specs.Views.{view}
use Rattle.board.specs.Tables.{tap_in}
use Rattle.base.proofs.Views.{view_mem}
use Rattle.board_lanes.proofs.needs.sum_taps.Goals as goal

pub loop-tap-init : goal.loop-tap-init
loop-tap-init c = ((λ g h. let e : field c.args.groups.now g 2 ≡ 0 = ap (λ (r : List ℕ). get_or r 2 0) (c.requires.by_index_2 g h) in omega arith), λ b n e f v g h. c.requires.by_index_2 g h ∙ sym (row_none b g MISSING))

pub loop-tap-preserved : goal.loop-tap-preserved
loop-tap-preserved c =
    let group-inside : field c.args.taps.now c.loop-tap.tap-index 1 < length c.args.s.wires.now = (c.requires.by_index c.loop-tap.tap-index (omega arith)).0 in
    let bounds : (length c.args.s.wires.now ≤ length c.args.facts.now) × (length c.args.s.wires.now ≤ length c.loop-tap.groups) = let a = c.requires.in_bounds.2 in let d = c.requires.in_bounds.3 in (a, omega arith) in
    let a = field c.args.taps.now c.loop-tap.tap-index 1 in
    let w = field c.args.taps.now c.loop-tap.tap-index 7 in
    let inside = group-inside in
    let room : a < length c.loop-tap.groups = omega (arith, bounds) in
    let next : get_or c.with_tap.result 2 0 ≡ field c.loop-tap.groups a 2 + 1 = ap (λ (r : List ℕ). get_or r 2 0) c.with_tap.ensures.value in
    let before = c.loop-tap.invariant.0 a inside in (
      counts_more c.loop-tap.groups (length c.args.s.wires.now) a c.loop-tap.tap-index c.with_tap.result room c.loop-tap.invariant.0 (omega arith),
      λ b n e f v.
          let there : Memᴰ (tap_in (get_or c.args.taps.now c.loop-tap.tap-index [])) (taps_of b) = subst (Memᴰ (tap_in (get_or c.args.taps.now c.loop-tap.tap-index []))) v (view_mem tap_in c.args.taps.now (length c.args.taps.now) c.loop-tap.tap-index (omega arith)) in
          let t = known b (tap_in (get_or c.args.taps.now c.loop-tap.tap-index [])) there in
          let in-wires = t.wire in
          sums_more b c.args.taps.now c.loop-tap.groups (length c.args.s.wires.now) c.loop-tap.tap-index c.with_tap.result room (c.loop-tap.invariant.1 b n e f v)
          (c.with_tap.ensures.value
          ∙ row_in_lem b (tap_in (get_or c.args.taps.now c.loop-tap.tap-index [])) (view tap_in c.args.taps.now c.loop-tap.tap-index) a MISSING c.wire_crosses-crosses.result (get_or c.loop-tap.groups a []) refl c.with_tap.ensures.tap_bound.0 c.with_tap.ensures.tap_bound.1
          (c.wire_crosses-crosses.ensures b w t.target n (ap (λ (ws : List (List ℕ)). get_or ws w []) e) (f.sources w in-wires) (f.targets w in-wires) t.carries)
          (c.loop-tap.invariant.1 b n e f v a inside)),
    )
