-- `count_taps` meets its contract: each tap is counted by its row and by its lane. Assumes nothing.
use Rattle.std.proofs.Common.{◌≡◌, ℕ, ◌+◌, ◌-◌, ◌<◌, ◌≤◌, [], length, get_or, take, drop, ap, ◌∙◌, arith, length-take}
use Rattle.board.specs.Board.{field}
use Rattle.routes_levels.specs.Pages.{lane_key, lane_at}
use Rattle.routes_levels.proofs.PageEnds.{tap_at}
use Rattle.routes_levels.proofs.ShareLaws.{share_most, counts_start, sums_start, counts_turn, sums_turn, bumped_most}
use Rattle.routes_levels.proofs.pages.count_taps.Goals as goal

pub loop-tap-init : goal.loop-tap-init
loop-tap-init c = (counts_start c.args.laid.groups.now c.args.laid.taps.now c.args.a c.args.counts.now c.requires.a_le_e.2, sums_start c.args.laid.groups.now c.args.laid.taps.now c.args.a c.args.counts.now c.requires.a_le_e.2)

pub count_key-requires : goal.count_key-requires
count_key-requires c = let l = c.loop-tap in
    let laid = c.args.laid.taps.now in
    let a = c.args.a in
    let m = c.args.e - a in
    let i : l.tap-index < m = omega (arith, c.loop-tap-test.true, length-take m (drop a laid)) in
    let few : (j : ℕ) → get_or l.counts j 0 ≤ 16384 = λ j. omega (arith, l.invariant.0 j, share_most c.args.laid.groups.now laid a j l.tap-index, c.requires.places_fit.most, i) in
    let row = ap (λ r. get_or r 2 0) (tap_at laid a c.args.e l.tap-index c.loop-tap-test.true) in
    let small = c.requires.places_fit.row (a + l.tap-index) (omega arith) in
    (omega (arith, row, small, l.auto.counts, c.requires.a_le_e.1), omega (arith, few (get_or (get_or (take m (drop a laid)) l.tap-index []) 2 0)))

pub count_key-requires-in-loop-tap : goal.count_key-requires-in-loop-tap
count_key-requires-in-loop-tap c = let l = c.loop-tap in
    let laid = c.args.laid.taps.now in
    let a = c.args.a in
    let m = c.args.e - a in
    let i : l.tap-index < m = omega (arith, c.loop-tap-test.true, length-take m (drop a laid)) in
    let few : (j : ℕ) → get_or l.counts j 0 ≤ 16384 = λ j. omega (arith, l.invariant.0 j, share_most c.args.laid.groups.now laid a j l.tap-index, c.requires.places_fit.most, i) in
    let tap = tap_at laid a c.args.e l.tap-index c.loop-tap-test.true in
    let row = ap (λ r. get_or r 2 0) tap in
    let small = c.requires.places_fit.row (a + l.tap-index) (omega arith) in
    let lane = c.requires.places_fit.lane (a + l.tap-index) (omega arith) in
    let same = ap (λ g. field c.args.laid.groups.now g 4) (c.group_of.ensures.0 ∙ ap (λ r. get_or r 1 0) tap) in
    let one = c.count_key in
    let most = bumped_most l.counts (get_or (get_or (take m (drop a laid)) l.tap-index []) 2 0) (omega (arith, row, small, l.auto.counts, c.requires.a_le_e.1)) 16384 few c.lane_key.result in
    let is = ap (λ n. get_or n c.lane_key.result 0) one.ensures in
    (omega (arith, c.lane_key.ensures, same, lane, one.auto.counts, l.auto.counts, c.requires.a_le_e.1), omega (arith, most, is))

pub loop-tap-preserved : goal.loop-tap-preserved
loop-tap-preserved c = let l = c.loop-tap in
    let laid = c.args.laid.taps.now in
    let groups = c.args.laid.groups.now in
    let a = c.args.a in
    let m = c.args.e - a in
    let i : l.tap-index < m = omega (arith, c.loop-tap-test.true, length-take m (drop a laid)) in
    let tap = tap_at laid a c.args.e l.tap-index c.loop-tap-test.true in
    let row = ap (λ r. get_or r 2 0) tap in
    let small = c.requires.places_fit.row (a + l.tap-index) (omega arith) in
    let lane = c.requires.places_fit.lane (a + l.tap-index) (omega arith) in
    let same = ap (λ g. field groups g 4) (c.group_of.ensures.0 ∙ ap (λ r. get_or r 1 0) tap) in
    let one = c.count_key in
    let two = c.count_key-in-loop-tap in
    let k = c.lane_key in
    let r : ℕ = get_or (get_or (take m (drop a laid)) l.tap-index []) 2 0 in
    let rl : r < length l.counts = omega (arith, row, small, l.auto.counts, c.requires.a_le_e.1) in
    let ql : k.result < length l.counts = omega (arith, k.ensures, same, lane, l.auto.counts, c.requires.a_le_e.1) in
    let qe : k.result ≡ lane_at groups laid a l.tap-index = k.ensures ∙ ap lane_key same in (
      counts_turn groups laid a l.tap-index l.counts _ _ r k.result rl ql row qe one.ensures two.ensures l.invariant.0,
      sums_turn groups laid a l.tap-index l.counts _ _ r k.result rl ql row qe one.ensures two.ensures l.invariant.1,
    )
