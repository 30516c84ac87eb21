use borrow.Author.Rules.{rules}
use mathlib.Core.Path.{◌≡◌, refl, ap, ◌∙◌}
use mathlib.Core.List.{[]}
use Prim.Native.Nat.{ℕ, ◌≤◌}
use native.Mathlib.Omega.{arith}
use lib.ListN.{length, get_or, set}
use lib.Seq.{get_or-set_same, length-take-le}
use Rattle.std.proofs.lemmas.Result.{err_from_is_err_and}
use Rattle.std.proofs.lemmas.List.{set-get_or}
use Rattle.lanes.specs.Keys.{spread, lanes_in}
use Rattle.lanes.specs.Lanes.{Packed, lane_most}
use Rattle.lanes.specs.Table.{open_ends}
use Rattle.lanes.proofs.PackLaws.{row_fits, rest_done, rest_full, rest_more, same_more}
use Rattle.lanes.proofs.StepLaws.{took_none_of, took_which, took_below, took_ends}
use Rattle.lanes.proofs.pack.seat_keys.Goals as goal

pub loop-key-init : goal.loop-key-init
unfolding spread
loop-key-init c = (omega arith, refl, (λ lanes. refl), search rules)

pub overflow_cast-key : goal.overflow_cast-key
overflow_cast-key c =
    let fits = row_fits c.args.keys.now c.loop-key.keys c.loop-key.invariant.1 c.requires c.loop-key.key-index (omega arith) in
    omega (arith, fits.0)

pub overflow_cast-key-in-loop-key : goal.overflow_cast-key-in-loop-key
overflow_cast-key-in-loop-key c =
    let fits = row_fits c.args.keys.now c.loop-key.keys c.loop-key.invariant.1 c.requires c.loop-key.key-index (omega arith) in
    omega (arith, fits.1)

pub returns-in_err-key : goal.returns-in_err-key
returns-in_err-key c =
    let p = err_from_is_err_and c.from_residual.result c.from_residual.ensures.1 in
    let at : c.in_err-key.field-0.0 ≡ record { index = get_or (get_or c.loop-key.keys c.loop-key.key-index []) 3 0 } = (let none = c.in_err-key.ensures.ok_part in let v = c.in_err-key.ensures.value in search rules) in
    rw (p.1, p.2, at, set-get_or c.loop-key.keys c.loop-key.key-index [])
    (record {
      same = c.loop-key.invariant.1;
      result = rest_full c.args.keys.now c.loop-key.keys c.loop-key.key-index (open_ends c.loop-key.table) c.loop-key.invariant.1 c.loop-key.invariant.2 (omega arith)
          (took_none_of c.loop-key.table (get_or (get_or c.loop-key.keys c.loop-key.key-index []) 4 0) (get_or (get_or c.loop-key.keys c.loop-key.key-index []) 5 0) c.take_lane-taken.result c.take_lane-taken.ensures c.in_err-key.ensures.ok_part);
    })

pub loop-key-preserved : goal.loop-key-preserved
loop-key-preserved c =
    let ks = c.loop-key.keys in
    let k = c.loop-key.key-index in
    let first = get_or (get_or ks k []) 4 0 in
    let last = get_or (get_or ks k []) 5 0 in
    let lane = c.in_ok-key.field-0 in
    let t = c.loop-key.table in
    let taken = c.take_lane-taken.result in
    let took = c.take_lane-taken.ensures in
    let is = c.in_ok-key.ensures.ok_part in
    let wide : length (get_or ks k []) ≡ 8 = search rules in
    let row = set (get_or ks k []) 7 lane in (
      took.bounded,
      same_more c.args.keys.now ks k (open_ends t) c.loop-key.invariant.1 c.loop-key.invariant.2 (omega arith) lane row refl,
      rest_more c.args.keys.now ks k (open_ends t) c.loop-key.invariant.1 c.loop-key.invariant.2 (omega arith) lane row refl (get_or-set_same (get_or ks k []) 7 lane 0 (omega arith))
          (took_which t first last taken took lane is) (took_below t first last taken took lane is) (open_ends taken.table) (took_ends t first last taken took lane is),
      search rules,
    )

pub returns : goal.returns
returns c =
    let k : c.loop-key.table.count ≤ lane_most = c.loop-key.invariant.0 in
    let wide = c.loop-key.invariant.3 in
    record {
      same = c.loop-key.invariant.1;
      result = λ lanes. rest_done c.args.keys.now c.loop-key.keys c.loop-key.key-index (open_ends c.loop-key.table) c.loop-key.invariant.1 c.loop-key.invariant.2 (omega arith) lanes
          ∙ ap (λ (n : ℕ). Packed.laned (lanes_in c.loop-key.keys lanes) n) (length-take-le c.loop-key.table.count c.loop-key.table.ends (omega arith));
    }
