use native.Mathlib.Omega.{arith}
use Prim.Native.Nat.{ℕ, ◌≤◌}
use mathlib.Core.Path.{◌≡◌}
use mathlib.Core.List.{List}
use lib.ListN.{length, take}
use lib.Seq.{length-take-le}
use Rattle.std.proofs.lemmas.Result.{err_from_is_err_and}
use Rattle.board_lanes.proofs.PageLaws.{rows_sound, order_inside, page_full, page_laned}
use Rattle.board_lanes.proofs.demands.plan_page.Goals as goal

pub pack_rows-requires-clause-demands_len_bound : goal.pack_rows-requires-clause-demands_len_bound
pack_rows-requires-clause-demands_len_bound c =
    let rows_of : List (List ℕ) = c.page_demands-n.new.demands in
    let room : c.page_demands-n.result ≤ length (rows_of) = omega arith in
    let front : length (take c.page_demands-n.result (rows_of)) ≡ c.page_demands-n.result = length-take-le c.page_demands-n.result (rows_of) (room) in
    let few = c.args.asking.few.0 in
    (omega (arith, front), rows_sound c.args.asking.taps.now c.args.groups.now c.args.asking.marks.now (length c.args.asking.taps.now) c.args.p c.requires.packable (rows_of) c.page_demands-n.result (room) c.page_demands-n.ensures.page_demands)

pub place_lanes-requires : goal.place_lanes-requires
place_lanes-requires c =
    let rows_of : List (List ℕ) = c.page_demands-n.new.demands in
    let room : c.page_demands-n.result ≤ length (rows_of) = omega arith in
    order_inside c.args.asking.taps.now c.args.groups.now c.args.asking.marks.now (length c.args.asking.taps.now) c.args.p c.requires.packable (rows_of) c.page_demands-n.result (room) c.page_demands-n.ensures.page_demands c.pack_rows.new.demands c.pack_rows.result c.pack_rows.ensures c.pack_rows.auto.demands

pub returns : goal.returns
returns c =
    let rows_of : List (List ℕ) = c.page_demands-n.new.demands in
    let room : c.page_demands-n.result ≤ length (rows_of) = omega arith in
    page_laned c.args.asking.taps.now c.args.groups.now c.args.asking.marks.now (length c.args.asking.taps.now) c.args.p c.requires.packable (rows_of) c.page_demands-n.result (room) c.page_demands-n.ensures.page_demands c.pack_rows.new.demands c.pack_rows.result c.pack_rows.ensures c.pack_rows.auto.demands c.in_ok-count.count c.place_lanes.new.groups c.in_ok-count.was c.place_lanes.ensures

pub returns-in_err-count : goal.returns-in_err-count
returns-in_err-count c =
    let p = err_from_is_err_and c.from_residual.result c.from_residual.ensures.1 in
    let rows_of : List (List ℕ) = c.page_demands-n.new.demands in
    let room : c.page_demands-n.result ≤ length (rows_of) = omega arith in
    rw (p.1, p.2) (page_full c.args.asking.taps.now c.args.groups.now c.args.asking.marks.now (length c.args.asking.taps.now) c.args.p c.requires.packable (rows_of) c.page_demands-n.result (room) c.page_demands-n.ensures.page_demands c.pack_rows.new.demands c.pack_rows.result c.pack_rows.ensures c.pack_rows.auto.demands c.in_err-count.field-0.0 c.in_err-count.was)
