-- `lanes::allocate_lanes` meets its contract: each return is one line of the definition's. Assumes nothing.
use mathlib.Core.Path.{sym, ap, subst, ◌∙◌}
use mathlib.Core.Logic.{inl, inr, ⊎_elim}
use mathlib.Core.List.{List, map}
use Prim.Native.Nat.{ℕ}
use native.Mathlib.Omega.{arith}
use lib.ListN.{length, length-map}
use lib.Seq.{length-take-le}
use Rattle.std.specs.Prelude.{Ok}
use Rattle.std.proofs.lemmas.Result.{err_from_is_err_and}
use Rattle.lanes.specs.Keys.{demand_of, PackedNumbers}
use Rattle.lanes.proofs.NumberLaws.{demands_in_rows}
use Rattle.lanes.proofs.AnswerLaws.{index_within, numbers_laned, numbers_full}
use Rattle.lanes.proofs.CallLaws.{incomplete, too_many, out_of_range, rows_sound, no_room, by_lanes, by_full}
use Rattle.lanes.proofs.allocate_lanes.Goals as goal

pub returns-then-not-is_empty : goal.returns-then-not-is_empty
returns-then-not-is_empty c =
    incomplete c.args.demands.now c.args.lanes.now (length c.args.work.now) (length c.args.spare.now) c.as_chunks.result.0.now c.as_chunks.ensures.front_len
    (ap (map demand_of) c.as_chunks.ensures.front ∙ demands_in_rows c.args.demands.now)
    (length c.as_chunks.result.1.now) c.as_chunks.ensures.back_len c.if-not-is_empty.ensures

pub returns-then-n-gt-DEMAND_MOST : goal.returns-then-n-gt-DEMAND_MOST
returns-then-n-gt-DEMAND_MOST c =
    too_many c.args.demands.now c.args.lanes.now (length c.args.work.now) (length c.args.spare.now) c.as_chunks.result.0.now c.as_chunks.ensures.front_len
    (ap (map demand_of) c.as_chunks.ensures.front ∙ demands_in_rows c.args.demands.now)
    (length c.as_chunks.result.1.now) c.as_chunks.ensures.back_len c.if-not-is_empty.ensures c.if-n-gt-DEMAND_MOST.true

pub returns-in-Some : goal.returns-in-Some
returns-in-Some c =
    out_of_range c.args.demands.now c.args.lanes.now (length c.args.work.now) (length c.args.spare.now) c.as_chunks.result.0.now c.as_chunks.ensures.front_len
    (ap (map demand_of) c.as_chunks.ensures.front ∙ demands_in_rows c.args.demands.now)
    (length c.as_chunks.result.1.now) c.as_chunks.ensures.back_len c.if-not-is_empty.ensures c.if-n-gt-DEMAND_MOST.false c.in-Some.i (sym c.in-Some.ensures)

pub returns-then-lanes-n : goal.returns-then-lanes-n
returns-then-lanes-n c =
    no_room c.args.demands.now c.args.lanes.now (length c.args.work.now) (length c.args.spare.now) c.as_chunks.result.0.now c.as_chunks.ensures.front_len
    (ap (map demand_of) c.as_chunks.ensures.front ∙ demands_in_rows c.args.demands.now)
    (length c.as_chunks.result.1.now) c.as_chunks.ensures.back_len c.if-not-is_empty.ensures c.if-n-gt-DEMAND_MOST.false (sym c.in_default.ensures)
    (⊎_elim (λ lanes. inl lanes) (λ more. inr (⊎_elim (λ work. inl work.1) (λ spare. inr spare.2) more)) c.then-lanes-n.either)

pub pack_demands-requires : goal.pack_demands-requires
pack_demands-requires c =
    let long = length-take-le (length c.as_chunks.result.0.now) c.args.work.now c.if-work-n.false in (
      omega arith,
      (
        omega arith,
        (
          (
            long,
            omega (arith, long),
            rows_sound c.args.demands.now c.args.lanes.now (length c.args.work.now) (length c.args.spare.now) c.as_chunks.result.0.now c.as_chunks.ensures.front_len
                (ap (map demand_of) c.as_chunks.ensures.front ∙ demands_in_rows c.args.demands.now)
                (length c.as_chunks.result.1.now) c.as_chunks.ensures.back_len c.if-not-is_empty.ensures c.if-n-gt-DEMAND_MOST.false (sym c.in_default.ensures),
          ),
          omega (arith, long),
        ),
      ),
    )

pub returns-in_err-count : goal.returns-in_err-count
returns-in_err-count c =
    let p = err_from_is_err_and c.from_residual.result c.from_residual.ensures.1 in
    rw (p.1, p.2)
    (by_full c.args.demands.now c.args.lanes.now (length c.args.work.now) (length c.args.spare.now) c.as_chunks.result.0.now c.as_chunks.ensures.front_len
    (ap (map demand_of) c.as_chunks.ensures.front ∙ demands_in_rows c.args.demands.now)
    (length c.as_chunks.result.1.now) c.as_chunks.ensures.back_len c.if-not-is_empty.ensures c.if-n-gt-DEMAND_MOST.false (sym c.in_default.ensures)
    c.if-lanes-n.false c.if-work-n.false c.if-spare-n.false c.in_err-count.field-0.0
    (numbers_full (map demand_of c.as_chunks.result.0.now)
    (rows_sound c.args.demands.now c.args.lanes.now (length c.args.work.now) (length c.args.spare.now) c.as_chunks.result.0.now c.as_chunks.ensures.front_len
    (ap (map demand_of) c.as_chunks.ensures.front ∙ demands_in_rows c.args.demands.now)
    (length c.as_chunks.result.1.now) c.as_chunks.ensures.back_len c.if-not-is_empty.ensures c.if-n-gt-DEMAND_MOST.false (sym c.in_default.ensures))
    c.pack_demands.new.keys c.pack_demands.result c.pack_demands.ensures c.args.lanes.now c.in_err-count.field-0.0 c.in_err-count.was))

pub put_lanes-requires : goal.put_lanes-requires
put_lanes-requires c =
    index_within (map demand_of c.as_chunks.result.0.now)
    (rows_sound c.args.demands.now c.args.lanes.now (length c.args.work.now) (length c.args.spare.now) c.as_chunks.result.0.now c.as_chunks.ensures.front_len
    (ap (map demand_of) c.as_chunks.ensures.front ∙ demands_in_rows c.args.demands.now)
    (length c.as_chunks.result.1.now) c.as_chunks.ensures.back_len c.if-not-is_empty.ensures c.if-n-gt-DEMAND_MOST.false (sym c.in_default.ensures))
    c.pack_demands.new.keys c.pack_demands.result c.pack_demands.ensures (length c.args.lanes.now) (omega (arith, length-map c.as_chunks.result.0.now demand_of, c.if-lanes-n.false))

pub returns : goal.returns
returns c =
    by_lanes c.args.demands.now c.args.lanes.now (length c.args.work.now) (length c.args.spare.now) c.as_chunks.result.0.now c.as_chunks.ensures.front_len
    (ap (map demand_of) c.as_chunks.ensures.front ∙ demands_in_rows c.args.demands.now)
    (length c.as_chunks.result.1.now) c.as_chunks.ensures.back_len c.if-not-is_empty.ensures c.if-n-gt-DEMAND_MOST.false (sym c.in_default.ensures)
    c.if-lanes-n.false c.if-work-n.false c.if-spare-n.false c.put_lanes.new.places c.in_ok-count.count
    (subst (λ (left : List ℕ). PackedNumbers (map demand_of c.as_chunks.result.0.now) c.args.lanes.now left (Ok c.in_ok-count.count)) (sym (c.put_lanes.ensures 0))
    (numbers_laned (map demand_of c.as_chunks.result.0.now)
    (rows_sound c.args.demands.now c.args.lanes.now (length c.args.work.now) (length c.args.spare.now) c.as_chunks.result.0.now c.as_chunks.ensures.front_len
    (ap (map demand_of) c.as_chunks.ensures.front ∙ demands_in_rows c.args.demands.now)
    (length c.as_chunks.result.1.now) c.as_chunks.ensures.back_len c.if-not-is_empty.ensures c.if-n-gt-DEMAND_MOST.false (sym c.in_default.ensures))
    c.pack_demands.new.keys c.pack_demands.result c.pack_demands.ensures c.args.lanes.now c.in_ok-count.count (omega (arith, length-map c.as_chunks.result.0.now demand_of, c.if-lanes-n.false)) c.in_ok-count.was))
