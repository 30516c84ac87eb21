-- `lanes::rows::pack_rows` meets its contract: the key rows hold every index, so the lanes put from them are the definition's. Assumes nothing.
use mathlib.Core.Path.{sym, subst}
use mathlib.Core.List.{List, [], map}
use Prim.Native.Nat.{ℕ}
use native.Mathlib.Omega.{arith}
use borrow.Author.Rules.{rules}
use lib.ListN.{length, length-map}
use Rattle.std.specs.Prelude.{Ok}
use Rattle.std.proofs.lemmas.Result.{err_from_is_err_and}
use Rattle.lanes.specs.Keys.{demand_of, PackedRows}
use Rattle.lanes.proofs.AnswerLaws.{index_within, rows_laned, rows_full}
use Rattle.lanes.proofs.rows.pack_rows.Goals as goal

pub returns-in_err-count : goal.returns-in_err-count
returns-in_err-count c =
    let p = err_from_is_err_and c.from_residual.result c.from_residual.ensures.1 in
    rw (p.1, p.2) (rows_full c.args.demands.now c.pack_demands.new.keys c.requires.demands_len_bound.1 c.pack_demands.result c.pack_demands.ensures c.in_err-count.field-0.0 c.in_err-count.was)

pub put_lanes-requires : goal.put_lanes-requires
put_lanes-requires c =
    index_within (map demand_of c.args.demands.now) c.requires.demands_len_bound.1 c.pack_demands.new.keys c.pack_demands.result c.pack_demands.ensures
    (length c.args.demands.now) (omega (arith, length-map c.args.demands.now demand_of))

pub returns : goal.returns
returns c =
    subst (λ (l : List (List ℕ)). PackedRows c.args.demands.now l (Ok c.in_ok-count.count)) (sym (c.put_lanes.ensures []))
    (rows_laned c.args.demands.now c.pack_demands.new.keys c.requires.demands_len_bound.1 c.pack_demands.result c.pack_demands.ensures c.in_ok-count.count (search rules) c.in_ok-count.was)
