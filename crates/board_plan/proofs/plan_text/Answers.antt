use native.Mathlib.Omega.{arith}
use mathlib.Core.Path.{◌≡◌, sym, ◌∙◌}
use Prim.Native.Nat.{ℕ, ◌≤◌}
use lib.ListN.{replicate}
use Rattle.base.proofs.Passing.{passed}
use Rattle.board.specs.Board.{Board}
use Rattle.board.specs.Refusals
use Rattle.board.specs.Refusals.{judged}
use Rattle.board.specs.Walk.{Fresh}
use Rattle.board.proofs.Faults.{fresh_zeros}
use Rattle.board_plan.specs.TextPlan.{BoardChecked, fits_lent}
use Rattle.board_plan.proofs.Reading.{fitting_refused, fitting_judged, board_refused, board_fine}
use Rattle.board_plan.proofs.plan_text.Goals as goal

pub check_board-requires : goal.check_board-requires
check_board-requires c = let fresh : (most : ℕ) → most ≤ 4096 → Fresh (replicate 4096 (replicate {A = ℕ} 3 0)) most = λ most h. fresh_zeros 4096 3 most h (omega arith) in record {
  within_library = c.requires.within_library;
  fresh = fresh 4096 (omega arith);
  fresh_2 = fresh 256 (omega arith);
  fresh_3 = fresh 4096 (omega arith);
}

pub plan_fitting-requires : goal.plan_fitting-requires
plan_fitting-requires c =
    let checked : let a = c.args in let d = c.check_board in (b : Board) × (judged a.asked.most a.text.now ≡ Refusals.board b) × BoardChecked b d.new.rows c.in_ok-counts.counts d.new.body d.new.inner = let a = c.args in
    let d = c.check_board in
    board_fine a.asked.most a.text.now d.new.rows d.new.body d.new.chips d.new.inner c.in_ok-counts.counts c.requires.within_library (sym c.in_ok-counts.was ∙ d.ensures.value) d.ensures.indexed_if d.ensures.rows_if in record {
      work_lent = rw c.check_board.auto.rows c.requires.work_lent;
      board_checked = ((checked).0, (checked).2);
    }

pub shape_of-records-in_err-counts : goal.shape_of-records-in_err-counts
shape_of-records-in_err-counts c = c.check_board.auto.rows

pub returns-in_err-counts : goal.returns-in_err-counts
returns-in_err-counts c = let a = c.args in
    rw (fitting_refused a.asked.most a.text.now (fits_lent a.asked.lent) _ (board_refused a.asked.most a.text.now _ (sym c.in_err-counts.was ∙ c.check_board.ensures.value)))
    (passed c.from_residual.result _ c.from_residual.ensures.1)

pub shape_of-records : goal.shape_of-records
shape_of-records c = c.check_board.auto.rows

pub shape_of-facts : goal.shape_of-facts
shape_of-facts c = c.plan_fitting.auto.facts

pub shape_of-taps : goal.shape_of-taps
shape_of-taps c = c.plan_fitting.auto.taps

pub shape_of-groups : goal.shape_of-groups
shape_of-groups c = c.plan_fitting.auto.groups

pub shape_of-demands : goal.shape_of-demands
shape_of-demands c = c.plan_fitting.auto.demands

pub shape_of-keys : goal.shape_of-keys
shape_of-keys c = c.plan_fitting.auto.keys

pub shape_of-spare : goal.shape_of-spare
shape_of-spare c = c.plan_fitting.auto.spare

pub returns : goal.returns
returns c =
    let checked : let a = c.args in let d = c.check_board in (b : Board) × (judged a.asked.most a.text.now ≡ Refusals.board b) × BoardChecked b d.new.rows c.in_ok-counts.counts d.new.body d.new.inner = let a = c.args in
    let d = c.check_board in
    board_fine a.asked.most a.text.now d.new.rows d.new.body d.new.chips d.new.inner c.in_ok-counts.counts c.requires.within_library (sym c.in_ok-counts.was ∙ d.ensures.value) d.ensures.indexed_if d.ensures.rows_if in
    let a = c.args in
    rw (fitting_judged a.asked.most a.text.now (fits_lent a.asked.lent) (checked).0 (checked).1) (c.plan_fitting.ensures (checked).0 (checked).2)
