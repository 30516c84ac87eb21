-- `check_board` meets its contract: reading the sheet, and then the walk that finds 4 to 6. Assumes nothing.
use Rattle.std.proofs.Common.{◌≡◌, ap, sym, ◌∙◌, Ok}
use Rattle.base.proofs.Passing.{passed}
use Rattle.sheet.specs.Reading.{reading}
use Rattle.sheet.specs.Walk.{survey_of}
use Rattle.board.specs.Refusals.{turned_away, board, judged}
use Rattle.board.specs.Walk.{sheet_board, board_checked}
use Rattle.board.proofs.Judging.{sheet_refused, sheet_counts, sheet_ready, sheet_judged, counts_judged, fault_refused, fault_fine}
use Rattle.board.proofs.refusals.check_board.Goals as goal

pub returns-in_err-kept : goal.returns-in_err-kept
returns-in_err-kept c = let a = c.args in
    let r = c.check_rows.ensures in
    let j : judged a.most a.text.now ≡ turned_away _ = sheet_refused a.most a.text.now r.0 _ (sym c.in_err-kept.was ∙ r.1) in record {
      value = passed c.from_residual.result _ c.from_residual.ensures.1 ∙ ap board_checked (sym j);
      indexed_if = rw j tt;
      rows_if = (λ l e. (r.2 l e).held);
    }

pub find_fault-requires : goal.find_fault-requires
find_fault-requires c = let a = c.args in
    let r = c.check_rows.ensures in
    let fine : Ok c.in_ok-kept.kept ≡ survey_of r.0 (reading a.most a.text.now) = sym c.in_ok-kept.was ∙ r.1 in record {
      ready = sheet_ready a.most a.text.now r.0 _ fine c.requires.within_library r.2;
      counts_value = sheet_counts a.most a.text.now r.0 _ fine;
      fresh = c.requires.fresh;
      fresh_2 = c.requires.fresh_2;
      fresh_3 = c.requires.fresh_3;
    }

pub returns-in_err-find_fault : goal.returns-in_err-find_fault
returns-in_err-find_fault c = let a = c.args in
    let r = c.check_rows.ensures in
    let fine : Ok c.in_ok-kept.kept ≡ survey_of r.0 (reading a.most a.text.now) = sym c.in_ok-kept.was ∙ r.1 in
    let j : judged a.most a.text.now ≡ turned_away _ =
    sheet_judged a.most a.text.now r.0 _ fine ∙ fault_refused (sheet_board a.text.now) _ (sym c.in_err-find_fault.was ∙ c.find_fault.ensures.value) in record {
      value = passed c.from_residual-in_err-find_fault.result _ c.from_residual-in_err-find_fault.ensures.1 ∙ ap board_checked (sym j);
      indexed_if = rw j tt;
      rows_if = (λ l e. (r.2 l e).held);
    }

pub returns : goal.returns
returns c = let a = c.args in
    let r = c.check_rows.ensures in
    let b = sheet_board a.text.now in
    let fine : Ok c.in_ok-kept.kept ≡ survey_of r.0 (reading a.most a.text.now) = sym c.in_ok-kept.was ∙ r.1 in
    let found = c.find_fault in
    let none = c.in_ok-find_fault.was in
    let j : judged a.most a.text.now ≡ board b = sheet_judged a.most a.text.now r.0 _ fine ∙ fault_fine b (sym none ∙ found.ensures.value) in record {
      value = ap Ok (counts_judged a.most a.text.now r.0 _ fine) ∙ ap board_checked (sym j);
      indexed_if = rw j (found.ensures.indexed none);
      rows_if = (λ l e. (r.2 l e).held);
    }
