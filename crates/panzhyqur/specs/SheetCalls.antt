-- The answers of the exported calls: refusal, place, counts. Where too few rows are lent the number is 7, and the place 0.
use Rattle.std.specs.Prelude.{Result, Ok, Err}
use Rattle.base.specs.declared.refusal.Refusal.{Refusal}
use Rattle.sheet.specs.declared.Counts.{Counts}
use Rattle.panzhyqur.specs.declared.sheet_calls.SheetNumbers.{SheetNumbers}
use Rattle.panzhyqur.specs.Verdict.{verdict_of, no_refusal}

abbrev pub sheet_numbers : Result Counts Refusal → SheetNumbers
sheet_numbers (Err e) = record { verdict = verdict_of e; counts = record { pages = 0; nodes = 0; chips = 0; inner = 0; execs = 0; wires = 0 } }
sheet_numbers (Ok counts) = record { verdict = no_refusal; counts = counts }
