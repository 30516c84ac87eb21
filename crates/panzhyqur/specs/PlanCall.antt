-- The exported answer of `plan_bus`: refusal, place, pages.
use Rattle.std.specs.Prelude.{ℕ, Result, Ok, Err}
use Rattle.base.specs.declared.refusal.Refusal.{Refusal}
use Rattle.panzhyqur.specs.declared.plan_call.PagesNumbers.{PagesNumbers}
use Rattle.panzhyqur.specs.Verdict.{verdict_of, no_refusal}

abbrev pub pages_numbers : Result ℕ Refusal → PagesNumbers
pages_numbers (Err e) = record { verdict = verdict_of e; pages = 0 }
pages_numbers (Ok n) = record { verdict = no_refusal; pages = n }
