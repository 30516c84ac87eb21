-- The exported answer of `lay_mini_bus`: refusal, place, and the counts.
use Rattle.std.specs.Prelude.{Result, Ok, Err}
use Rattle.base.specs.declared.refusal.Refusal.{Refusal}
use Rattle.routes_gutter.specs.declared.laying.BusLaid.{BusLaid}
use Rattle.panzhyqur.specs.declared.mini_call.MiniNumbers.{MiniNumbers}
use Rattle.panzhyqur.specs.Verdict.{verdict_of, no_refusal}
use Rattle.panzhyqur.specs.BusCalls.{nothing_laid}

abbrev pub mini_numbers : Result BusLaid Refusal → MiniNumbers
mini_numbers (Err e) = record { verdict = verdict_of e; counts = nothing_laid.bus }
mini_numbers (Ok laid) = record { verdict = no_refusal; counts = laid.bus }
