-- The exported answer of a call that leaves a bus in the buffers, as numbers.
use Rattle.std.specs.Prelude.{Result, Ok, Err}
use Rattle.base.specs.declared.refusal.Refusal.{Refusal}
use Rattle.routes_gutter.specs.declared.laying.BusLaid.{BusLaid}
use Rattle.panzhyqur.specs.declared.bus_calls.PlanNumbers.{PlanNumbers}
use Rattle.panzhyqur.specs.Verdict.{verdict_of, no_refusal}

-- No rerouter, no bus wire, no suppressed port, no group.
abbrev pub nothing_laid : BusLaid
nothing_laid = record { bus = record { rerouters = 0; bus_wires = 0; ports = 0 }; groups = 0 }

-- Refusal, place, rerouters, bus wires, suppressed ports, groups.
abbrev pub plan_numbers : Result BusLaid Refusal → PlanNumbers
plan_numbers (Err e) = record { verdict = verdict_of e; laid = nothing_laid }
plan_numbers (Ok laid) = record { verdict = no_refusal; laid = laid }
