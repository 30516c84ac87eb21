-- The exported answer of `find_hits`: refusal, place, the counts of hits, the counts of the plan.
use Rattle.std.specs.Prelude.{Result, Ok, Err}
use Rattle.base.specs.declared.refusal.Refusal.{Refusal}
use Rattle.routes_hits.specs.declared.find.HitsFound.{HitsFound}
use Rattle.panzhyqur.specs.declared.hits_call.HitsNumbers.{HitsNumbers}
use Rattle.panzhyqur.specs.Verdict.{verdict_of, no_refusal}
use Rattle.panzhyqur.specs.BusCalls.{nothing_laid}

abbrev pub hits_numbers : Result HitsFound Refusal → HitsNumbers
hits_numbers (Err e) = record { verdict = verdict_of e; found = record { hits = record { rerouters = 0; wires = 0 }; laid = nothing_laid } }
hits_numbers (Ok found) = record { verdict = no_refusal; found = found }
