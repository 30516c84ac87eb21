-- What an exported answer begins with: the number and the place of its refusal, or 0 and 0.
use Rattle.base.specs.declared.refusal.Refusal.{Refusal}
use Rattle.base.specs.Refusal.{number_of}
use Rattle.panzhyqur.specs.declared.verdict.Verdict.{Verdict}

abbrev pub verdict_of : Refusal → Verdict
verdict_of e = record { refusal = number_of e.reason; place = e.place }

abbrev pub no_refusal : Verdict
no_refusal = record { refusal = 0; place = 0 }
