-- What a `?` hands on: the refusal that the call below returned.
use Rattle.std.proofs.Common.{◌≡◌, Result, Ok, Err, IsErrAnd, ap}

pub passed : {T E : Type 0} (r : Result T E) (e : E) → IsErrAnd r (λ d. d ≡ e) → r ≡ Err e
passed (Ok x) e h = absurd h
passed (Err d) e h = ap Err h
