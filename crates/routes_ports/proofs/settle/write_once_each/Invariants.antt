-- Each port once: the last key of each kind is written.
use mathlib.Core.List.{List}
use Prim.Native.Nat.{ℕ}
use Rattle.routes_ports.proofs.Filling.{Filled, once_from}
use Rattle.routes_ports.proofs.settle.write_once_each.Given as goal

abbrev pub invariant-loop-i : goal.invariant-loop-i
invariant-loop-i l = Filled (λ (r : List ℕ). r) (once_from l.keys 0) l.initial.ports l.ports l.n (once_from l.keys l.i)
