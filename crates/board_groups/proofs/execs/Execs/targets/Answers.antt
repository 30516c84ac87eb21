-- `targets` meets its contract: the key of the node and the port is found. Assumes nothing.
use mathlib.Core.Path.{◌∙◌, subst}
use Prim.Native.Nat.{ℕ}
use mathlib.Core.List.{List}
use lib.ListN.{length, take}
use lib.Seq.{length-take-le}
use native.Mathlib.Omega.{arith}
use Rattle.std.proofs.Math.Logic.{∥∥₁_elim}
use Rattle.std.proofs.Math.Bool.{Bool-set}
use Rattle.std.specs.List.Sorted.{IsBinarySearchResult}
use Rattle.std.specs.Ordering.{nat_cmp}
use Rattle.board_groups.proofs.ExecLaws.{front_keys, exec_searched}
use Rattle.board_groups.proofs.execs.Execs.targets.Goals as goal

pub returns : goal.returns
returns c = let a = c.args.self in
    let n = length a.records.now in
    let front : List ℕ = take n a.keys.now in
    c.is_ok.ensures.value
    ∙ ∥∥₁_elim a.sorted (Bool-set _ _) (λ sorted. exec_searched a.records.now front (length-take-le n a.keys.now a.room) (front_keys a.records.now a.keys.now sorted) c.args.node.0 c.args.port (omega arith) c.binary_search.result
    (subst (λ (k : ℕ). IsBinarySearchResult (λ y. nat_cmp y k) front c.binary_search.result) c.exec_key.ensures c.binary_search.ensures.position))
