-- `list::put` meets its contract. Assumes nothing.
use mathlib.Core.Path.{◌≡◌, ap, ◌∙◌}
use mathlib.Core.List.{◌++◌}
use Prim.Native.Nat.{◌+◌, ◌-◌}
use native.Mathlib.Omega.{arith}
use lib.ListN.{length, take, drop}
use borrow.Author.Rules.{rules}
use borrow.Rule.Slice.PartMut.{Post-is, post_of}
use Rattle.sheet.specs.Written.{written}
use Rattle.routes_hits.proofs.list.put.Goals as goal

pub returns : goal.returns
unfolding written
returns g c =
    let a = c.args in
    let long : length a.said ≡ g.row.N = search rules in
    let behind : a.at + g.row.N ≡ a.at + length a.said = omega (arith, long) in (
      record {
        place = behind;
        buffer = ap (λ ys. take a.at a.hits.now ++ (ys ++ post_of a.at (a.at + g.row.N - a.at) a.hits.now)) c.copy_from_slice.ensures.after
            ∙ (ap (λ rest. take a.at a.hits.now ++ (a.said ++ rest)) (Post-is a.at (a.at + g.row.N) a.hits.now (omega arith))
            ∙ ap (λ n. take a.at a.hits.now ++ (a.said ++ drop n a.hits.now)) behind);
      },
      omega arith,
    )
