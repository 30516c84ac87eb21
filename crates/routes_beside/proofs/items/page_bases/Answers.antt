-- `page_bases` meets its contract. Assumes nothing.
use Rattle.std.proofs.Common.{◌≡◌, ℕ, ◌≤◌, length, get_or, sym, subst, arith}
use Rattle.base.specs.Runs.{sums}
use Rattle.routes_beside.proofs.Filling.{summed_few, summed_bases}
use Rattle.routes_beside.proofs.items.page_bases.Goals as goal

pub sum_up-requires : goal.sum_up-requires
sum_up-requires c =
    let counts = c.count_pages-bases.result in
    let long : length counts ≡ 64 = omega arith in
    subst (λ (n : ℕ). sums (λ j. get_or counts j 0) n ≤ 45056) (sym long) (summed_few c.args.nodes.now counts c.count_pages-bases.ensures 64 (omega arith) c.requires)

pub returns : goal.returns
returns c =
    let counts = c.count_pages-bases.result in
    let long : length counts ≡ 64 = omega arith in
    summed_bases c.args.nodes.now counts c.count_pages-bases.ensures c.sum_up.new.starts (omega (arith, c.sum_up.auto.starts)) (λ k h. c.sum_up.ensures.by_index k (omega (arith, h, long)))
