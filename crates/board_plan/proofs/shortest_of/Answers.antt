use mathlib.Core.Path.{sym, ap, ◌∙◌}
use Rattle.std.specs.Option.{unwrap_or}
use Rattle.std.proofs.lemmas.Iterator.{YieldsList-from_slice}
use Rattle.std.proofs.lemmas.Iterator.Adapters.{option_map_id}
use Rattle.std.proofs.lemmas.Iterator.Consumers.{YieldsList-at, YieldsList-from_copied, min_from_yields_List}
use Rattle.board_plan.proofs.Fitting.{shortest_reduced}
use Rattle.board_plan.proofs.shortest_of.Goals as goal

pub returns : goal.returns
returns c =
    let l = c.args.lengths in
    let road = YieldsList-from_copied (YieldsList-at c.copied.ensures.source (YieldsList-from_slice l c.iter.ensures.rest)) in
    c.unwrap_or.ensures ∙ ap (λ o. unwrap_or o 0) (sym (option_map_id c.min.result) ∙ min_from_yields_List c.copied.result c.min.result c.min.ensures.ran road) ∙ shortest_reduced l
