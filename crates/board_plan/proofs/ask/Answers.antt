-- The record by its fields.
use lib.ListN.{get_or}
use Rattle.board_plan.specs.TextPlan.{lent_of}
use Rattle.board_plan.proofs.ask.Goals as goal

pub returns : goal.returns
returns c = let l = c.args.buffers in
    λ i. record { most = c.library_most.ensures i; lent = lent_of (get_or l 0 0) (get_or l 1 0) (get_or l 2 0) (get_or l 3 0) (c.shortest_of.ensures i) }
