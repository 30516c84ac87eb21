-- `starts_run` meets its contract. Assumes nothing.
use mathlib.Core.Path.{◌∙◌}
use mathlib.Core.Bool.{not}
use lib.Dec.{eqb}
use borrow.Author.Tests.{eq-eqb}
use Rattle.board_groups.proofs.ShareLaws.{starts_at_first, starts_behind}
use Rattle.board_groups.proofs.shares.starts_run.Goals as goal

pub returns-then-p-eq0 : goal.returns-then-p-eq0
returns-then-p-eq0 c = eq-eqb c.args.p 0 c.if-p-eq0.true ∙ starts_at_first c.args.keys.now c.args.p c.if-p-eq0.true

pub returns-else-p-eq0 : goal.returns-else-p-eq0
returns-else-p-eq0 c = (λ z. not (eqb (c.key_alone.ensures z) (c.key_alone-else-p-eq0.ensures z))) ∙ starts_behind c.args.keys.now c.args.p c.if-p-eq0.false
