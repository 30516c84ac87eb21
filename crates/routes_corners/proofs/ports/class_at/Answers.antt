-- `class_at` meets its contract: the first key begins a class, and so does one that is another than the one before. Assumes nothing.
use Rattle.std.proofs.Common.{sym, ◌∙◌}
use Rattle.routes_corners.proofs.PortLaws.{class_first, class_same, class_new}
use Rattle.routes_corners.proofs.ports.class_at.Goals as goal

pub returns-then-p-eq0 : goal.returns-then-p-eq0
returns-then-p-eq0 c = let a = c.args in c.wire_at.ensures ∙ class_first a.keys.now a.class a.p c.if-p-eq0.true

pub returns-then-key_alone : goal.returns-then-key_alone
returns-then-key_alone c = let a = c.args in class_same a.keys.now a.class a.p c.if-p-eq0.false (sym c.key_alone.ensures ∙ (c.if-key_alone.true ∙ c.key_alone-2.ensures))

pub returns : goal.returns
returns c = let a = c.args in c.wire_at-2.ensures ∙ class_new a.keys.now a.class a.p c.if-p-eq0.false (λ e. c.if-key_alone.false (c.key_alone.ensures ∙ (e ∙ sym c.key_alone-2.ensures)))
