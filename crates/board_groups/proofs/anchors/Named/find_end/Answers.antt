-- `find_end` meets its contract: a body node, a node inside a chip, or neither. Assumes nothing.
use mathlib.Core.Path.{sym, ◌∙◌}
use Rattle.board_groups.proofs.Ends.{end_body, end_inner, end_none}
use Rattle.board_groups.proofs.anchors.Named.find_end.Goals as goal

pub returns-in-Some : goal.returns-in-Some
returns-in-Some c = λ b n p f some.
    let s = c.args.self.now in
    (end_body s.sections.nodes.now s.sections.inner.now s.body_index.now s.inner_index.now c.args.self.now.indexed c.args.id.0 b n f c.in-Some.i (sym c.in-Some.is ∙ c.body_node.ensures.value), some)

pub returns-in-Some-find : goal.returns-in-Some-find
returns-in-Some-find c = λ b n p f some.
    let s = c.args.self.now in
    let e = c.inner_anchor.ensures b n p f some in (
      end_inner s.sections.nodes.now s.sections.inner.now s.body_index.now s.inner_index.now c.args.self.now.indexed c.args.id.0 b n f (sym c.in_default.is ∙ c.body_node.ensures.value)
          c.in-Some-find.f (sym c.in-Some-find.is ∙ c.find.ensures.value) c.inner_anchor.result e.0,
      e.1,
    )

pub returns-in-None : goal.returns-in-None
returns-in-None c = λ b n p f some.
    let s = c.args.self.now in (
      end_none s.sections.nodes.now s.sections.inner.now s.body_index.now s.inner_index.now c.args.self.now.indexed c.args.id.0 b n f (sym c.in_default.is ∙ c.body_node.ensures.value)
          (sym c.in-None.is ∙ c.find.ensures.value),
      some,
    )
