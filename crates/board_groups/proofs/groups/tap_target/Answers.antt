-- `tap_target` meets its contract, by the tests that a wire passes on its way. Assumes nothing.
use Rattle.std.proofs.Common.{rules}
use mathlib.Core.Path.{◌≡◌, sym, ◌∙◌}
use mathlib.Core.List.{[]}
use lib.ListN.{get_or}
use borrow.Author.Tests.{ltb-false}
use Rattle.board_groups.proofs.TapLaws.{answer_closed, answer_sourceless, answer_targetless, answer_tested, anchors_same}
use Rattle.board_groups.proofs.groups.tap_target.Goals as goal

pub returns-then-fact-eq0 : goal.returns-then-fact-eq0
returns-then-fact-eq0 c = λ b w n e r f g h. answer_closed b w _ n c.requires.nodes_len_bound _ _ _ f g h c.if-fact-eq0.true

pub returns-in_err-source : goal.returns-in_err-source
returns-in_err-source c = λ b w n e r f g h.
    c.from_residual.ensures ∙ answer_sourceless b w _ n c.requires.nodes_len_bound _ _ _ f g h c.if-fact-eq0.false (ltb-false _ _ (sym c.in_err-source.ensures.lookup.0))

pub returns-in_err-target : goal.returns-in_err-target
returns-in_err-target c = λ b w n e r f g h.
    c.from_residual-in_err-target.ensures
    ∙ answer_targetless b w _ n c.requires.nodes_len_bound _ _ _ f g h c.if-fact-eq0.false (search rules) (ltb-false _ _ (sym c.in_err-target.ensures.lookup.0))

pub returns : goal.returns
returns c = λ b w n e r f g h.
    let s = get_or c.args.fact 2 0 in
    let t = get_or c.args.fact 3 0 in
    let source : c.in_ok-source.source.now ≡ get_or c.args.nodes.now s [] = search rules in
    let target : c.in_ok-target.target.now ≡ get_or c.args.nodes.now t [] = search rules in
    answer_tested b w _ n c.requires.nodes_len_bound _ _ _ f g h c.if-fact-eq0.false (search rules) (search rules) c.anchors_open.result
    ((rw (source, target) at c.anchors_open.ensures) ∙ anchors_same b w _ _ c.args.wire n e r s t) _ c.then_some.ensures
