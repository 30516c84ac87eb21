use Rattle.std.proofs.Common.{suc, sym, ◌∙◌, add-one}
use Rattle.sheet.proofs.Numbers.{digits_stop, digits_more, digits_end, value_grows}
use Rattle.sheet.proofs.number.digits_of.Goals as goal

pub returns-in_err-value : goal.returns-in_err-value
returns-in_err-value c = let l = c.loop-b in
    rw c.from_residual.ensures (sym (l.invariant.1 ∙ digits_stop c.args.rest.now l.value l.b-index c.loop-b-test.true c.in_err-value.ensures))

pub loop-b-preserved : goal.loop-b-preserved
loop-b-preserved c = let l = c.loop-b in
    let d = c.in_ok-value.ensures in
    rw (add-one l.b-index) (value_grows (suc l.b-index) l.value _ l.invariant.0 d.1, l.invariant.1 ∙ digits_more c.args.rest.now l.value l.b-index c.loop-b-test.true _ d)

pub returns : goal.returns
returns c = let l = c.loop-b in sym (l.invariant.1 ∙ digits_end c.args.rest.now l.value l.b-index c.loop-b-test.false)
