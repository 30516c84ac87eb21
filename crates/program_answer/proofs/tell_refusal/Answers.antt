use Rattle.program_answer.proofs.Answers.{no_room, number_high, place_high, refusal_told}
use Rattle.program_answer.proofs.tell_refusal.Goals as goal

pub returns-then-out-lt-LINE_MOST : goal.returns-then-out-lt-LINE_MOST
returns-then-out-lt-LINE_MOST c = let a = c.args in no_room a.number a.place a.out.now c.if-out-lt-LINE_MOST.true

pub returns-then-number-gt-TOLD_MOST : goal.returns-then-number-gt-TOLD_MOST
returns-then-number-gt-TOLD_MOST c = let a = c.args in number_high a.number a.place a.out.now c.if-number-gt-TOLD_MOST.true

pub returns-then-place-gt-TOLD_MOST : goal.returns-then-place-gt-TOLD_MOST
returns-then-place-gt-TOLD_MOST c = let a = c.args in place_high a.number a.place a.out.now c.if-number-gt-TOLD_MOST.false c.if-place-gt-TOLD_MOST.true

pub returns : goal.returns
returns c = let a = c.args in
    let p = c.put_refusal in
    refusal_told a.number a.place a.out.now c.if-out-lt-LINE_MOST.false c.if-number-gt-TOLD_MOST.false c.if-place-gt-TOLD_MOST.false p.new.out p.result p.ensures
