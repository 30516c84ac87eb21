use Rattle.std.proofs.Common.{◌≡◌, ◌+◌, ◌-◌, ◌<◌, length, refl, arith}
use Rattle.sheet.specs.Table.{columns_of}
use Rattle.sheet.proofs.Turns.{along_start, along_unended, along_done, turn_unread, turn_read, front_long, front_column, last_column, front_ends, last_ends}
use Rattle.sheet.proofs.line.fields_at.Goals as goal

pub loop-i-init : goal.loop-i-init
loop-i-init c = along_start c.args.text.now c.args.at c.args.s c.args.row.now c.requires.1 c.requires.0 c.requires.2

pub returns-in_err-field : goal.returns-in_err-field
returns-in_err-field c = let l = c.in_ok-last in
    let is = c.columns_of-columns.ensures in
    let cut = l.ensures.cases.0 in
    let i = c.loop-i.i in
    let more : i < length (columns_of c.args.s) = omega (arith, c.loop-i-test.true, front_long _ _ _ _ is cut) in
    rw c.from_residual-in_err-field.ensures
    (turn_unread c.loop-i.invariant more (front_ends _ _ _ _ is cut i c.loop-i-test.true) (front_column _ _ _ _ is cut _ i c.loop-i-test.true) (omega arith) refl c.field_at.new.row c.in_err-field.ensures)

pub loop-i-preserved : goal.loop-i-preserved
loop-i-preserved c = let l = c.in_ok-last in
    let is = c.columns_of-columns.ensures in
    let cut = l.ensures.cases.0 in
    let i = c.loop-i.i in
    let x = c.in_ok-field.field in
    let more : i < length (columns_of c.args.s) = omega (arith, c.loop-i-test.true, front_long _ _ _ _ is cut) in
    let turned =
    turn_read c.loop-i.invariant more (front_ends _ _ _ _ is cut i c.loop-i-test.true) (front_column _ _ _ _ is cut _ i c.loop-i-test.true) (omega arith) refl _ x c.in_ok-field.ensures in
    turned _ refl

pub returns-in_err-field-2 : goal.returns-in_err-field-2
returns-in_err-field-2 c = let l = c.in_ok-last in
    let is = c.columns_of-columns.ensures in
    let cut = l.ensures.cases.0 in
    let i = c.loop-i.i in
    let here : i ≡ length l.front.now = omega (arith, c.loop-i-test.false, c.loop-i.auto.i-end) in
    let n : length c.columns_of-columns.result.now ≡ i + 1 = omega (arith, here, l.ensures.cases.1) in
    let before : length c.columns_of-columns.result.now - 1 ≡ i = omega (arith, n) in
    let more : i < length (columns_of c.args.s) = omega (arith, here, front_long _ _ _ _ is cut) in
    rw c.from_residual-in_err-field-2.ensures
    (turn_unread c.loop-i.invariant more (last_ends _ _ _ _ is cut i here) (last_column _ _ _ _ is cut i here) before n c.field_at-2.new.row c.in_err-field-2.ensures)

pub returns-then-text-field : goal.returns-then-text-field
returns-then-text-field c = let l = c.in_ok-last in
    let is = c.columns_of-columns.ensures in
    let cut = l.ensures.cases.0 in
    let i = c.loop-i.i in
    let here : i ≡ length l.front.now = omega (arith, c.loop-i-test.false, c.loop-i.auto.i-end) in
    let long = l.ensures.cases.1 in
    let whole = front_long _ _ _ _ is cut in
    let more : i < length (columns_of c.args.s) = omega (arith, here, whole) in
    along_unended
    (turn_read c.loop-i.invariant more (last_ends _ _ _ _ is cut i here) (last_column _ _ _ _ is cut i here) (omega arith) (omega arith) _ c.in_ok-field-2.field c.in_ok-field-2.ensures _ refl)
    (omega (arith, here, whole)) c.if-text-field.true

pub returns : goal.returns
returns c = let l = c.in_ok-last in
    let is = c.columns_of-columns.ensures in
    let cut = l.ensures.cases.0 in
    let i = c.loop-i.i in
    let here : i ≡ length l.front.now = omega (arith, c.loop-i-test.false, c.loop-i.auto.i-end) in
    let long = l.ensures.cases.1 in
    let whole = front_long _ _ _ _ is cut in
    let more : i < length (columns_of c.args.s) = omega (arith, here, whole) in
    along_done
    (turn_read c.loop-i.invariant more (last_ends _ _ _ _ is cut i here) (last_column _ _ _ _ is cut i here) (omega arith) (omega arith) _ c.in_ok-field-2.field c.in_ok-field-2.ensures _ refl)
    (omega (arith, here, whole)) (omega (arith, c.if-text-field.false))
