use Rattle.std.proofs.Common.{◌<◌, length, arith}
use lib.Seq.{paste-zero}
use Rattle.sheet.specs.Reading.{rows_from, sheet_lines}
use Rattle.sheet.proofs.Walks.{walk_start, walk_unread, walk_stored, walk_next, fill_step, fill_all}
use Rattle.sheet.proofs.fill_rows.Goals as goal

pub loop-row-init : goal.loop-row-init
loop-row-init c = (walk_start c.args.text.now, paste-zero c.args.rows.now 0 (rows_from c.args.text.now))

pub returns-in_default : goal.returns-in_default
returns-in_default c =
    let more : c.loop-row.row-index < length (sheet_lines c.args.text.now) = omega (arith, c.requires.0, c.loop-row-test.true, c.loop-row.auto.rows) in
    absurd (walk_unread c.loop-row.invariant.0 c.requires.1 more c.in_default.ensures)

pub loop-row-preserved : goal.loop-row-preserved
loop-row-preserved c = let l = c.loop-row in
    let more : c.loop-row.row-index < length (sheet_lines c.args.text.now) = omega (arith, c.requires.0, c.loop-row-test.true, c.loop-row.auto.rows) in
    let x = c.in-Some.ensures in (
      walk_next l.invariant.0 c.requires.1 more x,
      fill_step c.args.text.now c.args.rows.now l.rows l.row-index _ (omega (arith, more, c.requires.0)) l.invariant.1 (walk_stored l.invariant.0 c.requires.1 more x),
    )

pub returns : goal.returns
returns c = let l = c.loop-row in
    fill_all c.args.text.now c.args.rows.now l.rows l.row-index (omega (arith, c.loop-row-test.false, c.loop-row.auto.rows)) c.requires.0 l.invariant.1
