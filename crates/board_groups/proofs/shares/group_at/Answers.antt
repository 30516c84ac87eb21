-- `group_at` meets its contract: the tap begins a run of packed keys, or has the key of the tap before it, or the first tap is looked for. Assumes nothing.
use mathlib.Core.Path.{sym, ◌∙◌}
use Rattle.board_groups.proofs.ShareLaws.{group_goes_on, starts_later}
use Rattle.board_groups.proofs.shares.group_at.Goals as goal

pub overflow_sub-p : goal.overflow_sub-p
overflow_sub-p c = starts_later c.args.keys.now c.args.p (sym c.starts_run.ensures ∙ c.if-starts_run.false)

pub returns-then-have_one_key : goal.returns-then-have_one_key
returns-then-have_one_key c =
    let a = c.args in
    let m = c.requires.by_index in
    group_goes_on a.wires.now a.taps.now a.keys.now m.0 m.2 a.p c.number_behind-k.result m.1 c.number_behind-k.ensures c.number_behind.result c.number_behind.ensures (sym c.have_one_key.ensures ∙ c.if-have_one_key.true)
    (c.requires.leads_in (starts_later a.keys.now a.p (sym c.starts_run.ensures ∙ c.if-starts_run.false)))
