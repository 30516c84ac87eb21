-- The stop of a tap that begins a row: its lane is its group's, its row's top that of its target anchor.
use Prim.Native.Nat.{◌+◌, ◌<◌}
use native.Mathlib.Omega.{arith}
use mathlib.Core.Path.{sym, ap, ◌∙◌}
use Rattle.board.specs.Board.{field}
use Rattle.routes_levels.proofs.LayLaws.{stops_same, stops_next}
use Rattle.routes_levels.proofs.laying.lay_tap.Goals as goal

pub returns-then-not-begins_row-clause-upper_bound : goal.returns-then-not-begins_row-clause-upper_bound
returns-then-not-begins_row-clause-upper_bound c =
    (omega (arith, c.requires.stop_index.1), λ b ps f h. stops_same b ps c.args.laid.taps.now c.args.k (sym c.news_at.ensures.row ∙ sym c.begins_row.ensures ∙ c.if-not-begins_row.true) _ h)

pub returns-clause-upper_bound : goal.returns-clause-upper_bound
returns-clause-upper_bound c =
    let k = c.args.k in
    let l : k < k + 1 = omega arith in (
      omega (arith, c.requires.stop_index.1),
      λ b ps f h. stops_next b ps c.args.laid.taps.now k (sym c.news_at.ensures.row ∙ sym c.begins_row.ensures ∙ c.if-not-begins_row.false) _ _ _ h
          (ap (λ g. field c.args.laid.groups.now g 4) c.group_of-g.ensures.0 ∙ f.lanes k l) (c.lay_stop.ensures.s_after b (f.tops k l)),
    )
