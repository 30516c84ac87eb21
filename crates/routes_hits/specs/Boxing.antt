-- A planned sheet with the box tested against it: a refusal of planning (1 to 7, 8), else 9, else how many taps there are. No rule stands here.
use Rattle.std.specs.Prelude.{ℕ, true, false, Result, Ok, Err}
use Rattle.base.specs.declared.refusal.Reason.TheVariants.{BadBox}
use Rattle.base.specs.declared.refusal.Refusal.{Refusal}
use Rattle.base.specs.Refusal.{refusal}
use Rattle.board_plan.specs.declared.TextPlan.{TextPlan}
use Rattle.routes_hits.specs.declared.boxes.PageBox.{PageBox}
use Rattle.routes_hits.specs.Hits.{on_board}

abbrev pub box_plan : PageBox → Result TextPlan Refusal → Result ℕ Refusal
box_plan q (Err e) = Err e
box_plan q (Ok t) =
    elim t.taps [
      | Err e ↦ Err e
      | Ok m ↦ elim (on_board q t.counts.pages) [ true ↦ Ok m | false ↦ Err (refusal BadBox 0) ]
    ]
