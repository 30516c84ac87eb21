-- The program's limits: what it lends is enough for every board that it takes, and what it is told to write has room.
use Prim.Native.Nat.{ℕ, ◌+◌, ◌*◌, ◌≤◌, ◌<◌}
use native.Mathlib.Omega.{arith}
use mathlib.Core.Path.{◌≡◌, refl, sym, ap, subst}
use mathlib.Core.Bool.{Bool, true}
use mathlib.Core.List.{List}
use lib.Dec.{ltb}
use lib.ListN.{length}
use borrow.Author.Tests.{le-leb, lt-ltb, le-ltb}
use Rattle.sheet.specs.declared.Counts.{Counts}
use Rattle.sheet.specs.Table.{program_most}
use Rattle.board.specs.Board.{Board}
use Rattle.board.specs.Refusals.{board, judged}
use Rattle.board.specs.Planning.{Planning}
use Rattle.board_plan.specs.TextPlan.{LINE_MOST, has_room, fits_counts, fits_lent}
use Rattle.board.proofs.Accepting.{from_sheet}
use Rattle.routes_promise.proofs.ThreeCalls.{planning_all}
use Rattle.routes.specs.Plan.{finished}
use Rattle.routes.specs.Route.{turned_away, routed_by, routed}
use Rattle.board_plan.specs.declared.Lent.{Lent}
use Rattle.std.proofs.Common.{Option}
use Rattle.base.specs.declared.refusal.Reason.TheVariants.{TooMany}
use Rattle.base.specs.Refusal.{refusal}
use Rattle.program_answer.specs.Answering.{Told, Answered, INPUT_MOST, input_call, answer_call, program_call, program_routed, program_lent}

-- An input that is too long, and one that is not.
pub too_long : (text : List ℕ) (lent : Lent) → INPUT_MOST < length text → (before after : List ℕ) (r : Option ℕ) → Told (turned_away (refusal TooMany 0)) before after r
    → (old old_wires oldPorts oldAnswers : List (List ℕ)) → Answered (program_call text lent) before old old_wires oldPorts oldAnswers after old old_wires oldPorts oldAnswers r
unfolding program_call
too_long text lent h before after r told old old_wires oldPorts oldAnswers =
    subst (λ (t : Bool). Answered (input_call t (answer_call program_most text lent)) before old old_wires oldPorts oldAnswers after old old_wires oldPorts oldAnswers r) (sym (lt-ltb INPUT_MOST (length text) h))
    (record { told = told; rerouters_are = refl; wires_are = refl; ports_are = refl; answers_are = refl })

pub not_long : (text : List ℕ) (lent : Lent) → length text ≤ INPUT_MOST → (most : Counts) → most ≡ program_most
    → {before after : List ℕ} {old old_wires oldPorts oldAnswers rerouters bus_wires ports answers : List (List ℕ)} {r : Option ℕ}
    → Answered (answer_call most text lent) before old old_wires oldPorts oldAnswers after rerouters bus_wires ports answers r → Answered (program_call text lent) before old old_wires oldPorts oldAnswers after rerouters bus_wires ports answers r
unfolding program_call
not_long text lent h most e {before} {after} {old} {old_wires} {oldPorts} {oldAnswers} {rerouters} {bus_wires} {ports} {answers} {r} a =
    subst (λ (t : Bool). Answered (input_call t (answer_call program_most text lent)) before old old_wires oldPorts oldAnswers after rerouters bus_wires ports answers r) (sym (le-ltb INPUT_MOST (length text) h))
    (subst (λ (m : Counts). Answered (answer_call m text lent) before old old_wires oldPorts oldAnswers after rerouters bus_wires ports answers r) e a)

-- Where every accepted board fits, nothing is refused with 7.
program_room : (text : List ℕ) (out : ℕ) → 87168 ≤ out → (b : Board) → judged program_most text ≡ board b → fits_lent (program_lent out) b ≡ true
unfolding fits_lent fits_counts has_room
program_room text out h b e =
    let k = (from_sheet program_most text b e).known in
    let p = k.few_pages in let n = k.few_nodes in let c = k.few_chips in let i = k.few_inner in let x = k.few_execs in let w = k.few_wires in
    let wires : ℕ = length b.wires in
    let all : ℕ = length b.pages + length b.nodes + length b.chips + length b.inner + length b.execs + length b.wires in
    rw (
      le-leb (5 * wires) 280 (omega arith),
      le-leb (6 * wires) 336 (omega arith),
      le-leb wires 56 (omega arith),
      le-leb (length b.pages) 8 (omega arith),
      le-leb (LINE_MOST * (length b.pages + 12 * wires + 1)) out (omega arith),
      le-leb all 168 (omega arith),
    ) refl

pub program_fits : (text : List ℕ) (out : ℕ) → 87168 ≤ out → program_call text (program_lent out) ≡ program_routed text
unfolding program_call program_routed answer_call routed
program_fits text out h =
    ap (λ (p : Planning). input_call (ltb INPUT_MOST (length text)) (routed_by finished p)) (planning_all program_most text (fits_lent (program_lent out)) (program_room text out h))
