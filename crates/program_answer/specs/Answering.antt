-- `answer`: sheet bytes in, the plan sheet's bytes or the E line out, and the plan in the buffers.
use Rattle.std.specs.Prelude.{ℕ, ◌≡◌, Bool, true, false, ◌&&◌, List, ◌++◌, leb, ltb, length, drop, Option, Some, None}
use Rattle.base.specs.declared.refusal.Reason.TheVariants.{TooMany}
use Rattle.base.specs.Refusal.{refusal}
use Rattle.sheet.specs.declared.Counts.{Counts}
use Rattle.sheet.specs.Table.{program_most}
use Rattle.board_plan.specs.declared.Lent.{Lent}
use Rattle.board_plan.specs.TextPlan.{fits_lent, shortest, LINE_MOST}
use Rattle.routes.specs.PlanSheet.{refusal_sheet}
use Rattle.routes.specs.Route.{Routed, turned_away, plan, routed, sheet_of}
use Rattle.routes_gutter.specs.Calls.{rerouters_after, bus_wires_after, ports_after, answers_after}

-- S16: the greatest number and place that an E line holds.
abbrev pub TOLD_MOST : ℕ
TOLD_MOST = 4294967294

-- S16: whether an answer can be told. A refusal's number is at most 9.
abbrev pub sayable : Routed → Bool
sayable (turned_away e) = leb e.place TOLD_MOST
sayable (plan b ps bus laid) = true

-- S16: whether an answer is written into so many bytes: where they hold a line. (A plan is made only where they hold all of its lines.)
abbrev pub is_told : ℕ → Routed → Bool
is_told room call = leb LINE_MOST room && sayable call

-- E12, P8: the answer, and the text buffer behind it: the plan sheet or the E line in front and the old rest, or all as it was.
abbrev pub answer_of : Bool → List ℕ → Option ℕ
answer_of true bytes = Some (length bytes)
answer_of false bytes = None

abbrev pub text_after : Bool → List ℕ → List ℕ → List ℕ
text_after true bytes before = bytes ++ drop (length bytes) before
text_after false bytes before = before

pub record Told (call : Routed) (before after : List ℕ) (r : Option ℕ) : Type 0 where
  pub answer : r ≡ answer_of (is_told (length before) call) (sheet_of call)
  pub text_is : after ≡ text_after (is_told (length before) call) (sheet_of call) before

-- S16: whether the line of a number and a place is written into so many bytes.
abbrev pub is_line_told : ℕ → ℕ → ℕ → Bool
is_line_told room number place = leb LINE_MOST room && (leb number TOLD_MOST && leb place TOLD_MOST)

-- S16, E12: the E line of any number and place, and the text buffer behind it.
pub record LineTold (number place : ℕ) (before after : List ℕ) (r : Option ℕ) : Type 0 where
  pub answer : r ≡ answer_of (is_line_told (length before) number place) (refusal_sheet number place)
  pub text_is : after ≡ text_after (is_line_told (length before) number place) (refusal_sheet number place) before

-- The answer and every buffer.
pub record Answered (call : Routed) (before : List ℕ) (old old_wires oldPorts oldAnswers : List (List ℕ)) (after : List ℕ) (rerouters bus_wires ports answers : List (List ℕ)) (r : Option ℕ) : Type 0 where
  pub told : Told call before after r
  pub rerouters_are : rerouters ≡ rerouters_after call old
  pub wires_are : bus_wires ≡ bus_wires_after call old_wires
  pub ports_are : ports ≡ ports_after call oldPorts
  pub answers_are : answers ≡ answers_after call oldAnswers

-- What `answer` finds lent: the lengths of the four buffers and of the text, and the records for which each slice of work space has room.
abbrev pub answer_lent : ℕ → ℕ → ℕ → ℕ → ℕ → List ℕ → Lent
answer_lent rerouters bus_wires ports answers out work =
    record { rerouters = rerouters; bus_wires = bus_wires; ports = ports; answers = answers; work = shortest work; out = out }

unfoldable pub answer_call : Counts → List ℕ → Lent → Routed
answer_call most text lent = routed most (fits_lent lent) text

-- E13: the longest input that the program reads.
abbrev pub INPUT_MOST : ℕ
INPUT_MOST = 65536

-- E13: a longer one is refused before any other test.
abbrev pub input_call : Bool → Routed → Routed
input_call true call = turned_away (refusal TooMany 0)
input_call false call = call

-- E13: the program's answer.
unfoldable pub program_call : List ℕ → Lent → Routed
program_call text lent = input_call (ltb INPUT_MOST (length text)) (answer_call program_most text lent)

-- The same where enough is lent for every board.
unfoldable pub program_routed : List ℕ → Routed
program_routed text = input_call (ltb INPUT_MOST (length text)) (routed program_most (λ b. true) text)

-- S15: what the program lends, but for the text: enough for the most that it takes (S12).
abbrev pub program_lent : ℕ → Lent
program_lent out = record { rerouters = 280; bus_wires = 336; ports = 56; answers = 8; work = 168; out = out }
