-- `plan_bus`: what it answers and what it leaves in the page answers.
use Rattle.std.specs.Prelude.{ℕ, ◌≡◌, List, length, Result, Ok, Err}
use Rattle.base.specs.declared.refusal.Refusal.{Refusal}
use Rattle.sheet.specs.Table.{library_most}
use Rattle.board.specs.Planning.{Planning, refused, lanes_for, planning, fits_pages, pages_after}
use Rattle.board_plan.specs.TextPlan.{shortest}

-- The planning of a sheet's text with so many page answers and slices of work space of these lengths lent.
unfoldable pub plan_call : List ℕ → ℕ → List ℕ → Planning
plan_call text answers work = planning library_most (fits_pages answers (shortest work)) text

abbrev pub pages_plan : Planning → Result ℕ Refusal
pages_plan (refused e) = Err e
pages_plan (lanes_for b ps) = Ok (length b.pages)

-- The answer, and all of the page answers: on a refusal they are as they were.
pub record PagesPlanned (call : Planning) (before after : List (List ℕ)) (r : Result ℕ Refusal) : Type 0 where
  pub answer : r ≡ pages_plan call
  pub answers : after ≡ pages_after call before
