-- `fill_questions` meets its contract: the questions' items, stored one behind the other, each read off its sink's brick. Assumes nothing.
use Rattle.std.proofs.Common.{◌≡◌, ℕ, ◌+◌, ◌<◌, [], get_or}
use Rattle.routes_corners.specs.Listing.{question_row}
use Rattle.routes_corners.proofs.items.fill_questions.Given as goal

abbrev pub invariant-loop-q : goal.invariant-loop-q
invariant-loop-q l = ((j : ℕ) → j < l.q → get_or l.items (l.first + j) [] ≡ question_row l.t.s.nodes.now l.t.facts.now l.t.classes.now l.initial.items (get_or l.t.list.now j 0))
    × ((j : ℕ) → j < l.first → get_or l.items j [] ≡ get_or l.initial.items j [])
