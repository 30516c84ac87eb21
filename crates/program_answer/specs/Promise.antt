-- What a user of `answer` and of the program may rely on where a plan is made.
use Rattle.std.specs.Prelude.{ℕ, ◌≡◌, List, ◌++◌, length, drop, Option, Some}
use Rattle.board.specs.Board.{Board}
use Rattle.board.specs.Demands.{PageLanes}
use Rattle.routes.specs.Bus.{Bus}
use Rattle.routes.specs.Buffers.{bus_held}
use Rattle.routes.specs.Demand3.{Demand3}
use Rattle.routes.specs.PlanSheet.{plan_sheet}
use Rattle.routes_promise.specs.Promise.{Promised}

-- The plan sheet of a bus stands in front of the text buffer, with the old rest behind it, and of that bus demand 3 holds.
pub record SheetPromised (b : Board) (ps : List PageLanes) (bus : Bus) (laid : ℕ) (before after : List ℕ) (r : Option ℕ) : Type 0 where
  pub answer : r ≡ Some (length (plan_sheet b ps bus laid))
  pub text_is : after ≡ plan_sheet b ps bus laid ++ drop (length (plan_sheet b ps bus laid)) before
  pub demand3 : Demand3 b bus

-- `answer`: the bus is the one in the first n rerouter rows, k bus wire rows and u port rows.
pub record AnswerPromised (b : Board) (ps : List PageLanes) (laid : ℕ) (before after : List ℕ) (rerouters : List (List ℕ)) (n : ℕ) (bus_wires : List (List ℕ)) (k : ℕ) (ports : List (List ℕ)) (u : ℕ) (r : Option ℕ) : Type 0 where
  pub sheet : SheetPromised b ps (bus_held rerouters n bus_wires k ports u) laid before after r
  pub rows : Promised b rerouters n bus_wires k ports u
