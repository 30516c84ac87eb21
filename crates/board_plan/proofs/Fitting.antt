-- Room for a plan: what the test of the lent lengths says.
use Prim.Native.Nat.{ℕ, ◌+◌, ◌*◌, ◌≤◌, min}
use native.Mathlib.Omega.{arith}
use mathlib.Core.Path.{◌≡◌, refl, ◌∙◌}
use mathlib.Core.Bool.{true}
use mathlib.Core.List.{List, [], ◌∷◌}
use lib.Dec.{leb}
use lib.ListN.{length}
use borrow.Author.Tests.{leb-true}
use Rattle.std.specs.List.{fold, reduce}
use Rattle.std.specs.Option.{unwrap_or}
use Rattle.board.specs.Board.{Board}
use Rattle.board.specs.Planning.{records}
use Rattle.base.proofs.Bools.{and_left, and_right}
use Rattle.board_plan.specs.declared.Lent.{Lent}
use Rattle.board_plan.specs.TextPlan.{LINE_MOST, has_room, fits_counts, fits_lent, shortest}

-- What a board that fits finds lent.
pub record Fits (lent : Lent) (b : Board) : Type 0 where
  pub rerouters : 5 * length b.wires ≤ lent.rerouters
  pub bus_wires : 6 * length b.wires ≤ lent.bus_wires
  pub ports : length b.wires ≤ lent.ports
  pub answers : length b.pages ≤ lent.answers
  pub out : LINE_MOST * (length b.pages + 12 * length b.wires + 1) ≤ lent.out
  pub work : records b ≤ lent.work

pub fits_all : (lent : Lent) (b : Board) → fits_lent lent b ≡ true → Fits lent b
unfolding fits_lent fits_counts has_room records
fits_all lent b e =
    let w : ℕ = length b.wires in
    let two = and_right (leb (5 * w) lent.rerouters) _ e in
    let three = and_right (leb (6 * w) lent.bus_wires) _ two in
    let four = and_right (leb w lent.ports) _ three in
    let five = and_right (leb (length b.pages) lent.answers) _ four in
    let six = and_right (leb (LINE_MOST * (length b.pages + 12 * w + 1)) lent.out) _ five in
    record {
      rerouters = leb-true (5 * w) lent.rerouters (and_left (leb (5 * w) lent.rerouters) _ e);
      bus_wires = leb-true (6 * w) lent.bus_wires (and_left (leb (6 * w) lent.bus_wires) _ two);
      ports = leb-true w lent.ports (and_left (leb w lent.ports) _ three);
      answers = leb-true (length b.pages) lent.answers (and_left (leb (length b.pages) lent.answers) _ four);
      out = leb-true (LINE_MOST * (length b.pages + 12 * w + 1)) lent.out (and_left (leb (LINE_MOST * (length b.pages + 12 * w + 1)) lent.out) _ five);
      work = leb-true _ lent.work six;
    }

-- The shortest of a list is what a fold from its first finds.
shortest_first : (x y : ℕ) (l : List ℕ) → shortest (min x y ∷ l) ≡ min x (shortest (y ∷ l))
unfolding shortest
shortest_first x y [] = refl
shortest_first x y (z ∷ l) = omega arith

shortest_folded : (x : ℕ) (l : List ℕ) → fold min x l ≡ shortest (x ∷ l)
unfolding shortest
shortest_folded x [] = refl
shortest_folded x (y ∷ l) = shortest_folded (min x y) l ∙ shortest_first x y l

pub shortest_reduced : (l : List ℕ) → unwrap_or (reduce min l) 0 ≡ shortest l
unfolding shortest
shortest_reduced [] = refl
shortest_reduced (x ∷ l) = shortest_folded x l
