-- Answers that are the levels of the wires tell the corners decided.
use Prim.Native.Nat.{ℕ, ◌+◌, ◌*◌, ◌≤◌}
use native.Mathlib.Omega.{arith}
use mathlib.Core.Path.{◌≡◌, refl, ap, ◌∙◌}
use mathlib.Core.Bool.{Bool, true, false, ◌&&◌}
use mathlib.Core.List.{List, [], ◌∷◌}
use lib.Dec.{eqb}
use lib.ListN.{length, get_or}
use borrow.Author.Tests.{eq-eqb, ne_eqb}
use Rattle.base.specs.Lists.{Found, none, at}
use Rattle.sheet.specs.Table.{MISSING}
use Rattle.board.specs.Board.{Board, x_of}
use Rattle.board.specs.Rows.{brick_cell}
use Rattle.board.specs.Tables.{held}
use Rattle.routes.specs.Levels.{levels_in, lowest, lightest}
use Rattle.routes.specs.Bus.{Bus}
use Rattle.routes_turns.specs.Deciding.{Decided, decide_if, sink_of, clear_by, load_by, muted_by, level_by, decided}
use Rattle.routes_turns.specs.CornerItems.{LevelsHeld}
use Rattle.routes_turns.specs.Told.{level_in, answers_in, told_corners, SinksLow}
use Rattle.routes_turns.proofs.Searching.{Within, levels_fit, lowest_within, lightest_within}

-- A wire's level lies below the end of its sink.
pub level_within : (b : Board) (bus : Bus) (done : List Decided) (w : ℕ) → Within (brick_cell b (sink_of b w)).x1 (level_by b bus done w)
unfolding level_by brick_cell
level_within b bus done w = go (muted_by b done w)
  where
    x : ℕ
    x = x_of b (sink_of b w)

    top : ℕ
    top = (brick_cell b (sink_of b w)).x1

    n : ℕ
    n = levels_in x top

    fits : x + 2 * n ≤ top
    fits = levels_fit x top (omega arith)

    free : ℕ → Bool
    free l = eqb (load_by b done w l) 0 && clear_by b bus done w l

    pick : (f : Found) → Within top f → Within top (elim f [ at l ↦ at l | none ↦ lightest (clear_by b bus done w) (load_by b done w) x n ])
    pick none h = lightest_within (clear_by b bus done w) (load_by b done w) top x n fits
    pick (at l) h = h

    go : (t : Bool) → Within top (elim t [ true ↦ none | false ↦ elim (lowest free x n) [ at l ↦ at l | none ↦ lightest (clear_by b bus done w) (load_by b done w) x n ] ])
    go true = tt
    go false = pick (lowest free x n) (lowest_within free top x n fits)

-- A level that is held is read as it was.
read_held : (top : ℕ) → top ≤ MISSING → (f : Found) → Within top f → (v : ℕ) → v ≡ held f → level_in v ≡ f
read_held top h none w v e = λ i. elim (eq-eqb v MISSING e i) as (λ _. Found) [ true ↦ none | false ↦ at v ]
read_held top h (at l) w v e = (λ i. elim (ne_eqb v MISSING (λ z. omega arith) i) as (λ _. Found) [ true ↦ none | false ↦ at v ]) ∙ ap at e

pub told_decided : (b : Board) (bus : Bus) (answers ws : List ℕ) → LevelsHeld b bus answers ws → SinksLow b ws → told_corners (answers_in answers) ws ≡ decided b bus ws
unfolding told_corners decided
told_decided b bus answers [] levels low = refl
told_decided b bus answers (w ∷ l) levels low =
    let level : Found = level_by b bus (decided b bus l) w in
    let told : answers_in answers (length l) ≡ level =
    read_held (brick_cell b (sink_of b w)).x1 low.0 level (level_within b bus (decided b bus l) w) (get_or answers (length l) 0) levels.0 in
    λ i. decide_if (told i) w (told_decided b bus answers l levels.1 low.1 i)
