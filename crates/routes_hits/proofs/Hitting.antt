-- What a box hits, by the rows of the buffers.
use Prim.Native.Nat.{ℕ, zero, suc, ◌≤◌, ◌<◌}
use native.Mathlib.Omega.{arith}
use mathlib.Core.Path.{◌≡◌, refl, ap, ◌∙◌}
use mathlib.Core.Bool.{Bool, true, false, ◌&&◌, ◌||◌}
use mathlib.Core.List.{List, []}
use lib.Dec.{eqb}
use lib.ListN.{get_or}
use borrow.Author.Tests.{eqb-true, eqb-false, eq-eqb, ne_eqb}
use Rattle.base.specs.Views.{view}
use Rattle.base.proofs.Views.{length-view}
use Rattle.sheet.specs.Table.{MISSING}
use Rattle.board.specs.Rows.{cells_overlap, rerouter_cell}
use Rattle.routes.specs.Bus.{Rerouter, rerouter}
use Rattle.routes.specs.Buffers.{outward, inward, rerouter_in, end_in, wire_in}
use Rattle.routes_hits.specs.declared.boxes.PageBox.{PageBox}
use Rattle.routes_hits.specs.Hits.{lifted, rectangle, x_shown, y_shown, is_under, meets, run_under, test_at, ends_under, wire_under}

-- A rerouter read off its row is shown as the row has it.
outward_inward : (c : ℕ) → c < 4294967296 → outward (inward c) ≡ c
outward_inward c h = omega arith

x_shown_lem : (row : List ℕ) → get_or row 0 0 < 4294967296 → x_shown (rerouter_in row) ≡ lifted (get_or row 0 0)
x_shown_lem row h = ap lifted (outward_inward (get_or row 0 0) h)

y_shown_lem : (row : List ℕ) → get_or row 1 0 < 4294967296 → y_shown (rerouter_in row) ≡ lifted (get_or row 1 0)
y_shown_lem row h = ap lifted (outward_inward (get_or row 1 0) h)

pub under_row : (q : PageBox) (row : List ℕ) → get_or row 0 0 < 4294967296 → get_or row 1 0 < 4294967296
    → is_under q (rerouter_in row)
    ≡ (eqb (get_or row 7 0) q.page && cells_overlap (rerouter_cell (lifted (get_or row 0 0)) (lifted (get_or row 1 0))) (rectangle q))
unfolding is_under
under_row q row h k i = eqb (get_or row 7 0) q.page && cells_overlap (rerouter_cell (x_shown_lem row h i) (y_shown_lem row k i)) (rectangle q)

pub run_rows : (q : PageBox) (a b : List ℕ) → get_or a 0 0 < 4294967296 → get_or a 1 0 < 4294967296 → get_or b 0 0 < 4294967296 → get_or b 1 0 < 4294967296
    → run_under q (rerouter_in a) (rerouter_in b)
    ≡ ((eqb (get_or a 7 0) q.page && eqb (get_or b 7 0) q.page)
    && ((eqb (lifted (get_or a 0 0)) (lifted (get_or b 0 0)) || eqb (lifted (get_or a 1 0)) (lifted (get_or b 1 0)))
    && (meets (lifted (get_or a 0 0)) (lifted (get_or b 0 0)) (rectangle q).x0 (rectangle q).x1
    && meets (lifted (get_or a 1 0)) (lifted (get_or b 1 0)) (rectangle q).y0 (rectangle q).y1)))
unfolding run_under
run_rows q a b ha ka hb kb i =
    (eqb (get_or a 7 0) q.page && eqb (get_or b 7 0) q.page)
    && ((eqb (x_shown_lem a ha i) (x_shown_lem b hb i) || eqb (y_shown_lem a ka i) (y_shown_lem b kb i))
    && (meets (x_shown_lem a ha i) (x_shown_lem b hb i) (rectangle q).x0 (rectangle q).x1 && meets (y_shown_lem a ka i) (y_shown_lem b kb i) (rectangle q).y0 (rectangle q).y1))

-- The test of the rerouter with a number is that of its row; past the rows there is none.
pub test_row : (test : Rerouter → Bool) (m : ℕ) (s : List (List ℕ)) (n : ℕ) → m < n → test_at test m (view rerouter_in s n) ≡ test (rerouter_in (get_or s m []))
test_row test m s zero h = absurd (omega arith)
test_row test m s (suc n) h = go (eqb m n) refl (test_row test m s n)
  where
    go : (t : Bool) → eqb m n ≡ t → (m < n → test_at test m (view rerouter_in s n) ≡ test (rerouter_in (get_or s m [])))
        → test_at test m (view rerouter_in s (suc n)) ≡ test (rerouter_in (get_or s m []))
    go true e ih = let same : m ≡ n = eqb-true m n e in rw (length-view rerouter_in s n, e, same, test_at)
    go false e ih = let less : m ≡ n → ⊥ = eqb-false m n e in rw (length-view rerouter_in s n, e, test_at) (ih (omega arith))

pub test_past : (test : Rerouter → Bool) (m : ℕ) (s : List (List ℕ)) (n : ℕ) → n ≤ m → test_at test m (view rerouter_in s n) ≡ false
test_past test m s zero h = refl
test_past test m s (suc n) h = rw (length-view rerouter_in s n, ne_eqb m n (λ e. omega arith), test_at) (test_past test m s n (omega arith))

-- A bus wire by its row: no hit where an end is a port, or past the rerouters; else that of the run between the two rows.
module _ (q : PageBox) (s : List (List ℕ)) (n : ℕ) (wire : List ℕ) where
  abbrev ks : List Rerouter
  ks = view rerouter_in s n

  pub port_first : (get_or wire 1 0 ≡ MISSING → ⊥) → wire_under q ks (wire_in wire) ≡ false
  unfolding wire_under
  port_first h = rw (ne_eqb (get_or wire 1 0) MISSING h, end_in)

  ends_first : get_or wire 1 0 ≡ MISSING → wire_under q ks (wire_in wire) ≡ ends_under q ks (rerouter (get_or wire 0 0)) (wire_in wire).target
  unfolding wire_under
  ends_first h = rw (eq-eqb (get_or wire 1 0) MISSING h, end_in)

  pub port_second : get_or wire 1 0 ≡ MISSING → (get_or wire 3 0 ≡ MISSING → ⊥) → wire_under q ks (wire_in wire) ≡ false
  port_second h k = ends_first h ∙ rw (ne_eqb (get_or wire 3 0) MISSING k, end_in)

  both : get_or wire 1 0 ≡ MISSING → get_or wire 3 0 ≡ MISSING
      → wire_under q ks (wire_in wire) ≡ test_at (λ j. test_at (run_under q j) (get_or wire 2 0) ks) (get_or wire 0 0) ks
  both h k = ends_first h ∙ rw (eq-eqb (get_or wire 3 0) MISSING k, end_in)

  pub past_first : get_or wire 1 0 ≡ MISSING → get_or wire 3 0 ≡ MISSING → n ≤ get_or wire 0 0 → wire_under q ks (wire_in wire) ≡ false
  past_first h k p = both h k ∙ test_past (λ j. test_at (run_under q j) (get_or wire 2 0) ks) (get_or wire 0 0) s n p

  found_first : get_or wire 1 0 ≡ MISSING → get_or wire 3 0 ≡ MISSING → get_or wire 0 0 < n
      → wire_under q ks (wire_in wire) ≡ test_at (run_under q (rerouter_in (get_or s (get_or wire 0 0) []))) (get_or wire 2 0) ks
  found_first h k p = both h k ∙ test_row (λ j. test_at (run_under q j) (get_or wire 2 0) ks) (get_or wire 0 0) s n p

  pub past_second : get_or wire 1 0 ≡ MISSING → get_or wire 3 0 ≡ MISSING → get_or wire 0 0 < n → n ≤ get_or wire 2 0 → wire_under q ks (wire_in wire) ≡ false
  past_second h k p r = found_first h k p ∙ test_past (run_under q (rerouter_in (get_or s (get_or wire 0 0) []))) (get_or wire 2 0) s n r

  pub found_both : get_or wire 1 0 ≡ MISSING → get_or wire 3 0 ≡ MISSING → get_or wire 0 0 < n → get_or wire 2 0 < n
      → wire_under q ks (wire_in wire) ≡ run_under q (rerouter_in (get_or s (get_or wire 0 0) [])) (rerouter_in (get_or s (get_or wire 2 0) []))
  found_both h k p r = found_first h k p ∙ test_row (run_under q (rerouter_in (get_or s (get_or wire 0 0) []))) (get_or wire 2 0) s n r
