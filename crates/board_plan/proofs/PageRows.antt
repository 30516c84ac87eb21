-- The page answers, written row by row.
use Prim.Native.Nat.{ℕ, suc, ◌+◌, ◌*◌, ◌<◌}
use native.Mathlib.Omega.{arith}
use native.Mathlib.Numerals.{add-one}
use mathlib.Core.Path.{◌≡◌, refl, sym, ap, ap₂, ◌∙◌}
use mathlib.Core.List.{List, [], ◌∷◌, ◌++◌, map, append_assoc, append-nil, map-append}
use lib.ListN.{length, get_or, set, take, drop, drop_of_length-le, length-map}
use lib.Seq.{take-suc, drop-cons, set_at, length-take-le, take-length}
use borrow.Author.Tests.{eq-eqb, ne_eqb}
use Rattle.board.specs.Board.{field}
use Rattle.board.specs.Demands.{PageLanes, no_lanes, band}
use Rattle.board.specs.Tables.{PageFacts}
use Rattle.board.specs.Planning.{page_row}

-- D4: a page's band, by its count of lanes.
pub band_none : (n : ℕ) → n ≡ 0 → 0 ≡ band n
unfolding band
band_none n e = rw (eq-eqb n 0 e, band) refl

pub band_some : (n : ℕ) → (n ≡ 0 → ⊥) → 2 * n + 6 ≡ band n
unfolding band
band_some n e = rw (ne_eqb n 0 e, band) refl

-- The first p rows are written.
abbrev pub PagesUpto : List (List ℕ) → List (List ℕ) → ℕ → List (List ℕ) → Type 0
PagesUpto facts old p answers = (ps : List PageLanes) → length ps ≡ length old → PageFacts ps facts → answers ≡ map page_row (take p ps) ++ drop p old

module _ (facts old : List (List ℕ)) where
  pub pages_more : (p : ℕ) (answers : List (List ℕ)) (b : ℕ) → p < length old → b ≡ band (field facts p 6) → PagesUpto facts old p answers
      → PagesUpto facts old (p + 1) (set answers p (field facts p 6 ∷ b ∷ []))
  pages_more p answers b room is before ps size known =
      let inside : p < length ps = omega arith in
      let row : field facts p 6 ∷ b ∷ [] ≡ page_row (get_or ps p no_lanes) = ap₂ (λ (x y : ℕ). x ∷ y ∷ []) (known p inside) (is ∙ ap band (known p inside)) in
      let front : List (List ℕ) = map page_row (take p ps) in
      let written : set (front ++ (get_or old p [] ∷ drop (suc p) old)) p (page_row (get_or ps p no_lanes)) ≡ front ++ (page_row (get_or ps p no_lanes) ∷ drop (suc p) old) =
      set_at front (get_or old p []) (drop (suc p) old) (page_row (get_or ps p no_lanes)) p (length-map (take p ps) page_row ∙ length-take-le p ps (omega arith)) in
      rw (row, before ps size known, drop-cons old p [] room, written, add-one p, take-suc ps p no_lanes inside, map-append page_row (take p ps) (get_or ps p no_lanes ∷ []))
      (sym (append_assoc front (page_row (get_or ps p no_lanes) ∷ []) (drop (suc p) old)))

  pub pages_done : (p : ℕ) (answers : List (List ℕ)) → p ≡ length old → PagesUpto facts old p answers
      → (ps : List PageLanes) → length ps ≡ length old → PageFacts ps facts → answers ≡ map page_row ps
  pages_done p answers e before ps size known =
      before ps size known
      ∙ ap₂ (λ (l : List PageLanes) (m : List (List ℕ)). map page_row l ++ m) (ap (λ (j : ℕ). take j ps) (e ∙ sym size) ∙ take-length ps) (drop_of_length-le old (omega arith))
      ∙ append-nil (map page_row ps)
