-- Picking rows that pass a test, from a table's newest row to its oldest.
use Prim.Native.Nat.{ℕ, suc, ◌+◌, ◌≤◌, ◌<◌}
use mathlib.Core.Path.{◌≡◌, refl, ap, sym, subst, ◌∙◌}
use mathlib.Core.Bool.{Bool, true, false}
use mathlib.Core.List.{List, [], ◌∷◌, ◌++◌, map, reverse, append-nil, append_assoc, Memᴰ}
use native.Mathlib.Numerals.{add-one}
use native.Mathlib.Omega.{arith}
use lib.ListN.{length, get_or, take, drop, set, length-append, take-append-drop}
use lib.Seq.{take-append_seam, take-length, take-suc-set, take_at, get_or-take}
use Rattle.std.proofs.lemmas.List.{length_push, get_or_push, take-append-le}
use Rattle.base.specs.Sort.{sorted, sorted_rows}
use Rattle.base.proofs.Bools.{pick_true, pick_false}
use Rattle.base.specs.Lists.{keep}
use Rattle.board.specs.Board.{Board}
use Rattle.board.specs.Groups.{Tap}
use Rattle.board.specs.Demands.{PageLanes}
use Rattle.base.specs.Views.{view}
use Rattle.board.specs.Tables.{tap_in, tap_row}
use Rattle.base.proofs.Views.{view-take, view_mem}
use Rattle.routes.specs.Stops.{tap_before, is_laid, laid_taps}
use Rattle.routes_levels.specs.Laying.{Tabled}
use Rattle.routes.proofs.Views.{taps_sorted, taps_read, tap_row_lem}

-- The first n rows picked are those of the taps kept that lie at or above row k.
pub record Picked (p : Tap → Bool) (taps laid : List (List ℕ)) (n k : ℕ) : Type 0 where
  pub rows : map tap_row (keep p (view tap_in taps (length taps))) ≡ take n laid ++ map tap_row (keep p (view tap_in taps k))

-- A tap that passes, at the row below, is stored as the next row; one that does not is left.
module _ {p : Tap → Bool} {taps laid : List (List ℕ)} {n k : ℕ} (row : List ℕ) (is : get_or taps k [] ≡ row) (h : Picked p taps laid n (suc k)) where
  rest : List Tap
  rest = keep p (view tap_in taps k)

  unrolled : keep p (view tap_in taps (suc k)) ≡ elim (p (tap_in row)) [ true ↦ tap_in row ∷ rest | false ↦ rest ]
  unfolding rest
  unrolled = ap (λ (r : List ℕ). elim (p (tap_in r)) [ true ↦ tap_in r ∷ rest | false ↦ rest ]) is

  picked_more : n < length laid → length row ≡ 8 → p (tap_in row) ≡ true → Picked p taps (set laid n row) (n + 1) k
  unfolding rest
  picked_more room eight test =
      let next : keep p (view tap_in taps (suc k)) ≡ tap_in row ∷ rest = unrolled ∙ pick_true (p (tap_in row)) _ _ test in
      let taken : take (n + 1) (set laid n row) ≡ take n laid ++ (row ∷ []) = rw (add-one n) (take-suc-set laid n row room) in
      record {
        rows =
            h.rows ∙ ap (λ l. take n laid ++ map tap_row l) next ∙ ap (λ r. take n laid ++ (r ∷ map tap_row rest)) (tap_row_lem row eight)
            ∙ sym (append_assoc (take n laid) (row ∷ []) (map tap_row rest)) ∙ ap (λ l. l ++ map tap_row rest) (sym taken);
      }

  picked_less : p (tap_in row) ≡ false → Picked p taps laid n k
  unfolding rest
  picked_less test =
      let next : keep p (view tap_in taps (suc k)) ≡ rest = unrolled ∙ pick_false (p (tap_in row)) _ _ test in
      record { rows = h.rows ∙ ap (λ l. take n laid ++ map tap_row l) next }

-- What is left of the taps, walked from the newest on: the first of them, whose rows are still to come.
pub record PickLeft (nodes facts groups taps laid : List (List ℕ)) (n : ℕ) (left : List (List ℕ)) : Type 0 where
  pub first : left ≡ take (length left) taps
  pub room : n + length left ≤ length taps
  pub picked : (b : Board) (ps : List PageLanes) → Tabled b (view tap_in taps (length taps)) ps nodes facts groups
      → Picked (is_laid b (view tap_in taps (length taps)) ps) taps laid n (length left)

pub pick_start : (nodes facts groups taps laid left : List (List ℕ)) → left ≡ taps → PickLeft nodes facts groups taps laid 0 left
pick_start nodes facts groups taps laid left e = rw e (record { first = sym (take-length taps); room = omega arith; picked = λ b ps a. record { rows = refl } })

pub pick_end : {nodes facts groups taps laid left : List (List ℕ)} {n : ℕ} → PickLeft nodes facts groups taps laid n left → length left ≡ 0
    → (b : Board) (ps : List PageLanes) → Tabled b (view tap_in taps (length taps)) ps nodes facts groups
    → take n laid ≡ map tap_row (keep (is_laid b (view tap_in taps (length taps)) ps) (view tap_in taps (length taps)))
pick_end {nodes} {facts} {groups} {taps} {laid} {left} {n} s none b ps a =
    sym ((s.picked b ps a).rows ∙ ap (λ i. take n laid ++ map tap_row (keep (is_laid b (view tap_in taps (length taps)) ps) (view tap_in taps i))) none ∙ append-nil (take n laid))

-- At a turn the last of those left is taken.
module _ {nodes facts groups taps laid left : List (List ℕ)} {n : ℕ} (new : List (List ℕ)) (tap : List ℕ) (turn : left ≡ new ++ (tap ∷ [])) (s : PickLeft nodes facts groups taps laid n left) where
  more : length left ≡ suc (length new)
  more = ap length turn ∙ length_push new tap ∙ add-one (length new)

  last : get_or taps (length new) [] ≡ tap
  last =
      sym (get_or-take (length left) taps (length new) [] (omega (arith, more))) ∙ ap (λ (l : List (List ℕ)). get_or l (length new) []) (sym s.first ∙ turn)
      ∙ get_or_push new tap [] (length new) refl

  front : new ≡ take (length new) taps
  front =
      sym (take-append_seam new (tap ∷ [])) ∙ ap (take (length new)) (sym turn ∙ s.first)
      ∙ sym (take-append-le (length new) (take (length left) taps) (drop (length left) taps) (omega (arith, ap length s.first, more)))
      ∙ ap (take (length new)) (take-append-drop (length left) taps)

  pub pick_mem : Memᴰ (tap_in tap) (view tap_in taps (length taps))
  pick_mem = subst (λ (r : List ℕ). Memᴰ (tap_in r) (view tap_in taps (length taps))) last (view_mem tap_in taps (length taps) (length new) (omega (arith, s.room, more)))

  module _ {passes : Bool} (tested : (b : Board) (ps : List PageLanes) → Tabled b (view tap_in taps (length taps)) ps nodes facts groups
      → passes ≡ is_laid b (view tap_in taps (length taps)) ps (tap_in tap)) where
    pub pick_more : passes ≡ true → length taps ≤ length laid → length tap ≡ 8 → PickLeft nodes facts groups taps (set laid n tap) (n + 1) new
    pick_more test wide eight = record {
      first = front;
      room = omega (arith, s.room, more);
      picked = λ b ps a. picked_more tap last (subst (Picked (is_laid b (view tap_in taps (length taps)) ps) taps laid n) more (s.picked b ps a)) (omega (arith, s.room, more)) eight (sym (tested b ps a) ∙ test);
    }

    pub pick_pass : passes ≡ false → PickLeft nodes facts groups taps laid n new
    pick_pass test = record {
      first = front;
      room = omega (arith, s.room, more);
      picked = λ b ps a. picked_less tap last (subst (Picked (is_laid b (view tap_in taps (length taps)) ps) taps laid n) more (s.picked b ps a)) (sym (tested b ps a) ∙ test);
    }

-- The picked rows, sorted, are the laid taps.
pub laid_sorted : (b : Board) (ts : List Tap) (ps : List PageLanes) (picked sorted' rest : List (List ℕ)) (n : ℕ)
    → picked ≡ map tap_row (keep (is_laid b ts ps) ts) → length sorted' ≡ n → sorted' ≡ sorted_rows picked → view tap_in (sorted' ++ rest) n ≡ laid_taps b ts ps
unfolding laid_taps
laid_sorted b ts ps picked sorted' rest n p long s =
    let room : n ≤ length (sorted' ++ rest) = omega (arith, length-append sorted' rest) in
    let l : List Tap = keep (is_laid b ts ps) ts in
    let rows : take n (sorted' ++ rest) ≡ map tap_row (sorted tap_before l) = take_at sorted' rest n long ∙ s ∙ ap sorted_rows p ∙ sym (taps_sorted l) in
    view-take tap_in (sorted' ++ rest) n room ∙ ap (λ r. reverse (map tap_in r)) rows ∙ ap (λ r. reverse r) (taps_read (sorted tap_before l))
