-- The whole of it: the items' keys are in range, and once they are ordered and booked, the flags are the answers.
use Prim.Native.Nat.{ℕ, ◌+◌, ◌-◌, ◌*◌, ◌/◌, ◌≤◌, ◌<◌}
use native.Mathlib.Omega.{arith}
use mathlib.Core.Path.{◌≡◌, refl, sym, subst}
use mathlib.Core.Bool.{Bool, true, false}
use mathlib.Core.List.{List, []}
use lib.Dec.{eqb, ltb}
use lib.ListN.{length, get_or}
use borrow.Author.Tests.{eqb-true, eqb-false, ltb-true, ltb-false}
use Rattle.base.specs.Runs.{key_in, order_in, Ordered, SameButOrder}
use Rattle.board.specs.Board.{Board, field, given}
use Rattle.board.specs.Rows
use Rattle.board.specs.Tables.{NodeFacts}
use Rattle.routes_taps.specs.Asking.{source_item, gate_side_item, RowsTold}
use Rattle.routes_rows.specs.Booking.{flags_after}
use Rattle.routes_beside.specs.Beside.{ItemIs, Items, BricksAskable, TapsAskable}
use Rattle.routes_beside.proofs.Keys.{key_below}
use Rattle.routes_beside.proofs.Filled.{same_items}
use Rattle.routes_beside.proofs.Told.{rows_told}

pub item_few : (last : ℕ) (t : Bool) (c : Rows.Cell) (key : ℕ) (r : List ℕ) → ItemIs last t c key r → (t ≡ true → key < last) → get_or r 6 0 ≤ last
item_few last true c key r it below = let e = it.keyed refl in let h = below refl in omega arith
item_few last false c key r it below = let e = it.absent refl in omega arith

module _ (nodes facts laid asked items : List (List ℕ)) (n : ℕ) (ok : BricksAskable nodes facts) (all : TapsAskable nodes laid asked n) (held : Items nodes facts laid asked n items) where
  source_few : (k : ℕ) → k < n → key_in items (source_item (length nodes) k) ≤ length nodes
  source_few k h =
      item_few (length nodes) (eqb (field asked k 2) 1) _ _ (get_or items (source_item (length nodes) k) []) (held.taps k h).0
      (λ e. key_below nodes (field laid k 0) (field asked k 4) ((all.each k h).source (eqb-true (field asked k 2) 1 e)).row)

  gate_side_few : (k : ℕ) → k < n → key_in items (gate_side_item (length nodes) k) ≤ length nodes
  gate_side_few k h =
      item_few (length nodes) (eqb (field asked k 3) 1) _ _ (get_or items (gate_side_item (length nodes) k) []) (held.taps k h).1
      (λ e. key_below nodes (field laid k 0) (field laid k 2) ((all.each k h).gate_side (eqb-true (field asked k 3) 1 e)).row)

  -- Behind the bricks item i is the source or the gate-side of a tap.
  behind_few : (i : ℕ) → length nodes ≤ i → i < length nodes + 2 * n → key_in items i ≤ length nodes
  behind_few i h l = go (eqb i (source_item (length nodes) k)) refl
    where
      k : ℕ
      k = (i - length nodes) / 2

      below : k < n
      below = omega arith

      go : (t : Bool) → eqb i (source_item (length nodes) k) ≡ t → key_in items i ≤ length nodes
      go true e = subst (λ (j : ℕ). key_in items j ≤ length nodes) (sym (eqb-true i (source_item (length nodes) k) e)) (source_few k below)
      go false e =
          let other = eqb-false i (source_item (length nodes) k) e in
          let z : gate_side_item (length nodes) k ≡ i = omega (arith, other) in
          subst (λ (j : ℕ). key_in items j ≤ length nodes) z (gate_side_few k below)

  pub keys_few : (i : ℕ) → i < length nodes + 2 * n → key_in items i ≤ length nodes
  keys_few i h = go (ltb i (length nodes)) refl
    where
      go : (t : Bool) → ltb i (length nodes) ≡ t → key_in items i ≤ length nodes
      go true e =
          let l = ltb-true i (length nodes) e in
          item_few (length nodes) (given (field nodes i 10)) _ _ (get_or items i []) (held.bricks i l)
          (λ r. key_below nodes (field nodes i 10) (field facts i 0) (ok.in_range i l r).row)
      go false e = behind_few i (ltb-false i (length nodes) e) h

-- What all of this comes to, of a board with those nodes.
abbrev Answers : Board → (facts laid asked items items' : List (List ℕ)) → (n count : ℕ) → (flags flags' : List ℕ) → List (List ℕ) → Type 0
Answers b facts laid asked items items' n count flags flags' nodes =
    NodeFacts b facts → TapsAskable nodes laid asked n → Items nodes facts laid asked n items → Ordered (key_in items) (order_in items') (length nodes) (length nodes + 2 * n) count
    → length nodes + 2 * n ≤ length flags → ((i : ℕ) → i < length nodes + 2 * n → get_or flags i 0 ≡ 0) → flags' ≡ flags_after items' (length nodes) count flags → (k : ℕ) → k < n → RowsTold b laid asked (length nodes) flags' k

module _ (facts laid asked items items' : List (List ℕ)) (n count : ℕ) (flags flags' : List ℕ) (same : SameButOrder items items') where
  of_board : (b : Board) → Answers b facts laid asked items items' n count flags flags' b.nodes
  of_board b known all held o room empty e k h =
      let keys : key_in items ≡ key_in items' = λ w i. sym (same.same i 6 (omega arith)) w in
      subst (λ (f : List ℕ). RowsTold b laid asked (length b.nodes) f k) (sym e)
      (rows_told b facts laid asked items' n known (same_items b.nodes facts laid asked n items items' same held)
      (λ q l s. ((all.each q l).source (eqb-true (field asked q 2) 1 s)).row) (λ q l s. ((all.each q l).gate_side (eqb-true (field asked q 3) 1 s)).row)
      (length b.nodes + 2 * n) count (subst (λ (key : ℕ → ℕ). Ordered key (order_in items') (length b.nodes) (length b.nodes + 2 * n) count) keys o) refl flags room empty k h)

  pub answered : (nodes : List (List ℕ)) → TapsAskable nodes laid asked n → Items nodes facts laid asked n items → Ordered (key_in items) (order_in items') (length nodes) (length nodes + 2 * n) count
      → length nodes + 2 * n ≤ length flags → ((i : ℕ) → i < length nodes + 2 * n → get_or flags i 0 ≡ 0) → flags' ≡ flags_after items' (length nodes) count flags
      → (b : Board) → b.nodes ≡ nodes → NodeFacts b facts → (k : ℕ) → k < n → RowsTold b laid asked (length nodes) flags' k
  answered nodes all held o room empty e b given' known =
      subst (λ (ns : List (List ℕ)). Answers b facts laid asked items items' n count flags flags' ns) given' (of_board b) known all held o room empty e
