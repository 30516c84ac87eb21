-- Booking row by row in the order of keys books, for each item, what booking the items by their numbers would: the state of a row is what the items before have booked there.
use Prim.Native.Nat.{ℕ, zero, suc, ◌≤◌, ◌<◌}
use native.Mathlib.Omega.{arith}
use mathlib.Core.Path.{◌≡◌, refl, ap, sym, ◌∙◌}
use mathlib.Core.Bool.{Bool, true, false, ◌&&◌, ◌||◌}
use mathlib.Core.List.{List, []}
use lib.Dec.{eqb, ltb}
use lib.ListN.{length, get_or, set, length-set}
use lib.Seq.{get_or-set_same, get_or-set_other}
use borrow.Author.Tests.{eqb-true, eqb-false}
use Rattle.base.specs.Lists.{any}
use Rattle.base.specs.Runs.{Ordered}
use Rattle.board.specs.Rows
use Rattle.board.specs.Tables.{flag}
use Rattle.routes_rows.proofs.InTurn.{among, after, step_if, at_its_turn}
use Rattle.routes_rows.specs.Booking.{item_cell, key_of, order_at, clear_of, begins, takes, on_row, book, booked_after, taken_at, flags_after}

module _ (items : List (List ℕ)) (bricks : ℕ) where
  -- An item books its cell where it is a brick or clear of what is booked.
  abbrev book_item : ℕ → List Rows.Cell → List Rows.Cell
  book_item i booked = book (ltb i bricks || clear_of booked (item_cell items i)) (item_cell items i) booked

  -- The cells that the items before i have booked on the row of a key, newest first.
  abbrev pub booked_among : ℕ → ℕ → List Rows.Cell
  booked_among = among items [] book_item

  abbrev pub taken : ℕ → Bool
  taken i = ltb i bricks || clear_of (booked_among (key_of items i) i) (item_cell items i)

  -- Whether one of the cells passes a test, with one item more.
  pub any_next : (f : Rows.Cell → Bool) (key i : ℕ)
      → any f (booked_among key (suc i)) ≡ ((eqb (key_of items i) key && (ltb i bricks || clear_of (booked_among key i) (item_cell items i))) && f (item_cell items i)) || any f (booked_among key i)
  any_next f key i = go (eqb (key_of items i) key)
    where
      one : (t : Bool) → any f (book t (item_cell items i) (booked_among key i)) ≡ (t && f (item_cell items i)) || any f (booked_among key i)
      one true = refl
      one false = refl

      go : (s : Bool) → any f (step_if items [] book_item s i (booked_among key i)) ≡ ((s && (ltb i bricks || clear_of (booked_among key i) (item_cell items i))) && f (item_cell items i)) || any f (booked_among key i)
      go true = one (ltb i bricks || clear_of (booked_among key i) (item_cell items i))
      go false = refl

  after_same : (p : ℕ) → booked_after items bricks p ≡ after items [] book_item p
  unfolding booked_after
  after_same zero = refl
  after_same (suc p) = ap (λ l. book_item (order_at items p) (on_row (begins items p) l)) (after_same p)

  module _ (keys n count : ℕ) (o : Ordered (key_of items) (order_at items) keys n count) where
    -- Where the item that comes p-th is asked, its row's state is what the items before it have booked.
    booked_at_its_turn : (p : ℕ) → p < count → on_row (begins items p) (booked_after items bricks p) ≡ booked_among (key_of items (order_at items p)) (order_at items p)
    booked_at_its_turn p h = ap (on_row (begins items p)) (after_same p) ∙ at_its_turn items [] book_item keys n count o p h

    at_its_taking : (p : ℕ) → p < count → taken_at items bricks p ≡ taken (order_at items p)
    at_its_taking p h = ap (λ l. takes items bricks l p) (booked_at_its_turn p h)

    module _ (flags : List ℕ) (room : n ≤ length flags) where
      length_flags : (p : ℕ) → length (flags_after items bricks p flags) ≡ length flags
      unfolding flags_after
      length_flags zero = refl
      length_flags (suc p) = length-set (flags_after items bricks p flags) (order_at items p) (flag (taken_at items bricks p)) ∙ length_flags p

      -- The flag of an item that has come, and of one that does not.
      came : (m : ℕ) → m ≤ count → (p : ℕ) → p < m → get_or (flags_after items bricks m flags) (order_at items p) 0 ≡ flag (taken (order_at items p))
      unfolding flags_after
      came zero l p h = absurd (omega arith)
      came (suc m) l p h = go (eqb (order_at items p) (order_at items m)) refl (λ s. came m (omega arith) p s)
        where
          before : List ℕ
          before = flags_after items bricks m flags

          go : (t : Bool) → eqb (order_at items p) (order_at items m) ≡ t → (p < m → get_or before (order_at items p) 0 ≡ flag (taken (order_at items p)))
              → get_or (set before (order_at items m) (flag (taken_at items bricks m))) (order_at items p) 0 ≡ flag (taken (order_at items p))
          go true e ih =
              let same : order_at items p ≡ order_at items m = eqb-true (order_at items p) (order_at items m) e in
              let w : order_at items m < n = o.within m (omega arith) in
              ap (λ i. get_or (set before (order_at items m) (flag (taken_at items bricks m))) i 0) same
              ∙ (get_or-set_same before (order_at items m) (flag (taken_at items bricks m)) 0 (let k = length_flags m in omega arith)
              ∙ (ap flag (at_its_taking m (omega arith)) ∙ ap (λ i. flag (taken i)) (sym same)))
          go false e ih =
              get_or-set_other before (order_at items m) (order_at items p) (flag (taken_at items bricks m)) 0 (eqb-false (order_at items p) (order_at items m) e)
              ∙ ih (below p m h (λ z. eqb-false (order_at items p) (order_at items m) e (ap (order_at items) z)))
            where
              below : (q r : ℕ) → q < suc r → (q ≡ r → ⊥) → q < r
              below q r s other = omega (arith, other)

      stays : (m : ℕ) → m ≤ count → (i : ℕ) → keys ≤ key_of items i → get_or (flags_after items bricks m flags) i 0 ≡ get_or flags i 0
      unfolding flags_after
      stays zero l i h = refl
      stays (suc m) l i h =
          get_or-set_other (flags_after items bricks m flags) (order_at items m) i (flag (taken_at items bricks m)) 0 (λ z. differs (key_of items i) (key_of items (order_at items m)) h (o.keyed m (omega arith)) (ap (key_of items) z))
          ∙ stays m (omega arith) i h
        where
          differs : (a b : ℕ) → keys ≤ a → b < keys → a ≡ b → ⊥
          differs a b s t e = omega arith

      -- The flag of every item, once all have come.
      pub flag_there : (i : ℕ) → i < n → key_of items i < keys → get_or (flags_after items bricks count flags) i 0 ≡ flag (taken i)
      flag_there i h k =
          let r = o.reaches i h k in
          ap (λ j. get_or (flags_after items bricks count flags) j 0) (sym r.2) ∙ (came count (omega arith) r.0 r.1 ∙ ap (λ j. flag (taken j)) r.2)

      pub flag_absent : (i : ℕ) → keys ≤ key_of items i → get_or (flags_after items bricks count flags) i 0 ≡ get_or flags i 0
      flag_absent i h = stays count (omega arith) i h
