-- A chip's top chip, by the record that has its id.
use Prim.Native.Nat.{ℕ, zero, suc, ◌+◌, ◌-◌, ◌≤◌, ◌<◌}
use mathlib.Core.Path.{◌≡◌, refl, ap, sym, ◌∙◌}
use mathlib.Core.Bool.{true, false, not}
use mathlib.Core.List.{List, []}
use native.Mathlib.Omega.{arith}
use borrow.Author.Tests.{eq-eqb, ne_eqb}
use lib.Dec.{eqb}
use lib.ListN.{length, get_or, take}
use lib.Seq.{length-take-le}
use Rattle.std.proofs.lemmas.List.{get_or-take}
use Rattle.sheet.specs.Table.{MISSING}
use Rattle.board.specs.Board.{Board, field, given, chip_id, parent_of}
use Rattle.board.specs.Groups.{top_chip}
use Rattle.board.specs.Index.{NoChipFrom}
use Rattle.base.proofs.Bools.{pick_true, pick_false}

-- The records from c on say nothing of what lies below c.
module _ (b cut : Board) (c : ℕ) (e : cut.chips ≡ take c b.chips) where
  same_field : (n k : ℕ) → n < c → field cut.chips n k ≡ field b.chips n k
  same_field n k h = (λ w. field (e w) n k) ∙ (λ w. get_or (get_or-take c b.chips n [] h w) k 0)

  top_chip_cut : (n id : ℕ) → n ≤ c → top_chip cut n id ≡ top_chip b n id
  unfolding top_chip
  top_chip_cut zero id h = refl
  top_chip_cut (suc n) id h =
      let own : chip_id cut n ≡ chip_id b n = same_field n 1 (omega arith) in
      let parent : parent_of cut n ≡ parent_of b n = same_field n 2 (omega arith) in
      let up : top_chip cut n (parent_of cut n) ≡ top_chip b n (parent_of b n) = top_chip_cut n (parent_of cut n) (omega arith) ∙ ap (top_chip b n) parent in
      let on : top_chip cut n id ≡ top_chip b n id = top_chip_cut n id (omega arith) in
      λ w. elim (eqb (own w) id) [ true ↦ elim (given (parent w)) [ true ↦ up w | false ↦ id ] | false ↦ on w ]

-- A board of these chips and nothing else.
abbrev pub of_chips : List (List ℕ) → Board
of_chips chips = record { pages = []; nodes = []; chips = chips; inner = []; execs = []; wires = [] }

module _ (chips : List (List ℕ)) (id : ℕ) (b : Board) (e : b.chips ≡ chips) where
  field_at : (c k : ℕ) → field b.chips c k ≡ field chips c k
  field_at c k w = field (e w) c k

  -- The d records before n are passed.
  passed : (d n m : ℕ) → n ≡ m + d → n ≤ length chips → NoChipFrom chips id m → top_chip b n id ≡ top_chip b m id
  unfolding top_chip
  passed zero n m s h none = let same : n ≡ m = omega arith in λ w. top_chip b (same w) id
  passed (suc d) zero m s h none = absurd (omega arith)
  passed (suc d) (suc n) m s h none =
      pick_false (eqb (chip_id b n) id) _ _ (ne_eqb _ _ (λ z. none n (omega arith) (omega arith) (sym (field_at n 1) ∙ z))) ∙ passed d n m (omega arith) (omega arith) none

  pub top_none : NoChipFrom chips id 0 → id ≡ top_chip b (length chips) id
  unfolding top_chip
  top_none none = sym (passed (length chips) (length chips) 0 (omega arith) (omega arith) none)

  -- The record of the id is the c-th.
  module _ (c : ℕ) (at : (c < length chips) × (field chips c 1 ≡ id) × NoChipFrom chips id (c + 1)) where
    at_record : top_chip b (length chips) id ≡ elim (given (parent_of b c)) [ true ↦ top_chip b c (parent_of b c) | false ↦ id ]
    unfolding top_chip
    at_record = passed (length chips - suc c) (length chips) (suc c) (omega (arith, at.0)) (omega arith) (λ k h. at.2 k (omega arith)) ∙ pick_true (eqb (chip_id b c) id) _ _ (eq-eqb _ _ (field_at c 1 ∙ at.1))

    pub top_last : field chips c 2 ≡ MISSING → id ≡ top_chip b (length chips) id
    top_last last = sym (at_record ∙ pick_false (given (parent_of b c)) _ _ (ap not (eq-eqb _ _ (field_at c 2 ∙ last))))

    pub top_up : (field chips c 2 ≡ MISSING → ⊥) → (top : ℕ) → ((cut : Board) → cut.chips ≡ take c chips → top ≡ top_chip cut (length (take c chips)) (field chips c 2)) → top ≡ top_chip b (length chips) id
    top_up more top rec =
        let cut = of_chips (take c chips) in
        rec cut refl ∙ (λ w. top_chip cut ((length-take-le c chips (omega (arith, at.0))) w) (field chips c 2))
        ∙ top_chip_cut b cut c (λ w. take c ((sym e) w)) c (field chips c 2) (omega arith)
        ∙ ap (top_chip b c) (sym (field_at c 2))
        ∙ sym (at_record ∙ pick_true (given (parent_of b c)) _ _ (ap not (ne_eqb _ _ (λ z. more (sym (field_at c 2) ∙ z)))))
