-- The lane call's answer at each of its tests.
use mathlib.Core.Path.{◌≡◌, refl, sym, ap, ◌∙◌}
use mathlib.Core.Bool.{Bool, true, false, ◌||◌}
use mathlib.Core.Logic.{◌⊎◌, ⊎_elim}
use mathlib.Core.List.{List, [], ◌∷◌, map}
use Prim.Native.Nat.{ℕ, zero, suc, ◌/◌, ◌%◌, ◌≤◌, ◌<◌}
use native.Mathlib.Omega.{arith}
use lib.Dec.{eqb, ltb}
use lib.ListN.{length, get_or, length-map}
use borrow.Author.Tests.{lt-ltb, le-ltb, eqb-true, eqb-false}
use Rattle.lanes.specs.Lanes.{no_demand, first_that, packed}
use Rattle.lanes.specs.LaneCall.{demand_most, demands_of, faulty, LaneAnswer, refused, answer_to, lane_call, told, answered, Sound, Answered}
use Rattle.lanes.specs.Keys.{demand_of, PackedNumbers}
use Rattle.std.specs.Prelude.{Some, None, Ok, Err}
use Rattle.std.specs.List.{position}
use Rattle.lanes.specs.declared.pack.LanesFull.{LanesFull}
use Rattle.base.proofs.Bools.{either_left, either_right}
use Rattle.lanes.proofs.FindLaws.{first_past, first_here, position_some, position_none}

-- where the search passes all, none passes it
none_first : {A : Type 0} (p : A → Bool) (d : A) (xs : List A) → length xs ≤ first_that p xs → (i : ℕ) → i < length xs → p (get_or xs i d) ≡ false
none_first p d [] h i b = absurd (omega arith)
none_first p d (x ∷ xs) h i b = go (p x) refl i b (none_first p d xs)
  where
    go : (t : Bool) → p x ≡ t → (i : ℕ) → i < length (x ∷ xs) → (length xs ≤ first_that p xs → (i : ℕ) → i < length xs → p (get_or xs i d) ≡ false) → p (get_or (x ∷ xs) i d) ≡ false
    go true e i b ih = absurd (omega (arith, first_here p x xs e))
    go false e zero b ih = e
    go false e (suc i) b ih = ih (omega (arith, first_past p x xs e)) i (omega arith)

-- one of the three that are lent is too short
short_of : (a w s n : ℕ) → (a < n) ⊎ ((w < n) ⊎ (s < n)) → (ltb a n || ltb w n || ltb s n) ≡ true
short_of a w s n h =
    ⊎_elim (λ p. either_left (ltb a n || ltb w n) (ltb s n) (either_left (ltb a n) (ltb w n) (lt-ltb a n p)))
    (⊎_elim (λ p. either_left (ltb a n || ltb w n) (ltb s n) (either_right (ltb a n) (ltb w n) (lt-ltb w n p))) (λ p. either_right (ltb a n || ltb w n) (ltb s n) (lt-ltb s n p))) h

-- a list of numbers, with the rows that it is cut into
module _ (ns old : List ℕ) (work spare : ℕ) (rows : List (List ℕ)) (many : length rows ≡ length ns / 4) (are : map demand_of rows ≡ demands_of ns)
    (rest : ℕ) (behind : rest ≡ length ns % 4) where
  abbrev call : LaneAnswer
  call = lane_call ns (length old) work spare

  by_refusal : (number place : ℕ) → call ≡ refused number place → Answered ns old old work spare (record { refusal = number; place = place; count = 0 })
  unfolding told answered
  by_refusal number place e = record { report = rw e; lanes = rw e }

  pub incomplete : false ≡ eqb rest 0 → Answered ns old old work spare (record { refusal = 1; place = length rows; count = 0 })
  unfolding lane_call
  incomplete h = by_refusal 1 (length rows) told_so
    where
      told_so : call ≡ refused 1 (length rows)
      told_so = rw (← many, lt-ltb 0 (length ns % 4) (let some = eqb-false rest 0 (sym h) in omega (arith, behind, some)))

  module _ (none : true ≡ eqb rest 0) where
    whole : length ns % 4 ≤ 0
    whole = omega (arith, behind, eqb-true rest 0 (sym none))

    pub too_many : demand_most < length rows → Answered ns old old work spare (record { refusal = 2; place = demand_most; count = 0 })
    unfolding lane_call
    too_many h = by_refusal 2 demand_most told_so
      where
        told_so : call ≡ refused 2 demand_most
        told_so = rw (← many, le-ltb 0 (length ns % 4) whole, lt-ltb demand_most (length rows) h)

    module _ (few : length rows ≤ demand_most) where
      pub out_of_range : (i : ℕ) → position (λ row. faulty (demand_of row)) rows ≡ Some i → Answered ns old old work spare (record { refusal = 3; place = i; count = 0 })
      unfolding lane_call
      out_of_range i found = by_refusal 3 i told_so
        where
          first : (i ≡ first_that faulty (map demand_of rows)) × (i < length rows)
          first = position_some faulty demand_of rows i found

          told_so : call ≡ refused 3 i
          told_so = rw (← many, ← are, le-ltb 0 (length ns % 4) whole, le-ltb demand_most (length rows) few, ← first.0, lt-ltb i (length rows) first.1)

      module _ (fine : position (λ row. faulty (demand_of row)) rows ≡ None) where
        within : length rows ≤ first_that faulty (map demand_of rows)
        within = position_none faulty demand_of rows fine

        pub rows_sound : Sound (map demand_of rows)
        rows_sound = none_first faulty no_demand (map demand_of rows) (omega (arith, within, length-map rows demand_of))

        pub no_room : (length old < length rows) ⊎ ((work < length rows) ⊎ (spare < length rows)) → Answered ns old old work spare (record { refusal = 7; place = 0; count = 0 })
        unfolding lane_call
        no_room h = by_refusal 7 0 told_so
          where
            told_so : call ≡ refused 7 0
            told_so =
                rw (
                  ← many,
                  ← are,
                  le-ltb 0 (length ns % 4) whole,
                  le-ltb demand_most (length rows) few,
                  le-ltb (first_that faulty (map demand_of rows)) (length rows) within,
                  short_of (length old) work spare (length rows) h,
                )

        module _ (a : length rows ≤ length old) (w : length rows ≤ work) (s : length rows ≤ spare) where
          call_packed : call ≡ answer_to (packed (map demand_of rows))
          unfolding lane_call
          call_packed =
              rw (
                ← many,
                ← are,
                le-ltb 0 (length ns % 4) whole,
                le-ltb demand_most (length rows) few,
                le-ltb (first_that faulty (map demand_of rows)) (length rows) within,
                le-ltb (length old) (length rows) a,
                le-ltb work (length rows) w,
                le-ltb spare (length rows) s,
              )

          -- what is packed is the call's answer
          pub by_lanes : (left : List ℕ) (count : ℕ) → PackedNumbers (map demand_of rows) old left (Ok count)
              → Answered ns old left work spare (record { refusal = 0; place = 0; count = count })
          unfolding told answered answer_to
          by_lanes left count p = record { report = rw (call_packed, p.result); lanes = p.after ∙ ap (λ (a : LaneAnswer). answered a old) (sym call_packed) }

          pub by_full : (full : LanesFull) → PackedNumbers (map demand_of rows) old old (Err full) → Answered ns old old work spare (record { refusal = 8; place = full.index; count = 0 })
          unfolding told answered answer_to
          by_full full p = record { report = rw (call_packed, p.result); lanes = p.after ∙ ap (λ (a : LaneAnswer). answered a old) (sym call_packed) }
