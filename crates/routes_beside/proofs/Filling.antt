-- Laws of the loops that count the pages and fill the items.
use Prim.Native.Nat.{ℕ, zero, suc, ◌+◌, ◌≤◌, ◌<◌}
use native.Mathlib.Omega.{arith}
use native.Mathlib.Numerals.{add-one}
use mathlib.Core.Path.{◌≡◌, refl, ap, sym, ◌∙◌}
use mathlib.Core.Bool.{Bool, true, false, not, ◌&&◌}
use mathlib.Core.List.{List}
use lib.Dec.{eqb}
use lib.ListN.{length, get_or, set}
use lib.Seq.{get_or-set_same, get_or-set_other}
use borrow.Author.Tests.{eqb-true, eqb-false, ne_eqb}
use Rattle.sheet.specs.Table.{MISSING}
use Rattle.base.specs.Lists.{keep, upto}
use Rattle.base.specs.Runs.{sums}
use Rattle.board.specs.Board.{field, given}
use Rattle.board.specs.Rows.{nodes_on}
use Rattle.board.specs.Tables.{flag}
use Rattle.routes_beside.specs.Beside.{count_on, rows_before, Bases}
use Rattle.routes_beside.proofs.Keys.{count_step, count_most_lem, before_zero, before_next, before_most}

-- One more on a page, or on none of the 64.
pub one_more : (counts : List ℕ) (page : ℕ) → page < length counts → (p : ℕ) → get_or (set counts page (get_or counts page 0 + 1)) p 0 ≡ flag (eqb page p) + get_or counts p 0
one_more counts page h p = go (eqb page p) refl
  where
    go : (t : Bool) → eqb page p ≡ t → get_or (set counts page (get_or counts page 0 + 1)) p 0 ≡ flag t + get_or counts p 0
    go true e =
        let same : page ≡ p = eqb-true page p e in
        let there = get_or-set_same counts page (get_or counts page 0 + 1) 0 h in
        let this : get_or (set counts page (get_or counts page 0 + 1)) page 0 ≡ get_or (set counts page (get_or counts page 0 + 1)) p 0 = ap (λ q. get_or (set counts page (get_or counts page 0 + 1)) q 0) same in
        let that : get_or counts page 0 ≡ get_or counts p 0 = ap (λ q. get_or counts q 0) same in
        omega arith
    go false e = let other = get_or-set_other counts page p (get_or counts page 0 + 1) 0 (λ z. eqb-false page p e (sym z)) in omega arith

pub none_more : (page p v : ℕ) → 64 ≤ page → p < 64 → v ≡ flag (eqb page p) + v
none_more page p v h k = let e : flag (eqb page p) ≡ 0 = ap flag (ne_eqb page p (λ z. omega arith)) in omega arith

module _ (nodes : List (List ℕ)) where
  -- The nodes of a page among the first i.
  abbrev pub count_among : ℕ → ℕ → ℕ
  count_among p i = length (keep (λ j. given (field nodes j 10) && eqb (field nodes j 10) p) (upto i))

  pub counted_few : (p i : ℕ) → count_among p i ≤ i
  counted_few p i = count_most_lem (λ j. given (field nodes j 10) && eqb (field nodes j 10) p) i

  on_a_page : (v p : ℕ) → p < 64 → flag (given v && eqb v p) ≡ flag (eqb v p)
  on_a_page v p h = go (eqb v p) refl
    where
      only : (t : Bool) → t ≡ true → flag (t && true) ≡ 1
      only t e = ap (λ s. flag (s && true)) e

      never : (t : Bool) → flag (t && false) ≡ 0
      never true = refl
      never false = refl

      go : (t : Bool) → eqb v p ≡ t → flag (given v && t) ≡ flag t
      go true e = let same = eqb-true v p e in only (given v) (ap not (ne_eqb v MISSING (λ z. omega arith)))
      go false e = never (given v)

  pub counted_more : (p i : ℕ) → p < 64 → flag (eqb (field nodes i 10) p) + count_among p i ≡ count_among p (i + 1)
  counted_more p i h =
      let e = on_a_page (field nodes i 10) p h in
      let s = count_step (λ j. given (field nodes j 10) && eqb (field nodes j 10) p) i (upto i) in
      let n : count_among p (i + 1) ≡ count_among p (suc i) = ap (count_among p) (add-one i) in
      omega arith

  pub counted_all_lem : (p i : ℕ) → i ≡ length nodes → count_among p i ≡ count_on nodes p
  unfolding nodes_on
  counted_all_lem p i e = ap (count_among p) e

  -- The counts summed up are the first keys.
  module _ (counts : List ℕ) (each : (p : ℕ) → p < 64 → get_or counts p 0 ≡ count_on nodes p) where
    summed : (k : ℕ) → k ≤ 64 → sums (λ j. get_or counts j 0) k ≡ rows_before nodes k
    summed zero h = sym (before_zero nodes)
    summed (suc k) h =
        let rest = summed k (omega arith) in
        let one = each k (omega arith) in
        let next = before_next nodes k in
        omega arith

    pub summed_few : (k : ℕ) → k ≤ 64 → length nodes ≤ 4096 → sums (λ j. get_or counts j 0) k ≤ 45056
    summed_few k h few = let e = summed k h in let m = before_most nodes k in omega arith

    pub summed_bases : (bases : List ℕ) → length bases ≡ 64 → ((k : ℕ) → k < 64 → get_or bases k 0 ≡ sums (λ j. get_or counts j 0) k) → Bases nodes bases
    summed_bases bases l b = record { long = l; first = λ p h. b p h ∙ summed p (omega arith) }
