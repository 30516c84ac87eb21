-- Loads counted from the corners listed, kept while their sink stays, and raised with each corner laid. Assumes nothing.
use Prim.Native.Nat.{ℕ, zero, suc, ◌+◌, ◌-◌, ◌*◌, ◌≤◌, ◌<◌}
use mathlib.Core.Path.{◌≡◌, refl, ap, ap₂, sym, ◌∙◌}
use mathlib.Core.Bool.{Bool, true, false, ◌&&◌}
use mathlib.Core.List.{List}
use native.Mathlib.Omega.{arith}
use lib.Dec.{eqb}
use lib.ListN.{length, get_or, set, take, drop, length-set, length-drop}
use lib.Seq.{length-take-le, get_or-take, get_or-drop, get_or-set_other}
use borrow.Author.Tests.{eq-eqb, ne_eqb}
use borrow.Rule.Slice.PartMut.{put_mid, same_len_mid}
use Rattle.std.proofs.lemmas.List.{get_or-append_right}
use Rattle.std.proofs.lemmas.Slice.{take-put_mid, take-put_mid_below, drop-put_mid}
use Rattle.sheet.specs.Table.{MISSING}
use Rattle.base.proofs.Bools.{false_first}
use Rattle.routes_rows.specs.Booking.{count_after}
use Rattle.routes_rows.specs.Notes.{NOTES, CLASSES, listed, owner_of, owner_x, load_no, pair_sink, pair_level, pair_load, NotesFit, LoadsOnly, Added}

-- ---- corners listed
pub pair_few : (notes : List ℕ) (n sink level : ℕ) → pair_load notes n sink level ≤ n
pair_few notes zero sink level = omega arith
pair_few notes (suc n) sink level = go (eqb (pair_sink notes n) sink && eqb (pair_level notes n) level) (pair_few notes n sink level)
  where
    go : (t : Bool) → pair_load notes n sink level ≤ n → count_after t (pair_load notes n sink level) ≤ suc n
    go true h = omega (arith, h)
    go false h = omega (arith, h)

pub pair_same : (notes notes' : List ℕ) (n : ℕ) → ((k : ℕ) → 10196 ≤ k → k < 10196 + 2 * n → get_or notes' k 0 ≡ get_or notes k 0) → (sink level : ℕ) → pair_load notes' n sink level ≡ pair_load notes n sink level
pair_same notes notes' zero same sink level = refl
pair_same notes notes' (suc n) same sink level =
    ap₂ (λ s t. count_after (eqb s sink && eqb t level) (pair_load notes' n sink level)) (same (10196 + 2 * n) (omega arith) (omega arith)) (same (10196 + 2 * n + 1) (omega arith) (omega arith))
    ∙ ap (count_after (eqb (pair_sink notes n) sink && eqb (pair_level notes n) level)) (pair_same notes notes' n (λ k high low. same k high (omega (arith, low))) sink level)

-- ---- loads written and nothing else
pub only_self : (notes : List ℕ) → LoadsOnly notes notes
only_self notes = record { long = refl; before = λ k h. refl; behind = λ k h. refl }

pub only_both : {a b c : List ℕ} → LoadsOnly a b → LoadsOnly b c → LoadsOnly a c
only_both h g = record { long = g.long ∙ h.long; before = λ k l. g.before k l ∙ h.before k l; behind = λ k l. g.behind k l ∙ h.behind k l }

-- ---- loads cleared, all at once
pub loads_long : (notes : List ℕ) → NOTES ≤ length notes → length (take 1000 (drop 9196 notes)) ≡ 1000
loads_long notes room = let d = length-drop 9196 notes in length-take-le 1000 (drop 9196 notes) (omega (arith, d, room))

module _ (notes zeros : List ℕ) (room : NOTES ≤ length notes) (long : length zeros ≡ 1000) where
  abbrev cleared : List ℕ
  cleared = put_mid 9196 1000 notes zeros

  pub cleared_only : LoadsOnly notes cleared
  cleared_only =
      record {
        long = same_len_mid 9196 1000 notes zeros (long ∙ sym (loads_long notes room));
        before = λ k low. sym (get_or-take 9196 cleared k 0 low) ∙ ap (λ (l : List ℕ). get_or l k 0) (take-put_mid_below 9196 1000 notes zeros 9196 (omega arith) (omega (arith, room))) ∙ get_or-take 9196 notes k 0 low;
        behind = λ k high.
            let e : 10196 + (k - 10196) ≡ k = omega (arith, high) in
            ap (λ (i : ℕ). get_or cleared i 0) (sym e) ∙ sym (get_or-drop 10196 cleared (k - 10196) 0) ∙ ap (λ (l : List ℕ). get_or l (k - 10196) 0) (drop-put_mid 9196 1000 notes zeros 10196 (omega arith) (omega (arith, room)) long)
            ∙ get_or-drop 10196 notes (k - 10196) 0 ∙ ap (λ (i : ℕ). get_or notes i 0) e;
      }

  pub cleared_loads : ((k : ℕ) → k < 1000 → get_or zeros k 0 ≡ 0) → (k : ℕ) → k < 1000 → load_no cleared k ≡ 0
  cleared_loads none k low =
      let front = length-take-le 9196 notes (omega (arith, room)) in
      let e : 9196 + k - 9196 ≡ k = omega arith in
      sym (get_or-take 10196 cleared (9196 + k) 0 (omega (arith, low))) ∙ ap (λ (l : List ℕ). get_or l (9196 + k) 0) (take-put_mid 9196 1000 notes zeros 10196 (omega (arith, long)) (omega (arith, room)))
      ∙ get_or-append_right (take 9196 notes) zeros 9196 (9196 + k) 0 front (omega arith) ∙ ap (λ (i : ℕ). get_or zeros i 0) e ∙ none k low

-- ---- loads counted from the first corner on: those of the first q
pub record Counting (notes₀ : List ℕ) (sink x0 q : ℕ) (notes : List ℕ) : Type 0 where
  pub only : LoadsOnly notes₀ notes
  pub loads : (k : ℕ) → k < 1000 → load_no notes k ≡ pair_load notes₀ q sink (x0 + 2 * k)

module _ (notes₀ : List ℕ) (sink x0 q : ℕ) (notes : List ℕ) (c : Counting notes₀ sink x0 q notes) where
  pub counting_other : (get_or notes (10196 + 2 * q) 0 ≡ sink → ⊥) → Counting notes₀ sink x0 (suc q) notes
  counting_other other =
      record {
        only = c.only;
        loads = λ k low.
            c.loads k low
            ∙ sym (ap (λ t. count_after t (pair_load notes₀ q sink (x0 + 2 * k))) (false_first (eqb (pair_sink notes₀ q) sink) (eqb (pair_level notes₀ q) (x0 + 2 * k)) (ne_eqb (pair_sink notes₀ q) sink (λ e. other (c.only.behind (10196 + 2 * q) (omega arith) ∙ e)))));
      }

  pub counting_more : (notes' : List ℕ) (level : ℕ) → get_or notes (10196 + 2 * q) 0 ≡ sink → level ≡ get_or notes (10196 + 2 * q + 1) 0 → Added level x0 notes notes' → Counting notes₀ sink x0 (suc q) notes'
  counting_more notes' level is at_level a =
      record {
        only = only_both c.only a.only;
        loads = λ k low.
            a.adds k low ∙ ap₂ (λ s t. count_after s t) (hit k) (c.loads k low);
      }
    where
      own : eqb (pair_sink notes₀ q) sink ≡ true
      own = eq-eqb (pair_sink notes₀ q) sink (sym (c.only.behind (10196 + 2 * q) (omega arith)) ∙ is)

      hit : (k : ℕ) → eqb level (x0 + 2 * k) ≡ (eqb (pair_sink notes₀ q) sink && eqb (pair_level notes₀ q) (x0 + 2 * k))
      hit k = ap (λ l. eqb l (x0 + 2 * k)) (at_level ∙ c.only.behind (10196 + 2 * q + 1) (omega arith)) ∙ sym (ap (λ t. t && eqb (pair_level notes₀ q) (x0 + 2 * k)) own)

  pub counting_small : q ≤ CLASSES → (k : ℕ) → k < 1000 → load_no notes k < 4294967295
  counting_small few k low = let e = c.loads k low in let h = pair_few notes₀ q sink (x0 + 2 * k) in omega (arith, e, h, few)

-- ---- a corner more
module _ (sink level : ℕ) (notes : List ℕ) where
  pub raise_small : NotesFit notes → (sink ≡ MISSING → ⊥) → owner_of notes ≡ sink → (k : ℕ) → k < 1000 → load_no notes k < 4294967295
  raise_small fit has is k low =
      let e = fit.owned (λ z. has (sym is ∙ z)) k low in
      let h = pair_few notes (listed notes) (owner_of notes) (owner_x notes + 2 * k) in
      let f = fit.few in
      omega (arith, e, h, f)
