-- What the notes tell of the row at hand: kept by what writes ends only, begun anew with a row, and of one corner more. Assumes nothing.
use Prim.Native.Nat.{ℕ, zero, suc, ◌+◌, ◌*◌, ◌≤◌, ◌<◌}
use mathlib.Core.Path.{◌≡◌, refl, ap, ap₂, sym, ◌∙◌}
use mathlib.Core.Bool.{Bool, true, false, ◌&&◌, ◌||◌}
use mathlib.Core.List.{List, ◌∷◌}
use native.Mathlib.Omega.{arith}
use native.Mathlib.Numerals.{add-one}
use lib.Dec.{eqb, ltb}
use lib.ListN.{length, get_or, set, length-set}
use lib.Seq.{get_or-set_same, get_or-set_other}
use borrow.Author.Tests.{eqb-true, eqb-false, eq-eqb, ne_eqb}
use Rattle.sheet.specs.Table.{MISSING}
use Rattle.base.specs.Lists.{none, at}
use Rattle.base.proofs.Bools.{either_left, false_first}
use Rattle.routes_rows.specs.Blocked.{count_in, level_no, beyond, blocked, NoEnds, NoEndsPast}
use Rattle.routes_rows.specs.Booking.{count_after}
use Rattle.routes_rows.specs.Notes.{NOTES, CLASSES, stamp_of, row_no, listed, owner_of, owner_x, load_no, pair_load, Owned, Plain, NotesLow, Noted, NotesFit, SamePast, Begun, Owns, Raised, Listed}
use Rattle.routes_rows.specs.Turning.{Entry, load_at, of_class}
use Rattle.routes_rows.specs.Entries.{corner_for, BlockedFor, Laid}
use Rattle.routes_rows.specs.declared.book.Cell.{Cell}
use Rattle.routes_rows.proofs.EntryLaws.{plain_class, plain_load, load_more}
use Rattle.routes_rows.proofs.LoadLaws.{pair_same}

-- ---- what is written to the ends leaves the rest
module _ {notes notes' : List ℕ} (long : length notes' ≡ length notes) (same : SamePast notes notes') where
  pub low_same : NotesLow notes → NotesLow notes'
  low_same h =
      let l = h.long in
      record { long = omega (arith, l, long); stamped = λ c few. let s = h.stamped c few in let a = same (1000 + c) (omega arith) in let b = same 9192 (omega arith) in omega (arith, s, a, b) }

  pub noted_same : {booked : List Entry} {most : ℕ} → Noted booked most notes → Noted booked most notes'
  noted_same h =
      record {
        low = low_same h.low;
        classes = λ c few. ap₂ eqb (same (1000 + c) (omega arith)) (same 9192 (omega arith)) ∙ h.classes c few;
        few = let f = h.few in let e = same 9193 (omega arith) in omega (arith, f, e);
        loads = λ sink level has. pairs_same sink level ∙ h.loads sink level has;
        owned = owned_same h.owned;
      }
    where
      pairs_same : (sink level : ℕ) → pair_load notes' (listed notes') sink level ≡ pair_load notes (listed notes) sink level
      pairs_same sink level = ap (λ n. pair_load notes' n sink level) (same 9193 (omega arith)) ∙ pair_same notes notes' (listed notes) (λ k high low. same k (omega (arith, high))) sink level

      owned_same : Owned notes → Owned notes'
      owned_same h has k low =
          same (9196 + k) (omega arith) ∙ h (λ z. has (same 9194 (omega arith) ∙ z)) k low ∙ sym (pairs_same (owner_of notes') (owner_x notes' + 2 * k) ∙ ap₂ (λ s x. pair_load notes (listed notes) s (x + 2 * k)) (same 9194 (omega arith)) (same 9195 (omega arith)))

-- ---- and what is written behind the ends leaves them
beyond_same : (ends ends' : List ℕ) (count : ℕ) → ((k : ℕ) → k < count → get_or ends' k 0 ≡ get_or ends k 0) → (x j : ℕ) → j ≤ count → beyond ends' x j ≡ beyond ends x j
beyond_same ends ends' count same x zero h = refl
beyond_same ends ends' count same x (suc j) h = ap₂ (λ s t. s || ltb x t) (beyond_same ends ends' count same x j (omega (arith, h))) (same j (omega (arith, h)))

module _ (notes notes' : List ℕ) (same : (k : ℕ) → k < 1000 → get_or notes' k 0 ≡ get_or notes k 0) where
  pub blocked_kept : {n : ℕ} {span : Cell} {booked : List Entry} → count_in span ≤ 1000 → BlockedFor n span booked notes → BlockedFor n span booked notes'
  blocked_kept {n} {span} {booked} few b = record { some = λ k low t. b.some k low (sym (is k low) ∙ t); whole = λ all k low. is k low ∙ b.whole all k low }
    where
      is : (k : ℕ) → k < count_in span → blocked span notes' k ≡ blocked span notes k
      is k low = beyond_same notes notes' 1000 same (level_no span k) (suc k) (omega (arith, low, few))

  pub past_kept : {count : ℕ} → NoEndsPast count notes → NoEndsPast count notes'
  past_kept past k high low = same k low ∙ past k high low

  pub ends_kept : NoEnds notes → NoEnds notes'
  ends_kept zeros k low = same k low ∙ zeros k low

-- ---- an entry that is no corner tells nothing
pub noted_more : {booked : List Entry} {most most' : ℕ} {notes : List ℕ} → most ≤ most' → Noted booked most notes → Noted booked most' notes
noted_more l h = let f = h.few in record { low = h.low; classes = h.classes; few = omega (arith, f, l); loads = h.loads; owned = h.owned }

pub noted_plain : {booked : List Entry} {most : ℕ} {notes : List ℕ} (e : Entry) → Plain e → Noted booked most notes → Noted (e ∷ booked) most notes
noted_plain {booked} {most} {notes} e plain h =
    let none : e.class ≡ 4294967295 = plain.1 in
    record {
      low = h.low;
      classes = λ c few. h.classes c few ∙ sym (ap (λ t. t || of_class booked c) (ne_eqb e.class c (λ q. omega (arith, q, none, few))));
      few = h.few;
      loads = λ sink level has. h.loads sink level has ∙ sym (load_more e booked sink level ∙ ap (λ t. count_after t (load_at booked sink level)) (false_first (eqb e.sink sink) (eqb e.cell.x0 level) (ne_eqb e.sink sink (λ q. has (sym q ∙ plain.0)))));
      owned = h.owned;
    }

pub notes_fit : {booked : List Entry} {most : ℕ} {notes : List ℕ} → most ≤ CLASSES → Noted booked most notes → NotesFit notes
notes_fit l h = let f = h.few in record { long = h.low.long; few = omega (arith, f, l); owned = h.owned }

-- ---- a row begins where no cell counts
module _ (notes : List ℕ) (n : ℕ) where
  pub begun_anew : n ≡ 0 → NotesLow notes → Begun n notes (set (set (set notes 9192 (row_no notes + 1)) 9193 0) 9194 4294967295)
  begun_anew z low =
      record {
        long = long;
        ends = λ k h. others k (λ q. omega (arith, q, h)) (λ q. omega (arith, q, h)) (λ q. omega (arith, q, h));
        rows = omega (arith, row);
        noted = λ booked most before plain.
            record {
              low = record { long = let l = low.long in omega (arith, long, l); stamped = λ c few. let s = stamp c few in omega (arith, s, row) };
              classes = λ c few. ne_eqb (stamp_of N c) (row_no N) (λ q. let s = stamp c few in omega (arith, s, row, q)) ∙ sym (plain_class booked c (λ q. omega (arith, q, few)) (plain z));
              few = omega (arith, count);
              loads = λ sink level has. ap (λ m. pair_load N m sink level) count ∙ sym (plain_load booked sink level has (plain z));
              owned = λ has. absurd (has owner);
            };
      }
    where
      r : ℕ
      r = row_no notes + 1

      N : List ℕ
      N = set (set (set notes 9192 r) 9193 0) 9194 4294967295

      long₁ : length (set notes 9192 r) ≡ length notes
      long₁ = length-set notes 9192 r

      long₂ : length (set (set notes 9192 r) 9193 0) ≡ length notes
      long₂ = length-set (set notes 9192 r) 9193 0 ∙ long₁

      long : length N ≡ length notes
      long = length-set (set (set notes 9192 r) 9193 0) 9194 4294967295 ∙ long₂

      others : (k : ℕ) → (k ≡ 9192 → ⊥) → (k ≡ 9193 → ⊥) → (k ≡ 9194 → ⊥) → get_or N k 0 ≡ get_or notes k 0
      others k a b c = get_or-set_other (set (set notes 9192 r) 9193 0) 9194 k 4294967295 0 c ∙ get_or-set_other (set notes 9192 r) 9193 k 0 0 b ∙ get_or-set_other notes 9192 k r 0 a

      row : row_no N ≡ r
      row =
          get_or-set_other (set (set notes 9192 r) 9193 0) 9194 9192 4294967295 0 (λ q. omega (arith, q)) ∙ get_or-set_other (set notes 9192 r) 9193 9192 0 0 (λ q. omega (arith, q))
          ∙ get_or-set_same notes 9192 r 0 (let l = low.long in omega (arith, l))

      count : listed N ≡ 0
      count = get_or-set_other (set (set notes 9192 r) 9193 0) 9194 9193 4294967295 0 (λ q. omega (arith, q)) ∙ get_or-set_same (set notes 9192 r) 9193 0 0 (let l = low.long in omega (arith, l, long₁))

      owner : owner_of N ≡ MISSING
      owner = get_or-set_same (set (set notes 9192 r) 9193 0) 9194 4294967295 0 (let l = low.long in omega (arith, l, long₂))

      stamp : (c : ℕ) → c < CLASSES → stamp_of N c ≤ row_no notes
      stamp c few = let s = low.stamped c few in let e = others (1000 + c) (λ q. omega (arith, q, few)) (λ q. omega (arith, q, few)) (λ q. omega (arith, q, few)) in omega (arith, s, e)

-- ---- the loads are a sink's
module _ {sink x0 : ℕ} {notes notes' : List ℕ} (o : Owns sink x0 notes notes') where
  owns_pairs : (s level : ℕ) → pair_load notes' (listed notes') s level ≡ pair_load notes (listed notes) s level
  owns_pairs s level = ap (λ n. pair_load notes' n s level) (o.before 9193 (omega arith)) ∙ pair_same notes notes' (listed notes) (λ k high low. o.behind k high) s level

-- ---- a corner is laid
module _ (sink class level : ℕ) (notes notes₁ notes₂ : List ℕ) (few : class < CLASSES) (long : NOTES ≤ length notes) (raised : Raised sink level notes notes₁) (added : Listed sink level notes₁ notes₂) where
  abbrev laid_in_lem : List ℕ
  laid_in_lem = set notes₂ (1000 + class) (get_or notes₂ 9192 0)

  others : (k : ℕ) → (k ≡ 1000 + class → ⊥) → get_or laid_in_lem k 0 ≡ get_or notes₂ k 0
  others k other = get_or-set_other notes₂ (1000 + class) k (get_or notes₂ 9192 0) 0 other

  -- what is neither a class, a load nor in the list stays
  kept : (k : ℕ) → k < 9196 → (k ≡ 9193 → ⊥) → get_or notes₂ k 0 ≡ get_or notes k 0
  kept k low other = added.others k (omega (arith, low)) other ∙ raised.only.before k low

  long₂ : length notes₂ ≡ length notes
  long₂ = added.long ∙ raised.only.long

  count : listed notes₁ ≡ listed notes
  count = raised.only.before 9193 (omega arith)

  row : row_no laid_in_lem ≡ row_no notes
  row = others 9192 (λ q. omega (arith, q, few)) ∙ kept 9192 (omega arith) (λ q. omega (arith, q))

  here : stamp_of laid_in_lem class ≡ row_no notes
  here = get_or-set_same notes₂ (1000 + class) (get_or notes₂ 9192 0) 0 (omega (arith, few, long, long₂)) ∙ kept 9192 (omega arith) (λ q. omega (arith, q))

  other_stamp : (c : ℕ) → c < CLASSES → (c ≡ class → ⊥) → stamp_of laid_in_lem c ≡ stamp_of notes c
  other_stamp c low other = others (1000 + c) (λ z. other (omega (arith, z))) ∙ kept (1000 + c) (omega (arith, low)) (λ q. omega (arith, q, low))

  more : listed laid_in_lem ≡ suc (listed notes)
  more = others 9193 (λ q. omega (arith, q, few)) ∙ added.more ∙ add-one (listed notes₁) ∙ ap suc count

  -- the list, one longer
  pairs : (s l : ℕ) → pair_load laid_in_lem (listed laid_in_lem) s l ≡ count_after (eqb sink s && eqb level l) (pair_load notes (listed notes) s l)
  pairs s l =
      ap (λ n. pair_load laid_in_lem n s l) more
      ∙ ap₂ (λ a b. count_after (eqb a s && eqb b l) (pair_load laid_in_lem (listed notes) s l)) (behind (10196 + 2 * listed notes) (omega arith) ∙ ap (λ n. get_or notes₂ (10196 + 2 * n) 0) (sym count) ∙ added.sink_is)
      (behind (10196 + 2 * listed notes + 1) (omega arith) ∙ ap (λ n. get_or notes₂ (10196 + 2 * n + 1) 0) (sym count) ∙ added.level_is)
      ∙ ap (count_after (eqb sink s && eqb level l)) (pair_same notes laid_in_lem (listed notes) (λ k high low. behind k high ∙ added.pairs k high (omega (arith, low, count)) ∙ raised.only.behind k high) s l)
    where
      behind : (k : ℕ) → 10196 ≤ k → get_or laid_in_lem k 0 ≡ get_or notes₂ k 0
      behind k high = others k (λ q. omega (arith, q, high, few))

  owner : owner_of laid_in_lem ≡ owner_of notes
  owner = others 9194 (λ q. omega (arith, q, few)) ∙ kept 9194 (omega arith) (λ q. omega (arith, q))

  x_kept : owner_x laid_in_lem ≡ owner_x notes
  x_kept = others 9195 (λ q. omega (arith, q, few)) ∙ kept 9195 (omega arith) (λ q. omega (arith, q))

  load : (k : ℕ) → k < 1000 → load_no laid_in_lem k ≡ count_after (eqb sink (owner_of notes) && eqb level (owner_x notes + 2 * k)) (load_no notes k)
  load k low = others (9196 + k) (λ q. omega (arith, q, few)) ∙ added.others (9196 + k) (omega (arith, low)) (λ q. omega (arith, q)) ∙ raised.adds k low

  owned_more : Owned notes → Owned laid_in_lem
  owned_more h has k low =
      load k low ∙ ap (count_after (eqb sink (owner_of notes) && eqb level (owner_x notes + 2 * k))) (h (λ z. has (owner ∙ z)) k low)
      ∙ sym (pairs (owner_of laid_in_lem) (owner_x laid_in_lem + 2 * k) ∙ ap₂ (λ s x. count_after (eqb sink s && eqb level (x + 2 * k)) (pair_load notes (listed notes) s (x + 2 * k))) owner x_kept)

  stamp_low : (c : ℕ) (t : Bool) → eqb c class ≡ t → c < CLASSES → stamp_of notes c ≤ row_no notes → stamp_of laid_in_lem c ≤ row_no laid_in_lem
  stamp_low c true q low s = let same : c ≡ class = eqb-true c class q in let e : stamp_of laid_in_lem c ≡ row_no notes = ap (stamp_of laid_in_lem) same ∙ here in omega (arith, e, row)
  stamp_low c false q low s = let e = other_stamp c low (eqb-false c class q) in omega (arith, e, s, row)

  stamp : (booked : List Entry) (c : ℕ) → c < CLASSES → eqb (stamp_of notes c) (row_no notes) ≡ of_class booked c → (t : Bool) → eqb c class ≡ t → eqb (stamp_of laid_in_lem c) (row_no laid_in_lem) ≡ eqb class c || of_class booked c
  stamp booked c low h true q =
      let same : c ≡ class = eqb-true c class q in
      eq-eqb (stamp_of laid_in_lem c) (row_no laid_in_lem) (ap (stamp_of laid_in_lem) same ∙ here ∙ sym row) ∙ sym (either_left (eqb class c) (of_class booked c) (eq-eqb class c (sym same)))
  stamp booked c low h false q =
      let other = eqb-false c class q in
      ap₂ eqb (other_stamp c low other) row ∙ h ∙ sym (ap (λ t. t || of_class booked c) (ne_eqb class c (λ z. other (sym z))))

  noted_corner : (y : ℕ) (booked : List Entry) (most : ℕ) → Noted booked most notes → Noted (corner_for y sink class (at level) ∷ booked) (suc most) laid_in_lem
  noted_corner y booked most h =
      record {
        low = record { long = let e = length-set notes₂ (1000 + class) (get_or notes₂ 9192 0) in omega (arith, e, long, long₂); stamped = λ c low. stamp_low c (eqb c class) refl low (h.low.stamped c low) };
        classes = λ c low. stamp booked c low (h.classes c low) (eqb c class) refl;
        few = let f = h.few in omega (arith, f, more);
        loads = λ s l has. pairs s l ∙ ap (count_after (eqb sink s && eqb level l)) (h.loads s l has) ∙ sym (load_more (corner_for y sink class (at level)) booked s l);
        owned = owned_more h.owned;
      }

  pub laid_corner : Laid sink class (at level) notes (set notes₂ (1000 + class) (get_or notes₂ 9192 0))
  laid_corner =
      record {
        long = length-set notes₂ (1000 + class) (get_or notes₂ 9192 0) ∙ long₂;
        ends = λ k low. others k (λ q. omega (arith, q, low)) ∙ kept k (omega (arith, low)) (λ q. omega (arith, q, low));
        rows = row;
        noted = noted_corner;
      }

pub laid_none : (sink class : ℕ) (notes : List ℕ) → Laid sink class none notes notes
laid_none sink class notes =
    record {
      long = refl;
      ends = λ k low. refl;
      rows = refl;
      noted = λ y booked most h. noted_plain (corner_for y sink class none) (refl, refl) (noted_more (omega arith) h);
    }
