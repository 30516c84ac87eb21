-- A stop more: its x, its level as the code answers it, and its group's ends.
use Rattle.std.proofs.Common.{None, Some}
use Prim.Native.Nat.{ℕ, ◌<◌}
use mathlib.Core.Path.{◌≡◌, refl, ap, sym, ◌∙◌}
use mathlib.Core.Bool.{Bool, true, false, ◌&&◌}
use mathlib.Core.List.{List, ◌∷◌}
use native.Mathlib.Omega.{arith}
use lib.Dec.{eqb}
use lib.ListN.{length, get_or, set, length-set}
use lib.Seq.{get_or-set_same, get_or-set_other}
use borrow.Author.Tests.{eq-eqb, ne_eqb, eqb-true, eqb-false}
use Rattle.base.specs.Lists.{Found, none, at, found}
use Rattle.board.specs.Board.{Board}
use Rattle.board.specs.Rows.{row_top}
use Rattle.board.specs.Groups.{Tap}
use Rattle.base.proofs.Bools.{never, pick_true, pick_false}
use Rattle.routes.specs.Levels.{Level, dropped, shared, own, Stop, kept_at, previous_stop, level_with_base, level_of, own_level, find_level}
use Rattle.routes_levels.specs.Laying.{stop_answer, no_end, kept_end, Ends}
use Rattle.board.specs.Index.{found_of}
use Rattle.routes_levels.specs.declared.laying.GroupEnd.{GroupEnd}
use Rattle.routes_levels.specs.declared.laying.KeptStop.{KeptStop}
use Rattle.routes.specs.declared.levels.Level.TheVariants.{Dropped, Shared, Own}
use Rattle.routes_levels.proofs.Searches.{found_at, found_none}

-- A stop's level is what its answer says.
pub dropped_is : (v : Level) → Dropped ≡ stop_answer v → v ≡ dropped
dropped_is dropped e = refl
dropped_is (shared l) e = never cc
dropped_is (own l) e = never cc

pub shared_is : (l : ℕ) (v : Level) → Shared l ≡ stop_answer v → v ≡ shared l
shared_is l dropped e = never cc
shared_is l (shared k) e = ap shared (cc)
shared_is l (own k) e = never cc

pub own_is : (l : ℕ) (v : Level) → Own l ≡ stop_answer v → v ≡ own l
own_is l dropped e = never cc
own_is l (shared k) e = never cc
own_is l (own k) e = ap own (cc)

-- What a group's last kept stop says of a base.
kept_is : (end : GroupEnd) (k : KeptStop) (base : ℕ) → end.kept ≡ Some k → kept_end end base ≡ elim (eqb k.base base) [ true ↦ at k.level | false ↦ none ]
kept_is end k base is = ap (λ q. elim q [ Some k ↦ elim (eqb k.base base) [ true ↦ at k.level | false ↦ none ] | None ↦ none ]) is

pub kept_other : (end : GroupEnd) (k : KeptStop) (base : ℕ) → end.kept ≡ Some k → (k.base ≡ base → ⊥) → kept_end end base ≡ none
kept_other end k base is o = kept_is end k base is ∙ pick_false (eqb k.base base) _ _ (ne_eqb _ _ o)

pub kept_nothing : (end : GroupEnd) (base : ℕ) → end.kept ≡ None → kept_end end base ≡ none
kept_nothing end base is = ap (λ q. elim q [ Some k ↦ elim (eqb k.base base) [ true ↦ at k.level | false ↦ none ] | None ↦ none ]) is

-- The level of a stop: taken over, or the finder's.
module _ (b : Board) (ss : List Stop) (lane base top : ℕ) (end : GroupEnd) (t : Tap)
    (kept : level_with_base ss t.group base ≡ kept_end end base) where
  by_kept : (f : Found) → kept_end end base ≡ f
      → level_of b ss lane base t ≡ elim f [ at l ↦ shared l | none ↦ own_level (find_level ss t.page lane t.row base (row_top b t.page t.row)) ]
  unfolding level_of
  by_kept f e = λ w. elim ((kept ∙ e) w) [ at l ↦ shared l | none ↦ own_level (find_level ss t.page lane t.row base (row_top b t.page t.row)) ]

  pub level_shared : (k : KeptStop) → end.kept ≡ Some k → k.base ≡ base → Shared k.level ≡ stop_answer (level_of b ss lane base t)
  level_shared k is e = sym (ap stop_answer (by_kept _ (kept_is end k base is ∙ pick_true (eqb k.base base) _ _ (eq-eqb _ _ e))))

  module _ (other : kept_end end base ≡ none) (top_is : top ≡ row_top b t.page t.row) where
    found_level : level_of b ss lane base t ≡ own_level (find_level ss t.page lane t.row base top)
    found_level = by_kept none other ∙ ap (λ v. own_level (find_level ss t.page lane t.row base v)) (sym top_is)

    pub level_own : (l : ℕ) → Some l ≡ found_of (find_level ss t.page lane t.row base top) → Own l ≡ stop_answer (level_of b ss lane base t)
    level_own l e = sym (ap stop_answer (found_level ∙ ap own_level (found_at (find_level ss t.page lane t.row base top) l e)))

    pub level_dropped : None ≡ found_of (find_level ss t.page lane t.row base top) → Dropped ≡ stop_answer (level_of b ss lane base t)
    level_dropped e = sym (ap stop_answer (found_level ∙ ap own_level (found_none (find_level ss t.page lane t.row base top) e)))

-- One more stop of group g changes that group's ends alone.
module _ {ends : List GroupEnd} {ss : List Stop} (x : Ends ends ss) (s : Stop) (g : ℕ) (same : s.group ≡ g) (end : GroupEnd) (room : g < length ends)
    (last : end.previous ≡ Some s.base) where
  here : (h : ℕ) → h ≡ g → get_or (set ends g end) h no_end ≡ end
  here h e = rw e (get_or-set_same ends g end no_end room)

  there : (h : ℕ) → (h ≡ g → ⊥) → get_or (set ends g end) h no_end ≡ get_or ends h no_end
  there h e = get_or-set_other ends g h end no_end e

  this : (h : ℕ) → eqb s.group h ≡ true → h ≡ g
  this h e = sym (eqb-true s.group h e) ∙ same

  others : (h : ℕ) → eqb s.group h ≡ false → h ≡ g → ⊥
  others h e z = eqb-false s.group h e (same ∙ sym z)

  previous_more : (h : ℕ) → h < length ends → (t : Bool) → eqb s.group h ≡ t → (get_or (set ends g end) h no_end).previous ≡ found_of (elim t [ true ↦ at s.base | false ↦ previous_stop ss h ])
  previous_more h l true e = ap (λ r. r.previous) (here h (this h e)) ∙ last
  previous_more h l false e = ap (λ r. r.previous) (there h (others h e)) ∙ x.previous h l

  kept_there_lem : (h base : ℕ) → h < length ends → eqb s.group h ≡ false → level_with_base ss h base ≡ kept_end (get_or (set ends g end) h no_end) base
  kept_there_lem h base l e = x.kept h base l ∙ ap (λ r. kept_end r base) (sym (there h (others h e)))

  more : ((h base : ℕ) → h < length ends → (t : Bool) → eqb s.group h ≡ t
      → elim (t && found (kept_at s.level)) [ true ↦ elim (eqb s.base base) [ true ↦ kept_at s.level | false ↦ none ] | false ↦ level_with_base ss h base ]
      ≡ kept_end (get_or (set ends g end) h no_end) base) → Ends (set ends g end) (s ∷ ss)
  more f =
      let long = length-set ends g end in
      record {
        previous = λ h l. previous_more h (omega arith) (eqb s.group h) refl;
        kept = λ h base l. f h base (omega arith) (eqb s.group h) refl;
      }

  -- A kept stop is the last kept one too.
  pub ends_kept : (k : KeptStop) → kept_at s.level ≡ at k.level → k.base ≡ s.base → end.kept ≡ Some k → Ends (set ends g end) (s ∷ ss)
  ends_kept k v b is = more step
    where
      step : (h base : ℕ) → h < length ends → (t : Bool) → eqb s.group h ≡ t
          → elim (t && found (kept_at s.level)) [ true ↦ elim (eqb s.base base) [ true ↦ kept_at s.level | false ↦ none ] | false ↦ level_with_base ss h base ]
          ≡ kept_end (get_or (set ends g end) h no_end) base
      step h base r true e =
          (λ w. elim (found (v w)) [ true ↦ elim (eqb (sym b w) base) [ true ↦ v w | false ↦ none ] | false ↦ level_with_base ss h base ])
          ∙ sym (kept_is end k base is) ∙ ap (λ q. kept_end q base) (sym (here h (this h e)))
      step h base r false e = kept_there_lem h base r e
