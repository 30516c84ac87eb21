-- The groups of taps along their sorted keys: the first tap with a key leads, and what the rules call a tap's group is its wire.
use Prim.Native.Nat.{ℕ, zero, suc, ◌+◌, ◌*◌, ◌-◌, ◌/◌, ◌≤◌, ◌<◌}
use native.Mathlib.Omega.{arith}
use native.Mathlib.Decide.{dec_lt, ℕ_discrete}
use mathlib.Core.Path.{◌≡◌, refl, sym, ap, ◌∙◌, subst}
use mathlib.Core.Bool.{Bool, true, false, not}
use mathlib.Core.Logic.{◌⊎◌, inl, inr, ⊎_elim}
use mathlib.Core.List.{List, [], ◌∷◌, ◌++◌}
use lib.Dec.{eqb}
use lib.ListN.{length, get_or, set, take, drop, length-set}
use Rattle.std.proofs.lemmas.List.{get_or-take, get_or_append_left}
use lib.Seq.{get_or-set_same, get_or-set_other}
use borrow.Author.Tests.{eq-eqb}
use Rattle.base.specs.Views.{view}
use Rattle.base.specs.Keys.{Risen}
use Rattle.base.specs.Sort.{sorted_keys}
use Rattle.base.proofs.KeyLaws.{keys_rise, keys_from, keys_to}
use Rattle.base.proofs.Bools.{clash}
use Rattle.base.proofs.Lists.{same_three}
use Rattle.board.specs.Board.{Board, field}
use Rattle.board.specs.Groups.{group_for}
use Rattle.board.specs.Tables.{tap_in}
use Rattle.board_groups.specs.Shares.{Wired, key_of, same_key, packed, NUMBERS, tap_at, starts_run, First, Leads, LeadsIn, Runs, Shared}
use Rattle.board_groups.proofs.Facts.{column_kept}

-- Any keys
module _ (key : ℕ → List ℕ) (wire : ℕ → ℕ) where
  pub leads_on : (j k g : ℕ) → key j ≡ key k → Leads key wire j g → Leads key wire k g
  leads_on j k g e l i f first = l i (f ∙ sym e) first

pub leads_same : (key key' : ℕ → List ℕ) (wire wire' : ℕ → ℕ) → key ≡ key' → wire ≡ wire' → (k g : ℕ) → Leads key wire k g → Leads key' wire' k g
leads_same key key' wire wire' e f k g l = subst (λ (x : ℕ → List ℕ). Leads x wire' k g) e (subst (λ (x : ℕ → ℕ). Leads key x k g) f l)

-- Keys and wires that are the same below m have the same leaders there.
leads_front : (key key' : ℕ → List ℕ) (wire wire' : ℕ → ℕ) (m : ℕ) → ((j : ℕ) → j < m → key j ≡ key' j) → ((j : ℕ) → j < m → wire j ≡ wire' j) → (k g : ℕ) → k < m → Leads key wire k g → Leads key' wire' k g
leads_front key key' wire wire' m keys wires k g h l j e first =
    elim (dec_lt k j) [
      | yes b ↦ absurd (first k b (sym e))
      | no f ↦ l j (keys j (omega arith) ∙ e ∙ sym (keys k h)) (λ i a q. first i a (sym (keys i (omega arith)) ∙ q ∙ keys j (omega arith))) ∙ wires j (omega arith)
    ]

-- The keys of taps
module _ (wires taps : List (List ℕ)) where
  pub same_keys : (j k : ℕ) → same_key wires taps j k ≡ true → key_of wires taps j ≡ key_of wires taps k
  same_keys j k h =
      let s = same_three (field taps j 0) (field taps k 0) (field wires (field taps j 7) 1) (field wires (field taps k 7) 1) (field wires (field taps j 7) 2) (field wires (field taps k 7) 2) h in
      λ z. s.0 z ∷ s.1 z ∷ s.2 z ∷ []

  keys_same : (j k : ℕ) → key_of wires taps j ≡ key_of wires taps k → same_key wires taps j k ≡ true
  keys_same j k e =
      rw (eq-eqb (field taps j 0) (field taps k 0) (ap (λ (l : List ℕ). get_or l 0 0) e), eq-eqb (field wires (field taps j 7) 1) (field wires (field taps k 7) 1) (ap (λ (l : List ℕ). get_or l 1 0) e))
      (eq-eqb (field wires (field taps j 7) 2) (field wires (field taps k 7) 2) (ap (λ (l : List ℕ). get_or l 2 0) e))

  pub other_keys : (j k : ℕ) → same_key wires taps j k ≡ false → key_of wires taps j ≡ key_of wires taps k → ⊥
  other_keys j k h e = clash (keys_same j k e) h

  -- No tap before the next has the key, either.
  pub none_more : (k j : ℕ) → same_key wires taps j k ≡ false → ((i : ℕ) → i < j → key_of wires taps i ≡ key_of wires taps k → ⊥)
      → (i : ℕ) → i < j + 1 → key_of wires taps i ≡ key_of wires taps k → ⊥
  none_more k j o none i h e =
      elim (dec_lt i j) [ yes l ↦ none i l e | no f ↦ let same : j ≡ i = omega arith in other_keys j k o (ap (key_of wires taps) same ∙ e) ]

  -- The first tap with the key of tap k.
  earliest : (k n : ℕ) → ((i : ℕ) → i < n → key_of wires taps i ≡ key_of wires taps k → ⊥)
      ⊎ ((i : ℕ) × (key_of wires taps i ≡ key_of wires taps k) × ((h : ℕ) → h < i → key_of wires taps h ≡ key_of wires taps k → ⊥))
  earliest k zero = inl (λ i h e. absurd (omega arith))
  earliest k (suc n) = ⊎_elim (λ none. go none (same_key wires taps n k) refl) (λ f. inr f) (earliest k n)
    where
      go : ((i : ℕ) → i < n → key_of wires taps i ≡ key_of wires taps k → ⊥) → (t : Bool) → same_key wires taps n k ≡ t
          → ((i : ℕ) → i < suc n → key_of wires taps i ≡ key_of wires taps k → ⊥)
          ⊎ ((i : ℕ) × (key_of wires taps i ≡ key_of wires taps k) × ((h : ℕ) → h < i → key_of wires taps h ≡ key_of wires taps k → ⊥))
      go none true q = inr (n, same_keys n k q, none)
      go none false q = inl (λ i h e. none_more k n q none i (omega arith) e)

  first_with : (k : ℕ) → (i : ℕ) × (key_of wires taps i ≡ key_of wires taps k) × First (key_of wires taps) i
  first_with k =
      ⊎_elim (λ none. absurd (none k (omega arith) refl)) (λ f. (f.0, f.1, λ h l e. f.2 h l (e ∙ f.1))) (earliest k (suc k))

-- The group of a tap by the rules is the wire of the first tap with its key.
module _ (b : Board) (taps : List (List ℕ)) (m : ℕ) (groups : (k : ℕ) → k < suc m → LeadsIn b.wires taps k (field taps k 1)) where
  group_first : (n : ℕ) → n ≤ m → ((i : ℕ) → n ≤ i → i < m → key_of b.wires taps i ≡ key_of b.wires taps m → ⊥)
      → group_for b (view tap_in taps n) (field taps m 0) (field taps m 7) ≡ field taps m 1
  unfolding group_for
  group_first zero h none = sym (groups m (omega arith) m refl (λ i l e. none i (omega arith) l e))
  group_first (suc n) h none = go (same_key b.wires taps n m) refl (λ o. group_first n (omega arith) (λ i a l e. further o i a l e))
    where
      further : same_key b.wires taps n m ≡ false → (i : ℕ) → n ≤ i → i < m → key_of b.wires taps i ≡ key_of b.wires taps m → ⊥
      further o i a l e =
          elim (dec_lt n i) [ yes c ↦ none i (omega arith) l e | no f ↦ let same : n ≡ i = omega arith in other_keys b.wires taps n m o (ap (key_of b.wires taps) same ∙ e) ]

      go : (t : Bool) → same_key b.wires taps n m ≡ t → (same_key b.wires taps n m ≡ false → group_for b (view tap_in taps n) (field taps m 0) (field taps m 7) ≡ field taps m 1)
          → ◌≡◌ {A = ℕ} (elim t [ true ↦ field taps n 1 | false ↦ group_for b (view tap_in taps n) (field taps m 0) (field taps m 7) ]) (field taps m 1)
      go true e ih =
          let f = first_with b.wires taps n in
          groups n (omega arith) f.0 f.1 f.2 ∙ sym (groups m (omega arith) f.0 (f.1 ∙ same_keys b.wires taps n m e) f.2)
      go false e ih = ih e

  pub group_told : group_for b (view tap_in taps m) (field taps m 0) (field taps m 7) ≡ field taps m 1
  group_told = group_first m (omega arith) (λ i a l e. absurd (omega arith))

-- Whether a run starts.
pub starts_at_first : (keys : List ℕ) (p : ℕ) → p ≡ 0 → true ≡ starts_run keys p
unfolding starts_run
starts_at_first keys zero e = refl
starts_at_first keys (suc p) e = absurd (omega arith)

pub starts_behind : (keys : List ℕ) (p : ℕ) → (p ≡ 0 → ⊥) → not (eqb (get_or keys (p - 1) 0 / NUMBERS) (get_or keys p 0 / NUMBERS)) ≡ starts_run keys p
unfolding starts_run
starts_behind keys zero e = absurd (e refl)
starts_behind keys (suc p) e = let same : suc p - 1 ≡ p = omega arith in ap (λ (q : ℕ). not (eqb (get_or keys q 0 / NUMBERS) (get_or keys (suc p) 0 / NUMBERS))) same

pub starts_later : (keys : List ℕ) (p : ℕ) → starts_run keys p ≡ false → 0 < p
unfolding starts_run
starts_later keys zero e = clash refl e
starts_later keys (suc p) e = omega arith

-- Numbers with their places behind them, in rising order.
module _ (number : ℕ → ℕ) (given risen : List ℕ) (m : ℕ) (few : m ≤ NUMBERS) (r : Risen given risen m) (is : (k : ℕ) → k < m → get_or given k 0 ≡ number k * NUMBERS + k) where
  -- What comes p-th.
  comes : (p : ℕ) → p < m → (tap_at risen p < m) × (get_or risen p 0 ≡ number (tap_at risen p) * NUMBERS + tap_at risen p)
  comes p h =
      let f = r.from p h in
      let value : get_or risen p 0 ≡ number f.0 * NUMBERS + f.0 = sym f.2 ∙ is f.0 f.1 in
      let same : f.0 ≡ tap_at risen p = omega (arith, f.1) in
      (omega (arith, f.1), value ∙ ap (λ (k : ℕ). number k * NUMBERS + k) same)

  tap_reached : (k : ℕ) → k < m → (p : ℕ) × (p < m) × (tap_at risen p ≡ k)
  tap_reached k h =
      let t = r.to k h in
      let value : get_or risen t.0 0 ≡ number k * NUMBERS + k = t.2 ∙ is k h in
      (t.0, t.1, omega arith)

  -- One with the same number and a lower place comes before.
  before : (p : ℕ) → p < m → (i : ℕ) → i < tap_at risen p → number i ≡ number (tap_at risen p) → (q : ℕ) × (q < p) × (get_or risen q 0 ≡ number i * NUMBERS + i)
  before p h i l e =
      let c = comes p h in
      let t = r.to i (omega (arith, c.0)) in
      let value : get_or risen t.0 0 ≡ number i * NUMBERS + i = t.2 ∙ is i (omega (arith, c.0)) in
      (t.0, elim (dec_lt t.0 p) [ yes a ↦ a | no f ↦ absurd (let a = r.rising p t.0 (omega arith) t.1 in omega (arith, c.1)) ], value)

  -- Where a run starts, nothing with a lower place has the number.
  run_first : (p : ℕ) → p < m → starts_run risen p ≡ true → (i : ℕ) → i < tap_at risen p → number i ≡ number (tap_at risen p) → ⊥
  unfolding starts_run
  run_first zero h starts i l e = let q = (before zero h i l e).1 in omega arith
  run_first (suc p) h starts i l e =
      let b = before (suc p) h i l e in
      let c = comes (suc p) h in
      let low = r.rising b.0 p (omega (arith, b.1)) (omega arith) in
      let high = r.rising p (suc p) (omega arith) h in
      let same : get_or risen p 0 / NUMBERS ≡ get_or risen (suc p) 0 / NUMBERS = omega (arith, b.2, c.1, c.0) in
      clash starts (ap not (eq-eqb (get_or risen p 0 / NUMBERS) (get_or risen (suc p) 0 / NUMBERS) same))

-- All keys, sorted.
pub all_risen : (keys risen : List ℕ) (m : ℕ) → length keys ≡ m → risen ≡ sorted_keys keys → Risen keys risen m
all_risen keys risen m long e = subst (λ (l : List ℕ). Risen keys l m) (sym e) (subst (Risen keys (sorted_keys keys)) long all)
  where
    all : Risen keys (sorted_keys keys) (length keys)
    all =
        record {
          rising = λ i j b c. elim (dec_lt i j) [ yes k ↦ keys_rise keys i j k c | no f ↦ let same : i ≡ j = omega arith in rw same (omega arith) ];
          from = keys_from keys;
          to = keys_to keys;
        }

-- The packed keys of taps, sorted, bring the taps in runs.
pub runs_sorted : (wires taps : List (List ℕ)) (given risen : List ℕ) (m : ℕ) → m ≤ length risen → m ≤ length taps → m ≤ NUMBERS → Wired wires taps m → Risen given risen m
    → ((k : ℕ) → k < m → get_or given k 0 ≡ packed (key_of wires taps k) * NUMBERS + k) → Runs wires taps risen m
runs_sorted wires taps given risen m room rows few wired r is =
    record {
      room = room;
      rows = rows;
      wired = wired;
      within = λ p h. (comes number given risen m few r is p h).0;
      reaches = λ k h. tap_reached number given risen m few r is k h;
      begins = λ p h starts i l e. run_first number given risen m few r is p h starts i l (ap packed e);
    }
  where
    number : ℕ → ℕ
    number k = packed (key_of wires taps k)

-- The tap that comes p-th, and its group by the one before it.
module _ (wires taps : List (List ℕ)) (keys : List ℕ) (m : ℕ) (r : Runs wires taps keys m) (p k : ℕ) (h : p < m) (is : k ≡ tap_at keys p) where
  pub comes_there : (k < m) × (k < length taps) × (field taps k 7 < length wires)
  comes_there = let b : k < m = omega (arith, r.within p h) in (b, omega (arith, r.rows), r.wired k b)

  pub group_goes_on : (j : ℕ) → j ≡ tap_at keys (p - 1) → same_key wires taps j k ≡ true → LeadsIn wires taps (tap_at keys (p - 1)) (field taps (tap_at keys (p - 1)) 1)
      → LeadsIn wires taps (tap_at keys p) (field taps j 1)
  group_goes_on j e t before =
      subst (λ (i : ℕ). LeadsIn wires taps i (field taps j 1)) is
      (leads_on (key_of wires taps) (λ i. field taps i 7) j k (field taps j 1) (same_keys wires taps j k t) (subst (λ (i : ℕ). LeadsIn wires taps i (field taps i 1)) (sym e) before))

-- Another table with the same pages and wires has the same keys.
module _ (wires old new : List (List ℕ)) (pages : (k : ℕ) → field new k 0 ≡ field old k 0) (owns : (k : ℕ) → field new k 7 ≡ field old k 7) where
  all_keys : key_of wires old ≡ key_of wires new
  all_keys = sym (λ z k. pages k z ∷ field wires (owns k z) 1 ∷ field wires (owns k z) 2 ∷ [])

  pub leads_moved : (k g : ℕ) → LeadsIn wires old k g → LeadsIn wires new k g
  leads_moved = leads_same (key_of wires old) (key_of wires new) (λ j. field old j 7) (λ j. field new j 7) all_keys (sym (λ z j. owns j z))

  pub runs_moved : (keys : List ℕ) (m : ℕ) → length new ≡ length old → Runs wires old keys m → Runs wires new keys m
  runs_moved keys m long r =
      record {
        room = r.room;
        rows = omega (arith, r.rows);
        wired = λ k h. let a = r.wired k h in let e = owns k in omega arith;
        within = r.within;
        reaches = r.reaches;
        begins = λ p h s. subst (λ (x : ℕ → List ℕ). First x (tap_at keys p)) all_keys (r.begins p h s);
      }

-- The walk: the first p taps along the keys have their groups.
pub record Walked (wires old taps : List (List ℕ)) (keys : List ℕ) (p : ℕ) : Type 0 where
  pub long : length taps ≡ length old
  pub wide : (k : ℕ) → length (get_or taps k []) ≡ length (get_or old k [])
  pub kept : (k c : ℕ) → c < 8 → (c ≡ 1 → ⊥) → field taps k c ≡ field old k c
  pub done : (q : ℕ) → q < p → LeadsIn wires taps (tap_at keys q) (field taps (tap_at keys q) 1)

module _ (wires old : List (List ℕ)) (keys : List ℕ) where
  pub walked_start : Walked wires old old keys 0
  walked_start = record { long = refl; wide = λ k. refl; kept = λ k c h n. refl; done = λ q h. absurd (omega arith) }

  module _ (taps : List (List ℕ)) (p : ℕ) (walked : Walked wires old taps keys p) where
    pub walked_runs : (m : ℕ) → Runs wires old keys m → Runs wires taps keys m
    walked_runs m = runs_moved wires old taps (λ k. walked.kept k 0 (omega arith) (λ e. omega arith)) (λ k. walked.kept k 7 (omega arith) (λ e. omega arith)) keys m walked.long

    walked_more : (g : ℕ) → tap_at keys p < length taps → 1 < length (get_or taps (tap_at keys p) []) → LeadsIn wires taps (tap_at keys p) g
        → Walked wires old (set taps (tap_at keys p) (set (get_or taps (tap_at keys p) []) 1 g)) keys (p + 1)
    walked_more g room wide leads =
        record {
          long = length-set taps k row ∙ walked.long;
          wide = λ i. elim (ℕ_discrete i k) [
            | yes e ↦ rw e (ap length (get_or-set_same taps k row [] room) ∙ length-set (get_or taps k []) 1 g ∙ walked.wide k)
            | no f ↦ ap length (get_or-set_other taps k i row [] f) ∙ walked.wide i
          ];
          kept = λ i c h n. same i c h n ∙ walked.kept i c h n;
          done = λ q h. elim (ℕ_discrete (tap_at keys q) k) [
            | yes e ↦ subst (λ (j : ℕ). LeadsIn wires new j (field new j 1)) (sym e) (subst (LeadsIn wires new k) (sym here) (moved k g leads))
            | no f ↦ subst (LeadsIn wires new (tap_at keys q)) (sym (other (tap_at keys q) f)) (moved (tap_at keys q) _ (walked.done q (below q h f)))
          ];
        }
      where
        k : ℕ
        k = tap_at keys p

        row : List ℕ
        row = set (get_or taps k []) 1 g

        new : List (List ℕ)
        new = set taps k row

        same : (i c : ℕ) → c < 8 → (c ≡ 1 → ⊥) → field new i c ≡ field taps i c
        same i c h n = column_kept taps k row room c (get_or-set_other (get_or taps k []) 1 c g 0 n) i

        moved : (j h : ℕ) → LeadsIn wires taps j h → LeadsIn wires new j h
        moved = leads_moved wires taps new (λ i. same i 0 (omega arith) (λ e. omega arith)) (λ i. same i 7 (omega arith) (λ e. omega arith))

        here : field new k 1 ≡ g
        here = ap (λ (r : List ℕ). get_or r 1 0) (get_or-set_same taps k row [] room) ∙ get_or-set_same (get_or taps k []) 1 g 0 wide

        other : (i : ℕ) → (i ≡ k → ⊥) → field new i 1 ≡ field taps i 1
        other i f = ap (λ (r : List ℕ). get_or r 1 0) (get_or-set_other taps k i row [] f)

        below : (q : ℕ) → q < p + 1 → (tap_at keys q ≡ k → ⊥) → q < p
        below q h f = elim (dec_lt q p) [ yes l ↦ l | no o ↦ let e : q ≡ p = omega arith in absurd (f (ap (tap_at keys) e)) ]

    pub walked_on : (g k : ℕ) → k ≡ tap_at keys p → k < length taps → 1 < length (get_or taps k []) → LeadsIn wires taps (tap_at keys p) g
        → Walked wires old (set taps k (set (get_or taps k []) 1 g)) keys (p + 1)
    walked_on g k e room wide leads = rw e (walked_more g (rw e at room) (rw e at wide) leads)

    pub walked_done : (m : ℕ) → m ≤ p → Runs wires old keys m → Shared wires old taps m
    walked_done m all r =
        record {
          kept = λ k c b h n. walked.kept k c h n;
          groups = λ k b. let q = r.reaches k b in subst (λ (j : ℕ). LeadsIn wires taps j (field taps j 1)) q.2 (walked.done q.0 (omega (arith, q.1)));
        }

-- The first m taps of a table get their groups in the rows that are lent on.
pub shared_front : (wires taps front : List (List ℕ)) (m : ℕ) → m ≤ length taps → length front ≡ m → Shared wires (take m taps) front m → Shared wires taps (front ++ drop m taps) m
shared_front wires taps front m room long s =
    record {
      kept = λ k c h b n. whole k c h ∙ s.kept k c h b n ∙ ap (λ (r : List ℕ). get_or r c 0) (get_or-take m taps k [] h);
      groups = λ k h.
          rw (whole k 1 h)
          (leads_front (key_of wires front) (key_of wires (front ++ drop m taps)) (λ j. field front j 7) (λ j. field (front ++ drop m taps) j 7) m
          (λ j l. ap (λ (r : List ℕ). get_or r 0 0 ∷ field wires (get_or r 7 0) 1 ∷ field wires (get_or r 7 0) 2 ∷ []) (sym (row j l)))
          (λ j l. sym (whole j 7 l)) k (field front k 1) h (s.groups k h));
    }
  where
    row : (k : ℕ) → k < m → get_or (front ++ drop m taps) k [] ≡ get_or front k []
    row k h = get_or_append_left front (drop m taps) [] k (omega (arith, long))

    whole : (k c : ℕ) → k < m → field (front ++ drop m taps) k c ≡ field front k c
    whole k c h = ap (λ (r : List ℕ). get_or r c 0) (row k h)
