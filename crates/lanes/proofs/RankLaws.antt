-- Key rows in rising order are the demands in rank order.
use mathlib.Core.Path.{◌≡◌, refl, sym, ap, ◌∙◌}
use mathlib.Core.Bool.{Bool, true, false, ◌||◌}
use mathlib.Core.Logic.{inl, inr}
use mathlib.Core.List.{List, [], ◌∷◌, map}
use Prim.Native.Nat.{ℕ, zero, suc, ◌+◌, ◌≤◌, ◌<◌}
use native.Mathlib.Omega.{arith}
use lib.Dec.{ltb}
use lib.ListN.{length, get_or}
use borrow.Author.Tests.{ltb-false}
use Rattle.base.specs.Sort.{lex_less, sorted, inserted, sorted_rows}
use Rattle.lanes.specs.Lanes.{Demand, no_demand, Entry, entries, span, ahead, ranked, pack_in}
use Rattle.lanes.specs.LaneCall.{row_most, count_most, faulty, Sound}
use Rattle.lanes.specs.Keys.{rank_of, key_of, entry_of, Fitting, lanes_in, result_of, Seated}
use Rattle.base.proofs.Bools.{clash}
use Rattle.base.proofs.SortLaws.{lex_lt, lex_eq, lex_gt, Compared, below, same, above, compared, inserted_past, inserted_here}
use Rattle.std.specs.Prelude.{Result}
use Rattle.lanes.specs.declared.pack.LanesFull.{LanesFull}
use Rattle.lanes.proofs.SpreadLaws.{Covers}
use Rattle.base.proofs.Every.{All, Any, all_of, all_inserted, all_sorted, any_sorted, all_at, all_mapped, any_mapped, any-map, inserted_keys, Agrees}

-- what a demand that is not faulty keeps to
pub record Allowed (d : Demand) : Type 0 where
  pub rising : d.first ≤ d.last
  pub rows : d.last ≤ row_most
  pub consumers : d.consumers ≤ count_most

or_false : (a b : Bool) → (a || b) ≡ false → (a ≡ false) × (b ≡ false)
or_false false b h = (refl, h)
or_false true b h = clash refl h

pub allowed : (d : Demand) → faulty d ≡ false → Allowed d
unfolding faulty
allowed d h =
    let r = or_false (ltb row_most d.first || ltb row_most d.last || ltb count_most d.consumers || ltb count_most d.order) (ltb d.last d.first) h in
    let o = or_false (ltb row_most d.first || ltb row_most d.last || ltb count_most d.consumers) (ltb count_most d.order) r.0 in
    let c = or_false (ltb row_most d.first || ltb row_most d.last) (ltb count_most d.consumers) o.0 in
    let l = or_false (ltb row_most d.first) (ltb row_most d.last) c.0 in
    record { rising = ltb-false d.last d.first r.1; rows = ltb-false row_most d.last l.1; consumers = ltb-false count_most d.consumers c.1 }

-- one column of two rows, and the rank, which stands for two
module _ (xs ys xs' ys' : List ℕ) (rest : lex_less xs ys ≡ lex_less xs' ys') where
  column_as_is : (a b : ℕ) → lex_less (a ∷ xs) (b ∷ ys) ≡ lex_less (a ∷ xs') (b ∷ ys')
  column_as_is a b = go (compared a b)
    where
      go : Compared a b → lex_less (a ∷ xs) (b ∷ ys) ≡ lex_less (a ∷ xs') (b ∷ ys')
      go (below h) = lex_lt a b xs ys h ∙ sym (lex_lt a b xs' ys' h)
      go (same h) = lex_eq a b xs ys h ∙ (rest ∙ sym (lex_eq a b xs' ys' h))
      go (above h) = lex_gt a b xs ys h ∙ sym (lex_gt a b xs' ys' h)

  rank_turned : (d e : Demand) → Allowed d → Allowed e → lex_less (rank_of d ∷ xs) (rank_of e ∷ ys) ≡ lex_less (span e ∷ e.consumers ∷ xs') (span d ∷ d.consumers ∷ ys')
  rank_turned d e ad ae = go (compared (span e) (span d)) (compared e.consumers d.consumers)
    where
      below_rank : span e < span d → rank_of d < rank_of e
      below_rank h = omega (arith, ad.rows, ae.consumers)

      above_rank : span d < span e → rank_of e < rank_of d
      above_rank h = omega (arith, ae.rows, ad.consumers)

      go : Compared (span e) (span d) → Compared e.consumers d.consumers → lex_less (rank_of d ∷ xs) (rank_of e ∷ ys) ≡ lex_less (span e ∷ e.consumers ∷ xs') (span d ∷ d.consumers ∷ ys')
      go (below h) k = lex_lt (rank_of d) (rank_of e) xs ys (below_rank h) ∙ sym (lex_lt (span e) (span d) (e.consumers ∷ xs') (d.consumers ∷ ys') h)
      go (above h) k = lex_gt (rank_of d) (rank_of e) xs ys (above_rank h) ∙ sym (lex_gt (span e) (span d) (e.consumers ∷ xs') (d.consumers ∷ ys') h)
      go (same h) (below k) = lex_lt (rank_of d) (rank_of e) xs ys (omega (arith, h, k, ad.consumers)) ∙ sym (lex_eq (span e) (span d) (e.consumers ∷ xs') (d.consumers ∷ ys') h ∙ lex_lt e.consumers d.consumers xs' ys' k)
      go (same h) (same k) = lex_eq (rank_of d) (rank_of e) xs ys (omega (arith, h, k)) ∙ (rest ∙ sym (lex_eq (span e) (span d) (e.consumers ∷ xs') (d.consumers ∷ ys') h ∙ lex_eq e.consumers d.consumers xs' ys' k))
      go (same h) (above k) = lex_gt (rank_of d) (rank_of e) xs ys (omega (arith, h, k, ae.consumers)) ∙ sym (lex_eq (span e) (span d) (e.consumers ∷ xs') (d.consumers ∷ ys') h ∙ lex_gt e.consumers d.consumers xs' ys' k)

-- the columns of a key row behind its index, and from its order on
abbrev beyond : Entry → List ℕ
beyond e = e.demand.first ∷ e.demand.last ∷ e.demand.consumers ∷ 0 ∷ []

abbrev by_order : Entry → List ℕ
by_order e = e.demand.order ∷ 0 ∷ e.index ∷ beyond e

-- key rows compare as their demands do, the one given later against the one given earlier
pub keys_agree : (x y : Entry) → x.index < y.index → Allowed x.demand → Allowed y.demand → Agrees ahead lex_less key_of x y
unfolding key_of ahead lex_less
keys_agree x y h ax ay =
    let i : lex_less (0 ∷ y.index ∷ beyond y) (0 ∷ x.index ∷ beyond x) ≡ lex_less [] [] =
    lex_eq 0 0 (y.index ∷ beyond y) (x.index ∷ beyond x) refl ∙ lex_gt y.index x.index (beyond y) (beyond x) h in
    let o : lex_less (by_order y) (by_order x) ≡ lex_less (y.demand.order ∷ []) (x.demand.order ∷ []) =
    column_as_is (0 ∷ y.index ∷ beyond y) (0 ∷ x.index ∷ beyond x) [] [] i y.demand.order x.demand.order in
    rank_turned (by_order y) (by_order x) (y.demand.order ∷ []) (x.demand.order ∷ []) o y.demand x.demand ay ax

-- the entries of a list: their indices rise from the first one's, and each has the demand at its index
pub entries_all : (P : Entry → Type 0) (i : ℕ) (d : Demand) (ds : List Demand) → ((j : ℕ) → j < length ds → P (record { index = i + j; demand = get_or ds j d })) → All P (entries i ds)
unfolding entries
entries_all P i d [] f = tt
entries_all P i d (x ∷ ds) f =
    (subst_index (f 0 (omega arith)), entries_all P (suc i) d ds (λ j h. next j (f (suc j) (omega arith))))
  where
    subst_index : P (record { index = i + 0; demand = x }) → P (record { index = i; demand = x })
    subst_index p = let e : i + 0 ≡ i = omega arith in rw e at p

    next : (j : ℕ) → P (record { index = i + suc j; demand = get_or ds j d }) → P (record { index = suc i + j; demand = get_or ds j d })
    next j p = let e : i + suc j ≡ suc i + j = omega arith in rw e at p

sorted_keys_lem : (i : ℕ) (ds : List Demand) → All Allowed ds → sorted lex_less (map key_of (entries i ds)) ≡ map key_of (sorted ahead (entries i ds))
unfolding sorted entries
sorted_keys_lem i [] a = refl
sorted_keys_lem i (d ∷ ds) a =
    ap (inserted lex_less (key_of (record { index = i; demand = d }))) (sorted_keys_lem (suc i) ds a.1)
    ∙ inserted_keys ahead lex_less key_of (record { index = i; demand = d }) (sorted ahead (entries (suc i) ds)) (all_sorted ahead (Agrees ahead lex_less key_of (record { index = i; demand = d })) (entries (suc i) ds) later)
  where
    later : All (Agrees ahead lex_less key_of (record { index = i; demand = d })) (entries (suc i) ds)
    later =
        entries_all (Agrees ahead lex_less key_of (record { index = i; demand = d })) (suc i) d ds
        (λ j h. keys_agree (record { index = i; demand = d }) (record { index = suc i + j; demand = get_or ds j d }) (omega arith) a.0 (all_at Allowed d ds a.1 j h))

pub entries_of_keys : (es : List Entry) → map entry_of (map key_of es) ≡ es
unfolding entry_of key_of
entries_of_keys [] = refl
entries_of_keys (e ∷ es) = ap {B = List Entry} (λ r. e ∷ r) (entries_of_keys es)

-- the key rows of a list, and the one at an index
pub length_keys : (i : ℕ) (ds : List Demand) → length (map key_of (entries i ds)) ≡ length ds
unfolding entries
length_keys i [] = refl
length_keys i (d ∷ ds) = ap suc (length_keys (suc i) ds)

keys_from : (i : ℕ) (ds : List Demand) (j k : ℕ) → j < length ds → k ≡ i + j → get_or (map key_of (entries i ds)) j [] ≡ key_of (record { index = k; demand = get_or ds j no_demand })
unfolding entries
keys_from i [] j k h e = absurd (omega arith)
keys_from i (d ∷ ds) zero k h e = let z : i ≡ k = omega arith in ap (λ (n : ℕ). key_of (record { index = n; demand = d })) z
keys_from i (d ∷ ds) (suc j) k h e = keys_from (suc i) ds j k (omega arith) (omega arith)

-- a key row made of the demand at an index is the one of the list
pub key_at_lem : (ds : List Demand) (i : ℕ) (key : List ℕ) (d : Demand) → i < length ds → key ≡ key_of (record { index = i; demand = d }) → d ≡ get_or ds i no_demand
    → key ≡ get_or (map key_of (entries 0 ds)) i []
key_at_lem ds i key d h k e = k ∙ (ap (λ (x : Demand). key_of (record { index = i; demand = x })) e ∙ sym (keys_from 0 ds i i h (omega arith)))

-- the key rows of demands that are not faulty fit, and a sort leaves it at that
pub fitting_keys : (ds : List Demand) → Sound ds → (keys : List (List ℕ)) → keys ≡ map key_of (entries 0 ds) → Fitting keys
unfolding key_of entry_of
fitting_keys ds sound keys made k h =
    let b : k < length ds = omega (arith, h, ap length made, length_keys 0 ds) in
    let a : Allowed (get_or ds k no_demand) = allowed (get_or ds k no_demand) (sound k b) in
    rw (made, keys_from 0 ds k k b (omega arith)) (omega (arith, a.rising, a.rows), a.rows)

pub fitting_sorted : (keys : List (List ℕ)) → Fitting keys → Fitting (sorted_rows keys)
unfolding sorted_rows
fitting_sorted keys fits = all_at Fits [] (sorted lex_less keys) (all_sorted lex_less Fits keys (all_of Fits [] keys fits))
  where
    Fits : List ℕ → Type 0
    Fits row = ((entry_of row).demand.first ≤ row_most) × ((entry_of row).demand.last ≤ row_most)

-- every demand is among the entries, under its index
entries_any : (i : ℕ) (d : Demand) (ds : List Demand) (j : ℕ) → j < length ds → Any (λ e. (e.index ≡ i + j) × (e.demand ≡ get_or ds j d)) (entries i ds)
unfolding entries
entries_any i d [] j h = absurd (omega arith)
entries_any i d (x ∷ ds) zero h = inl (omega arith, refl)
entries_any i d (x ∷ ds) (suc j) h = inr (rw (next) at (entries_any (suc i) d ds j (omega arith)))
  where
    next : suc i + j ≡ i + suc j
    next = omega arith

module _ (d : Demand) (ds : List Demand) where
  pub ranked_all : (P : Entry → Type 0) → ((j : ℕ) → j < length ds → P (record { index = j; demand = get_or ds j d })) → All P (ranked ds)
  unfolding ranked
  ranked_all P f = all_sorted ahead P (entries 0 ds) (entries_all P 0 d ds (λ j h. zeroth j (f j h)))
    where
      zeroth : (j : ℕ) → P (record { index = j; demand = get_or ds j d }) → P (record { index = 0 + j; demand = get_or ds j d })
      zeroth j p = let e : 0 + j ≡ j = omega arith in rw e p

  pub ranked_any : (j : ℕ) → j < length ds → Any (λ e. (e.index ≡ j) × (e.demand ≡ get_or ds j d)) (ranked ds)
  unfolding ranked
  ranked_any j h = any_sorted ahead (λ e. (e.index ≡ j) × (e.demand ≡ get_or ds j d)) (entries 0 ds) (rw (zeroth) at (entries_any 0 d ds j h))
    where
      zeroth : 0 + j ≡ j
      zeroth = omega arith

-- no two entries have one index
abbrev pub Distinct : List Entry → Type 0
Distinct [] = Unit
Distinct (e ∷ es) = All (λ f. f.index ≡ e.index → ⊥) es × Distinct es

distinct_inserted : (x : Entry) (ys : List Entry) → All (λ f. f.index ≡ x.index → ⊥) ys → Distinct ys → Distinct (inserted ahead x ys)
unfolding inserted
distinct_inserted x [] a d = (tt, tt)
distinct_inserted x (y ∷ ys) a d = go (ahead y x) refl (distinct_inserted x ys a.1 d.1)
  where
    go : (b : Bool) → ahead y x ≡ b → Distinct (inserted ahead x ys) → Distinct (inserted ahead x (y ∷ ys))
    go true h ih = rw (inserted_past ahead x y ys h) (all_inserted ahead (λ f. f.index ≡ y.index → ⊥) x ys (λ p. a.0 (sym p)) d.0, ih)
    go false h ih = rw (inserted_here ahead x y ys h) (a, d)

distinct_sorted : (i : ℕ) (ds : List Demand) → Distinct (sorted ahead (entries i ds))
unfolding sorted entries
distinct_sorted i [] = tt
distinct_sorted i (d ∷ ds) =
    distinct_inserted (record { index = i; demand = d }) (sorted ahead (entries (suc i) ds))
    (all_sorted ahead (λ f. f.index ≡ i → ⊥) (entries (suc i) ds) (entries_all (λ f. f.index ≡ i → ⊥) (suc i) d ds (λ j h p. omega arith))) (distinct_sorted (suc i) ds)

pub ranked_distinct : (ds : List Demand) → Distinct (ranked ds)
unfolding ranked
ranked_distinct ds = distinct_sorted 0 ds

-- key rows of the demands, sorted and seated
module _ (ds : List Demand) (sound : Sound ds) (seated : List (List ℕ)) (r : Result ℕ LanesFull) (s : Seated (sorted_rows (map key_of (entries 0 ds))) seated r) where
  rank_keys : map entry_of (sorted_rows (map key_of (entries 0 ds))) ≡ ranked ds
  unfolding sorted_rows ranked
  rank_keys = ap (map entry_of) (sorted_keys_lem 0 ds (all_of Allowed no_demand ds (λ i h. allowed (get_or ds i no_demand) (sound i h)))) ∙ entries_of_keys (sorted ahead (entries 0 ds))

  pub seated_result : (lanes : List ℕ) → pack_in (ranked ds) [] lanes ≡ result_of r (lanes_in seated lanes)
  seated_result lanes = rw (← rank_keys) (s.result lanes)

  pub seated_covers : Covers (length ds) seated
  unfolding entry_of
  seated_covers = record {
    within = all_mapped entry_of (λ e. e.index < length ds) seated (rw (s.same, rank_keys) (ranked_all no_demand ds (λ e. e.index < length ds) (λ j h. h)));
    every = λ i h. any_mapped entry_of (λ e. e.index ≡ i) seated (rw (s.same, rank_keys) (any_first i h));
  }
    where
      any_first : (i : ℕ) → i < length ds → Any (λ e. e.index ≡ i) (ranked ds)
      any_first i h = any-map (λ e p. p.0) (ranked ds) (ranked_any no_demand ds i h)
