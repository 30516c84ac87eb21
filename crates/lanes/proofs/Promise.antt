-- The promise: what the definition gives keeps demands of one lane apart, and its lanes have no gap.
-- A seat is an entry with the lane that it got. The seats taken so far, newest first, say all that is needed of them.
use mathlib.Core.Path.{◌≡◌, refl, sym, ap, subst, subst₂, ◌∙◌}
use mathlib.Core.Bool.{Bool, true, false}
use mathlib.Core.Logic.{◌⊎◌, inl, inr, ⊎_elim}
use mathlib.Core.List.{List, [], ◌∷◌}
use Prim.Native.Nat.{ℕ, zero, suc, ◌-◌, ◌≤◌, ◌<◌}
use native.Mathlib.Decide.{ℕ_discrete, dec_lt}
use native.Mathlib.Omega.{arith}
use lib.Dec.{ltb}
use lib.ListN.{length, get_or, set, replicate, length-set, length-replicate}
use lib.Seq.{get_or-set_same, get_or-set_other}
use borrow.Author.Tests.{ltb-true}
use Rattle.lanes.specs.Lanes.{Demand, no_demand, Entry, ranked, lane_most, first_that, lane_for, with_tenant, pack_in, packed, full, laned}
use Rattle.lanes.specs.Apart.{Apart, Rising, LanesApart}
use Rattle.base.proofs.Bools.{never}
use Rattle.lanes.proofs.FindLaws.{first_here, first_past, first_within}
use Rattle.lanes.proofs.LaneLaws.{ends_before}
use Rattle.lanes.proofs.PackLaws.{pack_seat, pack_full}
use Rattle.lanes.proofs.RankLaws.{ranked_all, ranked_any, Distinct, ranked_distinct}
use Rattle.base.proofs.Every.{All, Any, all_map, all_map₂, any_map₂, any_with}

record Seat : Type 0 where
  entry : Entry
  lane : ℕ

-- the lane that is found ends before the demand begins
found_ends : (first : ℕ) (ends : List ℕ) → lane_for first ends < length ends → get_or ends (lane_for first ends) 0 < first
unfolding lane_for
found_ends first [] h = absurd (omega arith)
found_ends first (e ∷ ends) h = go (ltb e first) refl (found_ends first ends)
  where
    go : (b : Bool) → ltb e first ≡ b → (first_that (ends_before first) ends < length ends → get_or ends (first_that (ends_before first) ends) 0 < first)
        → get_or (e ∷ ends) (first_that (ends_before first) (e ∷ ends)) 0 < first
    go true t ih = rw (first_here (ends_before first) e ends t) (ltb-true e first t)
    go false t ih = rw (first_past (ends_before first) e ends t) (ih (omega (arith, first_past (ends_before first) e ends t)))

-- the table with a tenant: its length, its new end, and the others
tenant_length : (l last : ℕ) (ends : List ℕ) → l ≤ length ends → (l < length (with_tenant l last ends)) × (length ends ≤ length (with_tenant l last ends))
unfolding with_tenant
tenant_length zero last [] h = omega arith
tenant_length (suc l) last [] h = absurd (omega arith)
tenant_length zero last (e ∷ es) h = omega arith
tenant_length (suc l) last (e ∷ es) h = let t = tenant_length l last es (omega arith) in omega arith

tenant_here : (l last : ℕ) (ends : List ℕ) → l ≤ length ends → get_or (with_tenant l last ends) l 0 ≡ last
unfolding with_tenant
tenant_here zero last [] h = refl
tenant_here (suc l) last [] h = absurd (omega arith)
tenant_here zero last (e ∷ es) h = refl
tenant_here (suc l) last (e ∷ es) h = tenant_here l last es (omega arith)

tenant_beside : (l last : ℕ) (ends : List ℕ) (j : ℕ) → l ≤ length ends → j < length ends → (j ≡ l → ⊥) → get_or (with_tenant l last ends) j 0 ≡ get_or ends j 0
unfolding with_tenant
tenant_beside l last [] j h k n = absurd (omega arith)
tenant_beside zero last (e ∷ es) zero h k n = absurd (n refl)
tenant_beside zero last (e ∷ es) (suc j) h k n = refl
tenant_beside (suc l) last (e ∷ es) zero h k n = refl
tenant_beside (suc l) last (e ∷ es) (suc j) h k n = tenant_beside l last es j (omega arith) (omega arith) (λ q. n (ap suc q))

tenant_most : (l last : ℕ) (ends : List ℕ) (k : ℕ) → length ends ≤ k → l < k → length (with_tenant l last ends) ≤ k
unfolding with_tenant
tenant_most l last [] k h b = omega arith
tenant_most zero last (e ∷ es) k h b = h
tenant_most (suc l) last (e ∷ es) k h b = let t = tenant_most l last es (k - 1) (omega arith) (omega arith) in omega arith

-- a lane beyond the open ones is the next
new_lane : (l last : ℕ) (ends : List ℕ) (j : ℕ) → l ≤ length ends → j < length (with_tenant l last ends) → length ends ≤ j → j ≡ l
unfolding with_tenant
new_lane zero last [] j h b n = omega arith
new_lane (suc l) last [] j h b n = absurd (omega arith)
new_lane zero last (e ∷ es) j h b n = absurd (omega arith)
new_lane (suc l) last (e ∷ es) zero h b n = absurd (omega arith)
new_lane (suc l) last (e ∷ es) (suc j) h b n = ap suc (new_lane l last es j (omega arith) (omega arith) (omega arith))

-- a seat lies in an open lane, whose end is not before its own
abbrev Held : List ℕ → Seat → Type 0
Held ends s = (s.lane < length ends) × (s.entry.demand.last ≤ get_or ends s.lane 0)

abbrev Clear : Seat → Seat → Type 0
Clear s t = s.lane ≡ t.lane → Apart s.entry.demand t.entry.demand

-- each seat is clear of all taken before it
abbrev Pairs : List Seat → Type 0
Pairs [] = Unit
Pairs (s ∷ ss) = All (Clear s) ss × Pairs ss

record Taken (ends : List ℕ) (ss : List Seat) : Type 0 where
  most : length ends ≤ lane_most
  held : All (Held ends) ss
  pairs : Pairs ss
  used : (l : ℕ) → l < length ends → Any (λ s. s.lane ≡ l) ss

none_taken : Taken [] []
none_taken = record { most = omega arith; held = tt; pairs = tt; used = λ l h. absurd (omega arith) }

module _ (e : Entry) (rising : e.demand.first ≤ e.demand.last) (ends : List ℕ) (ss : List Seat) (t : Taken ends ss)
    (l : ℕ) (is : l ≡ lane_for e.demand.first ends) (fits : l < lane_most) where
  within : l ≤ length ends
  unfolding lane_for
  within = omega (arith, is, first_within (ends_before e.demand.first) ends)

  abbrev next : List ℕ
  next = with_tenant l e.demand.last ends

  -- an earlier seat of the lane ends before the demand begins
  earlier : (s : Seat) → Held ends s → s.lane ≡ l → s.entry.demand.last < e.demand.first
  earlier s h p =
      let f : get_or ends l 0 < e.demand.first = subst (λ (j : ℕ). get_or ends j 0 < e.demand.first) (sym is) (found_ends e.demand.first ends (subst (λ (j : ℕ). j < length ends) (p ∙ is) h.0)) in
      let g : s.entry.demand.last ≤ get_or ends l 0 = subst (λ (j : ℕ). s.entry.demand.last ≤ get_or ends j 0) p h.1 in
      omega arith

  still_held : (s : Seat) → Held ends s → Held next s
  still_held s h = (omega (arith, h.0, (tenant_length l e.demand.last ends within).1), go (ℕ_discrete s.lane l))
    where
      go : Dec (s.lane ≡ l) → s.entry.demand.last ≤ get_or (with_tenant l e.demand.last ends) s.lane 0
      go (yes p) = subst (λ (j : ℕ). s.entry.demand.last ≤ get_or (with_tenant l e.demand.last ends) j 0) (sym p) (omega (arith, tenant_here l e.demand.last ends within, earlier s h p))
      go (no n) = omega (arith, tenant_beside l e.demand.last ends s.lane within h.0 n, h.1)

  abbrev seat : Seat
  seat = record { entry = e; lane = l }

  taken_more : Taken next (seat ∷ ss)
  taken_more = record {
    most = tenant_most l e.demand.last ends lane_most t.most fits;
    held = (((tenant_length l e.demand.last ends within).0, omega (arith, tenant_here l e.demand.last ends within)), all_map still_held ss t.held);
    pairs = (all_map (λ s h p. inr (earlier s h (sym p))) ss t.held, t.pairs);
    used = λ j h. go j h (dec_lt j (length ends));
  }
    where
      go : (j : ℕ) → j < length (with_tenant l e.demand.last ends) → Dec (j < length ends) → (l ≡ j) ⊎ Any (λ s. s.lane ≡ j) ss
      go j h (yes p) = inr (t.used j p)
      go j h (no n) = inl (sym (new_lane l e.demand.last ends j within h (omega arith)))

-- the seats stand in the answers, and no entry to come has an index of theirs
abbrev Placed : List ℕ → Seat → Type 0
Placed lanes s = get_or lanes s.entry.index 0 ≡ s.lane

abbrev Fresh : List Seat → Entry → Type 0
Fresh ss e = All (λ s. s.entry.index ≡ e.index → ⊥) ss

-- an entry of demand i, and one that stands for the demand at its index
module _ (ds : List Demand) where
  abbrev Of : ℕ → Entry → Type 0
  Of i e = (e.index ≡ i) × (e.demand ≡ get_or ds i no_demand)

  record Final (es : List Entry) (ss : List Seat) (n : ℕ) (lanes : List ℕ) (count : ℕ) : Type 0 where
    ends : List ℕ
    seats : List Seat
    taken : Taken ends seats
    counted : length ends ≡ count
    placed : All (Placed lanes) seats
    long : length lanes ≡ n
    every : (i : ℕ) → Any (λ s. Of i s.entry) ss ⊎ Any (Of i) es → Any (λ s. Of i s.entry) seats
    within : All (λ s. s.entry.index < n) seats

  -- the first entry to come has become the newest seat
  seated_first : (e : Entry) (l : ℕ) (es : List Entry) (ss : List Seat) (n : ℕ) (lanes : List ℕ) (count : ℕ)
      → Final es (record { entry = e; lane = l } ∷ ss) n lanes count → Final (e ∷ es) ss n lanes count
  seated_first e l es ss n lanes count f = record {
    ends = f.ends;
    seats = f.seats;
    taken = f.taken;
    counted = f.counted;
    placed = f.placed;
    long = f.long;
    within = f.within;
    every = λ i h. f.every i (⊎_elim (λ s. inl (inr s)) (⊎_elim (λ p. inl (inl p)) (λ r. inr r)) h);
  }

  walk : (es : List Entry) (ends lanes : List ℕ) (ss : List Seat) (n : ℕ) → Taken ends ss → length lanes ≡ n → All (λ s. s.entry.index < n) ss → All (Placed lanes) ss
      → All (λ e. (e.demand.first ≤ e.demand.last) × (e.index < n)) es → Distinct es → All (Fresh ss) es
      → (result : List ℕ) (count : ℕ) → pack_in es ends lanes ≡ laned result count → Final es ss n result count
  walk [] ends lanes ss n t long w p fine distinct fresh result count e =
      unfold pack_in in
      let same : lanes ≡ result = cc in
      record { ends = ends; seats = ss; taken = t; counted = cc; placed = subst (λ (r : List ℕ). All (Placed r) ss) same p; long = ap length (sym same) ∙ long; within = w; every = λ i h. ⊎_elim (λ s. s) (λ b. absurd b) h }
  walk (e ∷ es) ends lanes ss n t long w p fine distinct fresh result count q =
      elim (dec_lt (lane_for e.demand.first ends) lane_most) [
        | yes h ↦
            let l : ℕ = lane_for e.demand.first ends in
            let inside : e.index < length lanes = omega (arith, fine.0.1) in
            seated_first e l es ss n result count
            (walk es (with_tenant l e.demand.last ends) (set lanes e.index l) (record { entry = e; lane = l } ∷ ss) n
            (taken_more e fine.0.0 ends ss t l refl h)
            (length-set lanes e.index l ∙ long)
            (fine.0.1, w)
            (get_or-set_same lanes e.index l 0 inside, all_map₂ (λ s a b. get_or-set_other lanes e.index s.entry.index l 0 a ∙ b) ss fresh.0 p)
            fine.1 distinct.1
            (all_map₂ (λ f a b. (λ same. a (sym same), b)) es distinct.0 fresh.1)
            result count (sym (pack_seat e es ends lanes h) ∙ q))
        | no h ↦
            let z : full e.index ≡ laned result count = sym (pack_full e es ends lanes (omega arith)) ∙ q in
            never cc
      ]

-- two seats: one taken before the other, or the same
two_of : {P Q : Seat → Type 0} {C : Type 0} → ((s t : Seat) → P s → Q t → Clear s t → C) → ((s t : Seat) → P s → Q t → Clear t s → C) → ((s : Seat) → P s → Q s → C)
    → (ss : List Seat) → Pairs ss → Any P ss → Any Q ss → C
two_of f g h [] c p q = absurd p
two_of f g h (s ∷ ss) c p q =
    ⊎_elim (λ p. ⊎_elim (λ q. h s p q) (λ q. any_with (λ t q c. f s t p q c) ss q c.0) q)
    (λ p. ⊎_elim (λ q. any_with (λ t p c. g t s p q c) ss p c.0) (λ q. two_of f g h ss c.1 p q) q) p

module _ (ds : List Demand) (rising : Rising ds) (lanes : List ℕ) (count : ℕ) (e : packed ds ≡ laned lanes count) where
  final : Final ds (ranked ds) [] (length ds) lanes count
  final =
      walk ds (ranked ds) [] (replicate (length ds) 0) [] (length ds) none_taken (length-replicate (length ds) 0) tt tt
      (ranked_all no_demand ds (λ e. (e.demand.first ≤ e.demand.last) × (e.index < length ds)) (λ j h. (rising j h, h)))
      (ranked_distinct ds) (ranked_all no_demand ds (Fresh []) (λ j h. tt)) lanes count (unfold packed in e)

  -- the seat of demand i
  abbrev SeatOf : ℕ → Seat → Type 0
  SeatOf i s = (s.entry.index ≡ i) × (s.entry.demand ≡ get_or ds i no_demand) × (get_or lanes i 0 ≡ s.lane)

  seat_of_lem : (i : ℕ) → i < length ds → Any (SeatOf i) final.seats
  seat_of_lem i h =
      any_map₂ (λ s o p. (o.0, o.1, subst (λ (j : ℕ). get_or lanes j 0 ≡ s.lane) o.0 p)) final.seats
      (final.every i (inr (ranked_any no_demand ds i h))) final.placed

  pub lanes_apart : LanesApart ds lanes count
  lanes_apart = record {
    long = final.long;
    most = omega (arith, final.taken.most, final.counted);
    below = λ i h. any_with (λ (s : Seat) (o : SeatOf i s) (b : Held final.ends s). omega (arith, o.2, b.0, final.counted)) final.seats (seat_of_lem i h) final.taken.held;
    used = λ l h. any_with (λ (s : Seat) (p : s.lane ≡ l) (w : (s.entry.index < length ds) × Placed lanes s). (s.entry.index, w.0, w.1 ∙ p)) final.seats (final.taken.used l (omega (arith, final.counted)))
        (all_map₂ (λ s w p. (w, p)) final.seats final.within final.placed);
    apart = λ i j hi hj n same. two_of
        (λ (s t : Seat) (p : SeatOf i s) (q : SeatOf j t) (c : Clear s t). subst₂ Apart p.1 q.1 (c (sym p.2 ∙ (same ∙ q.2))))
        (λ (s t : Seat) (p : SeatOf i s) (q : SeatOf j t) (c : Clear t s). subst₂ Apart p.1 q.1 (⊎_elim (λ x. inr x) (λ y. inl y) (c (sym q.2 ∙ (sym same ∙ p.2)))))
        (λ (s : Seat) (p : SeatOf i s) (q : SeatOf j s). absurd (n (sym p.0 ∙ q.0)))
        final.seats final.taken.pairs (seat_of_lem i hi) (seat_of_lem j hj);
  }
