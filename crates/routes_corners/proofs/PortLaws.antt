-- Wires by target port, along their sorted keys: classes, a port's place among the keys, and flags of suppressed ports.
use Rattle.std.proofs.Common.{◌≡◌, ℕ, zero, suc, ◌+◌, ◌-◌, ◌*◌, ◌/◌, ◌<◌, ◌≤◌, Bool, true, false, ◌||◌, eqb, List, length, get_or, set, sym, refl, ap, ◌∙◌, subst, arith, length-set, get_or-set_other, get_or-set_same, eq-eqb, ne_eqb, eqb-true}
use native.Mathlib.Decide.{dec_lt, ℕ_discrete}
use borrow.Author.Tests.{eqb-false}
use Rattle.base.specs.Keys.{Rising, Risen, FirstNotBelow}
use Rattle.base.proofs.Bools.{clash, both}
use Rattle.base.proofs.Lists.{same_two}
use Rattle.board.specs.Board.{field}
use Rattle.routes.specs.Bus.{Port, same_port}
use Rattle.routes_corners.specs.CornerTables.{port_at, Classed}
use Rattle.routes_corners.specs.Ports.{port_key, wire_key, PortsLow, NUMBERS, wire_at, class_at, PortKeys, the_port, goes_to, FlaggedBy}
use Rattle.routes_corners.proofs.CornerLaws.{flag-set}

-- The keys of the wires, sorted.
pub keys_sorted : (wires : List (List ℕ)) (given risen : List ℕ) → PortsLow wires → length wires ≤ NUMBERS → length wires ≤ length risen → Risen given risen (length wires)
    → ((w : ℕ) → w < length wires → get_or given w 0 ≡ wire_key wires w * NUMBERS + w) → PortKeys wires risen
keys_sorted wires given risen low few long r is =
    record {
      few = few;
      low = low;
      long = long;
      rising = r.rising;
      comes = λ p h.
          let f = r.from p h in
          let value : get_or risen p 0 ≡ wire_key wires f.0 * NUMBERS + f.0 = sym f.2 ∙ is f.0 f.1 in
          let same : f.0 ≡ wire_at risen p = omega (arith, f.1) in
          (omega (arith, f.1), value ∙ ap (λ (w : ℕ). wire_key wires w * NUMBERS + w) same);
      reached = λ w h. let t = r.to w h in (t.0, t.1, t.2 ∙ is w h);
    }

-- Ports in range are the same where their keys are.
pub ports_by_key : (node port node' port' : ℕ) → port ≤ 65535 → port' ≤ 65535 → port_key node port ≡ port_key node' port' → same_port (the_port node port) (the_port node' port') ≡ true
ports_by_key node port node' port' low low' e =
    both (eqb node node') (eqb port port') (eq-eqb node node' (omega arith)) (eq-eqb port port' (omega arith))

-- Ports that are the same.
pub port_same : (p q : Port) → same_port p q ≡ true → p ≡ q
port_same p q e = let h = same_two p.node q.node p.port q.port e in λ i. record { node = h.0 i; port = h.1 i }

-- The class of wire w is c: the first wire with its key.
pub record Leads (wires : List (List ℕ)) (w c : ℕ) : Type 0 where
  pub low : c ≤ w
  pub same : wire_key wires c ≡ wire_key wires w
  pub first : (v : ℕ) → v < c → wire_key wires v ≡ wire_key wires w → ⊥

module _ (wires : List (List ℕ)) (low : PortsLow wires) where
  same_by_key : (v w : ℕ) → same_port (port_at wires v) (port_at wires w) ≡ eqb (wire_key wires v) (wire_key wires w)
  same_by_key v w = go (eqb (wire_key wires v) (wire_key wires w)) refl (same_port (port_at wires v) (port_at wires w)) refl
    where
      go : (s : Bool) → eqb (wire_key wires v) (wire_key wires w) ≡ s → (t : Bool) → same_port (port_at wires v) (port_at wires w) ≡ t → t ≡ s
      go true e t f = sym f ∙ ports_by_key (field wires v 3) (field wires v 4) (field wires w 3) (field wires w 4) (low v) (low w) (eqb-true (wire_key wires v) (wire_key wires w) e)
      go false e true f =
          let h = same_two (field wires v 3) (field wires w 3) (field wires v 4) (field wires w 4) f in
          absurd (eqb-false (wire_key wires v) (wire_key wires w) e (λ i. port_key (h.0 i) (h.1 i)))
      go false e false f = refl

  pub classed_by : (classes : List ℕ) (n : ℕ) → ((w : ℕ) → w < n → Leads wires w (get_or classes w 0)) → Classed wires classes n
  classed_by classes n leads =
      record { same = λ v w hv hw. pair v w (leads v hv) (leads w hw) (eqb (wire_key wires v) (wire_key wires w)) refl ∙ sym (same_by_key v w); low = λ w h. (leads w h).low }
    where
      pair : (v w : ℕ) → Leads wires v (get_or classes v 0) → Leads wires w (get_or classes w 0) → (t : Bool) → eqb (wire_key wires v) (wire_key wires w) ≡ t → eqb (get_or classes v 0) (get_or classes w 0) ≡ t
      pair v w lv lw true e =
          let keys = eqb-true (wire_key wires v) (wire_key wires w) e in
          eq-eqb (get_or classes v 0) (get_or classes w 0)
          (elim (dec_lt (get_or classes v 0) (get_or classes w 0)) [
            | yes h ↦ absurd (lw.first (get_or classes v 0) h (lv.same ∙ keys))
            | no o ↦ elim (dec_lt (get_or classes w 0) (get_or classes v 0)) [ yes h ↦ absurd (lv.first (get_or classes w 0) h (lw.same ∙ sym keys)) | no q ↦ omega arith ]
          ])
      pair v w lv lw false e =
          ne_eqb (get_or classes v 0) (get_or classes w 0) (λ z. eqb-false (wire_key wires v) (wire_key wires w) e (sym lv.same ∙ (ap (wire_key wires) z ∙ lw.same)))

-- What `class_at` gives.
module _ (keys : List ℕ) (class : ℕ) where
  pub class_first : (p : ℕ) → p ≡ 0 → wire_at keys p ≡ class_at keys p class
  unfolding class_at
  class_first zero e = refl
  class_first (suc p) e = absurd (omega arith)

  class_behind : (p : ℕ) → (t : Bool) → eqb (get_or keys p 0 / NUMBERS) (get_or keys (suc p) 0 / NUMBERS) ≡ t → class_at keys (suc p) class ≡ elim t [ true ↦ class | false ↦ wire_at keys (suc p) ]
  unfolding class_at
  class_behind p t e = ap (λ (b : Bool). elim b as (λ _. ℕ) [ true ↦ class | false ↦ wire_at keys (suc p) ]) e

  pub class_same : (p : ℕ) → (p ≡ 0 → ⊥) → get_or keys (p - 1) 0 / NUMBERS ≡ get_or keys p 0 / NUMBERS → class ≡ class_at keys p class
  class_same zero o e = absurd (o refl)
  class_same (suc p) o e =
      let behind : suc p - 1 ≡ p = omega arith in
      let same : get_or keys p 0 / NUMBERS ≡ get_or keys (suc p) 0 / NUMBERS = ap (λ (q : ℕ). get_or keys q 0 / NUMBERS) (sym behind) ∙ e in
      sym (class_behind p true (eq-eqb (get_or keys p 0 / NUMBERS) (get_or keys (suc p) 0 / NUMBERS) same))

  pub class_new : (p : ℕ) → (p ≡ 0 → ⊥) → (get_or keys (p - 1) 0 / NUMBERS ≡ get_or keys p 0 / NUMBERS → ⊥) → wire_at keys p ≡ class_at keys p class
  class_new zero o e = absurd (o refl)
  class_new (suc p) o e =
      let behind : suc p - 1 ≡ p = omega arith in
      let other : get_or keys p 0 / NUMBERS ≡ get_or keys (suc p) 0 / NUMBERS → ⊥ = λ z. e (ap (λ (q : ℕ). get_or keys q 0 / NUMBERS) behind ∙ z) in
      sym (class_behind p false (ne_eqb (get_or keys p 0 / NUMBERS) (get_or keys (suc p) 0 / NUMBERS) other))

-- Along the keys
module _ (wires : List (List ℕ)) (keys : List ℕ) (k : PortKeys wires keys) where
  -- A wire with the same key and a lower number comes before.
  before : (p : ℕ) → p < length wires → (v : ℕ) → v < wire_at keys p → wire_key wires v ≡ wire_key wires (wire_at keys p) → (q : ℕ) × (q < p) × (get_or keys q 0 ≡ wire_key wires v * NUMBERS + v)
  before p h v l e =
      let c = k.comes p h in
      let t = k.reached v (omega (arith, c.0)) in
      (t.0, elim (dec_lt t.0 p) [ yes a ↦ a | no f ↦ absurd (let a = k.rising p t.0 (omega arith) t.1 in omega (arith, c.1, t.2)) ], t.2)

  -- Where a key is another than the one before, its wire is the first with it.
  run_first : (p : ℕ) → suc p < length wires → eqb (get_or keys p 0 / NUMBERS) (get_or keys (suc p) 0 / NUMBERS) ≡ false
      → (v : ℕ) → v < wire_at keys (suc p) → wire_key wires v ≡ wire_key wires (wire_at keys (suc p)) → ⊥
  run_first p h o v l e =
      let b = before (suc p) h v l e in
      let c = k.comes (suc p) h in
      let low = k.rising b.0 p (omega (arith, b.1)) (omega arith) in
      let high = k.rising p (suc p) (omega arith) h in
      eqb-false (get_or keys p 0 / NUMBERS) (get_or keys (suc p) 0 / NUMBERS) o (omega (arith, b.2, c.1, c.0))

  class_leads : (p class : ℕ) → p < length wires → (0 < p → Leads wires (wire_at keys (p - 1)) class) → Leads wires (wire_at keys p) (class_at keys p class)
  unfolding class_at
  class_leads zero class h old = record { low = omega arith; same = refl; first = λ v l e. let q = (before zero h v l e).1 in omega arith }
  class_leads (suc p) class h old = go (eqb (get_or keys p 0 / NUMBERS) (get_or keys (suc p) 0 / NUMBERS)) refl (subst (λ (q : ℕ). Leads wires (wire_at keys q) class) behind (old (omega arith)))
    where
      behind : suc p - 1 ≡ p
      behind = omega arith

      go : (t : Bool) → eqb (get_or keys p 0 / NUMBERS) (get_or keys (suc p) 0 / NUMBERS) ≡ t → Leads wires (wire_at keys p) class
          → Leads wires (wire_at keys (suc p)) (elim t as (λ _. ℕ) [ true ↦ class | false ↦ wire_at keys (suc p) ])
      go true e l =
          let here = k.comes (suc p) h in
          let there = k.comes p (omega arith) in
          let rises = k.rising p (suc p) (omega arith) h in
          let runs = eqb-true (get_or keys p 0 / NUMBERS) (get_or keys (suc p) 0 / NUMBERS) e in
          let same : wire_key wires (wire_at keys p) ≡ wire_key wires (wire_at keys (suc p)) = omega (arith, here.1, there.1) in
          let below = l.low in
          record { low = omega (arith, here.1, there.1, below); same = l.same ∙ same; first = λ v b f. l.first v b (f ∙ sym same) }
      go false e l = record { low = omega arith; same = refl; first = run_first p h e }

-- The walk: the first p wires along the keys have their classes, the last of them the class at hand.
pub record Walked (wires : List (List ℕ)) (keys old classes : List ℕ) (class p : ℕ) : Type 0 where
  pub long : length classes ≡ length old
  pub last : 0 < p → Leads wires (wire_at keys (p - 1)) class
  pub done : (q : ℕ) → q < p → Leads wires (wire_at keys q) (get_or classes (wire_at keys q) 0)

module _ (wires : List (List ℕ)) (keys old : List ℕ) (k : PortKeys wires keys) where
  pub walked_start : Walked wires keys old old 0 0
  walked_start = record { long = refl; last = λ h. absurd (omega arith); done = λ q h. absurd (omega arith) }

  module _ (classes : List ℕ) (class p : ℕ) (walked : Walked wires keys old classes class p) where
    pub walked_on : (c w : ℕ) → p < length wires → c ≡ class_at keys p class → w ≡ wire_at keys p → w < length classes → Walked wires keys old (set classes w c) c (p + 1)
    walked_on c w h is at room =
        record {
          long = length-set classes w c ∙ walked.long;
          last = λ z. subst (λ (q : ℕ). Leads wires (wire_at keys q) c) behind leads;
          done = λ q l. elim (ℕ_discrete (wire_at keys q) w) [
            | yes e ↦ subst (Leads wires (wire_at keys q)) (sym (ap (λ (j : ℕ). get_or (set classes w c) j 0) e ∙ get_or-set_same classes w c 0 room)) (subst (λ (j : ℕ). Leads wires j c) (sym (e ∙ at)) leads)
            | no f ↦ subst (Leads wires (wire_at keys q)) (sym (get_or-set_other classes w (wire_at keys q) c 0 f)) (walked.done q (below q l f))
          ];
        }
      where
        behind : p ≡ p + 1 - 1
        behind = omega arith

        leads : Leads wires (wire_at keys p) c
        leads = subst (Leads wires (wire_at keys p)) (sym is) (class_leads wires keys k p class h walked.last)

        below : (q : ℕ) → q < p + 1 → (wire_at keys q ≡ w → ⊥) → q < p
        below q l f = elim (dec_lt q p) [ yes b ↦ b | no o ↦ let e : q ≡ p = omega arith in absurd (f (ap (wire_at keys) e ∙ sym at)) ]

    pub walked_done : length wires ≤ p → Classed wires classes (length wires)
    walked_done all = classed_by wires k.low classes (length wires) leads
      where
        leads : (w : ℕ) → w < length wires → Leads wires w (get_or classes w 0)
        leads w h =
            let r = k.reached w h in
            let few = k.few in
            let is : wire_at keys r.0 ≡ w = omega (arith, r.2) in
            subst (λ (j : ℕ). Leads wires j (get_or classes j 0)) is (walked.done r.0 (omega (arith, r.1)))

-- The place of a port among the keys
module _ (wires : List (List ℕ)) (keys : List ℕ) (k : PortKeys wires keys) (node port key p : ℕ) (is : key ≡ port_key node port * NUMBERS + 0) (first : FirstNotBelow keys (length wires) key p) where
  -- If any wire leads to the port, then the one at that place does.
  port_here : (v : ℕ) → v < length wires → goes_to wires (the_port node port) v ≡ true → (p < length wires) × (goes_to wires (the_port node port) (wire_at keys p) ≡ true)
  port_here v h t =
      let own = same_two (field wires v 3) node (field wires v 4) port t in
      let low = k.low v in
      let few = k.few in
      let at = k.reached v h in
      let value : get_or keys at.0 0 ≡ port_key node port * NUMBERS + v = at.2 ∙ (λ i. port_key (own.0 i) (own.1 i) * NUMBERS + v) in
      elim (dec_lt at.0 p) [
        | yes l ↦ absurd (let b = first.before at.0 l in omega arith)
        | no f ↦
            let inside : p < length wires = omega (arith, at.1) in
            let high = first.here inside in
            let rises = k.rising p at.0 (omega arith) at.1 in
            let c = k.comes p inside in
            (inside, ports_by_key (field wires (wire_at keys p) 3) (field wires (wire_at keys p) 4) node port (k.low (wire_at keys p)) (omega (arith, own.1)) (omega (arith, c.0, c.1)))
      ]

  pub port_nowhere : (p < length wires → goes_to wires (the_port node port) (wire_at keys p) ≡ false) → (w : ℕ) → w < length wires → goes_to wires (the_port node port) w ≡ false
  port_nowhere no_one w h = go (goes_to wires (the_port node port) w) refl
    where
      go : (t : Bool) → goes_to wires (the_port node port) w ≡ t → t ≡ false
      go true e = let f = port_here w h e in clash f.1 (no_one f.0)
      go false e = refl

-- A key is looked for from a place on: what stands in front of it is below.
pub all_below : (keys : List ℕ) (n from key : ℕ) → Rising keys n → from ≤ n → (0 < from → get_or keys (from - 1) 0 < key) → (i : ℕ) → i < from → get_or keys i 0 < key
all_below keys n from key rising l last i h = let a = rising i (from - 1) (omega (arith, h)) (omega (arith, h, l)) in let b = last (omega (arith, h)) in omega (arith, a, b)

-- The flags with one more port.
module _ (wires : List (List ℕ)) (classes : List ℕ) (flags : List Bool) (c : Classed wires classes (length wires)) (p : Port) (test : ℕ → Bool) (h : FlaggedBy test wires classes flags) where
  abbrev more : ℕ → Bool
  more w = goes_to wires p w || test w

  pub flag_none : ((w : ℕ) → w < length wires → goes_to wires p w ≡ false) → FlaggedBy more wires classes flags
  flag_none none w l = h w l ∙ sym (ap (λ t. t || test w) (none w l))

  pub flag_found : length wires ≤ length flags → (v : ℕ) → v < length wires → goes_to wires p v ≡ true → FlaggedBy more wires classes (set flags (get_or classes v 0) true)
  flag_found room v b t =
      let low = c.low v b in
      let inside : get_or classes v 0 < length flags = omega arith in
      let ports : port_at wires v ≡ p = port_same (port_at wires v) p t in
      λ w l. flag-set flags (get_or classes v 0) (get_or classes w 0) (goes_to wires p w) (test w) inside (c.same w v l b ∙ (λ i. same_port (port_at wires w) (ports i))) (h w l)
