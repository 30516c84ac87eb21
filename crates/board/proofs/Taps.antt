-- Laws of the taps: each is of its own wire, and of the source and page of its group's first wire.
use Prim.Native.Nat.{ℕ, zero, suc, ◌≤◌, ◌<◌}
use native.Mathlib.Omega.{arith}
use mathlib.Core.Path.{◌≡◌, refl, sym, ◌∙◌}
use mathlib.Core.Logic.{◌⊎◌, inl, inr}
use mathlib.Core.Bool.{Bool, true, false, ◌&&◌}
use mathlib.Core.List.Memᴰ
use mathlib.Core.List.{List, [], ◌∷◌, Memᴰ}
use lib.Dec.{eqb}
use lib.ListN.{length}
use borrow.Author.Tests.{eqb-true, ne_eqb}
use Rattle.base.specs.Lists.{at, keep, fold, upto}
use Rattle.board.specs.Board.{Board, source_node, source_port, target_node, page_of}
use Rattle.board.specs.Groups.{Tap, group_for, tap_for, add_wire, taps_of, wire_open, anchors_open, anchor_of, target_anchor}
use Rattle.base.proofs.Lists.{same_three, by_test, by_found, none_at_all, keep_yes, keep_no, count_none}

-- A group's source and page are those of each of its wires.
pub record OfGroup (b : Board) (p w g : ℕ) : Type 0 where
  pub node : source_node b g ≡ source_node b w
  pub port : source_port b g ≡ source_port b w
  pub page : p ≡ page_of b (target_anchor b g)

abbrev pub wire_is : ℕ → Tap → Bool
wire_is k t = eqb t.wire k

-- The taps of the first n wires.
pub record TapsTo (b : Board) (n : ℕ) (ts : List Tap) : Type 0 where
  pub below : (t : Tap) → Memᴰ t ts → t.wire < n
  pub grouped : (t : Tap) → Memᴰ t ts → OfGroup b t.page t.wire t.group
  pub once : (k : ℕ) → length (keep (wire_is k) ts) ≤ 1
  pub short : length ts ≤ n

module _ (b : Board) where
  grouped_for : (ts : List Tap) → ((t : Tap) → Memᴰ t ts → OfGroup b t.page t.wire t.group) → (p w : ℕ) → p ≡ page_of b (target_anchor b w)
      → OfGroup b p w (group_for b ts p w)
  unfolding group_for
  grouped_for [] h p w e = record { node = refl; port = refl; page = e }
  grouped_for (t ∷ l) h p w e =
      by_test (λ g. OfGroup b p w g) (eqb t.page p && eqb (source_node b t.wire) (source_node b w) && eqb (source_port b t.wire) (source_port b w))
      (λ same. joins same (h t (Memᴰ.head refl)))
      (λ other. grouped_for l (λ u m. h u (Memᴰ.tail m)) p w e)
    where
      joins : (eqb t.page p && eqb (source_node b t.wire) (source_node b w) && eqb (source_port b t.wire) (source_port b w)) ≡ true
          → OfGroup b t.page t.wire t.group
          → OfGroup b p w t.group
      joins same o =
          let e = same_three t.page p (source_node b t.wire) (source_node b w) (source_port b t.wire) (source_port b w) same in
          record { node = o.node ∙ e.1; port = o.port ∙ e.2; page = sym e.0 ∙ o.page }

  one_more : (n : ℕ) (ts : List Tap) → TapsTo b n ts → TapsTo b (suc n) ts
  one_more n ts r = record { below = λ t m. omega (arith, r.below t m); grouped = r.grouped; once = r.once; short = omega (arith, r.short) }

  with_tap : (n : ℕ) (ts : List Tap) (a : ℕ) → anchor_of b (target_node b n) ≡ at a → TapsTo b n ts → TapsTo b (suc n) (tap_for b ts n a ∷ ts)
  unfolding tap_for target_anchor
  with_tap n ts a e r =
      record {
        below = λ t m. below t (Memᴰ.cases_cons m);
        grouped = λ t m. grouped t (Memᴰ.cases_cons m);
        once = λ k. once k (eqb n k) refl;
        short = omega (arith, r.short);
      }
    where
      page : page_of b a ≡ page_of b (target_anchor b n)
      page = rw (e, target_anchor)

      below : (t : Tap) → (t ≡ tap_for b ts n a) ⊎ Memᴰ t ts → t.wire < suc n
      below t (inl d) = rw d (omega arith)
      below t (inr m) = omega (arith, r.below t m)

      grouped : (t : Tap) → (t ≡ tap_for b ts n a) ⊎ Memᴰ t ts → OfGroup b t.page t.wire t.group
      grouped t (inl d) = rw d (grouped_for ts r.grouped (page_of b a) n page)
      grouped t (inr m) = r.grouped t m

      once : (k : ℕ) (s : Bool) → eqb n k ≡ s → length (keep (wire_is k) (tap_for b ts n a ∷ ts)) ≤ 1
      once k true d =
          let others = none_at_all (wire_is k) ts (λ t m. ne_eqb t.wire k (λ q. omega (arith, r.below t m, eqb-true n k d))) in
          rw (keep_yes (wire_is k) (tap_for b ts n a) ts d) (omega (arith, count_none (wire_is k) ts others))
      once k false d = rw (keep_no (wire_is k) (tap_for b ts n a) ts d) (r.once k)

  add_wire_lem : (n : ℕ) (ts : List Tap) → TapsTo b n ts → TapsTo b (suc n) (add_wire b ts n)
  unfolding add_wire
  add_wire_lem n ts r =
      by_test P (wire_open b n)
      (λ o. by_found P (anchor_of b (source_node b n)) (λ e. same)
      (λ s e. by_found P (anchor_of b (target_node b n)) (λ e. same)
      (λ a f. by_test P (anchors_open b n s a) (λ q. with_tap n ts a f r) (λ q. same))))
      (λ o. same)
    where
      P : List Tap → Type 0
      P us = TapsTo b (suc n) us

      same : P ts
      same = one_more n ts r

  taps_to : (n : ℕ) → TapsTo b n (fold (add_wire b) [] (upto n))
  taps_to zero =
      record {
        below = λ t m. absurd (Memᴰ.not-nil m);
        grouped = λ t m. absurd (Memᴰ.not-nil m);
        once = λ k. omega arith;
        short = omega arith;
      }
  taps_to (suc n) = add_wire_lem n (fold (add_wire b) [] (upto n)) (taps_to n)

  pub taps_of_lem : TapsTo b (length b.wires) (taps_of b)
  unfolding taps_of
  taps_of_lem = taps_to (length b.wires)
