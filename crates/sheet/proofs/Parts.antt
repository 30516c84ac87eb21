-- Parts of a text: where one ends, what stands behind it, and that the sheet walker goes along them.
use Rattle.std.proofs.Common.{◌≡◌, ℕ, suc, ◌+◌, ◌-◌, ◌<◌, ◌≤◌, Bool, true, false, ◌||◌, eqb, ltb, List, [], ◌∷◌, ◌++◌, length, get_or, take, drop, sym, refl, ap, ◌∙◌, subst, add-suc, add-one, arith, length-append, length-drop, take-append-drop, drop_of_length-le, drop-cons, drop-drop, ne_eqb, ltb-true, lt-ltb, eq-eqb, eqb-true}
use native.Mathlib.Nat.{add-sub_cancel_left}
use Rattle.sheet.specs.Text.{on_first, parts, first_part, part_of}
use Rattle.sheet.specs.Places.{part_end, behind_part, Along}
use Rattle.sheet.specs.Walk.{has}
use Rattle.base.proofs.Bools.{or_left, or_right}

-- behind some bytes and one more
pub drop_past : (f : List ℕ) (b : ℕ) (u : List ℕ) → drop (suc (length f)) (f ++ b ∷ u) ≡ u
drop_past [] b u = refl
drop_past (x ∷ f) b u = drop_past f b u

-- A text is cut at its first byte `s`, or has none.
pub data Cut (s : ℕ) : List ℕ → Type 0 where
  whole : (t : List ℕ) → has s t ≡ false → Cut s t
  cut : (f u : List ℕ) → has s f ≡ false → Cut s (f ++ s ∷ u)

module _ (s : ℕ) where
  -- one byte more in front
  pub has_goes : (b : ℕ) (t : List ℕ) → eqb b s ≡ false → has s t ≡ false → has s (b ∷ t) ≡ false
  unfolding has
  has_goes b t e h = rw (e, h)

  pub cut_at : (t : List ℕ) → Cut s t
  unfolding has
  cut_at [] = whole [] refl
  cut_at (b ∷ t) = go (eqb b s) refl (cut_at t)
    where
      go : {t : List ℕ} (x : Bool) → eqb b s ≡ x → Cut s t → Cut s (b ∷ t)
      go {t} true e c = subst (λ (y : ℕ). Cut s (y ∷ t)) (sym (eqb-true b s e)) (cut [] t refl)
      go false e (whole t h) = whole (b ∷ t) (has_goes b t e h)
      go false e (cut f u h) = cut (b ∷ f) u (has_goes b f e h)

  pub has-append : (a b : List ℕ) → has s (a ++ b) ≡ (has s a || has s b)
  unfolding has
  has-append [] b = refl
  has-append (x ∷ a) b = rw (has-append a b) (go (eqb x s))
    where
      go : (p : Bool) → (p || (has s a || has s b)) ≡ ((p || has s a) || has s b)
      go true = refl
      go false = refl

  pub has_there : (f u : List ℕ) → has s (f ++ s ∷ u) ≡ true
  unfolding has
  has_there f u = has-append f (s ∷ u) ∙ rw (eq-eqb s s refl) (go (has s f))
    where
      go : (p : Bool) → (p || true) ≡ true
      go true = refl
      go false = refl

  -- a text without the byte is one part; before the byte stands the first part, and behind it the others
  pub parts_free : (f : List ℕ) → has s f ≡ false → parts s f ≡ f ∷ []
  unfolding parts on_first has
  parts_free [] h = refl
  parts_free (b ∷ f) h = rw (or_left (eqb b s) (has s f) h, parts) (ap (on_first b) (parts_free f (or_right (eqb b s) (has s f) h)))

  pub parts_cut : (f u : List ℕ) → has s f ≡ false → parts s (f ++ s ∷ u) ≡ f ∷ parts s u
  unfolding parts on_first has
  parts_cut [] u h = rw (eq-eqb s s refl, parts)
  parts_cut (b ∷ f) u h = rw (or_left (eqb b s) (has s f) h, parts) (ap (on_first b) (parts_cut f u (or_right (eqb b s) (has s f) h)))

  pub part_free : (f : List ℕ) → has s f ≡ false → part_of s f ≡ f
  unfolding part_of first_part
  part_free f h = ap first_part (parts_free f h)

  pub part_cut : (f u : List ℕ) → has s f ≡ false → part_of s (f ++ s ∷ u) ≡ f
  unfolding part_of first_part
  part_cut f u h = ap first_part (parts_cut f u h)

  -- a part, one byte further, and behind bytes without that which ends it
  pub part_ends : (b : ℕ) (t : List ℕ) → eqb b s ≡ true → part_of s (b ∷ t) ≡ []
  unfolding part_of parts first_part
  part_ends b t e = rw (e, parts)

  pub part_goes : (b : ℕ) (t : List ℕ) → eqb b s ≡ false → part_of s (b ∷ t) ≡ b ∷ part_of s t
  unfolding part_of parts first_part on_first
  part_goes b t e = rw (e, parts) (go (parts s t))
    where
      go : (l : List (List ℕ)) → first_part (on_first b l) ≡ b ∷ first_part l
      go [] = refl
      go (p ∷ ps) = refl

  pub part_past : (f t : List ℕ) → has s f ≡ false → part_of s (f ++ t) ≡ f ++ part_of s t
  unfolding has
  part_past [] t h = refl
  part_past (b ∷ f) t h =
      part_goes b (f ++ t) (or_left (eqb b s) (has s f) h) ∙ ap (λ (l : List ℕ). b ∷ l) (part_past f t (or_right (eqb b s) (has s f) h))

  -- there is a first part
  pub parts_some : (t : List ℕ) → parts s t ≡ part_of s t ∷ drop 1 (parts s t)
  unfolding parts part_of first_part on_first
  parts_some t = go (cut_at t)
    where
      go : {t : List ℕ} → Cut s t → parts s t ≡ part_of s t ∷ drop 1 (parts s t)
      go (whole t h) = rw (parts_free t h)
      go (cut f u h) = rw (parts_cut f u h)

  -- The search for a part's end, at a place: past the text's end the part is empty.
  pub part_none : (t : List ℕ) (i : ℕ) → length t ≤ i → part_of s (drop i t) ≡ []
  unfolding part_of parts first_part
  part_none t i h = rw (drop_of_length-le t {i = i} h)

  -- the search stops at a byte that ends the part
  pub part_stops : (t : List ℕ) (i : ℕ) → i < length t → get_or t i 0 ≡ s → part_of s (drop i t) ≡ []
  part_stops t i h e = rw (drop-cons t i 0 h) (part_ends (get_or t i 0) (drop (suc i) t) (eq-eqb (get_or t i 0) s e))

  -- at any other it goes on: a part with one byte more in front ends where it did
  pub part_on : (t : List ℕ) (i : ℕ) → i < length t → (get_or t i 0 ≡ s → ⊥) → part_end s t i ≡ part_end s t (i + 1)
  part_on t i h p =
      let f : part_of s (drop i t) ≡ get_or t i 0 ∷ part_of s (drop (i + 1) t) = rw (drop-cons t i 0 h, add-one i) (part_goes (get_or t i 0) (drop (suc i) t) (ne_eqb (get_or t i 0) s p)) in
      omega (arith, ap length f)

  -- a part is the front of the text that it is taken of
  part_front : (t : List ℕ) → take (length (part_of s t)) t ≡ part_of s t
  unfolding part_of parts first_part
  part_front [] = refl
  part_front (b ∷ t) = go (eqb b s) refl (part_front t)
    where
      go : (x : Bool) → eqb b s ≡ x → take (length (part_of s t)) t ≡ part_of s t → take (length (part_of s (b ∷ t))) (b ∷ t) ≡ part_of s (b ∷ t)
      go true e h = rw (part_ends b t e)
      go false e h = rw (part_goes b t e) (ap (λ (l : List ℕ). b ∷ l) h)

  pub part_short : (t : List ℕ) → length (part_of s t) ≤ length t
  part_short t =
      let n = length (part_of s t) in
      omega (arith, ap length (part_front t), length-append (take n t) (drop n t), ap length (take-append-drop n t))

  -- so the text between its start and its end, which is not past the text's
  pub part_between : (t : List ℕ) (at : ℕ) → take (part_end s t at - at) (drop at t) ≡ part_of s (drop at t)
  part_between t at = rw (add-sub_cancel_left at (length (part_of s (drop at t)))) (part_front (drop at t))

  pub part_inside : (t : List ℕ) (at : ℕ) → at ≤ length t → part_end s t at ≤ length t
  part_inside t at h = omega (arith, part_short (drop at t), length-drop at t)

  pub part_room : (t : List ℕ) (at most : ℕ) → at ≤ most → length t ≤ most → at + length (part_of s (drop at t)) ≤ most
  part_room t at most h l = omega (arith, part_short (drop at t), length-drop at t)

  -- The place behind a part's start is beyond it, and not past the end.
  pub part_beyond : (t : List ℕ) (at : ℕ) → at < length t → (at < behind_part s t at) × (behind_part s t at ≤ length t)
  part_beyond t at h = go (ltb (part_end s t at) (length t)) refl
    where
      go : (b : Bool) → ltb (part_end s t at) (length t) ≡ b → (at < behind_part s t at) × (behind_part s t at ≤ length t)
      go true e = rw e (omega arith, omega (arith, ltb-true (part_end s t at) (length t) e))
      go false e = rw e (h, omega arith)

  -- a part that the byte ends, and the parts behind it; and one that the text's end ends
  parts_more : (t : List ℕ) → length (part_of s t) < length t → parts s t ≡ part_of s t ∷ parts s (drop (suc (length (part_of s t))) t)
  parts_more t h = go (cut_at t) h
    where
      go : {t : List ℕ} → Cut s t → length (part_of s t) < length t → parts s t ≡ part_of s t ∷ parts s (drop (suc (length (part_of s t))) t)
      go (whole t e) h = absurd (omega (arith, h, ap length (part_free t e)))
      go (cut f u e) h = rw (part_cut f u e, drop_past f s u) (parts_cut f u e)

  parts_last : (t : List ℕ) → length t ≤ length (part_of s t) → parts s t ≡ part_of s t ∷ []
  parts_last t h = go (cut_at t) h
    where
      go : {t : List ℕ} → Cut s t → length t ≤ length (part_of s t) → parts s t ≡ part_of s t ∷ []
      go (whole t e) h = rw (part_free t e) (parts_free t e)
      go (cut f u e) h = absurd (omega (arith, h, ap length (part_cut f u e), length-append f (s ∷ u)))

  pub along : (t : List ℕ) (at : ℕ) → Along s t at
  along t at =
      let u = drop at t in
      let n = length (part_of s u) in
      let place : part_end s t at < length t → drop (behind_part s t at) t ≡ drop (suc n) u =
      λ h. rw (lt-ltb (at + n) (length t) h) (ap (λ (k : ℕ). drop k t) (sym (add-suc at n)) ∙ sym (drop-drop (suc n) at t)) in
      record {
        more = λ h. rw (place h) (parts_more u (omega (arith, length-drop at t)));
        last = λ h. parts_last u (omega (arith, length-drop at t));
      }

-- A search that has come to where nothing is left of its part has come to the part's end.
pub at_end : (i end : ℕ) (f : List ℕ) → end ≡ i + length f → f ≡ [] → i ≡ end
at_end i end f e p = omega (arith, ap length p)
