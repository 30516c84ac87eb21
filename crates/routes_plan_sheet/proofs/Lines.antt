-- The lines of the plan sheet, field by field and line by line.
use Rattle.std.proofs.Common.{◌≡◌, ℕ, suc, ◌+◌, ◌<◌, ◌≤◌, eqb, List, [], ◌∷◌, ◌++◌, map, length, get_or, take, sym, refl, ap, ◌∙◌, append_assoc, append-nil, add-zero, add-one, arith, length-append, length-take, take_all, take-suc, ne_eqb}
use lib.ListN.{length-map, get_or-map}
use Rattle.sheet.specs.Text.{NEWLINE}
use Rattle.sheet.specs.Table.{MISSING}
use Rattle.sheet.specs.Written.{Wrote, tabbed}
use Rattle.base.proofs.Bools.{pick_false}
use Rattle.sheet.proofs.Writing.{wrote_more, decimal-length, wrote_nothing, coordinate-length, number-length}
use Rattle.routes.specs.PlanSheet.{line, fields, numbered}
use Rattle.routes_plan_sheet.specs.Fields.{field_text, letter_of, WroteLines}
use Rattle.routes_plan_sheet.specs.declared.plan_sheet.Field.{Field}
use Rattle.routes_plan_sheet.specs.declared.plan_sheet.Field.TheVariants.{Decimal, Coordinate, Number, Letter}

-- No field is longer than ten digits.
pub text_length : (f : Field) → length (field_text f) ≤ 10
text_length (Decimal n) = decimal-length n
text_length (Coordinate c) = coordinate-length c
text_length (Number n) = number-length n
text_length (Letter letter) = omega arith

-- Fields one behind the other, each after a tab.
unfoldable pub tabs : List (List ℕ) → List ℕ
tabs [] = []
tabs (f ∷ fs) = tabbed f ++ tabs fs

tabs_append : (a b : List (List ℕ)) → tabs (a ++ b) ≡ tabs a ++ tabs b
unfolding tabs
tabs_append [] b = refl
tabs_append (f ∷ fs) b = ap (λ l. tabbed f ++ l) (tabs_append fs b) ∙ sym (append_assoc (tabbed f) (tabs fs) (tabs b))

pub fields_tabs : (fs : List (List ℕ)) → fields fs ≡ tabs fs ++ (NEWLINE ∷ [])
unfolding fields tabs
fields_tabs [] = refl
fields_tabs (f ∷ fs) = ap (λ l. tabbed f ++ l) (fields_tabs fs) ∙ sym (append_assoc (tabbed f) (tabs fs) (NEWLINE ∷ []))

tabs_more : (fs : List Field) (i : ℕ) (f : Field) → i < length fs → f ≡ get_or fs i f → tabs (take (suc i) (map field_text fs)) ≡ tabs (take i (map field_text fs)) ++ tabbed (field_text f)
unfolding tabs
tabs_more fs i f h at =
    let inside : i < length (map field_text fs) = rw (length-map fs field_text) h in
    let here : get_or (map field_text fs) i (field_text f) ≡ field_text f = get_or-map field_text fs i f ∙ ap field_text (sym at) in
    ap tabs (take-suc (map field_text fs) i (field_text f) inside)
    ∙ tabs_append (take i (map field_text fs)) (get_or (map field_text fs) i (field_text f) ∷ [])
    ∙ ap (λ l. tabs (take i (map field_text fs)) ++ l) (append-nil (tabbed (get_or (map field_text fs) i (field_text f))) ∙ ap tabbed here)

-- One field more of a line.
module _ (out₀ out new : List ℕ) (next₀ next r i : ℕ) (fs : List Field) (f : Field) where
  pub line_step : i < length fs → f ≡ get_or fs i f → next + 11 ≤ length out → length out ≡ length out₀ → r ≤ next + 11
      → Wrote out₀ next₀ (tabs (take i (map field_text fs))) out next
      → Wrote out next (tabbed (field_text f)) new r
      → Wrote out₀ next₀ (tabs (take (i + 1) (map field_text fs))) new r
  line_step h at room same most before field =
      let here = before.place in
      let there = field.place in
      rw (add-one i, tabs_more fs i f h at)
      (wrote_more out₀ out new next₀ next r (tabs (take i (map field_text fs))) (tabbed (field_text f)) (omega arith) before field)

-- A line whole: its letter, its fields, byte 10.
pub line_whole : (old one two new : List ℕ) (at a b r letter : ℕ) (fs : List Field) → b < length old
    → Wrote old at (letter ∷ []) one a → Wrote one a (tabs (take (length fs) (map field_text fs))) two b → Wrote two b (NEWLINE ∷ []) new r
    → length one ≡ length old → Wrote old at (line letter (map field_text fs)) new r
line_whole old one two new at a b r letter fs room first middle last same =
    let all : take (length fs) (map field_text fs) ≡ map field_text fs = take_all (length fs) (map field_text fs) (rw (length-map fs field_text) (omega arith)) in
    let texts : List ℕ = tabs (map field_text fs) in
    let body : Wrote one a texts two b = rw (← all) middle in
    let pa = first.place in
    let pb = body.place in
    let tail : Wrote one a (texts ++ (NEWLINE ∷ [])) new r = wrote_more one two new a b r texts (NEWLINE ∷ []) (omega arith) body last in
    let room₂ : at + length {A = ℕ} (letter ∷ []) + length (texts ++ (NEWLINE ∷ [])) ≤ length old = simp length-append (omega arith) in
    rw (fields_tabs (map field_text fs)) (wrote_more old one new at a r (letter ∷ []) (texts ++ (NEWLINE ∷ [])) room₂ first tail)

pub letter_port : (p : ℕ) → (p ≡ MISSING → ⊥) → 112 ≡ letter_of p
letter_port p e = sym (pick_false (eqb p MISSING) 98 112 (ne_eqb p MISSING e))

-- One line more of a table.
numbered_snoc {ℓ} : {A : Type ℓ} (one : ℕ → A → List ℕ) (m : ℕ) (l : List A) (x : A) → numbered one m (l ++ (x ∷ [])) ≡ numbered one m l ++ one (m + length l) x
unfolding numbered
numbered_snoc one m [] x = append-nil (one m x) ∙ ap (λ k. one k x) (sym (add-zero m))
numbered_snoc one m (y ∷ l) x =
    ap (λ k. one m y ++ k) (numbered_snoc one (suc m) l x)
    ∙ ap (λ k. one m y ++ (numbered one (suc m) l ++ one k x)) (let e : suc m + length l ≡ m + suc (length l) = omega arith in e)
    ∙ sym (append_assoc (one m y) (numbered one (suc m) l) (one (m + suc (length l)) x))

pub numbered_more : {A : Type 0} (one : ℕ → A → List ℕ) (rows : List A) (n : ℕ) (row : A) → n < length rows → row ≡ get_or rows n row
    → numbered one 0 (take (n + 1) rows) ≡ numbered one 0 (take n rows) ++ one n row
numbered_more one rows n row h is =
    rw (add-one n, take-suc rows n row h, ← is) (numbered_snoc one 0 (take n rows) row ∙ ap (λ k. numbered one 0 (take n rows) ++ one k row) count)
  where
    count : 0 + length (take n rows) ≡ n
    count = simp length-take (omega arith)

-- One line more of a table, written.
module _ {A : Type 0} (one : ℕ → A → List ℕ) (old mid new : List ℕ) (at next r n : ℕ) (rows : List A) (row : A) where
  pub lines_step : n < length rows → row ≡ get_or rows n row → next + 128 ≤ length mid → length mid ≡ length old → r ≤ next + 128
      → WroteLines one old at rows n mid next → Wrote mid next (one n row) new r → WroteLines one old at rows (n + 1) new r
  lines_step h is room same most before line =
      let here = before.wrote.place in
      let so_far = before.most in
      let there = line.place in
      record {
        wrote = rw (numbered_more one rows n row h is) (wrote_more old mid new at next r (numbered one 0 (take n rows)) (one n row) (omega arith) before.wrote line);
        most = omega arith;
      }

pub lines_none : {A : Type 0} (one : ℕ → A → List ℕ) (old : List ℕ) (at : ℕ) (rows : List A) → WroteLines one old at rows 0 old at
unfolding numbered
lines_none one old at rows = record { wrote = wrote_nothing old at; most = omega arith }

-- Two runs, the second behind the first, that end within the buffer.
pub wrote_join : (old mid new : List ℕ) (at m n : ℕ) (xs ys : List ℕ) → n ≤ length old → Wrote old at xs mid m → Wrote mid m ys new n → Wrote old at (xs ++ ys) new n
wrote_join old mid new at m n xs ys room first second =
    let a = first.place in
    let b = second.place in
    wrote_more old mid new at m n xs ys (omega arith) first second
