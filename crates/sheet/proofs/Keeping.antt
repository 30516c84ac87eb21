-- The pass that keeps rows: the row of each line behind stands in the lent rows, as far as these reach, and the first line without a row is known.
use Rattle.std.proofs.Common.{◌≡◌, ℕ, ◌+◌, ◌<◌, ◌≤◌, min, max, Bool, true, false, cond, eqb, ltb, List, [], ◌∷◌, map, length, get_or, drop, set, sym, refl, ap, ◌∙◌, subst, add-zero, arith, length-drop, length-set, drop_of_length-le, get_or-drop, get_or-set_other, get_or-set_same, drop-drop, ltb-false, ltb-true, eqb-true, Result, Err}
use Rattle.std.specs.Prelude.{Some}
use lib.ListN.{length-map}
use borrow.Author.Tests.{eqb-false}
use Rattle.base.specs.declared.refusal.Refusal.{Refusal}
use Rattle.sheet.specs.declared.Survey.{Survey}
use Rattle.sheet.specs.declared.line.LineAt.{LineAt}
use Rattle.sheet.specs.Record.{row}
use Rattle.sheet.specs.Reading.{Reading, refused, rows, sheet_lines, row_of, rows_from}
use Rattle.sheet.specs.Answer.{front_line, AtLine, AtRow, HeldIf}
use Rattle.sheet.specs.Walk.{line_end, LineKept, survey_of, SurveyedAs}
use Rattle.base.proofs.Bools.{never}
use Rattle.sheet.proofs.Lines.{lines_none}
use Rattle.sheet.proofs.Surveys.{line_read_lem}
use Rattle.sheet.proofs.Walks.{walk_start, map-drop}

-- k lines are behind, and the next starts at `at`; `rest` is where the first line without a row starts, among those behind and the next
pub record Keeping (text : List ℕ) (lent : List (List ℕ)) (k at rest : ℕ) : Type 0 where
  pub here : AtLine text k at
  pub held : (j : ℕ) → j < k → j < length lent → get_or lent j [] ≡ get_or (rows_from text) j []
  pub line : AtLine text (min k (length lent)) rest

pub keeping_start : (text : List ℕ) (lent : List (List ℕ)) → Keeping text lent 0 0 0
keeping_start text lent =
    let none : 0 ≡ min 0 (length lent) = omega arith in
    record { here = walk_start text; held = λ j h l. absurd (omega arith); line = subst (λ (k : ℕ). AtLine text k 0) none (walk_start text) }

module _ {text : List ℕ} {lent : List (List ℕ)} {k at rest : ℕ} (w : Keeping text lent k at rest) where
  -- one line more
  module _ {x : LineAt} {after : List (List ℕ)} (said : LineKept (front_line (sheet_lines (drop at text))) (line_end at (drop at text)) (Some x) k lent after) where
    next_lines : drop k (sheet_lines text) ≡ row x.fits said.stored ∷ sheet_lines (drop x.next text)
    next_lines = sym w.here.lines ∙ (line_read_lem text at said.says).0

    next_line : AtLine text (k + 1) x.next
    next_line = record { inside = (line_read_lem text at said.says).2; lines = ap (drop 1) (sym next_lines) ∙ drop-drop 1 k (sheet_lines text) }

    row_here : get_or (rows_from text) k [] ≡ said.stored
    unfolding rows_from row_of
    row_here =
        ap (λ (n : ℕ). get_or (rows_from text) n []) (sym (add-zero k)) ∙ sym (get_or-drop k (rows_from text) 0 [])
        ∙ ap (λ (l : List (List ℕ)). get_or l 0 []) (map-drop k (sheet_lines text) ∙ ap (map row_of) next_lines)

    same_room : length after ≡ length lent
    same_room = ap length said.kept ∙ length-set lent k said.stored

    held_now : (j : ℕ) → j < k + 1 → j < length after → get_or after j [] ≡ get_or (rows_from text) j []
    held_now j h l = ap (λ (a : List (List ℕ)). get_or a j []) said.kept ∙ go (eqb j k) refl
      where
        room : j < length lent
        room = omega (arith, same_room)

        go : (b : Bool) → eqb j k ≡ b → get_or (set lent k said.stored) j [] ≡ get_or (rows_from text) j []
        go true q =
            let same : j ≡ k = eqb-true j k q in
            let inside : k < length lent = omega (arith, room) in
            rw same (get_or-set_same lent k said.stored [] inside ∙ sym row_here)
        go false q = let other = eqb-false j k q in get_or-set_other lent k j said.stored [] other ∙ w.held j (omega (arith, other)) room

    line_now : (rest' : ℕ) → rest' ≡ cond (ltb k (length after)) x.next rest → AtLine text (min (k + 1) (length after)) rest'
    line_now rest' p = go (ltb k (length after)) refl p
      where
        go : (b : Bool) → ltb k (length after) ≡ b → rest' ≡ cond b x.next rest → AtLine text (min (k + 1) (length after)) rest'
        go true q r =
            let inside : k < length after = ltb-true k (length after) q in
            let same : min (k + 1) (length after) ≡ k + 1 = omega arith in
            rw (same, r) next_line
        go false q r =
            let full : length after ≤ k = ltb-false k (length after) q in
            let same : min (k + 1) (length after) ≡ min k (length lent) = omega (arith, same_room) in
            rw (same, r) w.line

    pub keeping_step : (rest' : ℕ) → rest' ≡ cond (ltb k (length after)) x.next rest → Keeping text after (k + 1) x.next rest'
    keeping_step rest' p = record { here = next_line; held = held_now; line = line_now rest' p }

  -- the sheet's end
  pub keeping_ends : length text ≤ at → AtRow text lent 0 rest
  unfolding rows_from
  keeping_ends over =
      record {
        held = λ j h l. w.held j (omega (arith, few, length-map (sheet_lines text) row_of)) l;
        line = go (ltb k (length lent)) refl;
      }
    where
      none_left : drop k (sheet_lines text) ≡ []
      none_left = sym w.here.lines ∙ ap sheet_lines (drop_of_length-le text {i = at} over) ∙ lines_none

      few : length (sheet_lines text) ≤ k
      few = omega (arith, ap length none_left, length-drop k (sheet_lines text))

      go : (b : Bool) → ltb k (length lent) ≡ b → AtLine text (max 0 (length lent)) rest
      go true q =
          let some : k < length lent = ltb-true k (length lent) q in
          let least : min k (length lent) ≡ k = omega arith in
          let most : length (sheet_lines text) ≤ max 0 (length lent) = omega (arith, few) in
          let here : AtLine text k rest = rw least at w.line in
          record { inside = here.inside; lines = here.lines ∙ none_left ∙ sym (drop_of_length-le (sheet_lines text) {i = max 0 (length lent)} most) }
      go false q =
          let full : length lent ≤ k = ltb-false k (length lent) q in
          let same : min k (length lent) ≡ max 0 (length lent) = omega arith in
          rw same at w.line

-- a refused sheet promises nothing of its rows
pub held_refused : {r : Reading} {e : Refusal} {text : List ℕ} {lent : List (List ℕ)} {at : ℕ} → r ≡ refused e → HeldIf r text lent at
held_refused {e = e} p = λ l d. let q : refused e ≡ rows l = sym p ∙ d in never cc

-- what the pass says where it stops at a refusal
pub surveyed_refused : {r : Reading} {e : Refusal} {text : List ℕ} {lent : List (List ℕ)} {found : Result Survey Refusal} → r ≡ refused e → found ≡ Err e
    → SurveyedAs r text lent found
unfolding survey_of
surveyed_refused p q = (0, q ∙ sym (ap (survey_of 0) p), held_refused p)
