-- Walking along an accepted sheet, line by line: the rows of `reading` are the rows that the walk meets.
use Rattle.std.proofs.Common.{◌≡◌, ℕ, zero, suc, ◌+◌, ◌<◌, ◌≤◌, Bool, true, false, eqb, ltb, List, [], ◌∷◌, map, length, get_or, drop, set, replicate, sym, refl, ap, ◌∙◌, subst, ap₂, add-zero, add-suc, zero-add, add-one, append-nil, arith, length-drop, drop_of_length-le, get_or-drop, take_all, drop-drop, eqb-true}
use lib.ListN.{length-map}
use lib.Seq.{paste, paste-suc}
use Rattle.base.specs.declared.refusal.Reason.TheVariants.{Unread, TooMany, OutOfRange}
use Rattle.base.specs.Refusal.{refusal}
use Rattle.sheet.specs.declared.Counts.{Counts}
use Rattle.sheet.specs.declared.line.LineAt.{LineAt}
use Rattle.sheet.specs.Text.{line_of}
use Rattle.sheet.specs.Record.{Line, unread, row}
use Rattle.sheet.specs.Reading.{sheet_lines, row_of, rows_from, Before, after, no_lines, unreadable, over_most, out_of_range, first, NO_LINE, refused, rows, refusals, read_lines, reading, listed}
use Rattle.sheet.specs.Answer.{front_line, row_at, AtLine}
use Rattle.sheet.specs.Walk.{ended, line_end, LineRead, all_read}
use Rattle.base.proofs.Bools.{never}
use Rattle.sheet.proofs.Lines.{lines_ended, lines_unended}
use Rattle.sheet.proofs.Surveys.{line_read_lem, front_read}

-- What an accepted sheet has.

refusals_rows : (one two three : ℕ) (m l : List (List ℕ)) → refusals one two three (rows m) ≡ rows l
    → (one ≡ NO_LINE) × (two ≡ NO_LINE) × (three ≡ NO_LINE) × (m ≡ l)
unfolding refusals
refusals_rows one two three m l e = go (eqb one NO_LINE) refl (eqb two NO_LINE) refl (eqb three NO_LINE) refl
  where
    go : (a : Bool) → eqb one NO_LINE ≡ a → (b : Bool) → eqb two NO_LINE ≡ b → (c : Bool) → eqb three NO_LINE ≡ c
        → (one ≡ NO_LINE) × (two ≡ NO_LINE) × (three ≡ NO_LINE) × (m ≡ l)
    go false p b q c r = let h : refused (refusal Unread one) ≡ rows l = rw (p, refusals) at e in never cc
    go true p false q c r = let h : refused (refusal TooMany two) ≡ rows l = rw q at (rw (p, refusals) at e) in never cc
    go true p true q false r = let h : refused (refusal OutOfRange three) ≡ rows l = rw r at (rw q at (rw (p, refusals) at e)) in never cc
    go true p true q true r = let h : rows m ≡ rows l = rw r at (rw q at (rw (p, refusals) at e)) in (eqb-true one NO_LINE p, eqb-true two NO_LINE q, eqb-true three NO_LINE r, cc)

read_all : (b : Before) (n : ℕ) (ls : List Line) → 0 < n → first unreadable b n ls ≡ NO_LINE → all_read ls ≡ true
unfolding first unreadable all_read
read_all b n [] h e = refl
read_all b n (unread ∷ ls) h e = absurd (omega arith)
read_all b n (row fits r ∷ ls) h e = go (ltb (get_or r 0 0) b.section) refl (read_all (after b (row fits r)) (suc n) ls (omega arith)) e
  where
    go : (x : Bool) → ltb (get_or r 0 0) b.section ≡ x → (first unreadable (after b (row fits r)) (suc n) ls ≡ NO_LINE → all_read ls ≡ true)
        → first unreadable b n (row fits r ∷ ls) ≡ NO_LINE → all_read ls ≡ true
    go true p k e = let q : n ≡ 0 = rw (p, first) at e in absurd (omega arith)
    go false p k e = k (rw (p, first) at e)

-- no line meets a refusal, and the rows are those of the lines
pub accepted : (most : Counts) (text : List ℕ) (l : List (List ℕ)) → reading most text ≡ rows l
    → (first unreadable no_lines 1 (sheet_lines text) ≡ NO_LINE) × (first (over_most (listed most)) no_lines 1 (sheet_lines text) ≡ NO_LINE)
    × (first out_of_range no_lines 1 (sheet_lines text) ≡ NO_LINE) × (map row_of (sheet_lines text) ≡ l)
unfolding reading read_lines
accepted most text l e =
    refusals_rows (first unreadable no_lines 1 (sheet_lines text)) (first (over_most (listed most)) no_lines 1 (sheet_lines text)) (first out_of_range no_lines 1 (sheet_lines text))
    (map row_of (sheet_lines text)) l e

pub accepted_rows : (most : Counts) (text : List ℕ) (l : List (List ℕ)) → reading most text ≡ rows l → l ≡ rows_from text
unfolding rows_from
accepted_rows most text l e = sym (accepted most text l e).3

pub accepted_read : (most : Counts) (text : List ℕ) (l : List (List ℕ)) → reading most text ≡ rows l → all_read (sheet_lines text) ≡ true
accepted_read most text l e = read_all no_lines 1 (sheet_lines text) (omega arith) (accepted most text l e).0

-- Lines and rows from a place on.

pub map-drop : (k : ℕ) (ls : List Line) → drop k (map row_of ls) ≡ map row_of (drop k ls)
map-drop zero ls = refl
map-drop (suc k) [] = refl
map-drop (suc k) (l ∷ ls) = map-drop k ls

-- the k-th line of readable lines
pub read_at : (k : ℕ) (ls : List Line) → all_read ls ≡ true → k < length ls
    → (fits : Bool) × (r : List ℕ) × (drop k ls ≡ row fits r ∷ drop (suc k) ls)
unfolding all_read
read_at k [] a h = absurd (omega arith)
read_at k (unread ∷ ls) a h = never cc
read_at zero (row fits r ∷ ls) a h = (fits, r, refl)
read_at (suc k) (row fits r ∷ ls) a h = read_at k ls a (omega arith)

-- One line, as `line_at` says it.
module _ {text : List ℕ} {k at : ℕ} (w : AtLine text k at) (good : all_read (sheet_lines text) ≡ true) (more : k < length (sheet_lines text)) where
  here : (fits : Bool) × (r : List ℕ) × (sheet_lines (drop at text) ≡ row fits r ∷ drop (suc k) (sheet_lines text))
  here = let x = read_at k (sheet_lines text) good more in (x.0, x.1, w.lines ∙ x.2)

  front_here : front_line (sheet_lines (drop at text)) ≡ row here.0 here.1
  unfolding front_line
  front_here = ap front_line here.2

  -- the walk goes on at a place where the lines after it start
  goes : (next : ℕ) → next ≤ length text → sheet_lines (drop at text) ≡ row here.0 here.1 ∷ sheet_lines (drop next text) → AtLine text (k + 1) next
  goes next l e =
      let q : row here.0 here.1 ∷ sheet_lines (drop next text) ≡ row here.0 here.1 ∷ drop (suc k) (sheet_lines text) = sym e ∙ here.2 in
      record { inside = l; lines = rw (add-one k) (let r : sheet_lines (drop next text) ≡ drop (suc k) (sheet_lines text) = cc in r) }

  rows_here : drop k (rows_from text) ≡ here.1 ∷ drop (suc k) (rows_from text)
  unfolding rows_from row_of here
  rows_here =
      map-drop k (sheet_lines text)
      ∙ (ap (map row_of) (read_at k (sheet_lines text) good more).2 ∙ ap (λ (l : List (List ℕ)). here.1 ∷ l) (sym (map-drop (suc k) (sheet_lines text))))

  pub walk_unread : front_line (sheet_lines (drop at text)) ≡ unread → ⊥
  walk_unread e = let q : unread ≡ row here.0 here.1 = sym e ∙ front_here in never cc

  module _ {x : LineAt} {stored : List ℕ} (said : LineRead (front_line (sheet_lines (drop at text))) (line_end at (drop at text)) x stored) where
    same_here : row x.fits stored ≡ row here.0 here.1
    same_here = sym said.says ∙ front_here

    stored_here : stored ≡ here.1
    stored_here = let q = same_here in cc

    pub walk_stored : drop k (rows_from text) ≡ stored ∷ drop (suc k) (rows_from text)
    walk_stored = rows_here ∙ ap (λ (r : List ℕ). r ∷ drop (suc k) (rows_from text)) (sym stored_here)

    pub walk_next : AtLine text (k + 1) x.next
    walk_next =
        let l = line_read_lem text at said in
        goes x.next l.2 (l.0 ∙ ap (λ (y : Line). y ∷ sheet_lines (drop x.next text)) same_here)

-- The walk of a caller, over `row_at`.

pub walk_start : (text : List ℕ) → AtLine text 0 0
walk_start text = record { inside = omega arith; lines = refl }

-- what `row_at` is where the line can be read, or can't
pub row_at_read : (text : List ℕ) (at : ℕ) (fits : Bool) (r : List ℕ) → front_line (sheet_lines (drop at text)) ≡ row fits r
    → row_at text at ≡ record { row = r; next = line_end at (drop at text) }
unfolding row_at
row_at_read text at fits r e = rw (e, row_at)

pub row_at_unread : (text : List ℕ) (at : ℕ) → front_line (sheet_lines (drop at text)) ≡ unread → row_at text at ≡ record { row = replicate 16 0; next = length text }
unfolding row_at
row_at_unread text at e = rw (e, row_at)

-- the k-th row is the row at line k + 1, and the walk goes on after it
pub walk_from : {text : List ℕ} {k at : ℕ} (w : AtLine text k at) → all_read (sheet_lines text) ≡ true → k < length (sheet_lines text)
    → (drop k (rows_from text) ≡ (row_at text at).row ∷ drop (suc k) (rows_from text)) × AtLine text (k + 1) (row_at text at).next × (at < (row_at text at).next)
walk_from {text} {k} {at} w good more =
    let f = front_here w good more in
    let r = row_at_read text at (here w good more).0 (here w good more).1 f in
    let x = front_read (drop at text) (here w good more).0 (here w good more).1 f in
    let d = length-drop at text in
    let n = length (line_of (drop at text)) in (
      rw r (rows_here w good more),
      rw r
          (goes w good more (line_end at (drop at text)) (omega (arith, x.1))
          (x.0 ∙ ap (λ (t : List ℕ). row (here w good more).0 (here w good more).1 ∷ sheet_lines t) (drop-drop (suc n) at text ∙ ap (λ (m : ℕ). drop m text) (add-suc at n)))),
      rw r (omega arith),
    )

pub walk_row : (most : Counts) (text : List ℕ) (l : List (List ℕ)) → reading most text ≡ rows l → (k at : ℕ) → AtLine text k at → k < length l
    → (drop k l ≡ (row_at text at).row ∷ drop (suc k) l) × AtLine text (k + 1) (row_at text at).next × (at < (row_at text at).next)
unfolding rows_from
walk_row most text l e k at w h =
    let all = accepted_rows most text l e in
    let more : k < length (sheet_lines text) = omega (arith, ap length all ∙ length-map (sheet_lines text) row_of) in
    let x = walk_from w (accepted_read most text l e) more in
    (subst (λ (m : List (List ℕ)). drop k m ≡ (row_at text at).row ∷ drop (suc k) m) (sym all) x.0, x.1, x.2)

-- the walk is at the text's end exactly after the last line
lines_some : (t : List ℕ) → 0 < length t → 0 < length (sheet_lines t)
lines_some [] h = absurd (omega arith)
lines_some (b ∷ t) h = go (ended (b ∷ t)) refl
  where
    go : (x : Bool) → ended (b ∷ t) ≡ x → 0 < length (sheet_lines (b ∷ t))
    go true n = rw (lines_ended (b ∷ t) n) (omega arith)
    go false n = rw (lines_unended b t n) (omega arith)

pub walk_more : (most : Counts) (text : List ℕ) (l : List (List ℕ)) → reading most text ≡ rows l → (k at : ℕ) → AtLine text k at → at < length text → k < length l
unfolding rows_from
walk_more most text l e k at w h =
    let some = lines_some (drop at text) (omega (arith, length-drop at text)) in
    omega (arith, ap length w.lines ∙ length-drop k (sheet_lines text), ap length (accepted_rows most text l e) ∙ length-map (sheet_lines text) row_of)

-- Filling rows: one more.
pub fill_step : (text : List ℕ) (old now : List (List ℕ)) (k : ℕ) (r : List ℕ) → k < length old → now ≡ paste old 0 (rows_from text) k
    → drop k (rows_from text) ≡ r ∷ drop (suc k) (rows_from text) → set now k r ≡ paste old 0 (rows_from text) (k + 1)
fill_step text old now k r h e d =
    let len : length (drop k (rows_from text)) ≡ length (r ∷ drop (suc k) (rows_from text)) = ap length d in
    let inside : k < length (rows_from text) = omega (arith, len, length-drop k (rows_from text)) in
    let at : get_or (rows_from text) k [] ≡ r = ap (λ (n : ℕ). get_or (rows_from text) n []) (sym (add-zero k)) ∙ (sym (get_or-drop k (rows_from text) 0 []) ∙ ap (λ (l : List (List ℕ)). get_or l 0 []) d) in
    rw (e, add-one k) (ap₂ (set (paste old 0 (rows_from text) k)) (sym (zero-add k)) (sym at) ∙ paste-suc old 0 (rows_from text) k [] (omega arith) inside)

-- all rows are filled
pub fill_all : (text : List ℕ) (old now : List (List ℕ)) (k : ℕ) → length old ≤ k → length old ≡ length (sheet_lines text) → now ≡ paste old 0 (rows_from text) k → now ≡ rows_from text
unfolding rows_from
fill_all text old now k h e p =
    let l : length (rows_from text) ≤ k = omega (arith, length-map (sheet_lines text) row_of) in
    let none : drop k old ≡ [] = drop_of_length-le old {i = k} h in
    p ∙ rw (zero-add k, take_all k (rows_from text) l, none) (append-nil (rows_from text))
