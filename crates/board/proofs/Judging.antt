-- A sheet judged: by reading it, and then by its board's faults.
use Rattle.std.proofs.Common.{ℕ, List, length, ◌≡◌, refl, ap, sym, subst, ◌∙◌, Ok, Err}
use Rattle.sheet.specs.declared.Counts.{Counts}
use Rattle.base.specs.declared.refusal.Reason.TheVariants.{IdTaken, NotThere, Unplaced}
use Rattle.base.specs.declared.refusal.Refusal.{Refusal}
use Rattle.base.specs.Refusal.{refusal}
use Rattle.sheet.specs.declared.Survey.{Survey}
use Rattle.sheet.specs.Reading.{Reading, refused, rows, reading, rows_from}
use Rattle.sheet.specs.Answer.{counts_of, HeldIf}
use Rattle.sheet.specs.Walk.{survey_of}
use Rattle.base.proofs.Bools.{never}
use Rattle.sheet.proofs.Accepted.{accepted}
use Rattle.base.specs.Lists.{Found, none, at}
use Rattle.board.specs.Board.{Board, board_of}
use Rattle.board.specs.Refusals.{Judged, turned_away, board, id_twice, not_there, unplaced, judged_board, judged}
use Rattle.board.specs.Walk.{sheet_board, counts_in, fault_of, WithinLibrary, Ready}
use Rattle.board.proofs.BySection.{sections}

module _ (most : Counts) (text : List ℕ) (place : ℕ) where
  -- Refusals 1 to 3 are the reading's.
  pub sheet_refused : (r : Refusal) → Err r ≡ survey_of place (reading most text) → judged most text ≡ turned_away r
  unfolding survey_of judged
  sheet_refused r e = go (reading most text) e
    where
      go : (x : Reading) → Err r ≡ survey_of place x
          → elim x as (λ x. Judged) [ refused e ↦ turned_away e | rows l ↦ judged_board (board_of l) ] ≡ turned_away r
      go (refused d) q = cc
      go (rows l') q = never cc

  module _ (s : Survey) (e : Ok s ≡ survey_of place (reading most text)) where
    sheet_rows : (reading most text ≡ rows (rows_from text)) × (s.counts ≡ counts_of (rows_from text)) × (s.rest ≡ place)
    unfolding survey_of
    sheet_rows = go (reading most text) refl e
      where
        go : (x : Reading) → reading most text ≡ x → Ok s ≡ survey_of place x
            → (reading most text ≡ rows (rows_from text)) × (s.counts ≡ counts_of (rows_from text)) × (s.rest ≡ place)
        go (refused d) is q = never cc
        go (rows l) is q =
            let whole = (accepted most text l is).whole in
            let same : s ≡ record { counts = counts_of l; lines = length l; rest = place } = cc in
            (is ∙ ap rows (sym whole), ap (λ (x : Survey). x.counts) same ∙ ap counts_of (sym whole), ap (λ (x : Survey). x.rest) same)

    pub sheet_counts : s.counts ≡ counts_of (rows_from text)
    sheet_counts = sheet_rows.1

    pub sheet_ready : WithinLibrary most → {lent : List (List ℕ)} → HeldIf (reading most text) text lent place → Ready text lent 0 s.rest
    sheet_ready low {lent} held =
        subst (λ (at : ℕ). Ready text lent 0 at) (sym sheet_rows.2)
        (record { most = most; within = low; accepted = sheet_rows.0; line = held (rows_from text) sheet_rows.0 })

    pub sheet_judged : judged most text ≡ judged_board (sheet_board text)
    unfolding judged
    sheet_judged = ap (λ (x : Reading). elim x as (λ x. Judged) [ refused e ↦ turned_away e | rows l ↦ judged_board (board_of l) ]) sheet_rows.0

    pub counts_judged : s.counts ≡ counts_in (sheet_board text)
    counts_judged = sheet_counts ∙ (sections most text (rows_from text) (accepted most text (rows_from text) sheet_rows.0)).counts

-- What `find_fault` answers says what the board is judged to be.
module _ (b : Board) where
  pub fault_refused : (r : Refusal) → Err r ≡ fault_of (judged_board b) → judged_board b ≡ turned_away r
  fault_refused r e = go (judged_board b) e
    where
      go : (j : Judged) → Err r ≡ fault_of j → j ≡ turned_away r
      go (turned_away d) q = cc
      go (board b') q = never cc

  pub fault_fine : Ok tt ≡ fault_of (judged_board b) → judged_board b ≡ board b
  unfolding judged_board
  fault_fine e = go (id_twice b) (not_there b) (unplaced b) e
    where
      judged_by : Found → Found → Found → Judged
      judged_by f g h =
          elim f [ at l ↦ turned_away (refusal IdTaken l) | none ↦ elim g [ at l ↦ turned_away (refusal NotThere l) | none ↦ elim h [ at l ↦ turned_away (refusal Unplaced l) | none ↦ board b ] ] ]

      go : (f g h : Found) → Ok tt ≡ fault_of (judged_by f g h) → judged_by f g h ≡ board b
      go (at l) g h q = never cc
      go none (at l) h q = never cc
      go none none (at l) q = never cc
      go none none none q = refl
