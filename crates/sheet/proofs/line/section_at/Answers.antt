-- `sheet::line::section_at` meets its contract: a letter alone, or with a tab behind it, is looked up. Assumes nothing.
use Rattle.std.proofs.Common.{◌≡◌, ℕ, ◌-◌, ◌<◌, List, length, take, get_or, drop, sym, ap, ◌∙◌, arith, length-drop, take_all}
use Rattle.sheet.specs.Text.{TAB}
use Rattle.sheet.specs.Table.{letters}
use Rattle.sheet.specs.Record.{place_of, section_of}
use Rattle.sheet.proofs.Lines.{section_letter, section_nothing, section_longer}
use Rattle.sheet.proofs.Parts.{part_none}
use Rattle.sheet.proofs.line.section_at.Goals as goal
use Rattle.sheet.proofs.line.section_at.Goals.{else-rest-gt1-via-then-rest-gt1+else-rest-ne-TAB, else-rest-gt1-via-else-rest-gt1}

behind : {rest : List ℕ} (text : List ℕ) (at : ℕ) → rest ≡ take (length text - at) (drop at text) → rest ≡ drop at text
behind text at e = e ∙ take_all (length text - at) (drop at text) (omega (arith, length-drop at text))

pub returns-in_err-rest : goal.returns-in_err-rest
unfolding section_of
returns-in_err-rest c = rw (c.from_residual.ensures, part_none TAB c.args.text.now c.args.at (omega (arith, c.in_err-rest.ensures.lookup.0)))

pub returns-in_err-letter : goal.returns-in_err-letter
returns-in_err-letter c = let a = c.args in
    let e = behind a.text.now a.at c.in_ok-rest.ensures.lookup.0.2 in
    rw c.from_residual-in_err-letter.ensures (section_nothing (drop a.at a.text.now) (omega (arith, ap length e, c.in_err-letter.ensures.item.3)))

pub returns-then-rest-ne-TAB : goal.returns-then-rest-ne-TAB
returns-then-rest-ne-TAB c = let a = c.args in
    let e = behind a.text.now a.at c.in_ok-rest.ensures.lookup.0.2 in
    section_longer (drop a.at a.text.now) (omega (arith, ap length e, c.if-rest-gt1.true)) (λ t. c.if-rest-ne-TAB.true (ap (λ (l : List ℕ). get_or l 1 0) e ∙ t))

pub returns : goal.returns
returns c = let a = c.args in
    let e = behind a.text.now a.at c.in_ok-rest.ensures.lookup.0.2 in
    let item = c.in_ok-letter.ensures.item.3 in
    let some : 0 < length (drop a.at a.text.now) = omega (arith, ap length e, item.0) in
    let ended : 1 < length (drop a.at a.text.now) → get_or (drop a.at a.text.now) 1 0 ≡ TAB = elim c.else-rest-gt1.branch [
      | else-rest-gt1-via-then-rest-gt1+else-rest-ne-TAB w ↦ λ _. ap (λ (l : List ℕ). get_or l 1 0) (sym e) ∙ w.if-rest-ne-TAB.false
      | else-rest-gt1-via-else-rest-gt1 w ↦ λ h. absurd (omega (arith, h, ap length e, w.if-rest-gt1.false))
    ] in
    rw (section_letter (drop a.at a.text.now) some ended ∙ ap (λ (b : ℕ). place_of b letters 0) (ap (λ (l : List ℕ). get_or l 0 0) (sym e) ∙ sym (item.1 0))) c.section_of.ensures
