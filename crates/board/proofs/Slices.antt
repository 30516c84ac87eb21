-- A board's sections in the rows of its sheet, as the code cuts them.
use Prim.Native.Nat.{ℕ, ◌+◌, ◌-◌, ◌≤◌}
use native.Mathlib.Omega.{arith}
use mathlib.Core.Path.{◌≡◌, sym, ap, ◌∙◌, subst}
use mathlib.Core.List.{List, [], ◌++◌, append_assoc}
use lib.ListN.{length, take, drop, length-append}
use Rattle.sheet.specs.declared.Counts.{Counts}
use Rattle.board.specs.Board.{Board}
use Rattle.board.specs.Planning.{records}
use Rattle.board.specs.Walk.{counts_in}
use Rattle.board.specs.Accepted.{Accepted}
use Rattle.board.proofs.BySection.{Part, part_slice, Sections}
use Rattle.board.specs.Sections.{SectionsIn}

-- The sections of accepted rows, with other rows behind them.
module _ (b : Board) (l rest : List (List ℕ)) {most : Counts} (s : Sections most l b) where
  more : {k : ℕ} {x after : List (List ℕ)} → Part l k x after → Part (l ++ rest) k x (after ++ rest)
  more {k} {x} {after} p =
      record {
        before = p.before;
        starts = p.starts;
        whole =
            ap (λ (m : List (List ℕ)). p.before ++ m) (sym (append_assoc x after rest)) ∙ sym (append_assoc p.before (x ++ after) rest) ∙ ap (λ (m : List (List ℕ)). m ++ rest) p.whole;
      }

  pub sections_in : SectionsIn b (l ++ rest)
  unfolding records
  sections_in =
      record {
        total =
            let w = more s.wires in
            let whole = ap length w.whole in
            let starts = w.starts in
            omega (arith, whole, starts, length-append w.before (b.wires ++ ([] ++ rest)), length-append b.wires ([] ++ rest));
        pages = part_slice (more s.pages);
        nodes = part_slice (more s.nodes);
        chips = part_slice (more s.chips);
        inner = part_slice (more s.inner);
        execs = part_slice (more s.execs);
        wires = part_slice (more s.wires);
      }

-- The sections as the code cuts them, by the counts.
pub record Slices (b : Board) (rows : List (List ℕ)) (c : Counts) : Type 0 where
  pub pages : take c.pages rows ≡ b.pages
  pub nodes : take (c.pages + c.nodes - c.pages) (drop c.pages rows) ≡ b.nodes
  pub chips : take (c.pages + c.nodes + c.chips - (c.pages + c.nodes)) (drop (c.pages + c.nodes) rows) ≡ b.chips
  pub inner : take (c.pages + c.nodes + c.chips + c.inner - (c.pages + c.nodes + c.chips)) (drop (c.pages + c.nodes + c.chips) rows) ≡ b.inner
  pub execs : take (c.pages + c.nodes + c.chips + c.inner + c.execs - (c.pages + c.nodes + c.chips + c.inner)) (drop (c.pages + c.nodes + c.chips + c.inner) rows) ≡ b.execs
  pub wires : take (c.pages + c.nodes + c.chips + c.inner + c.execs + c.wires - (c.pages + c.nodes + c.chips + c.inner + c.execs)) (drop (c.pages + c.nodes + c.chips + c.inner + c.execs) rows) ≡ b.wires
  pub few : c.pages + c.nodes + c.chips + c.inner + c.execs + c.wires ≤ 20800
  pub below : c.pages + c.nodes + c.chips + c.inner + c.execs + c.wires ≤ length rows

cut : (l : List (List ℕ)) {x : List (List ℕ)} (k n : ℕ) → take n (drop k l) ≡ x → take (k + n - k) (drop k l) ≡ x
cut l k n e = let same : k + n - k ≡ n = omega arith in rw same e

pub slices : (b : Board) (l : List (List ℕ)) (c : Counts) → SectionsIn b l → c ≡ counts_in b → Accepted b → Slices b l c
unfolding records
slices b l c s e f =
    subst (λ (d : Counts). Slices b l d) (sym e)
    (record {
      pages = s.pages;
      nodes = cut l (length b.pages) (length b.nodes) s.nodes;
      chips = cut l (length b.pages + length b.nodes) (length b.chips) s.chips;
      inner = cut l (length b.pages + length b.nodes + length b.chips) (length b.inner) s.inner;
      execs = cut l (length b.pages + length b.nodes + length b.chips + length b.inner) (length b.execs) s.execs;
      wires = cut l (length b.pages + length b.nodes + length b.chips + length b.inner + length b.execs) (length b.wires) s.wires;
      few = let f0 = f.few_pages in let f1 = f.few_nodes in let f2 = f.few_chips in let f3 = f.few_inner in let f4 = f.few_execs in let f5 = f.few_wires in omega arith;
      below = s.total;
    })

-- The sheet has a row for each record.
pub rows_count : {most : Counts} (b : Board) (l : List (List ℕ)) → Sections most l b → length l ≡ records b
unfolding records
rows_count b l s =
    let w = s.wires in
    let whole = ap length w.whole in
    let starts = w.starts in
    omega (arith, whole, starts, length-append w.before (b.wires ++ []), length-append b.wires [])
