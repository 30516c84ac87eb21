-- Corners are decided row by row: a wire's level depends on the corners in its sink's row alone.
use Prim.Native.Nat.{ℕ}
use mathlib.Core.Path.{◌≡◌, refl, ap, sym, ◌∙◌}
use mathlib.Core.Bool.{Bool, true, false, not, ◌&&◌, ◌||◌}
use mathlib.Core.List.{List, [], ◌∷◌}
use lib.Dec.{eqb}
use lib.ListN.{length}
use borrow.Author.Tests.{eq-eqb}
use Rattle.base.specs.Lists.{Found, none, at, any, keep}
use Rattle.base.proofs.Bools.{clash, and_left, both}
use Rattle.base.proofs.Lists.{same_two, keep_yes, keep_no}
use Rattle.board.specs.Board.{Board, x_of, y_of, page_of, target_node, target_port}
use Rattle.board.specs.Rows.{Cell, cells_overlap, rerouter_cell, brick_cell, row_of}
use Rattle.board.specs.Refusals.{body_of}
use Rattle.routes.specs.Levels.{levels_in, lowest, lightest}
use Rattle.routes.specs.Bus.{Bus, same_port, port_of, beside_row, clear_of_row}
use Rattle.routes.specs.Corners.{corner_rerouter}
use Rattle.routes_turns.specs.Deciding.{Decided, node_in, decide_if, source_of, sink_of, corner_of, clear_by, load_by, muted_by, level_by, decided, turns_in}

-- A test that only elements kept by another pass.
module _ {A : Type 0} (p q : A → Bool) (through : (x : A) → p x ≡ true → q x ≡ true) where
  any_kept : (l : List A) → any p l ≡ any p (keep q l)
  any_kept [] = refl
  any_kept (x ∷ l) = go (q x) (p x) refl refl (any_kept l)
    where
      go : (t s : Bool) → q x ≡ t → p x ≡ s → any p l ≡ any p (keep q l) → p x || any p l ≡ any p (elim t as (λ _. List A) [ true ↦ x ∷ keep q l | false ↦ keep q l ])
      go true s e f ih = ap (λ v. p x || v) ih
      go false true e f ih = clash (through x f) e
      go false false e f ih = ap (λ v. v || any p l) f ∙ ih

  keep_kept : (l : List A) → keep p l ≡ keep p (keep q l)
  keep_kept [] = refl
  keep_kept (x ∷ l) = go (q x) (p x) refl refl (keep_kept l)
    where
      go : (t s : Bool) → q x ≡ t → p x ≡ s → keep p l ≡ keep p (keep q l) → keep p (x ∷ l) ≡ keep p (elim t as (λ _. List A) [ true ↦ x ∷ keep q l | false ↦ keep q l ])
      go true true e f ih = keep_yes p x l f ∙ (ap {B = List A} (λ r. x ∷ r) ih ∙ sym (keep_yes p x (keep q l) f))
      go true false e f ih = keep_no p x l f ∙ (ih ∙ sym (keep_no p x (keep q l) f))
      go false true e f ih = clash (through x f) e
      go false false e f ih = keep_no p x l f ∙ ih

module _ (b : Board) (bus : Bus) (done : List Decided) (w : ℕ) where
  abbrev there : Decided → Bool
  there d = turns_in b (page_of b (sink_of b w)) (row_of b (sink_of b w)) d.wire

  -- The same sink stands in the same row, and the same target has the same sink.
  same_sink : (v : ℕ) → sink_of b v ≡ sink_of b w → turns_in b (page_of b (sink_of b w)) (row_of b (sink_of b w)) v ≡ true
  unfolding turns_in
  same_sink v e =
      both (eqb (page_of b (sink_of b v)) (page_of b (sink_of b w))) (eqb (row_of b (sink_of b v)) (row_of b (sink_of b w)))
      (eq-eqb (page_of b (sink_of b v)) (page_of b (sink_of b w)) (ap (page_of b) e)) (eq-eqb (row_of b (sink_of b v)) (row_of b (sink_of b w)) (ap (row_of b) e))

  same_target : (v : ℕ) → target_node b w ≡ target_node b v → sink_of b v ≡ sink_of b w
  unfolding sink_of
  same_target v e = ap (λ n. node_in (body_of b n)) (sym e)

  muted_in_row : muted_by b done w ≡ muted_by b (keep there done) w
  unfolding muted_by
  muted_in_row =
      any_kept (λ d. same_port (port_of b w) (port_of b d.wire)) there
      (λ d e. same_sink d.wire (same_target d.wire (same_two (target_node b w) (target_node b d.wire) (target_port b w) (target_port b d.wire) e).0)) done

  load_in_row : (level : ℕ) → load_by b done w level ≡ load_by b (keep there done) w level
  unfolding load_by
  load_in_row level =
      ap length (keep_kept (λ d. eqb (sink_of b d.wire) (sink_of b w) && eqb d.level level) there
      (λ d e. same_sink d.wire (same_two (sink_of b d.wire) (sink_of b w) d.level level e).0) done)

  clear_in_row : (level : ℕ) → clear_by b bus done w level ≡ clear_by b bus (keep there done) w level
  unfolding clear_by turns_in corner_rerouter
  clear_in_row level =
      let p : ℕ = page_of b (sink_of b w) in
      let r : ℕ = row_of b (sink_of b w) in
      let cell : Cell = rerouter_cell level (y_of b (source_of b w)) in
      ap (λ t. clear_of_row b bus p r cell && not t)
      (any_kept (λ d. beside_row p r cell (corner_of b d)) there
      (λ d e. and_left (eqb (page_of b (sink_of b d.wire)) p && eqb (row_of b (sink_of b d.wire)) r) (cells_overlap (rerouter_cell d.level (y_of b (source_of b d.wire))) cell) e) done)

  level_here_lem : level_by b bus done w ≡ level_by b bus (keep there done) w
  unfolding level_by
  level_here_lem =
      let x : ℕ = x_of b (sink_of b w) in
      let n : ℕ = levels_in x (brick_cell b (sink_of b w)).x1 in
      λ i. elim (muted_in_row i) as (λ _. Found) [
        | true ↦ none
        | false ↦
            elim (lowest (λ l. eqb (load_in_row l i) 0 && clear_in_row l i) x n) as (λ _. Found)
            [ at l ↦ at l | none ↦ lightest (λ l. clear_in_row l i) (λ l. load_in_row l i) x n ]
      ]

-- A level is that by the corners of the sink's row.
pub level_in_row : (b : Board) (bus : Bus) (done : List Decided) (w : ℕ)
    → level_by b bus done w ≡ level_by b bus (keep (λ d. turns_in b (page_of b (sink_of b w)) (row_of b (sink_of b w)) d.wire) done) w
level_in_row b bus done w = level_here_lem b bus done w

module _ (b : Board) (p r : ℕ) where
  abbrev pub within : Decided → Bool
  within d = turns_in b p r d.wire

  pub decide_out : (f : Found) (w : ℕ) (done : List Decided) → turns_in b p r w ≡ false → keep within (decide_if f w done) ≡ keep within done
  decide_out none w done e = refl
  decide_out (at l) w done e = keep_no within (record { wire = w; level = l }) done e

  pub decide_in : (f : Found) (w : ℕ) (done : List Decided) → turns_in b p r w ≡ true → keep within (decide_if f w done) ≡ decide_if f w (keep within done)
  decide_in none w done e = refl
  decide_in (at l) w done e = keep_yes within (record { wire = w; level = l }) done e

  pub level_row : (bus : Bus) (done : List Decided) (w : ℕ) → turns_in b p r w ≡ true → level_by b bus done w ≡ level_by b bus (keep within done) w
  unfolding turns_in
  level_row bus done w e =
      let h = same_two (page_of b (sink_of b w)) p (row_of b (sink_of b w)) r e in
      level_in_row b bus done w ∙ (λ i. level_by b bus (keep (λ d. turns_in b (h.0 i) (h.1 i) d.wire) done) w)

-- The corners decided of a row are those decided of its wires alone.
pub decided_in_row : (b : Board) (bus : Bus) (p r : ℕ) (l : List ℕ) → keep (λ d. turns_in b p r d.wire) (decided b bus l) ≡ decided b bus (keep (turns_in b p r) l)
unfolding decided
decided_in_row b bus p r [] = refl
decided_in_row b bus p r (w ∷ l) = go (turns_in b p r w) refl (decided_in_row b bus p r l)
  where
    done : List Decided
    done = decided b bus l

    go : (t : Bool) → turns_in b p r w ≡ t → keep (within b p r) (decided b bus l) ≡ decided b bus (keep (turns_in b p r) l)
        → keep (within b p r) (decide_if (level_by b bus (decided b bus l) w) w (decided b bus l))
        ≡ decided b bus (elim t as (λ _. List ℕ) [ true ↦ w ∷ keep (turns_in b p r) l | false ↦ keep (turns_in b p r) l ])
    go true e ih =
        decide_in b p r (level_by b bus done w) w done e
        ∙ (ap (λ f. decide_if f w (keep (within b p r) done)) (level_row b p r bus done w e) ∙ ap (λ d. decide_if (level_by b bus d w) w d) ih)
    go false e ih = decide_out b p r (level_by b bus done w) w done e ∙ ih
