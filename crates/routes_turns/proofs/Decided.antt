-- The corners decided, each by those before it, are the corners of the rules: what the pass asks of its bus and of the levels taken is what those decided say.
use Prim.Native.Nat.{ℕ, suc}
use mathlib.Core.Path.{◌≡◌, refl, ap, sym, ◌∙◌}
use mathlib.Core.Bool.{Bool, true, false, not, ◌&&◌, ◌||◌}
use mathlib.Core.List.{List, [], ◌∷◌, map}
use lib.Dec.{eqb, ltb}
use lib.ListN.{length}
use Rattle.base.specs.Lists.{Found, none, at, any, keep, fold, upto}
use Rattle.base.proofs.Lists.{same_two}
use Rattle.board.specs.Board.{Board, x_of, y_of, page_of, source_node, target_node}
use Rattle.board.specs.Rows.{Cell, cells_overlap, rerouter_cell, brick_cell, bricks_in, row_of}
use Rattle.board.specs.Refusals.{body_of}
use Rattle.board.specs.Groups.{wire_open}
use Rattle.routes.specs.Levels.{levels_in, lowest, lightest}
use Rattle.routes.specs.Bus.{Bus, Port, insert_port, same_port, port_of, muted, beside_row, clear_of_row}
use Rattle.routes.specs.Corners.{Taken, Cornering, turns_down, sink_load, corner_clear, corner_level, with_corner, turn_wire, corners, turns}
use Rattle.routes_turns.specs.Deciding.{Decided, node_in, decide_if, source_of, sink_of, corner_of, with_corners, clear_by, load_by, muted_by, level_by, decided}

-- A port put in is there, and others are there as before.
pub or_swap : (s t r : Bool) → s || (t || r) ≡ t || (s || r)
or_swap true true r = refl
or_swap true false r = refl
or_swap false t r = refl

or_twice : (t r : Bool) → t || r ≡ t || (t || r)
or_twice true r = refl
or_twice false r = refl

port_in_lem : (s p : Port) (l : List Port) → any (same_port s) (insert_port p l) ≡ same_port s p || any (same_port s) l
port_in_lem s p [] = refl
port_in_lem s p (q ∷ l) =
    go (ltb p.node q.node || (eqb p.node q.node && ltb p.port q.port)) (same_port p q) refl (port_in_lem s p l)
  where
    same : same_port p q ≡ true → same_port s p ≡ same_port s q
    same e = let h = same_two p.node q.node p.port q.port e in λ i. eqb s.node (h.0 i) && eqb s.port (h.1 i)

    go : (less equal : Bool) → same_port p q ≡ equal → any (same_port s) (insert_port p l) ≡ same_port s p || any (same_port s) l
        → any (same_port s) (elim less as (λ _. List Port) [ true ↦ p ∷ q ∷ l | false ↦ elim equal as (λ _. List Port) [ true ↦ q ∷ l | false ↦ q ∷ insert_port p l ] ])
        ≡ same_port s p || (same_port s q || any (same_port s) l)
    go true equal e below = refl
    go false true e below = or_twice (same_port s q) (any (same_port s) l) ∙ ap (λ t. t || (same_port s q || any (same_port s) l)) (sym (same e))
    go false false e below = ap (λ t. same_port s q || t) below ∙ or_swap (same_port s q) (same_port s p) (any (same_port s) l)

-- Not one of two lists.
neither_of : (a x y : Bool) → a && not (x || y) ≡ (a && not y) && not x
neither_of true true true = refl
neither_of true true false = refl
neither_of true false true = refl
neither_of true false false = refl
neither_of false x y = refl

module _ (b : Board) (bus : Bus) where
  -- What the pass of the rules holds where these are decided.
  abbrev taken_of : Decided → Taken
  taken_of d = record { sink = sink_of b d.wire; level = d.level }

  abbrev pub standing : List Decided → Cornering
  standing done = record { bus = with_corners b bus done; taken = map taken_of done }

  -- Rows, levels and ports: what the bus says.
  beside_corners : (done : List Decided) (p r : ℕ) (cell : Cell)
      → any (beside_row p r cell) (with_corners b bus done).rerouters ≡ any (λ d. beside_row p r cell (corner_of b d)) done || any (beside_row p r cell) bus.rerouters
  unfolding with_corners
  beside_corners [] p r cell = refl
  beside_corners (d ∷ done) p r cell =
      ap (λ t. beside_row p r cell (corner_of b d) || t) (beside_corners done p r cell)
      ∙ or_joined (beside_row p r cell (corner_of b d)) (any (λ d. beside_row p r cell (corner_of b d)) done) (any (beside_row p r cell) bus.rerouters)
    where
      or_joined : (s t r : Bool) → s || (t || r) ≡ (s || t) || r
      or_joined true t r = refl
      or_joined false t r = refl

  pub clear_same : (done : List Decided) (w level : ℕ) → corner_clear b (with_corners b bus done) (source_of b w) (sink_of b w) level ≡ clear_by b bus done w level
  unfolding corner_clear clear_of_row clear_by
  clear_same done w level =
      let p : ℕ = page_of b (sink_of b w) in
      let r : ℕ = row_of b (sink_of b w) in
      let cell : Cell = rerouter_cell level (y_of b (source_of b w)) in
      let bricks : Bool = not (any (λ i. cells_overlap (brick_cell b i) cell) (bricks_in b p r)) in
      ap (λ t. bricks && not t) (beside_corners done p r cell)
      ∙ neither_of bricks (any (λ d. beside_row p r cell (corner_of b d)) done) (any (beside_row p r cell) bus.rerouters)

  pub load_same : (done : List Decided) (w level : ℕ) → sink_load b (map taken_of done) (sink_of b w) level ≡ load_by b done w level
  unfolding sink_load load_by
  load_same [] w level = refl
  load_same (d ∷ done) w level = go (eqb (sink_of b d.wire) (sink_of b w) && eqb d.level level) (load_same done w level)
    where
      K : List Taken
      K = keep (λ k. eqb k.sink (sink_of b w) && eqb k.level level) (map taken_of done)

      D : List Decided
      D = keep (λ d. eqb (sink_of b d.wire) (sink_of b w) && eqb d.level level) done

      go : (t : Bool) → length K ≡ length D → length {A = Taken} (elim t [ true ↦ taken_of d ∷ K | false ↦ K ]) ≡ length {A = Decided} (elim t [ true ↦ d ∷ D | false ↦ D ])
      go true h = ap suc h
      go false h = h

  pub muted_same : (done : List Decided) (w : ℕ) → muted b (with_corners b bus done) w ≡ muted b bus w || muted_by b done w
  unfolding muted muted_by with_corners
  muted_same [] w = or_false (muted b bus w)
    where
      or_false : (t : Bool) → t ≡ t || false
      or_false true = refl
      or_false false = refl
  muted_same (d ∷ done) w =
      let here : Bool = same_port (port_of b w) (port_of b d.wire) in
      port_in_lem (port_of b w) (port_of b d.wire) (with_corners b bus done).ports ∙ (ap (λ t. here || t) (muted_same done w) ∙ or_swap here (muted b bus w) (muted_by b done w))

  -- The level found, where the target is not suppressed.
  pub level_same : (done : List Decided) (w : ℕ) → muted_by b done w ≡ false → corner_level b (standing done) (source_of b w) (sink_of b w) ≡ level_by b bus done w
  unfolding corner_level level_by
  level_same done w e =
      let x : ℕ = x_of b (sink_of b w) in
      let n : ℕ = levels_in x (brick_cell b (sink_of b w)).x1 in
      (λ i. elim (lowest (λ l. eqb (load_same done w l i) 0 && clear_same done w l i) x n) as (λ _. Found)
      [ at l ↦ at l | none ↦ lightest (λ l. clear_same done w l i) (λ l. load_same done w l i) x n ])
      ∙ (λ i. elim (sym e i) as (λ _. Found) [
        | true ↦ none
        | false ↦
            elim (lowest (λ l. eqb (load_by b done w l) 0 && clear_by b bus done w l) x n) as (λ _. Found)
            [ at l ↦ at l | none ↦ lightest (clear_by b bus done w) (load_by b done w) x n ]
      ])

  level_muted : (done : List Decided) (w : ℕ) → muted_by b done w ≡ true → level_by b bus done w ≡ none
  unfolding level_by
  level_muted done w e = rw (e, level_by)

  -- A corner at a level.
  corner_same : (done : List Decided) (w s t level : ℕ) → s ≡ source_of b w → t ≡ sink_of b w
      → with_corner b (standing done) w s t level ≡ standing (record { wire = w; level = level } ∷ done)
  unfolding with_corner with_corners
  corner_same done w s t level p q = λ i. with_corner b (standing done) w (p i) (q i) level

  -- A wire: passed over, or decided.
  module _ (done : List Decided) (w : ℕ) where
    abbrev cornered : ℕ → ℕ → Cornering
    cornered s t = elim (corner_level b (standing done) s t) as (λ _. Cornering) [ none ↦ standing done | at l ↦ with_corner b (standing done) w s t l ]

    cornered_same : (s t : ℕ) → s ≡ source_of b w → t ≡ sink_of b w → muted_by b done w ≡ false → cornered s t ≡ standing (decide_if (level_by b bus done w) w done)
    cornered_same s t p q e =
        (λ i. elim (found' i) as (λ _. Cornering) [ none ↦ standing done | at l ↦ with_corner b (standing done) w s t l ]) ∙ go (level_by b bus done w)
      where
        found' : corner_level b (standing done) s t ≡ level_by b bus done w
        found' = (λ i. corner_level b (standing done) (p i) (q i)) ∙ level_same done w e

        go : (f : Found) → elim f as (λ _. Cornering) [ none ↦ standing done | at l ↦ with_corner b (standing done) w s t l ] ≡ standing (decide_if f w done)
        go none = refl
        go (at l) = corner_same done w s t l p q

    pub wire_same : turn_wire b (standing done) w ≡ elim (turns b bus w) [ true ↦ standing (decide_if (level_by b bus done w) w done) | false ↦ standing done ]
    unfolding turn_wire turns source_of sink_of
    wire_same = (λ i. by_rules (wire_open b w) (muted_same done w i) (body_of b (source_node b w)) (body_of b (target_node b w))) ∙ go (wire_open b w) (muted b bus w) (muted_by b done w) (body_of b (source_node b w)) (body_of b (target_node b w)) refl refl refl
      where
        by_rules : Bool → Bool → Found → Found → Cornering
        by_rules o m f g =
            elim (o && not m) as (λ _. Cornering) [
              | false ↦ standing done
              | true ↦
                  elim f as (λ _. Cornering) [
                    | none ↦ standing done
                    | at s ↦ elim g as (λ _. Cornering) [ none ↦ standing done | at t ↦ elim (turns_down b s t) as (λ _. Cornering) [ false ↦ standing done | true ↦ cornered s t ] ]
                  ]
            ]

        passes : Bool → Bool → Found → Found → Bool
        passes o m f g =
            elim (o && not m) as (λ _. Bool) [
              | false ↦ false
              | true ↦ elim f as (λ _. Bool) [ none ↦ false | at s ↦ elim g as (λ _. Bool) [ none ↦ false | at t ↦ turns_down b s t ] ]
            ]

        next : Cornering
        next = standing (decide_if (level_by b bus done w) w done)

        stays : muted_by b done w ≡ true → standing done ≡ next
        stays e = ap (λ f. standing (decide_if f w done)) (sym (level_muted done w e))

        down : (t : Bool) (c : Cornering) → c ≡ next → ◌≡◌ {A = Cornering} (elim t [ false ↦ standing done | true ↦ c ]) (elim t [ true ↦ next | false ↦ standing done ])
        down true c e = e
        down false c e = refl

        over : (t : Bool) → standing done ≡ next → standing done ≡ elim t as (λ _. Cornering) [ true ↦ next | false ↦ standing done ]
        over true e = e
        over false e = refl

        go : (o k m : Bool) (f g : Found) → muted_by b done w ≡ m → body_of b (source_node b w) ≡ f → body_of b (target_node b w) ≡ g
            → by_rules o (k || m) f g ≡ elim (passes o k f g) as (λ _. Cornering) [ true ↦ next | false ↦ standing done ]
        go false k m f g em ef eg = refl
        go true true m f g em ef eg = refl
        go true false true f g em ef eg = over (passes true false f g) (stays em)
        go true false false none g em ef eg = refl
        go true false false (at s) none em ef eg = refl
        go true false false (at s) (at t) em ef eg = down (turns_down b s t) (cornered s t) (cornered_same s t (sym (ap node_in ef)) (sym (ap node_in eg)) em)

  -- The wires in order.
  wires_same : (l : List ℕ) → fold (turn_wire b) (record { bus = bus; taken = [] }) l ≡ standing (decided b bus (keep (turns b bus) l))
  unfolding with_corners decided
  wires_same [] = refl
  wires_same (w ∷ l) =
      let done : List Decided = decided b bus (keep (turns b bus) l) in
      ap (λ c. turn_wire b c w) (wires_same l) ∙ (wire_same done w ∙ go (turns b bus w))
    where
      go : (t : Bool) → let done : List Decided = decided b bus (keep (turns b bus) l) in
          elim t as (λ _. Cornering) [ true ↦ standing (decide_if (level_by b bus done w) w done) | false ↦ standing done ]
          ≡ standing (decided b bus (elim t as (λ _. List ℕ) [ true ↦ w ∷ keep (turns b bus) l | false ↦ keep (turns b bus) l ]))
      go true = refl
      go false = refl

-- The corners of the rules are those decided, of the wires that pass the tests at the start.
pub corners_decided : (b : Board) (bus : Bus) → corners b bus ≡ with_corners b bus (decided b bus (keep (turns b bus) (upto (length b.wires))))
unfolding corners
corners_decided b bus = ap (λ c. c.bus) (wires_same b bus (upto (length b.wires)))
