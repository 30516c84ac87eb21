-- G, groups (`collect_bus_groups`): which wires a lane may carry, and which of them share one.
use Rattle.std.specs.Prelude.{ℕ, zero, suc, Bool, true, false, not, ◌&&◌, ◌||◌, List, [], ◌∷◌, eqb, length}
use Rattle.base.specs.Lists.{Found, none, at, any, keep, fold, upto}
use Rattle.board.specs.Board.{Board, given, kind_chip, kind_input, kind_coerce, class_storage, class_inline, port_layout, id_of, kind_of, class_of, pin_of, x_of, y_of, page_of, has_row, chip_id, parent_of, inner_chip, inner_class, exec_node, exec_port, source_node, source_port, target_node, target_port}
use Rattle.board.specs.Refusals.{body_of, inner_of}
use Rattle.board.specs.Rows.{row_of}

-- G8: one wire that a lane may carry, and where its target stands.
pub record Tap : Type 0 where
  pub page : ℕ
  pub group : ℕ
  pub row : ℕ
  pub y : ℕ
  pub x : ℕ
  pub node : ℕ
  pub port : ℕ
  pub wire : ℕ

module _ (b : Board) where
  -- G1: a chip's top chip. Parents stand on earlier lines, so the search goes on below the record found.
  unfoldable pub top_chip : ℕ → ℕ → ℕ
  top_chip zero id = id
  top_chip (suc n) id =
      elim (eqb (chip_id b n) id)
      [ true ↦ elim (given (parent_of b n)) [ true ↦ top_chip n (parent_of b n) | false ↦ id ] | false ↦ top_chip n id ]

  -- G2, S14: the anchor of an id. One that names no node has none.
  unfoldable pub anchor_of : ℕ → Found
  anchor_of id =
      elim (body_of b id)
      [ at i ↦ at i | none ↦ elim (inner_of b id) [ at f ↦ body_of b (top_chip (length b.chips) (inner_chip b f)) | none ↦ none ] ]

  -- G5, S14: whether a wire may have this id as an end: it is a node's, and that is not inline-only.
  unfoldable pub is_bussable : ℕ → Bool
  is_bussable id =
      elim (body_of b id) [
        | at i ↦ not (eqb (class_of b i) class_inline)
        | none ↦ elim (inner_of b id) [ at f ↦ not (eqb (inner_class b f) class_inline) | none ↦ false ]
      ]

  -- G3: whether an anchor is bus-worthy, by its kind, its pin or its class.
  unfoldable pub is_bus_worthy : ℕ → Bool
  is_bus_worthy i = eqb (kind_of b i) kind_input || eqb (pin_of b i) 1 || eqb (class_of b i) class_storage

  -- G4: a wire at a node of another id than its anchor's, or at a Chip, crosses a chip's wall there.
  unfoldable pub crosses_at : ℕ → ℕ → Bool
  crosses_at anchor id = not (eqb (id_of b anchor) id) || eqb (kind_of b anchor) kind_chip

  -- G6: an X names the wire's target.
  unfoldable pub targets_exec : ℕ → Bool
  targets_exec w = any (λ e. eqb (exec_node b e) (target_node b w) && eqb (exec_port b e) (target_port b w)) (upto (length b.execs))

  -- G5: the tests on a wire before any on its anchors, which the corners share (K2).
  unfoldable pub wire_open : ℕ → Bool
  wire_open w =
      not (eqb (source_port b w) port_layout) && not (eqb (target_port b w) port_layout)
      && not (eqb (source_node b w) (target_node b w))
      && is_bussable (source_node b w) && is_bussable (target_node b w)

  -- G6: the tests on the anchors s and t of its two ends.
  unfoldable pub anchors_open : ℕ → ℕ → ℕ → Bool
  anchors_open w s t =
      (crosses_at t (target_node b w) || is_bus_worthy s || not (targets_exec w))
      && not (eqb (class_of b s) class_inline) && not (eqb (class_of b t) class_inline)
      && not (eqb (kind_of b s) kind_coerce)
      && has_row b t

  -- G7: the group of a wire to that page: that of an earlier tap there from the same port, else a new one, named by this wire.
  unfoldable pub group_for : List Tap → ℕ → ℕ → ℕ
  group_for [] p w = w
  group_for (t ∷ l) p w =
      elim (eqb t.page p && eqb (source_node b t.wire) (source_node b w) && eqb (source_port b t.wire) (source_port b w))
      [ true ↦ t.group | false ↦ group_for l p w ]

  -- G8: the tap of a wire whose target has the anchor t.
  unfoldable pub tap_for : List Tap → ℕ → ℕ → Tap
  tap_for ts w t =
      record {
        page = page_of b t;
        group = group_for ts (page_of b t) w;
        row = row_of b t;
        y = y_of b t;
        x = x_of b t;
        node = target_node b w;
        port = target_port b w;
        wire = w;
      }

  -- G8: a wire gets its tap, unless one of the tests fails (G5, G6).
  unfoldable pub add_wire : List Tap → ℕ → List Tap
  add_wire ts w =
      elim (wire_open w) [
        | false ↦ ts
        | true ↦
            elim (anchor_of (source_node b w)) [
              | none ↦ ts
              | at s ↦
                  elim (anchor_of (target_node b w))
                  [ none ↦ ts | at t ↦ elim (anchors_open w s t) [ true ↦ tap_for ts w t ∷ ts | false ↦ ts ] ]
            ]
      ]

  -- G8: a tap for every wire that is not passed over, newest first.
  unfoldable pub taps_of : List Tap
  taps_of = fold add_wire [] (upto (length b.wires))

  -- G7: a group's taps, newest first.
  unfoldable pub taps_in : List Tap → ℕ → List Tap
  taps_in ts g = keep (λ t. eqb t.group g) ts

  -- G7: the source anchor of a group, that of its first wire. (An accepted tap has one.)
  unfoldable pub source_anchor : ℕ → ℕ
  source_anchor g = elim (anchor_of (source_node b g)) [ at s ↦ s | none ↦ zero ]

  unfoldable pub target_anchor : ℕ → ℕ
  target_anchor w = elim (anchor_of (target_node b w)) [ at t ↦ t | none ↦ zero ]

  -- G9: one of its wires crosses a chip's wall at an end.
  unfoldable pub crosses : List Tap → ℕ → Bool
  crosses ts g =
      any (λ t. crosses_at (source_anchor t.wire) (source_node b t.wire) || crosses_at (target_anchor t.wire) (target_node b t.wire))
      (taps_in ts g)

  -- G10: the row of the source anchor, where that stands on the page p.
  unfoldable pub source_row : ℕ → ℕ → Found
  source_row g p =
      elim (has_row b (source_anchor g) && eqb (page_of b (source_anchor g)) p) [ true ↦ at (row_of b (source_anchor g)) | false ↦ none ]
