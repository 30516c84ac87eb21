-- K, corners (`lay_mini_bus`): which wires turn, and where.
use Rattle.std.specs.Prelude.{ℕ, Bool, true, false, not, ◌&&◌, List, [], ◌∷◌, length, ◌==◌, nat_lt}
use Rattle.base.specs.Lists.{Found, none, at, keep, fold, upto}
use Rattle.sheet.specs.Table.{MISSING}
use Rattle.board.specs.Board.{Board, id_of, x_of, y_of, z_of, page_of, down_of, line_of, rotation_of, has_line, has_row, source_node, target_node}
use Rattle.board.specs.Rows.{rerouter_cell, brick_cell, row_of}
use Rattle.board.specs.Refusals.{body_of}
use Rattle.board.specs.Groups.{wire_open}
use Rattle.routes.specs.Levels.{levels_in, lowest, lightest}
use Rattle.routes.specs.Bus.{Rerouter, Bus, Feed, clear_of_row, deliver, muted, part_corner, place, placed_feed, port_feed, role_line, unfed}

-- K9: a level that a corner of this sink took.
pub record Taken : Type 0 where
  pub sink : ℕ
  pub level : ℕ

-- What the pass over the wires holds.
pub record Cornering : Type 0 where
  pub bus : Bus
  pub taken : List Taken

module _ (b : Board) where
  -- K3: the tests on a source s and a sink t.
  unfoldable pub turns_down : ℕ → ℕ → Bool
  turns_down s t =
      (rotation_of b t == 1)
      && has_line b s && has_line b t && line_of b s == line_of b t
      && has_row b s && has_row b t && page_of b s == page_of b t
      && nat_lt (down_of b s) (down_of b t) && nat_lt (y_of b t) (y_of b s)

  -- K8: the corner of source s and sink t at a level.
  unfoldable pub corner_rerouter : ℕ → ℕ → ℕ → Rerouter
  corner_rerouter s t level =
      record {
        x = level;
        y = y_of b s;
        z = z_of b (page_of b t);
        rotation = 2;
        role = role_line;
        part = part_corner;
        colour = id_of b s;
        page = page_of b t;
        lane = MISSING;
        row = row_of b t;
        depth = unfed;
      }

  -- K6: how many of this sink's corners have the level.
  unfoldable pub sink_load : List Taken → ℕ → ℕ → ℕ
  sink_load taken t level = length (keep (λ k. (k.sink == t) && k.level == level) taken)

  -- K5: a corner at this level is clear of the sink's row.
  unfoldable pub corner_clear : Bus → ℕ → ℕ → ℕ → Bool
  corner_clear bus s t level = clear_of_row b bus (page_of b t) (row_of b t) (rerouter_cell level (y_of b s))

  -- K5, K6: of the levels of K4 the lowest that is unused and clear, or of the clear ones the least loaded, or none (K7).
  unfoldable pub corner_level : Cornering → ℕ → ℕ → Found
  corner_level c s t =
      let n : ℕ = levels_in (x_of b t) (brick_cell b t).x1 in
      elim (lowest (λ l. (sink_load c.taken t l == 0) && corner_clear c.bus s t l) (x_of b t) n)
      [ at l ↦ at l | none ↦ lightest (corner_clear c.bus s t) (sink_load c.taken t) (x_of b t) n ]

  -- K9, K10: a corner, its delivery, and its level taken.
  unfoldable pub with_corner : Cornering → ℕ → ℕ → ℕ → ℕ → Cornering
  with_corner c w s t level =
      let feed : Feed = port_feed b w in
      record {
        bus = deliver b (place c.bus feed (corner_rerouter s t level)) (placed_feed c.bus feed) w;
        taken = record { sink = t; level = level } ∷ c.taken;
      }

  -- K2, K7: a wire is passed over, finds no level, or turns.
  unfoldable pub turn_wire : Cornering → ℕ → Cornering
  turn_wire c w =
      elim (wire_open b w && not (muted b c.bus w)) [
        | false ↦ c
        | true ↦
            elim (body_of b (source_node b w)) [
              | none ↦ c
              | at s ↦
                  elim (body_of b (target_node b w)) [
                    | none ↦ c
                    | at t ↦
                        elim (turns_down s t)
                        [ false ↦ c | true ↦ elim (corner_level c s t) [ none ↦ c | at l ↦ with_corner c w s t l ] ]
                  ]
            ]
      ]

  -- K1: all wires, by number.
  unfoldable pub corners : Bus → Bus
  corners bus = (fold turn_wire (record { bus = bus; taken = [] }) (upto (length b.wires))).bus

  -- K2, K3: whether a wire passes the tests of `turn_wire` on a bus: all but that a level is found.
  unfoldable pub turns : Bus → ℕ → Bool
  turns bus w =
      elim (wire_open b w && not (muted b bus w)) [
        | false ↦ false
        | true ↦
            elim (body_of b (source_node b w))
            [ none ↦ false | at s ↦ elim (body_of b (target_node b w)) [ none ↦ false | at t ↦ turns_down s t ] ]
      ]

  -- E16: how many wires do: the corner pass adds at most a rerouter, two bus wires and a suppressed port for each.
  unfoldable pub turnable : Bus → ℕ
  turnable bus = length (keep (turns bus) (upto (length b.wires)))
