-- Corners decided apart from their being written: the level of each wire that turns, by those decided before it, which only the corners of its own row bear on. No rule
-- stands here: the corners so decided are those of the rules.
use Rattle.std.specs.Prelude.{ℕ, zero, Bool, true, false, not, ◌&&◌, List, [], ◌∷◌, eqb, length}
use Rattle.base.specs.Lists.{Found, none, at, any, keep}
use Rattle.board.specs.Board.{Board, x_of, y_of, page_of, source_node, target_node}
use Rattle.board.specs.Rows.{rerouter_cell, brick_cell, row_of}
use Rattle.board.specs.Refusals.{body_of}
use Rattle.routes.specs.Levels.{levels_in, lowest, lightest}
use Rattle.routes.specs.Bus.{Rerouter, Bus, Feed, beside_row, clear_of_row, deliver, place, placed_feed, port_feed, port_of, same_port}
use Rattle.routes.specs.Corners.{corner_rerouter}

-- A corner that is decided: its wire, and its level.
pub record Decided : Type 0 where
  pub wire : ℕ
  pub level : ℕ

abbrev pub node_in : Found → ℕ
node_in none = zero
node_in (at i) = i

abbrev pub decide_if : Found → ℕ → List Decided → List Decided
decide_if none w done = done
decide_if (at l) w done = record { wire = w; level = l } ∷ done

module _ (b : Board) where
  -- The body nodes of a wire that turns.
  unfoldable pub source_of : ℕ → ℕ
  source_of w = node_in (body_of b (source_node b w))

  unfoldable pub sink_of : ℕ → ℕ
  sink_of w = node_in (body_of b (target_node b w))

  abbrev pub corner_of : Decided → Rerouter
  corner_of d = corner_rerouter b (source_of d.wire) (sink_of d.wire) d.level

  -- The bus with corners, the newest first.
  unfoldable pub with_corners : Bus → List Decided → Bus
  with_corners bus [] = bus
  with_corners bus (d ∷ l) =
      let before : Bus = with_corners bus l in
      let feed : Feed = port_feed b d.wire in
      deliver b (place before feed (corner_of d)) (placed_feed before feed) d.wire

  -- Of those decided: whether one stands where a corner of the wire is asked for, how many of the sink have a level, whether one leads to the wire's target.
  unfoldable pub clear_by : Bus → List Decided → ℕ → ℕ → Bool
  clear_by bus done w level =
      clear_of_row b bus (page_of b (sink_of w)) (row_of b (sink_of w)) (rerouter_cell level (y_of b (source_of w)))
      && not (any (λ d. beside_row (page_of b (sink_of w)) (row_of b (sink_of w)) (rerouter_cell level (y_of b (source_of w))) (corner_of d)) done)

  unfoldable pub load_by : List Decided → ℕ → ℕ → ℕ
  load_by done w level = length (keep (λ d. eqb (sink_of d.wire) (sink_of w) && eqb d.level level) done)

  unfoldable pub muted_by : List Decided → ℕ → Bool
  muted_by done w = any (λ d. same_port (port_of b w) (port_of b d.wire)) done

  -- A wire's level, by those decided.
  unfoldable pub level_by : Bus → List Decided → ℕ → Found
  level_by bus done w =
      elim (muted_by done w) [
        | true ↦ none
        | false ↦
            let n : ℕ = levels_in (x_of b (sink_of w)) (brick_cell b (sink_of w)).x1 in
            elim (lowest (λ l. eqb (load_by done w l) 0 && clear_by bus done w l) (x_of b (sink_of w)) n)
            [ at l ↦ at l | none ↦ lightest (clear_by bus done w) (load_by done w) (x_of b (sink_of w)) n ]
      ]

  -- The corners of wires in order, the newest first.
  unfoldable pub decided : Bus → List ℕ → List Decided
  decided bus [] = []
  decided bus (w ∷ l) = decide_if (level_by bus (decided bus l) w) w (decided bus l)

  -- Whether a wire's sink stands in a row.
  unfoldable pub turns_in : ℕ → ℕ → ℕ → Bool
  turns_in p r w = eqb (page_of b (sink_of w)) p && eqb (row_of b (sink_of w)) r
