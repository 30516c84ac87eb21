-- `corner_at` meets its contract: a corner's numbers, read off the tables, and those of its rotation, role and part. Assumes nothing.
use mathlib.Core.Path.{◌∙◌}
use Rattle.sheet.specs.Table.{MISSING}
use Rattle.board.specs.Board.{field}
use Rattle.routes.specs.Bus.{unfed}
use Rattle.routes_corners.proofs.Writing.{corner_read}
use Rattle.routes_corners.proofs.write.corner_at.Goals as goal

pub returns : goal.returns
returns c = let a = c.args in
    let nodes = a.t.s.nodes.now in
    let facts = a.t.facts.now in
    λ b wires is.
    (λ i.
    record {
      x = a.level;
      y = field nodes (field facts a.w 2) 9;
      z = field a.t.s.pages.now (field nodes (field facts a.w 3) 10) 2;
      rotation = c.from.ensures i;
      role = c.from-2.ensures i;
      part = c.from-3.ensures i;
      colour = field nodes (field facts a.w 2) 1;
      page = field nodes (field facts a.w 3) 10;
      lane = MISSING;
      row = field facts (field facts a.w 3) 0;
      depth = unfed;
    })
    ∙ corner_read b a.t.s.pages.now nodes wires facts a.w a.level c.requires is
