-- `corner_level` meets its contract: none where the class stands, or no level is clear; else what is sought. Assumes nothing.
use mathlib.Core.Path.{refl, ◌∙◌}
use Rattle.routes_rows.specs.Turning.{clear_at}
use Rattle.routes_rows.proofs.Deciding.{level_taken, level_closed}
use Rattle.routes_rows.proofs.turn.corner_level.Goals as goal

pub returns-then-has_class : goal.returns-then-has_class
returns-then-has_class c = let a = c.args in
    record {
      long = refl;
      ends = λ k low. refl;
      rows = refl;
      noted = λ booked most h. h;
      tells = λ booked most h g. level_taken booked a.span a.sink a.class (c.has_class.ensures ∙ h.classes a.class c.requires.3) c.if-has_class.true;
    }

pub returns-then-not-has_clear : goal.returns-then-not-has_clear
returns-then-not-has_clear c = let a = c.args in
    record {
      long = refl;
      ends = λ k low. refl;
      rows = refl;
      noted = λ booked most h. h;
      tells = λ booked most h g. level_closed booked a.span a.sink a.class (c.has_clear.ensures (clear_at booked a.span.y0) g c.if-not-has_clear.true);
    }
