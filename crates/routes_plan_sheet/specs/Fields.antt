-- How the code holds the fields of a line before they are written: each says how it is written and what. No rule stands here.
use Rattle.std.specs.Prelude.{ℕ, ◌+◌, ◌*◌, ◌≤◌, true, false, List, [], ◌∷◌, ◌++◌, take, ◌==◌, slice_index}
use Prim.Native.Char.{code}
use Rattle.sheet.specs.Table.{MISSING}
use Rattle.sheet.specs.Written.{decimal, coordinate_text, number_text, Wrote}
use Rattle.routes.specs.Buffers.{rerouter_in, port_in}
use Rattle.routes_plan_sheet.specs.declared.plan_sheet.Totals.{Totals}
use Rattle.routes_plan_sheet.specs.declared.plan_sheet.Field.{Field}
use Rattle.routes_plan_sheet.specs.declared.plan_sheet.Field.TheVariants.{Decimal, Coordinate, Number, Letter}
use Rattle.routes.specs.PlanSheet.{line, numbered, rerouter_line, port_line}

abbrev pub field_text : Field → List ℕ
field_text (Decimal n) = decimal n
field_text (Coordinate c) = coordinate_text c
field_text (Number n) = number_text n
field_text (Letter letter) = letter ∷ []

-- A page's line by its row: lanes, band.
abbrev pub lane_line_in : ℕ → List ℕ → List ℕ
lane_line_in p r = line (code "L") (decimal p ∷ decimal (slice_index r 0) ∷ decimal (slice_index r 1) ∷ [])

abbrev pub rerouter_line_in : ℕ → List ℕ → List ℕ
rerouter_line_in n r = rerouter_line n (rerouter_in r)

abbrev pub port_line_in : ℕ → List ℕ → List ℕ
port_line_in n r = port_line n (port_in r)

abbrev pub letter_of : ℕ → ℕ
letter_of p = elim (p == MISSING) [ true ↦ code "b" | false ↦ code "p" ]

-- A bus wire's line by its row: what is missing is written as `-`.
abbrev pub wire_text : List ℕ → List ℕ
wire_text r =
    line (code "B")
    ((letter_of (slice_index r 1) ∷ []) ∷ decimal (slice_index r 0) ∷ number_text (slice_index r 1)
    ∷ (letter_of (slice_index r 3) ∷ []) ∷ decimal (slice_index r 2) ∷ number_text (slice_index r 3) ∷ number_text (slice_index r 4) ∷ number_text (slice_index r 5) ∷ [])

abbrev pub wire_text_in : ℕ → List ℕ → List ℕ
wire_text_in n r = wire_text r

-- What writing the lines of the first n rows of a table leaves: a line has at most 128 bytes.
pub record WroteLines {A : Type 0} (one : ℕ → A → List ℕ) (old : List ℕ) (at : ℕ) (rows : List A) (n : ℕ) (new : List ℕ) (next : ℕ) : Type 0 where
  pub wrote : Wrote old at (numbered one 0 (take n rows)) new next
  pub most : next ≤ at + 128 * n

-- The parts of the plan sheet by the rows of the buffers.
abbrev pub total_text : Totals → List ℕ
total_text t =
    line (code "T")
    (decimal t.rerouters ∷ decimal t.bus_wires ∷ decimal t.deliveries ∷ decimal t.direct ∷ decimal t.laid ∷ [])

abbrev pub rows_text : List (List ℕ) → List (List ℕ) → List (List ℕ) → List (List ℕ) → Totals → List ℕ
rows_text pages rerouters wires ports t =
    numbered lane_line_in 0 pages ++ (numbered rerouter_line_in 0 rerouters ++ numbered wire_text_in 0 wires ++ (numbered port_line_in 0 ports ++ total_text t))
