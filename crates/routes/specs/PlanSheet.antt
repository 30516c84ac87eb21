-- P, the plan sheet: the finished plan as text.
use Rattle.std.specs.Prelude.{ℕ, suc, ◌-◌, List, [], ◌∷◌, ◌++◌, reverse, length}
use Prim.Native.Char.{code}
use Rattle.sheet.specs.Table.{MISSING}
use Rattle.sheet.specs.Text.{NEWLINE}
use Rattle.sheet.specs.Written.{decimal, coordinate_text, number_text, tabbed}
use Rattle.board.specs.Board.{Board}
use Rattle.board.specs.Demands.{PageLanes, band}
use Rattle.routes.specs.Bus.{Bus, Rerouter, BusWire, End, port, rerouter, Carries, onward, delivery, Port}
use Rattle.routes.specs.Plan.{deliveries}

-- P1: a line: its letter, its fields each after a tab, byte 10.
unfoldable pub fields : List (List ℕ) → List ℕ
fields [] = NEWLINE ∷ []
fields (f ∷ fs) = tabbed f ++ fields fs

abbrev pub line : ℕ → List (List ℕ) → List ℕ
line letter fs = letter ∷ fields fs

-- The lines of a list's elements, which count from n.
unfoldable pub numbered {ℓ} : {A : Type ℓ} → (ℕ → A → List ℕ) → ℕ → List A → List ℕ
numbered line n [] = []
numbered line n (x ∷ l) = line n x ++ numbered line (suc n) l

-- P2: a page's line.
unfoldable pub lane_line : ℕ → PageLanes → List ℕ
lane_line p l = line (code "L") (decimal p ∷ decimal l.count ∷ decimal (band l.count) ∷ [])

-- P3: a rerouter's line.
unfoldable pub rerouter_line : ℕ → Rerouter → List ℕ
rerouter_line n k =
    line (code "R")
    (decimal n ∷ coordinate_text k.x ∷ coordinate_text k.y ∷ coordinate_text k.z ∷ decimal k.rotation ∷ decimal k.role
    ∷ decimal k.part ∷ decimal k.colour ∷ decimal k.page ∷ number_text k.lane ∷ decimal k.depth ∷ [])

-- P4: a bus wire's line: three fields for each end, and two for what it delivers.
abbrev pub end_fields : End → List (List ℕ)
end_fields (port n p) = (code "p" ∷ []) ∷ decimal n ∷ decimal p ∷ []
end_fields (rerouter k) = (code "b" ∷ []) ∷ decimal k ∷ number_text MISSING ∷ []

abbrev pub carries_fields : Carries → List (List ℕ)
carries_fields onward = number_text MISSING ∷ number_text MISSING ∷ []
carries_fields (delivery w d) = decimal w ∷ decimal d ∷ []

unfoldable pub wire_line : ℕ → BusWire → List ℕ
wire_line n w = line (code "B") (end_fields w.source ++ (end_fields w.target ++ carries_fields w.carries))

-- P5: a suppressed port's line.
unfoldable pub port_line : ℕ → Port → List ℕ
port_line n p = line (code "U") (decimal p.node ∷ decimal p.port ∷ [])

-- P6: the last line, with the counts.
unfoldable pub total_line : Board → Bus → ℕ → List ℕ
total_line b bus laid =
    line (code "T")
    (decimal (length bus.rerouters) ∷ decimal (length bus.wires) ∷ decimal (deliveries bus)
    ∷ decimal (length b.wires - deliveries bus) ∷ decimal laid ∷ [])

-- P1: the lines in their order.
unfoldable pub plan_sheet : Board → List PageLanes → Bus → ℕ → List ℕ
plan_sheet b ps bus laid =
    numbered lane_line 0 ps
    ++ (numbered rerouter_line 0 (reverse bus.rerouters)
    ++ (numbered wire_line 0 (reverse bus.wires) ++ (numbered port_line 0 bus.ports ++ total_line b bus laid)))

-- E12: the E line.
unfoldable pub refusal_sheet : ℕ → ℕ → List ℕ
refusal_sheet number place = line (code "E") (decimal number ∷ decimal place ∷ [])
