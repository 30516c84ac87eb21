-- The text that the tables' rows give is the plan sheet of the plan that they hold.
use Prim.Native.Char.{code}
use Rattle.std.proofs.Common.{◌≡◌, ℕ, suc, ◌-◌, List, [], ◌∷◌, ◌++◌, map, reverse, length, get_or, sym, refl, ap, ◌∙◌, append_assoc, arith}
use mathlib.Core.List.{Memᴰ}
use Rattle.sheet.specs.Table.{MISSING}
use Rattle.sheet.specs.Written.{decimal, number_text}
use Rattle.sheet.proofs.Writing.{number_given}
use Rattle.board.specs.Board.{Board}
use Rattle.board.specs.Demands.{PageLanes}
use Rattle.board.specs.Planning.{page_row}
use Rattle.routes.specs.Bus.{Bus, Rerouter, BusWire, End, port, rerouter, Carries, onward, delivery, Port}
use Rattle.routes.specs.Buffers.{rerouter_row, end_row, carries_row, wire_row, port_row}
use Rattle.routes.specs.Plan.{deliveries}
use Rattle.routes_plan_sheet.specs.declared.plan_sheet.Totals.{Totals}
use Rattle.routes.proofs.Rows.{RerouterFits, EndFit, CarriesFit, WireFits, rerouter_back}
use Rattle.routes.specs.PlanSheet.{line, numbered, lane_line, rerouter_line, wire_line, port_line, end_fields, carries_fields, plan_sheet, total_line}
use Rattle.routes_plan_sheet.proofs.Lines.{letter_port}
use Rattle.routes_plan_sheet.specs.Fields.{rerouter_line_in, wire_text, wire_text_in, port_line_in, lane_line_in, letter_of, total_text, rows_text}

-- Lines by rows are lines by elements, where each row gives its element's line.
pub numbered_rows {ℓ} : {A : Type ℓ} (row : A → List ℕ) (oneIn : ℕ → List ℕ → List ℕ) (one : ℕ → A → List ℕ) (Fits : A → Type 0)
    → ((n : ℕ) (x : A) → Fits x → oneIn n (row x) ≡ one n x) → (l : List A) → ((x : A) → Memᴰ x l → Fits x) → (n : ℕ)
    → numbered oneIn n (map row l) ≡ numbered one n l
unfolding numbered
numbered_rows row oneIn one Fits same [] fits n = refl
numbered_rows row oneIn one Fits same (x ∷ l) fits n =
    ap (λ k. k ++ numbered oneIn (suc n) (map row l)) (same n x (fits x (Memᴰ.head refl))) ∙ ap (λ k. one n x ++ k) (numbered_rows row oneIn one Fits same l (λ y m. fits y (Memᴰ.tail m)) (suc n))

-- Each kind of line.
pub rerouter_line_lem : (n : ℕ) (k : Rerouter) → RerouterFits k → rerouter_line_in n (rerouter_row k) ≡ rerouter_line n k
rerouter_line_lem n k f = ap (rerouter_line n) (rerouter_back k f)

pub port_line_lem : (n : ℕ) (p : Port) → Unit {0} → port_line_in n (port_row p) ≡ port_line n p
port_line_lem n p u = refl

pub lane_line_lem : (n : ℕ) (l : PageLanes) → Unit {0} → lane_line_in n (page_row l) ≡ lane_line n l
unfolding lane_line
lane_line_lem n l u = refl

-- The three fields of an end, and the two of what a wire carries, by their rows.
abbrev end_text : List ℕ → List (List ℕ)
end_text r = (letter_of (get_or r 1 0) ∷ []) ∷ decimal (get_or r 0 0) ∷ number_text (get_or r 1 0) ∷ []

abbrev carries_text : List ℕ → List (List ℕ)
carries_text r = number_text (get_or r 0 0) ∷ number_text (get_or r 1 0) ∷ []

end_fields_lem : (e : End) → EndFit e → end_text (end_row e) ≡ end_fields e
end_fields_lem (port n p) f =
    let there : p ≡ MISSING → ⊥ = λ e. omega arith in
    λ i. (sym (letter_port p there) i ∷ []) ∷ decimal n ∷ number_given p there i ∷ []
end_fields_lem (rerouter k) f = refl

carries_fields_lem : (c : Carries) → CarriesFit c → carries_text (carries_row c) ≡ carries_fields c
carries_fields_lem onward f = refl
carries_fields_lem (delivery w d) f = λ i. number_given w (λ e. omega (arith, f.0)) i ∷ number_given d (λ e. omega (arith, f.1)) i ∷ []

wire_text_of : (s t : End) (c : Carries) → wire_text (end_row s ++ (end_row t ++ carries_row c)) ≡ line (code "B") (end_text (end_row s) ++ (end_text (end_row t) ++ carries_text (carries_row c)))
wire_text_of (port a b) (port n p) onward = refl
wire_text_of (port a b) (port n p) (delivery w d) = refl
wire_text_of (port a b) (rerouter k) onward = refl
wire_text_of (port a b) (rerouter k) (delivery w d) = refl
wire_text_of (rerouter j) (port n p) onward = refl
wire_text_of (rerouter j) (port n p) (delivery w d) = refl
wire_text_of (rerouter j) (rerouter k) onward = refl
wire_text_of (rerouter j) (rerouter k) (delivery w d) = refl

pub wire_line_lem : (n : ℕ) (w : BusWire) → WireFits w → wire_text_in n (wire_row w) ≡ wire_line n w
unfolding wire_line
wire_line_lem n w f =
    wire_text_of w.source w.target w.carries
    ∙ (λ i. line (code "B") (end_fields_lem w.source f.source i ++ (end_fields_lem w.target f.target i ++ carries_fields_lem w.carries f.carries i)))

-- The tables hold a plan: the rows of its pages, rerouters, bus wires and suppressed ports, and its totals.
pub record Holds (b : Board) (ps : List PageLanes) (bus : Bus) (laid : ℕ) (pages rerouters wires ports : List (List ℕ)) (t : Totals) : Type 0 where
  pub lanes : pages ≡ map page_row ps
  pub rerouter_rows : rerouters ≡ map rerouter_row (reverse bus.rerouters)
  pub bus_wires : wires ≡ map wire_row (reverse bus.wires)
  pub suppressed : ports ≡ map port_row bus.ports
  pub rerouters_fit : (k : Rerouter) → Memᴰ k (reverse bus.rerouters) → RerouterFits k
  pub wires_fit : (w : BusWire) → Memᴰ w (reverse bus.wires) → WireFits w
  pub total : t ≡ record { rerouters = length bus.rerouters; bus_wires = length bus.wires; deliveries = deliveries bus; direct = length b.wires - deliveries bus; laid = laid }

pub plan_text_lem : (b : Board) (ps : List PageLanes) (bus : Bus) (laid : ℕ) (pages rerouters wires ports : List (List ℕ)) (t : Totals)
    → Holds b ps bus laid pages rerouters wires ports t
    → rows_text pages rerouters wires ports t ≡ plan_sheet b ps bus laid
unfolding plan_sheet total_line
plan_text_lem b ps bus laid pages rerouters wires ports t h =
    (λ i. pages_eq i ++ (rerouters_eq i ++ wires_eq i ++ (ports_eq i ++ total_text (h.total i))))
    ∙ ap (λ l. numbered lane_line 0 ps ++ l) (append_assoc (numbered rerouter_line 0 (reverse bus.rerouters)) (numbered wire_line 0 (reverse bus.wires)) (numbered port_line 0 bus.ports ++ total_line b bus laid))
  where
    pages_eq : numbered lane_line_in 0 pages ≡ numbered lane_line 0 ps
    pages_eq = ap (numbered lane_line_in 0) h.lanes ∙ numbered_rows page_row lane_line_in lane_line (λ _. Unit {0}) lane_line_lem ps (λ x m. tt) 0

    rerouters_eq : numbered rerouter_line_in 0 rerouters ≡ numbered rerouter_line 0 (reverse bus.rerouters)
    rerouters_eq = ap (numbered rerouter_line_in 0) h.rerouter_rows ∙ numbered_rows rerouter_row rerouter_line_in rerouter_line RerouterFits rerouter_line_lem (reverse bus.rerouters) h.rerouters_fit 0

    wires_eq : numbered wire_text_in 0 wires ≡ numbered wire_line 0 (reverse bus.wires)
    wires_eq = ap (numbered wire_text_in 0) h.bus_wires ∙ numbered_rows wire_row wire_text_in wire_line WireFits wire_line_lem (reverse bus.wires) h.wires_fit 0

    ports_eq : numbered port_line_in 0 ports ≡ numbered port_line 0 bus.ports
    ports_eq = ap (numbered port_line_in 0) h.suppressed ∙ numbered_rows port_row port_line_in port_line (λ _. Unit {0}) port_line_lem bus.ports (λ x m. tt) 0
