-- The length of a plan sheet: a line of it has at most 128 bytes.
use Prim.Native.Char.{code}
use Rattle.std.proofs.Common.{◌≡◌, ℕ, suc, ◌+◌, ◌-◌, ◌*◌, ◌≤◌, List, [], ◌∷◌, ◌++◌, reverse, length, refl, arith, length-append}
use mathlib.Core.List.Memᴰ
use lib.ListN.{length-reverse}
use Rattle.sheet.specs.Table.{MISSING}
use Rattle.sheet.specs.Written.{decimal, coordinate_text, number_text, tabbed}
use Rattle.sheet.proofs.Writing.{decimal-length, coordinate-length, number-length}
use Rattle.board.specs.Board.{Board}
use Rattle.board.specs.Demands.{PageLanes, band}
use Rattle.routes.specs.Bus.{Bus, Rerouter, BusWire, End, port, rerouter, Carries, onward, delivery, Port}
use Rattle.routes.specs.Plan.{deliveries}
use Rattle.routes.specs.PlanSheet.{fields, line, numbered, lane_line, rerouter_line, end_fields, carries_fields, wire_line, port_line, total_line, plan_sheet}
use Rattle.board.proofs.Reach.{All, all_none, all_more}

-- A line of at most eleven fields has at most 128 bytes.
fields_most : (fs : List (List ℕ)) → All (λ f. length f ≤ 10) fs → length (fields fs) ≤ 11 * length fs + 1
unfolding fields
fields_most [] h = omega arith
fields_most (f ∷ fs) h =
    omega (arith, length-append (tabbed f) (fields fs), h f (Memᴰ.head refl), fields_most fs (λ g m. h g (Memᴰ.tail m)))

line_most : (letter : ℕ) (fs : List (List ℕ)) → All (λ f. length f ≤ 10) fs → length fs ≤ 11 → length (line letter fs) ≤ 128
line_most letter fs h few = omega (arith, fields_most fs h)

abbrev Short : List (List ℕ) → Type 0
Short fs = All (λ f. length f ≤ 10) fs

none_long : Short []
none_long = all_none (λ f. length f ≤ 10)

and_number : (n : ℕ) {fs : List (List ℕ)} → Short fs → Short (number_text n ∷ fs)
and_number n {fs} h = all_more (λ f. length f ≤ 10) (number_text n) fs (number-length n) h

and_decimal : (n : ℕ) {fs : List (List ℕ)} → Short fs → Short (decimal n ∷ fs)
and_decimal n {fs} h = all_more (λ f. length f ≤ 10) (decimal n) fs (decimal-length n) h

and_coordinate : (n : ℕ) {fs : List (List ℕ)} → Short fs → Short (coordinate_text n ∷ fs)
and_coordinate n {fs} h = all_more (λ f. length f ≤ 10) (coordinate_text n) fs (coordinate-length n) h

and_letter : (n : ℕ) {fs : List (List ℕ)} → Short fs → Short ((n ∷ []) ∷ fs)
and_letter n {fs} h = all_more (λ f. length f ≤ 10) (n ∷ []) fs (omega arith) h

lane_line_most : (n : ℕ) (l : PageLanes) → length (lane_line n l) ≤ 128
unfolding lane_line
lane_line_most n l = line_most (code "L") _ (and_decimal n (and_decimal l.count (and_decimal (band l.count) none_long))) (omega arith)

rerouter_line_most : (n : ℕ) (k : Rerouter) → length (rerouter_line n k) ≤ 128
unfolding rerouter_line
rerouter_line_most n k =
    line_most (code "R") _
    (and_decimal n (and_coordinate k.x (and_coordinate k.y (and_coordinate k.z (and_decimal k.rotation (and_decimal k.role
    (and_decimal k.part (and_decimal k.colour (and_decimal k.page (and_number k.lane (and_decimal k.depth none_long)))))))))))
    (omega arith)

-- The fields of an end before others, and those of what a bus wire carries.
end_short : (e : End) {fs : List (List ℕ)} → Short fs → Short (end_fields e ++ fs) × (length (end_fields e ++ fs) ≡ suc (suc (suc (length fs))))
end_short (port n p) h = (and_letter _ (and_decimal n (and_decimal p h)), refl)
end_short (rerouter k) h = (and_letter _ (and_decimal k (and_number MISSING h)), refl)

carries_short : (c : Carries) → Short (carries_fields c) × (length (carries_fields c) ≡ 2)
carries_short onward = (and_number MISSING (and_number MISSING none_long), refl)
carries_short (delivery w d) = (and_decimal w (and_decimal d none_long), refl)

wire_line_most : (n : ℕ) (w : BusWire) → length (wire_line n w) ≤ 128
unfolding wire_line
wire_line_most n w =
    let last = carries_short w.carries in
    let target = end_short w.target last.0 in
    let source = end_short w.source target.0 in
    line_most (code "B") _ source.0 (omega (arith, source.1, target.1, last.1))

port_line_most : (n : ℕ) (p : Port) → length (port_line n p) ≤ 128
unfolding port_line
port_line_most n p = line_most (code "U") _ (and_decimal p.node (and_decimal p.port none_long)) (omega arith)

total_line_most : (b : Board) (bus : Bus) (laid : ℕ) → length (total_line b bus laid) ≤ 128
unfolding total_line
total_line_most b bus laid =
    line_most (code "T") _
    (and_decimal (length bus.rerouters) (and_decimal (length bus.wires) (and_decimal (deliveries bus) (and_decimal (length b.wires - deliveries bus) (and_decimal laid none_long)))))
    (omega arith)

lines_most : {A : Type 0} (one : ℕ → A → List ℕ) → ((n : ℕ) (x : A) → length (one n x) ≤ 128) → (n : ℕ) (l : List A) → length (numbered one n l) ≤ 128 * length l
unfolding numbered
lines_most one h n [] = omega arith
lines_most one h n (x ∷ l) = omega (arith, length-append (one n x) (numbered one (suc n) l), h n x, lines_most one h (suc n) l)

-- The plan sheet fits where 128 bytes are lent for each page, rerouter, bus wire and suppressed port, and for the last line.
pub plan_sheet_most : (b : Board) (ps : List PageLanes) (bus : Bus) (laid : ℕ)
    → length (plan_sheet b ps bus laid) ≤ 128 * (length ps + length bus.rerouters + length bus.wires + length bus.ports + 1)
unfolding plan_sheet
plan_sheet_most b ps bus laid =
    let lanes = numbered lane_line 0 ps in
    let rerouters = numbered rerouter_line 0 (reverse bus.rerouters) in
    let wires = numbered wire_line 0 (reverse bus.wires) in
    let ports = numbered port_line 0 bus.ports in
    let last = total_line b bus laid in
    omega (
      arith,
      length-append lanes (rerouters ++ (wires ++ (ports ++ last))),
      length-append rerouters (wires ++ (ports ++ last)),
      length-append wires (ports ++ last),
      length-append ports last,
      lines_most lane_line lane_line_most 0 ps,
      lines_most rerouter_line rerouter_line_most 0 (reverse bus.rerouters),
      lines_most wire_line wire_line_most 0 (reverse bus.wires),
      lines_most port_line port_line_most 0 bus.ports,
      total_line_most b bus laid,
      length-reverse bus.rerouters,
      length-reverse bus.wires,
    )
