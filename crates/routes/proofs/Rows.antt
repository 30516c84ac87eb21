-- Rows of the buffers: what was written is read back, and what was read is written back.
use Rattle.std.proofs.Common.{◌≡◌, ℕ, zero, suc, ◌<◌, ◌≤◌, Bool, true, false, ◌&&◌, eqb, List, [], ◌∷◌, ◌++◌, map, length, get_or, take, drop, set, sym, refl, ap, ◌∙◌, arith, take-append-drop, drop-set-lt, ne_eqb, eqb-true}
use mathlib.Core.List.{Memᴰ}
use lib.Seq.{set-get_or}
use Rattle.sheet.specs.Table.{MISSING}
use Rattle.base.specs.Views.{view}
use Rattle.base.proofs.Lists.{same_two}
use Rattle.base.proofs.Views.{view_more, length-view}
use Rattle.routes.specs.Bus.{Rerouter, BusWire, End, port, rerouter, Carries, onward, delivery, Port}
use Rattle.routes.specs.Buffers.{outward, rerouter_row, end_row, carries_row, wire_row, port_row, inward, rerouter_in, end_in, carries_in, wire_in, port_in, Row}
use Rattle.routes.specs.Tables.{written_over}
use Rattle.routes.proofs.Views.{rows_written}

-- Written, then read: numbers that a row can hold.

pub inward_outward : (c : ℕ) → c < 4294967296 → inward (outward c) ≡ c
inward_outward c h = omega arith

pub record RerouterFits (k : Rerouter) : Type 0 where
  pub x : k.x < 4294967296
  pub y : k.y < 4294967296
  pub z : k.z < 4294967296

abbrev pub EndFit : End → Type 0
EndFit (port n p) = p < MISSING
EndFit (rerouter k) = Unit {0}

abbrev pub CarriesFit : Carries → Type 0
CarriesFit onward = Unit {0}
CarriesFit (delivery w d) = (w < MISSING) × (d < MISSING)

pub record WireFits (w : BusWire) : Type 0 where
  pub source : EndFit w.source
  pub target : EndFit w.target
  pub carries : CarriesFit w.carries

pub rerouter_back : (k : Rerouter) → RerouterFits k → rerouter_in (rerouter_row k) ≡ k
rerouter_back k f i =
    record {
      x = inward_outward k.x f.x i;
      y = inward_outward k.y f.y i;
      z = inward_outward k.z f.z i;
      rotation = k.rotation;
      role = k.role;
      part = k.part;
      colour = k.colour;
      page = k.page;
      lane = k.lane;
      row = k.row;
      depth = k.depth;
    }

pub port_there : (n p : ℕ) → p < MISSING → end_in n p ≡ port n p
port_there n p h = rw (ne_eqb p MISSING (λ e. omega arith), end_in)

pub wire_named : (w d : ℕ) → w < MISSING → carries_in w d ≡ delivery w d
wire_named w d h = rw (ne_eqb w MISSING (λ e. omega arith), carries_in)

end_back : (e : End) → EndFit e → end_in (get_or (end_row e) 0 0) (get_or (end_row e) 1 0) ≡ e
end_back (port n p) f = port_there n p f
end_back (rerouter k) f = refl

carries_back : (c : Carries) → CarriesFit c → carries_in (get_or (carries_row c) 0 0) (get_or (carries_row c) 1 0) ≡ c
carries_back onward f = refl
carries_back (delivery w d) f = wire_named w d f.0

wire_parts : (s t : End) (c : Carries)
    → wire_in (end_row s ++ (end_row t ++ carries_row c))
    ≡ record { source = end_in (get_or (end_row s) 0 0) (get_or (end_row s) 1 0); target = end_in (get_or (end_row t) 0 0) (get_or (end_row t) 1 0); carries = carries_in (get_or (carries_row c) 0 0) (get_or (carries_row c) 1 0) }
wire_parts (port a b) (port n p) onward = refl
wire_parts (port a b) (port n p) (delivery w d) = refl
wire_parts (port a b) (rerouter k) onward = refl
wire_parts (port a b) (rerouter k) (delivery w d) = refl
wire_parts (rerouter j) (port n p) onward = refl
wire_parts (rerouter j) (port n p) (delivery w d) = refl
wire_parts (rerouter j) (rerouter k) onward = refl
wire_parts (rerouter j) (rerouter k) (delivery w d) = refl

pub wire_back : (w : BusWire) → WireFits w → wire_in (wire_row w) ≡ w
wire_back w f =
    wire_parts w.source w.target w.carries
    ∙ (λ i. record { source = end_back w.source f.source i; target = end_back w.target f.target i; carries = carries_back w.carries f.carries i })

pub ports_back : (l : List Port) → map port_in (map port_row l) ≡ l
ports_back [] = refl
ports_back (p ∷ l) = ap {B = List Port} (λ r. p ∷ r) (ports_back l)

-- A list written over a table and viewed is the list.
pub view-written : {A : Type 0} (row : A → List ℕ) (read : List ℕ → A) (l : List A) (old : List (List ℕ)) → length l ≤ length old
    → ((x : A) → Memᴰ x l → read (row x) ≡ x) → view read (written_over row l old) (length l) ≡ l
view-written row read [] old h back = refl
view-written row read (x ∷ l) old h back =
    let inside : length l < length (written_over row l old) = omega (arith, (rows_written row l old (omega arith)).1) in
    let below : view read (written_over row l old) (length l) ≡ l = view-written row read l old (omega arith) (λ y m. back y (Memᴰ.tail m)) in
    let here : read (row x) ≡ x = back x (Memᴰ.head refl) in
    view_more read (written_over row l old) (length l) (row x) inside ∙ (λ i. here i ∷ below i)

-- Written over what an earlier part of the list was written over, as if that had not been.
pub rest_written : {A : Type 0} (row : A → List ℕ) (l : List A) (old : List (List ℕ)) (m : ℕ) → length l ≤ m → drop m (written_over row l old) ≡ drop m old
rest_written row [] old m h = refl
rest_written row (x ∷ l) old m h = drop-set-lt m (written_over row l old) (length l) (row x) (omega arith) ∙ rest_written row l old m (omega arith)

pub written_again : {A : Type 0} (row : A → List ℕ) (l more : List A) (old : List (List ℕ)) → length l ≤ length more → length more ≤ length old
    → written_over row more (written_over row l old) ≡ written_over row more old
written_again row l more old h k =
    let long : length (written_over row l old) ≡ length old = (rows_written row l old (omega arith)).1 in
    let front : take (length more) (written_over row more (written_over row l old)) ≡ take (length more) (written_over row more old) =
    (rows_written row more (written_over row l old) (omega arith)).0 ∙ sym (rows_written row more old k).0 in
    let rest : drop (length more) (written_over row more (written_over row l old)) ≡ drop (length more) (written_over row more old) =
    rest_written row more (written_over row l old) (length more) (omega arith) ∙ (rest_written row l old (length more) h ∙ sym (rest_written row more old (length more) (omega arith))) in
    sym (take-append-drop (length more) (written_over row more (written_over row l old))) ∙ ((λ i. front i ++ rest i) ∙ take-append-drop (length more) (written_over row more old))

-- Read, then written: rows of so many numbers of 32 bits.

outward_inward : (c : ℕ) → c < 4294967296 → outward (inward c) ≡ c
outward_inward c h = omega arith

-- A list of a known length is its numbers.
eleven : (r : List ℕ) → length r ≡ 11
    → get_or r 0 0 ∷ get_or r 1 0 ∷ get_or r 2 0 ∷ get_or r 3 0 ∷ get_or r 4 0 ∷ get_or r 5 0 ∷ get_or r 6 0 ∷ get_or r 7 0 ∷ get_or r 8 0 ∷ get_or r 9 0 ∷ get_or r 10 0 ∷ [] ≡ r
eleven (a ∷ b ∷ c ∷ d ∷ e ∷ f ∷ g ∷ h ∷ i ∷ j ∷ k ∷ []) l = refl
eleven [] l = absurd (omega arith)
eleven (a ∷ []) l = absurd (omega arith)
eleven (a ∷ b ∷ []) l = absurd (omega arith)
eleven (a ∷ b ∷ c ∷ []) l = absurd (omega arith)
eleven (a ∷ b ∷ c ∷ d ∷ []) l = absurd (omega arith)
eleven (a ∷ b ∷ c ∷ d ∷ e ∷ []) l = absurd (omega arith)
eleven (a ∷ b ∷ c ∷ d ∷ e ∷ f ∷ []) l = absurd (omega arith)
eleven (a ∷ b ∷ c ∷ d ∷ e ∷ f ∷ g ∷ []) l = absurd (omega arith)
eleven (a ∷ b ∷ c ∷ d ∷ e ∷ f ∷ g ∷ h ∷ []) l = absurd (omega arith)
eleven (a ∷ b ∷ c ∷ d ∷ e ∷ f ∷ g ∷ h ∷ i ∷ []) l = absurd (omega arith)
eleven (a ∷ b ∷ c ∷ d ∷ e ∷ f ∷ g ∷ h ∷ i ∷ j ∷ []) l = absurd (omega arith)
eleven (a ∷ b ∷ c ∷ d ∷ e ∷ f ∷ g ∷ h ∷ i ∷ j ∷ k ∷ m ∷ r) l = absurd (omega arith)

six : (r : List ℕ) → length r ≡ 6 → get_or r 0 0 ∷ get_or r 1 0 ∷ get_or r 2 0 ∷ get_or r 3 0 ∷ get_or r 4 0 ∷ get_or r 5 0 ∷ [] ≡ r
six (a ∷ b ∷ c ∷ d ∷ e ∷ f ∷ []) l = refl
six [] l = absurd (omega arith)
six (a ∷ []) l = absurd (omega arith)
six (a ∷ b ∷ []) l = absurd (omega arith)
six (a ∷ b ∷ c ∷ []) l = absurd (omega arith)
six (a ∷ b ∷ c ∷ d ∷ []) l = absurd (omega arith)
six (a ∷ b ∷ c ∷ d ∷ e ∷ []) l = absurd (omega arith)
six (a ∷ b ∷ c ∷ d ∷ e ∷ f ∷ g ∷ r) l = absurd (omega arith)

-- The row of what a row holds is that row.
pub rerouter_row_lem : (r : List ℕ) → Row 11 r → rerouter_row (rerouter_in r) ≡ r
rerouter_row_lem r h =
    let x = outward_inward (get_or r 0 0) (h.fits 0 (omega arith)) in
    let y = outward_inward (get_or r 1 0) (h.fits 1 (omega arith)) in
    let z = outward_inward (get_or r 2 0) (h.fits 2 (omega arith)) in
    (λ i. x i ∷ y i ∷ z i ∷ get_or r 3 0 ∷ get_or r 4 0 ∷ get_or r 5 0 ∷ get_or r 6 0 ∷ get_or r 7 0 ∷ get_or r 8 0 ∷ get_or r 9 0 ∷ get_or r 10 0 ∷ []) ∙ eleven r h.wide

end_row_lem : (n p : ℕ) → end_row (end_in n p) ≡ n ∷ p ∷ []
end_row_lem n p = go (eqb p MISSING) refl
  where
    go : (t : Bool) → eqb p MISSING ≡ t → end_row (elim t as (λ _. End) [ true ↦ rerouter n | false ↦ port n p ]) ≡ n ∷ p ∷ []
    go true e = λ i. n ∷ sym (eqb-true p MISSING e) i ∷ []
    go false e = refl

carries_row_lem : (w d : ℕ) → carries_row (carries_in w d) ≡ w ∷ d ∷ []
carries_row_lem w d = go (eqb w MISSING && eqb d MISSING) refl
  where
    go : (t : Bool) → eqb w MISSING && eqb d MISSING ≡ t → carries_row (elim t as (λ _. Carries) [ true ↦ onward | false ↦ delivery w d ]) ≡ w ∷ d ∷ []
    go true e = let h = same_two w MISSING d MISSING e in λ i. sym h.0 i ∷ sym h.1 i ∷ []
    go false e = refl

pub wire_row_lem : (r : List ℕ) → Row 6 r → wire_row (wire_in r) ≡ r
wire_row_lem r h =
    (λ i. end_row_lem (get_or r 0 0) (get_or r 1 0) i ++ (end_row_lem (get_or r 2 0) (get_or r 3 0) i ++ carries_row_lem (get_or r 4 0) (get_or r 5 0) i)) ∙ six r h.wide

-- A table whose own rows are written over it is the table.
pub written_own : {A : Type 0} (row : A → List ℕ) (read : List ℕ → A) (table : List (List ℕ)) (n : ℕ) → n ≤ length table → ((i : ℕ) → i < n → row (read (get_or table i [])) ≡ get_or table i [])
    → written_over row (view read table n) table ≡ table
written_own row read table zero h same = refl
written_own row read table (suc n) h same =
    (λ i. set (written_own row read table n (omega arith) (λ j l. same j (omega arith)) i) (length-view read table n i) (same n (omega arith) i)) ∙ set-get_or table n []
