-- One call of the corner pass: tables fresh, the wires that turn, and the room for their corners.
use Rattle.std.proofs.Common.{◌≡◌, ℕ, zero, suc, ◌∷◌, refl, ap₂, ◌+◌, ◌*◌, ◌<◌, ◌≤◌, Bool, true, false, ◌&&◌, leb, List, length, get_or, replicate, sym, ap, ◌∙◌, arith, leb-true, [], map, reverse, take, subst, length-take-le, get_or-take}
use lib.Seq.{take-length}
use Rattle.base.proofs.Views.{view-take}
use lib.ListN.{length-replicate, get_or-replicate}
use Rattle.base.specs.Lists.{any, keep, upto}
use Rattle.base.specs.Views.{view}
use Rattle.base.proofs.Bools.{and_left, and_right}
use Rattle.board.specs.Board.{Board}
use Rattle.routes.specs.Bus
use Rattle.routes.specs.Bus.{Rerouter, same_port, port_of}
use Rattle.routes.specs.Buffers.{port_in, Row, Rows}
use Rattle.routes.specs.Corners.{turns, turnable}
use Rattle.routes.specs.declared.bus.BusCounts.{BusCounts}
use Rattle.routes_corners.specs.CornerTables.{BoardOf, EndsThere, port_at, Classed, flag_at, Flagged, firsts, TurningBelow}
use Rattle.routes_corners.specs.Handed.{CellRows, Mutes}
use Rattle.routes_corners.specs.Ports.{FlaggedBy, among_ports}
use Rattle.routes_corners.specs.Turning.{has_room, TurnersFound}
use Rattle.routes_corners.proofs.Writing.{length-firsts}

-- A list for W wires, and no flag set in it.
pub fresh_list : (W : ℕ) → W ≤ 8192 → W ≤ length (replicate {A = ℕ} 8192 0)
fresh_list W few = simp length-replicate few

pub fresh_flags : (W : ℕ) → W ≤ 8192 → (k : ℕ) → k < W → flag_at (replicate {A = Bool} 8192 false) k ≡ false
fresh_flags W few k h = get_or-replicate 8192 k false false (omega arith)

-- The wires found, by the flags of the ports handed in.
module _ (nodes wires facts ports : List (List ℕ)) (u : ℕ) (classes : List ℕ) (flags : List Bool) (list : List ℕ) (n : ℕ) (flagged : FlaggedBy (among_ports wires ports u) wires classes flags) where
  flagged_in : (b : Board) (bus : Bus.Bus) → b.wires ≡ wires → Mutes b bus ports u → Flagged b bus classes flags
  flagged_in b bus is mutes w low =
      let e : length b.wires ≡ length wires = ap length is in flagged w (omega arith) ∙ sym (mutes w low ∙ (λ i. any (same_port (port_at (is i) w)) (view port_in ports u)))

  pub found_by : Classed wires classes (length wires) → TurningBelow nodes wires facts classes flags list n (length wires) → TurnersFound nodes wires facts ports u classes list n
  found_by classed t =
      record {
        classed = classed;
        few = t.few;
        below = t.below;
        ends = t.ends;
        all = λ b bus pages is mutes. t.all b bus pages is (flagged_in b bus is.wires_are mutes) ∙ (λ i. keep (turns b bus) (upto (length (sym is.wires_are i))));
      }

-- The room asked for is that for all that may turn.
-- The wires found, where the ports handed in are the first of a buffer.
ports_taken : (ports : List (List ℕ)) (u : ℕ) → u ≤ length ports → view port_in (take u ports) (length (take u ports)) ≡ view port_in ports u
ports_taken ports u h =
    view-take port_in (take u ports) (length (take u ports)) (omega arith) ∙ ap (λ (s : List (List ℕ)). reverse (map port_in s)) (take-length (take u ports)) ∙ sym (view-take port_in ports u h)

pub found_taken : {nodes wires facts ports : List (List ℕ)} {u : ℕ} {classes list : List ℕ} {n : ℕ} → u ≤ length ports
    → TurnersFound nodes wires facts (take u ports) (length (take u ports)) classes list n → TurnersFound nodes wires facts ports u classes list n
found_taken {ports = ports} {u = u} h f =
    record {
      classed = f.classed;
      few = f.few;
      below = f.below;
      ends = f.ends;
      all = λ b bus pages is mutes. f.all b bus pages is (λ w low. mutes w low ∙ ap (any (same_port (port_of b w))) (sym (ports_taken ports u h)));
    }

-- The wires found, as a list of no more than them.
firsts_within : (list : List ℕ) (most n : ℕ) → n ≤ most → firsts (take most list) n ≡ firsts list n
firsts_within list most zero h = refl
firsts_within list most (suc n) h = ap₂ (λ (w : ℕ) (l : List ℕ). w ∷ l) (get_or-take most list n 0 h) (firsts_within list most n (omega (arith, h)))

pub found_alone : {nodes wires facts ports : List (List ℕ)} {u : ℕ} {classes list : List ℕ} {n : ℕ} → n ≤ length list
    → TurnersFound nodes wires facts ports u classes list n → TurnersFound nodes wires facts ports u classes (take n list) (length (take n list))
found_alone {nodes = nodes} {wires = wires} {facts = facts} {list = list} {n = n} h f =
    record {
      classed = f.classed;
      few = let a = f.few in omega (arith, a, long);
      below = λ k low. subst (λ (w : ℕ). w < length wires) (sym (at k low)) (f.below k (omega (arith, low, long)));
      ends = λ k low. subst (λ (w : ℕ). EndsThere nodes facts w) (sym (at k low)) (f.ends k (omega (arith, low, long)));
      all = λ b bus pages is mutes. ap (firsts (take n list)) long ∙ firsts_within list n n (omega arith) ∙ f.all b bus pages is mutes;
    }
  where
    long : length (take n list) ≡ n
    long = length-take-le n list h

    at : (k : ℕ) → k < length (take n list) → get_or (take n list) k 0 ≡ get_or list k 0
    at k low = get_or-take n list k 0 (omega (arith, low, long))

-- The rows of a bus, in the first of a buffer.
pub cells_within : (ks : List Rerouter) (table : List (List ℕ)) (m : ℕ) → length ks ≤ m → CellRows ks table → CellRows ks (take m table)
cells_within [] table m h rows = tt
cells_within (k ∷ ks) table m h rows = (get_or-take m table (length ks) [] h ∙ rows.0, rows.1, cells_within ks table m (omega (arith, h)) rows.2)

-- Rows known, of the first of a buffer.
pub rows_taken : (width : ℕ) (rows : List (List ℕ)) (n : ℕ) → n ≤ length rows → Rows width (take n rows) (length (take n rows)) → Rows width rows n
rows_taken width rows n h known i low =
    let e = length-take-le n rows h in
    subst (Row width) (get_or-take n rows i [] low) (known i (omega (arith, low, e)))

room_asked : (b : Board) (bus : Bus.Bus) (pages nodes wires facts ports : List (List ℕ)) (u : ℕ) (classes list : List ℕ) (n : ℕ) → TurnersFound nodes wires facts ports u classes list n
    → BoardOf b pages nodes wires facts → Mutes b bus ports u → (held : BusCounts) → has_room (length wires) held (turnable b bus) ≡ has_room (length wires) held n
unfolding turnable
room_asked b bus pages nodes wires facts ports u classes list n f is mutes held = ap (has_room (length wires) held) (sym (sym (length-firsts list n) ∙ ap length (f.all b bus pages is mutes)))

-- The same of ports that are the first of a buffer.
pub room_taken : (ports : List (List ℕ)) {nodes wires facts : List (List ℕ)} {u : ℕ} {classes list : List ℕ} {n : ℕ} → u ≤ length ports → TurnersFound nodes wires facts (take u ports) (length (take u ports)) classes list n
    → (held : BusCounts) (b : Board) (bus : Bus.Bus) (pages : List (List ℕ)) → BoardOf b pages nodes wires facts → Mutes b bus ports u
    → has_room (length wires) held (turnable b bus) ≡ has_room (length wires) held n
room_taken ports {nodes = nodes} {wires = wires} {facts = facts} {u = u} {classes = classes} {list = list} {n = n} h f held b bus pages is mutes =
    room_asked b bus pages nodes wires facts ports u classes list n (found_taken h f) is mutes held

pub room_found : (W : ℕ) (held : BusCounts) (m : ℕ) → has_room W held m ≡ true → (held.rerouters + m ≤ 5 * W) × (held.bus_wires + 2 * m ≤ 6 * W)
unfolding has_room
room_found W held m e =
    let n = held.rerouters in
    let k = held.bus_wires in
    let u = held.ports in
    let ab = and_left (leb (n + m) (5 * W) && leb (k + 2 * m) (6 * W)) (leb (u + m) W) e in
    (leb-true (n + m) (5 * W) (and_left (leb (n + m) (5 * W)) (leb (k + 2 * m) (6 * W)) ab), leb-true (k + 2 * m) (6 * W) (and_right (leb (n + m) (5 * W)) (leb (k + 2 * m) (6 * W)) ab))
