-- What the corner pass asks for, of the bus that `lay_bus` leaves in the buffers: it finds its rows, its suppressed ports and its room.
use Prim.Native.Nat.{ℕ, suc, ◌+◌, ◌-◌, ◌*◌, ◌≤◌, ◌<◌}
use native.Mathlib.Omega.{arith}
use mathlib.Core.Path.{◌≡◌, refl, sym, ap, ◌∙◌, subst}
use mathlib.Core.Bool.{Bool, true, false}
use mathlib.Core.List.{List, [], ◌∷◌, ◌++◌, map, reverse, Memᴰ}
use lib.ListN.{length, drop, length-set, length-append, length-map, length-drop}
use lib.Seq.{drop-append-add, drop-drop}
use borrow.Author.Tests.{le-leb}
use Rattle.base.specs.Lists.{any}
use Rattle.board.specs.Board.{Board}
use Rattle.board.specs.Accepted.{Accepted}
use Rattle.board.specs.Demands.{PageLanes, planned, plan_lanes}
use Rattle.base.specs.Views.{view}
use Rattle.base.proofs.Bools.{clash}
use Rattle.base.proofs.Lists.{count_none, none_counted, count_reverse, by_test}
use Rattle.base.proofs.Views.{view-take}
use Rattle.routes.specs.Bus.{Bus, Rerouter, Port, fed_by, insert_port, same_port, port_of, muted}
use Rattle.routes.specs.Buffers.{rerouter_row, wire_row, port_row, port_in, ports_held}
use Rattle.routes.specs.Tables.{written_over}
use Rattle.routes.specs.Corners.{turnable, corners}
use Rattle.routes.specs.Plan.{bus_of, finished}
use Rattle.routes.specs.Route.{Room}
use Rattle.routes.proofs.Room.{room_to_turn, room_finished}
use Rattle.routes_corners.specs.Handed.{Mutes, Fits, CellRows, Handed}
use Rattle.routes_corners.specs.Turning.{has_room}
use Rattle.routes_corners.proofs.HandedLaws.{cells_more}
use Rattle.routes_ports.specs.Ports.{targets, suppress, ports_set}
use Rattle.routes_ports.specs.Settling.{ports_over, port_less}
use Rattle.routes_ports.proofs.SetLaws.{set-again}
use Rattle.routes_ports.proofs.Laid.{corners_keep, cornered, plan_ports}
use Rattle.routes_ports.proofs.Reading.{handed_over}
use Rattle.board.proofs.Reach.{All}
use Rattle.routes_plan_sheet.proofs.PlanRange.{plan_in_range}

-- Rows written over a table are there.
pub length-written {ℓ} : {A : Type ℓ} (row : A → List ℕ) (l : List A) (old : List (List ℕ)) → length (written_over row l old) ≡ length old
length-written row [] old = refl
length-written row (x ∷ l) old = length-set (written_over row l old) (length l) (row x) ∙ length-written row l old

-- Ports written over a table stand in it.
pub ports_length : (l : List Port) (old : List (List ℕ)) → length l ≤ length old → length (ports_over l old) ≡ length old
ports_length l old h = omega (arith, length-append (map port_row l) (drop (length l) old), length-map l port_row, length-drop (length l) old)

cells_written : (l : List Rerouter) (old : List (List ℕ)) → length l ≤ length old → All Fits l → CellRows l (written_over rerouter_row l old)
cells_written [] old h fit = tt
cells_written (k ∷ l) old h fit =
    let room : length l < length (written_over rerouter_row l old) = let e = length-written rerouter_row l old in omega arith in
    cells_more l (written_over rerouter_row l old) k room (fit k (Memᴰ.head refl)) (cells_written l old (omega arith) (λ x m. fit x (Memᴰ.tail m)))

-- The corner pass leaves the rerouters that there were.
pub record Longer (bus later : Bus) : Type 0 where
  pub new : List Rerouter
  pub rerouters : later.rerouters ≡ new ++ bus.rerouters

pub corners_longer : (b : Board) (bus : Bus) → Longer bus (corners b bus)
corners_longer b bus =
    corners_keep b (Longer bus) (λ r f k q. record { new = fed_by f k ∷ q.new; rerouters = ap (λ (l : List Rerouter). fed_by f k ∷ l) q.rerouters }) (λ r f w q. record { new = q.new; rerouters = q.rerouters })
    bus (record { new = []; rerouters = refl })

pub among_all : {A : Type 0} (new l : List A) {k : A} → Memᴰ k l → Memᴰ k (new ++ l)
among_all [] l m = m
among_all (j ∷ new) l m = Memᴰ.tail (among_all new l m)

-- Suppressing more ports leaves no fewer.
insert_longer : (p : Port) (l : List Port) → length l ≤ length (insert_port p l)
insert_longer p [] = omega arith
insert_longer p (q ∷ l) =
    let ih = insert_longer p l in by_test P (port_less p q) (λ e. omega arith) (λ e. by_test P (same_port p q) (λ f. omega arith) (λ f. omega arith))
  where
    P : List Port → Type 0
    P r = suc (length l) ≤ length r

suppress_longer : (old l : List Port) → length old ≤ length (suppress old l)
suppress_longer old [] = omega arith
suppress_longer old (p ∷ l) = omega (arith, suppress_longer old l, insert_longer p (suppress old l))

any-reverse : {A : Type 0} (p : A → Bool) (l : List A) → any p (reverse l) ≡ any p l
any-reverse p l = go (any p (reverse l)) refl (any p l) refl
  where
    go : (s : Bool) → any p (reverse l) ≡ s → (t : Bool) → any p l ≡ t → any p (reverse l) ≡ any p l
    go true e true f = e ∙ sym f
    go false e false f = e ∙ sym f
    go true e false f = clash e (none_counted p (reverse l) (count_reverse p l ∙ count_none p l f))
    go false e true f = clash f (none_counted p l (sym (count_reverse p l) ∙ count_none p (reverse l) e))

module _ (b : Board) (accepted : Accepted b) (ps : List PageLanes) (plan : plan_lanes b ≡ planned ps) where
  abbrev laid : Bus
  laid = bus_of b ps

  room : Room b laid (turnable b laid)
  room = room_to_turn b ps plan accepted

  pub laid_fits : All Fits laid.rerouters
  unfolding finished
  laid_fits k m =
      let r = (plan_in_range b accepted ps plan).ranges.rerouters k (let longer = corners_longer b laid in subst (λ (l : List Rerouter). Memᴰ k l) (sym longer.rerouters) (among_all longer.new laid.rerouters m)) in
      let x = r.x in
      let y = r.y in
      record { x_fits = omega arith; y_fits = omega arith }

  pub laid_handed : (old old_wires rerouters bus_wires : List (List ℕ)) → 5 * length b.wires ≤ length old → rerouters ≡ written_over rerouter_row laid.rerouters old → bus_wires ≡ written_over wire_row laid.wires old_wires
      → Handed laid old old_wires rerouters bus_wires (record { rerouters = length laid.rerouters; wires = length laid.wires })
  laid_handed old old_wires rerouters bus_wires h e f =
      let few = room.rerouters in
      record {
        held = record { rerouter_rows = e; wire_rows = f; rerouter_count = refl; wire_count = refl };
        rows = rw e (cells_written laid.rerouters old (omega arith) laid_fits);
      }

  pub laid_mutes : (ports oldPorts : List (List ℕ)) → length b.wires ≤ length oldPorts → ports ≡ ports_over laid.ports oldPorts → Mutes b laid ports (length laid.ports)
  unfolding muted
  laid_mutes ports oldPorts h e w i =
      let few = room.ports in
      let rows : length (map port_row laid.ports) ≡ length laid.ports = length-map laid.ports port_row in
      let long : length laid.ports ≤ length ports = rw e (let a = length-append (map port_row laid.ports) (drop (length laid.ports) oldPorts) in omega arith) in
      let seen : view port_in ports (length laid.ports) ≡ reverse laid.ports =
      view-take port_in ports (length laid.ports) long ∙ ap reverse (ap (λ (t : List (List ℕ)). ports_held t (length laid.ports)) e ∙ handed_over laid.ports oldPorts) in
      sym (ap (any (same_port (port_of b w))) seen ∙ any-reverse (same_port (port_of b w)) laid.ports)

  pub laid_room_lem : has_room (length b.wires) (record { rerouters = length laid.rerouters; bus_wires = length laid.wires; ports = length laid.ports }) (turnable b laid) ≡ true
  unfolding has_room
  laid_room_lem =
      let r = room.rerouters in
      let w = room.wires in
      let p = room.ports in
      rw (le-leb (length laid.rerouters + turnable b laid) (5 * length b.wires) r, le-leb (length laid.wires + 2 * turnable b laid) (6 * length b.wires) w, le-leb (length laid.ports + turnable b laid) (length b.wires) p) refl

  -- The finished bus, where the corners were laid and the ports settled.
  pub ports_grow : length laid.ports ≤ length (finished b ps).ports
  unfolding finished
  ports_grow = let c = (cornered b laid).ported.ports in omega (arith, suppress_longer laid.ports (targets (cornered b laid).ported.new), ap length c)

  pub laid_given : (ports oldPorts : List (List ℕ)) → ports ≡ ports_over laid.ports oldPorts → ports_set (ports_held ports (length laid.ports)) ≡ laid.ports
  laid_given ports oldPorts e =
      ap ports_set (ap (λ (t : List (List ℕ)). ports_held t (length laid.ports)) e ∙ handed_over laid.ports oldPorts ∙ (plan_ports b ps).laid) ∙ (set-again (targets laid.wires) ∙ sym (plan_ports b ps).laid)

  pub ports_finished : (ports oldPorts : List (List ℕ)) → ports ≡ ports_over laid.ports oldPorts → ports_over (finished b ps).ports ports ≡ ports_over (finished b ps).ports oldPorts
  ports_finished ports oldPorts e =
      let l : ℕ = length laid.ports in
      let f : ℕ = length (finished b ps).ports in
      let grow = ports_grow in
      let more : f ≡ l + (f - l) = omega arith in
      let rows : length (map port_row laid.ports) ≡ l = length-map laid.ports port_row in
      let dropped : drop f (map port_row laid.ports ++ drop l oldPorts) ≡ drop f oldPorts =
      ap (λ (k : ℕ). drop k (map port_row laid.ports ++ drop l oldPorts)) (more ∙ ap (λ (k : ℕ). k + (f - l)) (sym rows))
      ∙ drop-append-add (map port_row laid.ports) (drop l oldPorts) (f - l) ∙ drop-drop (f - l) l oldPorts ∙ ap (λ (k : ℕ). drop k oldPorts) (sym more) in
      ap (λ (t : List (List ℕ)). map port_row (finished b ps).ports ++ drop f t) e ∙ ap (λ (t : List (List ℕ)). map port_row (finished b ps).ports ++ t) dropped

  pub wires_fit_lem : (old_wires : List (List ℕ)) → 6 * length b.wires ≤ length old_wires → length (corners b laid).wires ≤ length old_wires
  unfolding finished
  wires_fit_lem old_wires h = let r = (room_finished b ps plan accepted).wires in omega arith

  pub sort_room : turnable b laid + length laid.ports ≤ length b.wires
  sort_room = let r = room.ports in omega arith

  pub laid_few : (length laid.rerouters ≤ 5 * length b.wires) × (length laid.wires ≤ 6 * length b.wires) × (length laid.ports ≤ length b.wires)
  laid_few = let r = room.rerouters in let w = room.wires in let p = room.ports in (omega arith, omega arith, omega arith)
