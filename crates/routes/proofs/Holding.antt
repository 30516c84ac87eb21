-- The buffers hold a bus: one rerouter and one bus wire more.
use Rattle.std.proofs.Common.{◌≡◌, ℕ, suc, ◌+◌, List, [], ◌∷◌, length, set, sym, refl, ap, ◌∙◌, add-one}
use Rattle.std.specs.Option.{unwrap_or}
use Rattle.sheet.specs.Table.{MISSING}
use Rattle.routes.specs.Bus.{rerouter, onward, fed_by}
use Rattle.routes.specs.Buffers.{outward, rerouter_row, wire_row}
use Rattle.routes.specs.Tables.{written_over}
use Rattle.routes.specs.declared.bus.End.{End}
use Rattle.routes.specs.declared.bus.End.TheVariants.{Port, Rerouter as AtRerouter}
use Rattle.routes.specs.declared.bus.Feed.{Feed}
use Rattle.routes.specs.declared.bus.Rerouter.{Rerouter}
use Rattle.routes.specs.declared.bus.BusCount.{BusCount}
use Rattle.routes.specs.Holding.{end_node, end_port, end_of, feed_of, rerouter_of, Placing}

onward_row : (e : End) (n : ℕ) → wire_row (record { source = end_of e; target = rerouter n; carries = onward }) ≡ end_node e ∷ end_port e ∷ n ∷ MISSING ∷ MISSING ∷ MISSING ∷ []
onward_row (Port m p) n = refl
onward_row (AtRerouter k) n = refl

-- `push_bus_node` wrote the rerouter's row and the bus wire's, whose numbers its calls gave.
module _ (rerouters wires : List (List ℕ)) (count : BusCount) (feed : Feed) (k : Rerouter) (x y z lane beside en ep : ℕ)
    (ex : x ≡ outward k.x) (ey : y ≡ outward k.y) (ez : z ≡ outward k.z)
    (el : lane ≡ unwrap_or k.lane MISSING) (ew : beside ≡ unwrap_or k.row MISSING) (een : en ≡ end_node feed.end) (eep : ep ≡ end_port feed.end) where
  pub placing : Placing rerouters wires count feed k
      (record { count = record { rerouters = count.rerouters + 1; wires = count.wires + 1 }; feed = record { end = AtRerouter (record { 0 = count.rerouters }); depth = feed.depth + 1 } })
      (set rerouters count.rerouters (x ∷ y ∷ z ∷ k.rotation ∷ k.role ∷ k.part ∷ k.colour.0 ∷ k.page ∷ lane ∷ beside ∷ (feed.depth + 1) ∷ []))
      (set wires count.wires (en ∷ ep ∷ count.rerouters ∷ MISSING ∷ MISSING ∷ MISSING ∷ []))
  placing =
      record {
        row = row;
        wire_count = add-one count.wires;
        rerouter_count = add-one count.rerouters;
        gives = λ i. record { end = rerouter count.rerouters; depth = add-one feed.depth i };
        held = λ bus old old_wires h.
            record {
              rerouter_rows = row ∙ (λ i. set (h.rerouter_rows i) (h.rerouter_count i) (rerouter_row (fed_by (feed_of feed) (rerouter_of k))));
              wire_rows = (λ i. set (h.wire_rows i) (h.wire_count i) (een i ∷ eep i ∷ h.rerouter_count i ∷ MISSING ∷ MISSING ∷ MISSING ∷ []))
                  ∙ ap (set (written_over wire_row bus.wires old_wires) (length bus.wires)) (sym (onward_row feed.end (length bus.rerouters)));
              rerouter_count = add-one count.rerouters ∙ ap suc h.rerouter_count;
              wire_count = add-one count.wires ∙ ap suc h.wire_count;
            };
      }
    where
      row : set rerouters count.rerouters (x ∷ y ∷ z ∷ k.rotation ∷ k.role ∷ k.part ∷ k.colour.0 ∷ k.page ∷ lane ∷ beside ∷ (feed.depth + 1) ∷ [])
          ≡ set rerouters count.rerouters (rerouter_row (fed_by (feed_of feed) (rerouter_of k)))
      row = λ i. set rerouters count.rerouters (ex i ∷ ey i ∷ ez i ∷ k.rotation ∷ k.role ∷ k.part ∷ k.colour.0 ∷ k.page ∷ el i ∷ ew i ∷ add-one feed.depth i ∷ [])
