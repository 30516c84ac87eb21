-- `find_hits`: the hits of a box on a sheet's plan, or a refusal; what it answers and what it leaves in the buffers.
use Rattle.std.specs.Prelude.{ℕ, ◌*◌, ◌≡◌, Bool, true, false, ◌&&◌, List, ◌++◌, leb, length, drop, Result, Ok, Err}
use Rattle.base.specs.declared.refusal.Reason.TheVariants.{BadBox}
use Rattle.base.specs.declared.refusal.Refusal.{Refusal}
use Rattle.base.specs.Refusal.{refusal}
use Rattle.sheet.specs.Table.{library_most}
use Rattle.board.specs.Board.{Board}
use Rattle.board_plan.specs.TextPlan.{shortest}
use Rattle.routes.specs.Route.{Routed, turned_away, plan, fits_plan, routed}
use Rattle.routes_gutter.specs.Calls.{bus_laid, rerouters_after, bus_wires_after, ports_after, answers_after}
use Rattle.routes_hits.specs.declared.boxes.PageBox.{PageBox}
use Rattle.routes_hits.specs.declared.find.HitsFound.{HitsFound}
use Rattle.routes_hits.specs.Hits.{on_board, hits, rerouters_under, wires_under}

-- H6: 9, tried after 8; its place is 0.
abbrev pub boxed : PageBox → Routed → Routed
boxed q (turned_away e) = turned_away e
boxed q (plan b ps bus laid) = elim (on_board q (length b.pages)) [ true ↦ plan b ps bus laid | false ↦ turned_away (refusal BadBox 0) ]

-- H7: numbers of the hit buffer for each wire.
abbrev pub HITS_A_WIRE : ℕ
HITS_A_WIRE = 21

-- H7, S15, S16: whether what is lent fits a board: the length of the hit buffer, and all that `route` is lent.
abbrev pub hits_fit : ℕ → ℕ → ℕ → ℕ → ℕ → List ℕ → Board → Bool
hits_fit room rerouters bus_wires ports answers work b =
    leb (HITS_A_WIRE * length b.wires) room && fits_plan rerouters bus_wires ports answers (shortest work) b

unfoldable pub hits_call : PageBox → List ℕ → (Board → Bool) → Routed
hits_call q text fits = boxed q (routed library_most fits text)

-- The answer: a refusal with its place; or the two counts of hits, how many rows of the plan there are, and how many groups were laid.
abbrev pub hits_answer : PageBox → Routed → Result HitsFound Refusal
hits_answer q (turned_away e) = Err e
hits_answer q (plan b ps bus laid) =
    Ok (record {
      hits = record { rerouters = rerouters_under q bus.rerouters; wires = wires_under q bus.rerouters bus.wires };
      laid = bus_laid bus laid;
    })

-- H8, P8: the hit buffer: on a refusal as it was, else the list in front and then the old rest.
abbrev pub hits_after : PageBox → Routed → List ℕ → List ℕ
hits_after q (turned_away e) old = old
hits_after q (plan b ps bus laid) old = hits q bus.rerouters bus.wires ++ drop (length (hits q bus.rerouters bus.wires)) old

-- What the call answers and leaves: the hits, and in the other buffers the plan, as `route` does.
pub record HitsCalled (q : PageBox) (call : Routed) (oldHits : List ℕ) (old old_wires oldPorts oldAnswers : List (List ℕ)) (after : List ℕ) (rerouters bus_wires ports answers : List (List ℕ)) (r : Result HitsFound Refusal) : Type 0 where
  pub answer : r ≡ hits_answer q call
  pub hits_are : after ≡ hits_after q call oldHits
  pub rerouters_are : rerouters ≡ rerouters_after call old
  pub wires_are : bus_wires ≡ bus_wires_after call old_wires
  pub ports_are : ports ≡ ports_after call oldPorts
  pub answers_are : answers ≡ answers_after call oldAnswers
