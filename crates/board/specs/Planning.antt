-- What every call of the router does first: the refusals in their order, and the lanes of the pages (`plan_bus`).
use Rattle.std.specs.Prelude.{ℕ, suc, ◌+◌, Bool, true, false, ◌&&◌, List, [], ◌∷◌, ◌++◌, map, leb, length, drop}
use Rattle.base.specs.declared.refusal.Reason.TheVariants.{NoRoom, NoLane}
use Rattle.base.specs.declared.refusal.Refusal.{Refusal}
use Rattle.base.specs.Refusal.{refusal}
use Rattle.sheet.specs.declared.Counts.{Counts}
use Rattle.board.specs.Board.{Board}
use Rattle.board.specs.Refusals.{Judged, turned_away, board, judged}
use Rattle.board.specs.Demands.{PageLanes, Planned, crowded, planned, plan_lanes, band}

-- How many records a board has.
unfoldable pub records : Board → ℕ
records b = length b.pages + length b.nodes + length b.chips + length b.inner + length b.execs + length b.wires

-- A refusal with its place, or the board with the lanes of its pages.
pub data Planning : Type 0 where
  refused : Refusal → Planning
  lanes_for : Board → List PageLanes → Planning

-- E8, E10: the place of an 8 is the page's line.
abbrev pub crowding : Board → Planned → Planning
crowding b (crowded p) = refused (refusal NoLane (suc p))
crowding b (planned ps) = lanes_for b ps

-- E7, E8: refusals 7 and 8 of a board, by a test of what is lent.
abbrev pub fitted : (Board → Bool) → Board → Planning
fitted fits b = elim (fits b) [ true ↦ crowding b (plan_lanes b) | false ↦ refused (refusal NoRoom 0) ]

abbrev pub judged_for : (Board → Bool) → Judged → Planning
judged_for fits (turned_away e) = refused e
judged_for fits (board b) = fitted fits b

-- E9: 1 to 6 of the sheet; 7, whose place is 0; 8.
unfoldable pub planning : Counts → (Board → Bool) → List ℕ → Planning
planning most fits text = judged_for fits (judged most text)

-- S15, S16: page answers and work space, which is lent in slices of rows, each with a row for each record; the least of them counts.
unfoldable pub fits_pages : ℕ → ℕ → Board → Bool
fits_pages answers work b = leb (length b.pages) answers && leb (records b) work

-- P7: a page answer: lanes, band.
abbrev pub page_row : PageLanes → List ℕ
page_row p = p.count ∷ band p.count ∷ []

-- E11, P8: the page answers as `plan_bus` leaves them: on a refusal as they were, else a row for each page and then the old rest.
unfoldable pub pages_after : Planning → List (List ℕ) → List (List ℕ)
pages_after (refused e) old = old
pages_after (lanes_for b ps) old = map page_row ps ++ drop (length ps) old
