-- What is lent, and what planning a sheet's text leaves in the tables.
use Rattle.std.specs.Prelude.{ℕ, suc, ◌+◌, ◌*◌, ◌/◌, ◌≤◌, min, ◌≡◌, Bool, true, false, ◌&&◌, List, [], ◌∷◌, leb, length, get_or, Result, Ok, Err}
use Rattle.base.specs.declared.refusal.Reason.TheVariants.{NoRoom, NoLane}
use Rattle.base.specs.declared.refusal.Refusal.{Refusal}
use Rattle.base.specs.Refusal.{refusal}
use Rattle.sheet.specs.declared.Counts.{Counts}
use Rattle.sheet.specs.Table.{library_most}
use Rattle.board.specs.Board.{Board}
use Rattle.board.specs.Refusals.{Judged, turned_away, board, judged}
use Rattle.board.specs.Groups.{taps_of}
use Rattle.board.specs.Demands.{PageLanes, Planned, crowded, planned, plan_lanes}
use Rattle.board.specs.Planning.{records}
use Rattle.base.specs.Views.{view}
use Rattle.board.specs.Tables.{tap_in, NodeFacts, WireFacts, GroupFacts, PageFacts}
use Rattle.board_groups.specs.Collecting.{Indexes}
use Rattle.board.specs.Walk.{counts_in}
use Rattle.board.specs.Accepted.{Accepted}
use Rattle.board.specs.Sections.{SectionsIn}
use Rattle.board_lanes.specs.PagePlan.{Room}
use Rattle.board_plan.specs.declared.Lent.{Lent}
use Rattle.board_plan.specs.declared.Asked.{Asked}
use Rattle.board_plan.specs.declared.TextPlan.{TextPlan}

-- S16: no line of a plan sheet is longer; a plan has at most P + 12W + 1 lines.
abbrev pub LINE_MOST : ℕ
LINE_MOST = 128

-- S15, S16: whether enough is lent for so many wires, pages and records.
unfoldable pub has_room : Lent → ℕ → ℕ → ℕ → Bool
has_room lent wires pages records =
    leb (5 * wires) lent.rerouters && (leb (6 * wires) lent.bus_wires && (leb wires lent.ports && (leb pages lent.answers
    && (leb (LINE_MOST * (pages + 12 * wires + 1)) lent.out && leb records lent.work))))

unfoldable pub fits_counts : Lent → Counts → Bool
unfolding has_room
fits_counts lent c = has_room lent c.wires c.pages (c.pages + c.nodes + c.chips + c.inner + c.execs + c.wires)

unfoldable pub fits_lent : Lent → Board → Bool
unfolding fits_counts
fits_lent lent b = fits_counts lent (counts_in b)

-- S16: the rows of the shortest slice of work space, by the lengths of all.
unfoldable pub shortest : List ℕ → ℕ
shortest [] = 0
shortest (n ∷ []) = n
shortest (n ∷ m ∷ l) = min n (shortest (m ∷ l))

-- S16: so many rows of marks are lent for a record: with them the work space has 96 numbers for each.
abbrev pub MARK_ROWS : ℕ
MARK_ROWS = 5

-- S16: the records for which there is room in each slice of work space.
abbrev pub work_rows : (records facts taps groups demands keys marks : List (List ℕ)) → List ℕ
work_rows records facts taps groups demands keys marks =
    length records ∷ length facts ∷ length taps ∷ length groups ∷ length demands ∷ length keys ∷ length marks / MARK_ROWS ∷ []

-- What a call finds lent that writes no text: it plans as if the most were lent for that, so that only the named lengths (S15) decide.
abbrev pub lent_of : (rerouters bus_wires ports answers work : ℕ) → Lent
lent_of rerouters bus_wires ports answers work = record { rerouters = rerouters; bus_wires = bus_wires; ports = ports; answers = answers; work = work; out = 12591232 }

-- What such a call asks within the library's limits, by the lengths of the four buffers and the records for which there is room in each slice of work space.
abbrev pub asked_for : (buffers work : List ℕ) → Asked
asked_for buffers work = record { most = library_most; lent = lent_of (get_or buffers 0 0) (get_or buffers 1 0) (get_or buffers 2 0) (get_or buffers 3 0) (shortest work) }

-- So many rows stand in every slice of work space.
pub record WorkLent (work records : ℕ) (facts taps groups demands keys spare : List (List ℕ)) : Type 0 where
  pub records_lent : work ≤ records
  pub facts_lent : work ≤ length facts
  pub taps_lent : work ≤ length taps
  pub groups_lent : work ≤ length groups
  pub demands_lent : work ≤ length demands
  pub keys_lent : work ≤ length keys
  pub spare_lent : work ≤ length spare

-- A board that is read into rows, with its ids indexed, and room for its plan in the tables.
pub record BoardRead (b : Board) (rows : List (List ℕ)) (counts : Counts) (bodyIds innerIds facts taps groups demands keys spare : List (List ℕ)) : Type 0 where
  pub sections : SectionsIn b rows
  pub counted : counts ≡ counts_in b
  pub accepted : Accepted b
  pub indexes : Indexes b.nodes b.inner bodyIds innerIds
  pub room : Room b.pages b.nodes b.execs b.wires facts taps groups demands keys spare

-- A board that refusals 1 to 6 leave: its ids are indexed, and its records stand in rows if there is a row for each.
pub record BoardChecked (b : Board) (rows : List (List ℕ)) (counts : Counts) (bodyIds innerIds : List (List ℕ)) : Type 0 where
  pub counted : counts ≡ counts_in b
  pub accepted : Accepted b
  pub indexes : Indexes b.nodes b.inner bodyIds innerIds
  pub sections : records b ≤ length rows → SectionsIn b rows

-- 7 of a sheet that is judged.
abbrev pub lent_for : (Board → Bool) → Judged → Judged
lent_for fits (turned_away e) = turned_away e
lent_for fits (board b) = elim (fits b) [ true ↦ board b | false ↦ turned_away (refusal NoRoom 0) ]

-- Refusals 1 to 7 of a sheet.
unfoldable pub fitting : Counts → (Board → Bool) → List ℕ → Judged
fitting most fits text = lent_for fits (judged most text)

-- A board's records stand in rows, and the facts of its nodes and wires are known.
pub record FactsHold (b : Board) (rows facts : List (List ℕ)) : Type 0 where
  pub sections : SectionsIn b rows
  pub nodes_known : NodeFacts b facts
  pub wires_known : WireFacts b facts

-- What the tables hold of a board with its lanes.
pub record TablesHold (b : Board) (ps : List PageLanes) (rows facts taps groups : List (List ℕ)) (m : ℕ) : Type 0 where
  pub sections : SectionsIn b rows
  pub nodes_known : NodeFacts b facts
  pub wires_known : WireFacts b facts
  pub few : m ≤ length b.wires
  pub taps_are : view tap_in taps m ≡ taps_of b
  pub lanes_are : plan_lanes b ≡ planned ps
  pub groups_known : GroupFacts b ps groups
  pub pages_known : PageFacts ps facts

-- What `plan_text` answers and leaves: where a page is crowded, 8 at its line and the facts that do not wait for lanes.
abbrev pub LanesPlanned : Board → Planned → (rows facts taps groups : List (List ℕ)) → TextPlan → Type 0
LanesPlanned b (crowded p) rows facts taps groups r =
    (r ≡ record { counts = counts_in b; taps = Err (refusal NoLane (suc p)) }) × FactsHold b rows facts
LanesPlanned b (planned ps) rows facts taps groups r =
    (m : ℕ) × (r ≡ record { counts = counts_in b; taps = Ok m }) × TablesHold b ps rows facts taps groups m

abbrev pub TextPlanned : Judged → (rows facts taps groups : List (List ℕ)) → Result TextPlan Refusal → Type 0
TextPlanned (turned_away e) rows facts taps groups r = r ≡ Err e
TextPlanned (board b) rows facts taps groups r = (t : TextPlan) × (r ≡ Ok t) × LanesPlanned b (plan_lanes b) rows facts taps groups t
