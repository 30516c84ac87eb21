-- By the right answers the emission is that of the rules: what the bus says of columns and rows is what the claims and the placed candidates say.
use Rattle.base.proofs.Bools.{clash}
use Prim.Native.Nat.{ℕ, zero, suc, ◌+◌, ◌-◌, ◌<◌}
use mathlib.Core.Path.{◌≡◌, refl, ap, sym, ◌∙◌}
use mathlib.Core.Bool.{Bool, true, false, not, ◌&&◌, ◌||◌}
use mathlib.Core.List.{List, [], ◌∷◌}
use native.Mathlib.Omega.{arith}
use lib.Dec.{eqb}
use lib.ListN.{get_or}
use borrow.Author.Tests.{ne_eqb}
use Rattle.sheet.specs.Table.{MISSING}
use Rattle.base.specs.Lists.{Found, none, at, found, any}
use Rattle.base.specs.Views.{view}
use Rattle.base.proofs.Every.{All}
use Rattle.board.specs.Board.{Board, placed, y_of}
use Rattle.board.specs.Rows.{Cell, REROUTER_SIZE, cells_overlap, rerouter_cell, brick_cell, bricks_in}
use Rattle.board.specs.Groups.{Tap, source_row}
use Rattle.board.specs.Demands.{PageLanes}
use Rattle.board.specs.Tables.{held, tap_in}
use Rattle.routes.specs.Stops.{near, new_group, new_row, new_column}
use Rattle.routes.specs.Levels.{Level, dropped, shared, own, Stop, is_own, claim_near, unclaimed, lane_for}
use Rattle.routes.specs.Bus.{Bus, Feed, Rerouter, place, deliver, empty_bus, beside_row, clear_of_row, part_head, part_link}
use Rattle.routes.specs.Rerouters.{Emission, TAP_RESERVE, rerouter_near, column_free, source, level_here, stops_before, lane_rerouter, row_rerouter, head_rerouter, link_rerouter, tap_rerouter, source_rerouter, gate_side_rerouter, clear_for, hang_on, tap_off, chain_on, with_source, start_group, with_link, start_row, with_gate_side, serve, emit_tap, emit}
use Rattle.routes_taps.specs.Asking.{Candidate, is_clear, booked, Answers, Asking, candidate_if, served_at, is_kept, claim, claim_if, source_x, head_here, link_here, asks_source, source_candidate, gate_side_candidate, headed, sourced, ask_tap, answers_of, ask, source_by, at_port, group_by, link_by, row_by, serve_by, tap_by, emit_by, Right}

-- A tap has a row, and its source too where that is known.
pub record RowsThere (b : Board) (t : Tap) : Type 0 where
  pub row : t.row ≡ MISSING → ⊥
  pub source : (r : ℕ) → source_row b t.group t.page ≡ at r → r ≡ MISSING → ⊥

pub rows_in_view : (b : Board) (laid : List (List ℕ)) (n : ℕ) → ((k : ℕ) → k < n → RowsThere b (tap_in (get_or laid k []))) → All (RowsThere b) (view tap_in laid n)
rows_in_view b laid zero h = tt
rows_in_view b laid (suc n) h = (h n (omega arith), rows_in_view b laid n (λ k below. h k (omega arith)))

-- Whether a candidate that is placed stands in a cell of a row, as `beside_row` says of a rerouter.
abbrev stands_beside : ℕ → ℕ → Cell → Candidate → Bool
stands_beside p r cell d = eqb d.page p && eqb d.row r && cells_overlap (rerouter_cell d.x d.y) cell

-- What the bus says of columns and rows is what the claims and the placed candidates say.
record Met (stops : List Stop) (bus : Bus) (claims : List Stop) (done : List Candidate) : Type 0 where
  columns : (p lane x : ℕ) → column_free stops bus p lane x ≡ unclaimed claims p lane x
  rows : (p r : ℕ) (cell : Cell) → (r ≡ MISSING → ⊥) → any (beside_row p r cell) bus.rerouters ≡ any (stands_beside p r cell) done

-- One more that is near, or none more.
one_more : (u r c n : Bool) → u && not r ≡ not c → u && not (n || r) ≡ not (n || c)
one_more u r c false h = h
one_more true r c true h = refl
one_more false r c true h = refl

none_more : (u r n : Bool) → n ≡ false → u && not (n || r) ≡ u && not r
none_more u r n e = ap (λ m. u && not (m || r)) e

and_yes : (a : Bool) → a && true ≡ a
and_yes true = refl
and_yes false = refl

and_no : (a : Bool) → a && false ≡ false
and_no true = refl
and_no false = refl

-- A rerouter that no column is asked for, and one that no row is.
abbrev Aside : Rerouter → Type 0
Aside k = (p lane x : ℕ) → rerouter_near p lane x k ≡ false

not_beside : (k : Rerouter) (p r : ℕ) (cell : Cell) → k.row ≡ MISSING → (r ≡ MISSING → ⊥) → beside_row p r cell k ≡ false
not_beside k p r cell e ne =
    ap (λ c. eqb k.page p && c && cells_overlap (rerouter_cell k.x k.y) cell) (ne_eqb k.row r (λ z. ne (sym z ∙ e)))
    ∙ ap (λ c. c && cells_overlap (rerouter_cell k.x k.y) cell) (and_no (eqb k.page p))

module _ (stops : List Stop) (bus : Bus) (claims : List Stop) (done : List Candidate) (m : Met stops bus claims done) (feed : Feed) (k : Rerouter) where
  columns_stay : Aside k → (p lane x : ℕ) → column_free stops (place bus feed k) p lane x ≡ unclaimed claims p lane x
  unfolding column_free
  columns_stay aside p lane x =
      none_more (unclaimed stops p lane x) (any (rerouter_near p lane x) bus.rerouters) (rerouter_near p lane x k) (aside p lane x) ∙ m.columns p lane x

  rows_stay : k.row ≡ MISSING → (p r : ℕ) (cell : Cell) → (r ≡ MISSING → ⊥) → any (beside_row p r cell) (place bus feed k).rerouters ≡ any (stands_beside p r cell) done
  rows_stay e p r cell ne = ap (λ c. c || any (beside_row p r cell) bus.rerouters) (not_beside k p r cell e ne) ∙ m.rows p r cell ne

  -- Heads and links: a claim more.
  met_claim : (s : Stop) → k.row ≡ MISSING → ((p lane x : ℕ) → rerouter_near p lane x k ≡ claim_near p lane x s) → Met stops (place bus feed k) (s ∷ claims) done
  unfolding column_free unclaimed
  met_claim s e near' =
      record {
        columns = λ p lane x.
            one_more (unclaimed stops p lane x) (any (rerouter_near p lane x) bus.rerouters) (any (claim_near p lane x) claims) (rerouter_near p lane x k) (m.columns p lane x)
            ∙ ap (λ c. not (c || any (claim_near p lane x) claims)) (near' p lane x);
        rows = rows_stay e;
      }

  -- Taps: nothing more.
  met_tap : k.row ≡ MISSING → Aside k → Met stops (place bus feed k) claims done
  met_tap e aside = record { columns = columns_stay aside; rows = rows_stay e }

  -- Beside a row: a candidate more.
  met_row : (c : Candidate) → Aside k → ((p r : ℕ) (cell : Cell) → beside_row p r cell k ≡ stands_beside p r cell c) → Met stops (place bus feed k) claims (c ∷ done)
  met_row c aside same =
      record {
        columns = columns_stay aside;
        rows = λ p r cell ne. ap (λ v. v || any (beside_row p r cell) bus.rerouters) (same p r cell) ∙ ap (λ v. stands_beside p r cell c || v) (m.rows p r cell ne);
      }

met_delivered : (b : Board) (stops : List Stop) (bus : Bus) (claims : List Stop) (done : List Candidate) (feed : Feed) (w : ℕ) → Met stops bus claims done → Met stops (deliver b bus feed w) claims done
unfolding column_free
met_delivered b stops bus claims done feed w m = record { columns = m.columns; rows = m.rows }

met_empty : (stops : List Stop) → Met stops empty_bus stops []
unfolding column_free
met_empty stops = record { columns = λ p lane x. and_yes (unclaimed stops p lane x); rows = λ p r cell ne. refl }

-- A candidate's row is clear by the bus if it is by those that are placed.
clear_same : (b : Board) (stops : List Stop) (bus : Bus) (claims : List Stop) (done : List Candidate) (c : Candidate) → (c.row ≡ MISSING → ⊥) → Met stops bus claims done
    → clear_of_row b bus c.page c.row (rerouter_cell c.x c.y) ≡ is_clear b done c
unfolding clear_of_row is_clear
clear_same b stops bus claims done c ne m =
    let cell : Cell = rerouter_cell c.x c.y in
    ap (λ v. not (any (λ i. cells_overlap (brick_cell b i) cell) (bricks_in b c.page c.row)) && not v) (m.rows c.page c.row cell ne)

among_chain : (a n : Bool) → a && true && n ≡ a && n
among_chain true n = refl
among_chain false n = refl

among_none : (a n : Bool) → a && false && n ≡ false
among_none true n = refl
among_none false n = refl

module _ (b : Board) (ts : List Tap) (ps : List PageLanes) (stops : List Stop) where
  -- The rerouters of each kind: what they are asked for.
  lane_claims : (t : Tap) (x rotation part : ℕ) → (eqb part part_head || eqb part part_link) ≡ true → (p lane v : ℕ)
      → rerouter_near p lane v (lane_rerouter b ts ps t x rotation part) ≡ claim_near p lane v (claim b ts ps t x)
  unfolding lane_rerouter
  lane_claims t x rotation part e p lane v =
      ap (λ c. eqb t.page p && eqb (lane_for ps t) lane && c && near v x) e ∙ among_chain (eqb t.page p && eqb (lane_for ps t) lane) (near v x)

  lane_row : (t : Tap) (x rotation part : ℕ) → (lane_rerouter b ts ps t x rotation part).row ≡ MISSING
  unfolding lane_rerouter
  lane_row t x rotation part = refl

  tap_aside : (t : Tap) (x : ℕ) → Aside (tap_rerouter b ts ps t x)
  unfolding lane_rerouter
  tap_aside t x p lane v = among_none (eqb t.page p && eqb (lane_for ps t) lane) (near v x)

  source_aside : (t : Tap) (r : ℕ) → Aside (source_rerouter b ts ps t r)
  unfolding row_rerouter
  source_aside t r p lane v = among_none (eqb t.page p && eqb MISSING lane) (near v (source_x b ts ps t))

  gate_side_aside : (t : Tap) (x : ℕ) → Aside (gate_side_rerouter b ts ps t x)
  unfolding row_rerouter
  gate_side_aside t x p lane v = among_none (eqb t.page p && eqb MISSING lane) (near v x)

  -- A step of the emission by answers is that of the rules, and the bus is still met.
  record Step (by rule : Emission) (claims : List Stop) (done : List Candidate) : Type 0 where
    same : by ≡ rule
    met : Met stops rule.bus claims done

  -- A rerouter beside a row, answered by x where the rules ask y.
  answered : (x y : Bool) (e e' : Emission) (claims : List Stop) (done : List Candidate) (c : Candidate) → y ≡ x → Met stops e.bus claims done → Met stops e'.bus claims (c ∷ done)
      → Step (elim x [ true ↦ e' | false ↦ e ]) (elim y [ true ↦ e' | false ↦ e ]) claims (elim x [ true ↦ c ∷ done | false ↦ done ])
  answered true true e e' claims done c h m m' = record { same = refl; met = m' }
  answered false false e e' claims done c h m m' = record { same = refl; met = m }
  answered true false e e' claims done c h m m' = clash h refl
  answered false true e e' claims done c h m m' = clash refl h

  module _ (t : Tap) (there : RowsThere b t) where
    -- The source rerouter.
    source_step : (e : Emission) (claims : List Stop) (cands : List Candidate) → Met stops e.bus claims (booked b cands)
        → Step (source_by b ts ps (asks_source b ts ps true t && is_clear b (booked b cands) (source_candidate b ts ps t)) e t) (with_source b ts ps e t) claims
        (booked b (candidate_if (asks_source b ts ps true t) (source_candidate b ts ps t) cands))
    unfolding with_source booked row_rerouter
    source_step e claims cands m = go (source_row b t.group t.page) there.source
      where
        cand : ℕ → Candidate
        cand r = record { page = t.page; row = r; x = source_x b ts ps t; y = y_of b (source b ts ps t) - TAP_RESERVE }

        with' : ℕ → Emission
        with' r = hang_on b ts ps e e.upstream (source_rerouter b ts ps t r)

        go : (f : Found) → ((r : ℕ) → f ≡ at r → r ≡ MISSING → ⊥)
            → Step (elim (found f && is_clear b (booked b cands) (cand (held f))) [ true ↦ with' (held f) | false ↦ e ])
            (elim f [ none ↦ e | at r ↦ elim (clear_for b ts ps e.bus (source_rerouter b ts ps t r)) [ true ↦ with' r | false ↦ e ] ])
            claims (booked b (candidate_if (found f) (cand (held f)) cands))
        go none ne = record { same = refl; met = m }
        go (at r) ne =
            answered (is_clear b (booked b cands) (cand r)) (clear_for b ts ps e.bus (source_rerouter b ts ps t r)) e (with' r) claims (booked b cands) (cand r)
            (clear_same b stops e.bus claims (booked b cands) (cand r) (ne r refl) m) m
            (met_row stops e.bus claims (booked b cands) m e.upstream (source_rerouter b ts ps t r) (cand r) (source_aside t r) (λ p q cell. refl))

    -- The head, by h where the rules ask k.
    abbrev head_by : Bool → Bool → Emission → Emission
    head_by h so e = elim h [ true ↦ let s = source_by b ts ps so e t in hang_on b ts ps s s.upstream (head_rerouter b ts ps t) | false ↦ e ]

    abbrev source_if : Bool → List Candidate → Bool
    source_if h cands = asks_source b ts ps h t && is_clear b (booked b cands) (source_candidate b ts ps t)

    head_step : (e : Emission) (claims : List Stop) (cands : List Candidate) (h k : Bool) → k ≡ h → Met stops e.bus claims (booked b cands)
        → Step (head_by h (source_if h cands) e) (elim k [ true ↦ let s = with_source b ts ps e t in hang_on b ts ps s s.upstream (head_rerouter b ts ps t) | false ↦ e ])
        (claim_if b ts ps h t (source_x b ts ps t) claims) (booked b (candidate_if (asks_source b ts ps h t) (source_candidate b ts ps t) cands))
    head_step e claims cands true true eq m =
        let q = source_step e claims cands m in
        let s : Emission = with_source b ts ps e t in
        record {
          same = ap (λ s. hang_on b ts ps s s.upstream (head_rerouter b ts ps t)) q.same;
          met = met_claim stops s.bus claims _ q.met s.upstream (head_rerouter b ts ps t) (claim b ts ps t (source_x b ts ps t)) (lane_row t _ _ _) (lane_claims t _ _ _ refl);
        }
    head_step e claims cands false false eq m = record { same = refl; met = m }
    head_step e claims cands true false eq m = clash eq refl
    head_step e claims cands false true eq m = clash refl eq

    -- A group's beginning, where g says that the tap is the first of it.
    abbrev head_if : Bool → List Stop → Bool
    head_if g claims = g && (placed b (source b ts ps t) && unclaimed claims t.page (lane_for ps t) (source_x b ts ps t))

    group_step : (e : Emission) (a : Asking) (told : Answers) (g : Bool) → told.head ≡ head_if g a.claims → told.source ≡ source_if (head_if g a.claims) a.candidates
        → Met stops e.bus a.claims (booked b a.candidates)
        → Step (elim g [ true ↦ group_by b ts ps told e t | false ↦ e ]) (elim g [ true ↦ start_group b ts ps stops e t | false ↦ e ])
        (claim_if b ts ps (head_if g a.claims) t (source_x b ts ps t) a.claims)
        (booked b (candidate_if (asks_source b ts ps (head_if g a.claims) t) (source_candidate b ts ps t) a.candidates))
    unfolding group_by start_group
    group_step e a told false eh es m = record { same = refl; met = m }
    group_step e a told true eh es m =
        let free : Bool = column_free stops e.bus t.page (lane_for ps t) (source_x b ts ps t) in
        let q = head_step (at_port b ts ps e t) a.claims a.candidates (head_if true a.claims) (placed b (source b ts ps t) && free)
        (ap (λ c. placed b (source b ts ps t) && c) (m.columns t.page (lane_for ps t) (source_x b ts ps t))) m in
        record { same = (λ i. head_by (eh i) (es i) (at_port b ts ps e t)) ∙ q.same; met = q.met }

    -- The link, and the tap after it.
    link_step : (e : Emission) (claims : List Stop) (done : List Candidate) (x : ℕ) (h k : Bool) → k ≡ h → Met stops e.bus claims done
        → Step (link_by b ts ps h e t x) (elim k [ true ↦ hang_on b ts ps e e.upstream (link_rerouter b ts ps t x) | false ↦ e ]) (claim_if b ts ps h t (x + REROUTER_SIZE) claims) done
    link_step e claims done x true true eq m =
        record { same = refl; met = met_claim stops e.bus claims done m e.upstream (link_rerouter b ts ps t x) (claim b ts ps t (x + REROUTER_SIZE)) (lane_row t _ _ _) (lane_claims t _ _ _ refl) }
    link_step e claims done x false false eq m = record { same = refl; met = m }
    link_step e claims done x true false eq m = clash eq refl
    link_step e claims done x false true eq m = clash refl eq

    abbrev link_if : Bool → List Stop → Level → Bool
    link_if r claims level = r && (is_own level && unclaimed claims t.page (lane_for ps t) (served_at level + REROUTER_SIZE))

    row_step : (e : Emission) (claims : List Stop) (done : List Candidate) (a : Answers) (r : Bool) (level : Level) → a.link ≡ link_if r claims level → Met stops e.bus claims done
        → Step (elim r [ true ↦ row_by b ts ps a e t level | false ↦ e ]) (elim r [ true ↦ start_row b ts ps stops e t level | false ↦ e ])
        (claim_if b ts ps (link_if r claims level) t (served_at level + REROUTER_SIZE) claims) done
    unfolding row_by start_row with_link
    row_step e claims done a false level eq m = record { same = refl; met = m }
    row_step e claims done a true dropped eq m = record { same = refl; met = m }
    row_step e claims done a true (shared x) eq m = record { same = refl; met = record { columns = m.columns; rows = m.rows } }
    row_step e claims done a true (own x) eq m =
        let free : Bool = unclaimed claims t.page (lane_for ps t) (x + REROUTER_SIZE) in
        let q = link_step e claims done x free (column_free stops e.bus t.page (lane_for ps t) (x + REROUTER_SIZE)) (m.columns t.page (lane_for ps t) (x + REROUTER_SIZE)) m in
        let s : Emission = with_link b ts ps stops e t x in
        record {
          same = ap (λ c. tap_off b ts ps (link_by b ts ps c e t x) (tap_rerouter b ts ps t x)) eq ∙ ap (λ s. tap_off b ts ps s (tap_rerouter b ts ps t x)) q.same;
          met = met_tap stops s.bus _ done q.met s.upstream (tap_rerouter b ts ps t x) (lane_row t _ _ _) (tap_aside t x);
        }

    -- The gate-side rerouter and the delivery.
    abbrev delivered : Emission → Emission
    delivered e = record { bus = deliver b e.bus e.row_end t.wire; upstream = e.upstream; stop_tap = e.stop_tap; row_end = e.row_end }

    abbrev beside_gate : ℕ → Candidate
    beside_gate x = record { page = t.page; row = t.row; x = x; y = t.y - TAP_RESERVE }

    gate_side_step : (e : Emission) (claims : List Stop) (cands : List Candidate) (told : Answers) (c : Bool) (x : ℕ)
        → told.gate_side ≡ c && is_clear b (booked b cands) (beside_gate x) → Met stops e.bus claims (booked b cands)
        → Step (serve_by b ts ps told e t x) (serve b ts ps e t c x) claims (booked b (candidate_if c (beside_gate x) cands))
    unfolding serve_by serve with_gate_side booked row_rerouter
    gate_side_step e claims cands told c x eq m = record { same = (λ i. delivered (chain_if (eq i))) ∙ ap delivered (go c).same; met = met_delivered b stops _ claims _ _ t.wire (go c).met }
      where
        done : List Candidate
        done = booked b cands

        chained : Emission
        chained = chain_on b ts ps e (gate_side_rerouter b ts ps t x)

        chain_if : Bool → Emission
        chain_if v = elim v [ true ↦ chained | false ↦ e ]

        clear : Bool
        clear = clear_for b ts ps e.bus (gate_side_rerouter b ts ps t x)

        go : (c : Bool) → Step (chain_if (c && is_clear b done (beside_gate x))) (elim c [ true ↦ chain_if clear | false ↦ e ]) claims (booked b (candidate_if c (beside_gate x) cands))
        go false = record { same = refl; met = m }
        go true =
            answered (is_clear b done (beside_gate x)) clear e chained claims done (beside_gate x) (clear_same b stops e.bus claims done (beside_gate x) there.row m) m
            (met_row stops e.bus claims done m e.row_end (gate_side_rerouter b ts ps t x) (beside_gate x) (gate_side_aside t x) (λ p q cell. refl))

    serve_step : (e : Emission) (claims : List Stop) (cands : List Candidate) (told : Answers) (c : Bool) (level : Level)
        → told.gate_side ≡ (c && is_kept level) && is_clear b (booked b cands) (gate_side_candidate b ts ps t level) → Met stops e.bus claims (booked b cands)
        → Step (elim level [ dropped ↦ e | shared x ↦ serve_by b ts ps told e t x | own x ↦ serve_by b ts ps told e t x ]) (elim level [ dropped ↦ e | shared x ↦ serve b ts ps e t c x | own x ↦ serve b ts ps e t c x ])
        claims (booked b (candidate_if (c && is_kept level) (gate_side_candidate b ts ps t level) cands))
    serve_step e claims cands told true dropped eq m = record { same = refl; met = m }
    serve_step e claims cands told false dropped eq m = record { same = refl; met = m }
    serve_step e claims cands told true (shared x) eq m = gate_side_step e claims cands told true x eq m
    serve_step e claims cands told false (shared x) eq m = gate_side_step e claims cands told false x eq m
    serve_step e claims cands told true (own x) eq m = gate_side_step e claims cands told true x eq m
    serve_step e claims cands told false (own x) eq m = gate_side_step e claims cands told false x eq m

  -- A tap.
  tap_step : (e : Emission) (a : Asking) (l : List Tap) (t : Tap) (level : Level) → RowsThere b t → Met stops e.bus a.claims (booked b a.candidates)
      → Step (tap_by b ts ps (answers_of b ts ps a l t level) e l t level) (emit_tap b ts ps stops e l t level)
      (ask_tap b ts ps a l t level).claims (booked b (ask_tap b ts ps a l t level).candidates)
  unfolding tap_by emit_tap ask_tap answers_of head_here link_here
  tap_step e a l t level there m =
      let told : Answers = answers_of b ts ps a l t level in
      let one = group_step t there e a told (new_group l t) refl refl m in
      let begun : Emission = elim (new_group l t) [ true ↦ start_group b ts ps stops e t | false ↦ e ] in
      let two = row_step t there begun (headed b ts ps a.claims l t) (booked b (sourced b ts ps a l t)) told (new_row l t) level refl one.met in
      let rowed : Emission = elim (new_row l t) [ true ↦ start_row b ts ps stops begun t level | false ↦ begun ] in
      let three = serve_step t there rowed (ask_tap b ts ps a l t level).claims (sourced b ts ps a l t) told (new_column l t) level refl two.met in
      record { same = ap (served told t level) (ap (rowed_by told t level (new_row l t)) one.same ∙ two.same) ∙ three.same; met = three.met }
    where
      rowed_by : Answers → Tap → Level → Bool → Emission → Emission
      rowed_by told t level r e = elim r [ true ↦ row_by b ts ps told e t level | false ↦ e ]

      served : Answers → Tap → Level → Emission → Emission
      served told t level e = elim level [ dropped ↦ e | shared x ↦ serve_by b ts ps told e t x | own x ↦ serve_by b ts ps told e t x ]

  emit_met : (l : List Tap) (sofar : List Stop) → All (RowsThere b) l
      → Met stops (emit b ts ps stops l sofar).bus (ask b ts ps stops l sofar).claims (booked b (ask b ts ps stops l sofar).candidates)
  unfolding emit ask booked
  emit_met [] sofar h = met_empty stops
  emit_met (t ∷ l) sofar h = (tap_step _ _ l t (level_here sofar) h.0 (emit_met l (stops_before (new_row l t) sofar) h.1)).met

  -- By the right answers the emission is that of the rules.
  pub emit_told : (told : ℕ → Answers) (l : List Tap) (sofar : List Stop) → All (RowsThere b) l → Right b ts ps told stops l sofar → emit_by b ts ps told l sofar ≡ emit b ts ps stops l sofar
  unfolding emit emit_by
  emit_told told [] sofar h right = refl
  emit_told told (t ∷ l) sofar h right =
      let before : List Stop = stops_before (new_row l t) sofar in
      (λ i. tap_by b ts ps (right.0 i) (emit_told told l before h.1 right.1 i) l t (level_here sofar))
      ∙ (tap_step (emit b ts ps stops l before) (ask b ts ps stops l before) l t (level_here sofar) h.0 (emit_met l before h.1)).same
