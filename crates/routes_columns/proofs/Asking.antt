-- What the code asks of a tap is what the rules ask.
use Prim.Native.Nat.{ℕ, suc, ◌+◌, ◌-◌, ◌≤◌, ◌<◌}
use mathlib.Core.Path.{◌≡◌, refl, ap, sym, subst, ◌∙◌}
use mathlib.Core.Bool.{Bool, true, false, not, ◌&&◌}
use mathlib.Core.List.{List, [], ◌∷◌}
use native.Mathlib.Omega.{arith}
use lib.Dec.{eqb}
use lib.ListN.{length, get_or, set}
use Rattle.std.specs.Prelude.{Option}
use Rattle.std.specs.Option.{is_some, unwrap_or}
use Rattle.sheet.specs.Table.{MISSING}
use Rattle.base.specs.Lists.{Found, none, at, found}
use Rattle.board.specs.Board.{Board, placed}
use Rattle.board.specs.Rows.{REROUTER_SIZE}
use Rattle.board.specs.Groups
use Rattle.board.specs.Groups.{source_row}
use Rattle.board.specs.Demands.{PageLanes}
use Rattle.board.specs.Index.{found_of}
use Rattle.board.specs.Tables.{held, flag, tap_in}
use Rattle.routes.specs.Stops.{new_group, new_row}
use Rattle.routes.specs.Levels.{Level, Stop, is_own, unclaimed, lane_for}
use Rattle.routes.specs.Rerouters.{TAP_RESERVE, source}
use Rattle.routes_taps.specs.declared.taps.Lane.{Lane}
use Rattle.routes_taps.specs.declared.taps.Tap.{Tap}
use Rattle.routes.specs.declared.news.News.{News}
use Rattle.routes.specs.News.{begins_group, begins_row, NewsOf}
use Rattle.routes_taps.specs.Taps.{tap_of, tap_read, lane_read, LaneOf}
use Rattle.routes_taps.specs.Asking
use Rattle.routes_taps.specs.Asking.{served_at, is_kept, claim_if, head_here, link_here, headed, ask_tap, question_row, source_x}
use Rattle.routes_columns.specs.declared.claims.ClaimRuns.{ClaimRuns}
use Rattle.routes_columns.specs.declared.columns.Claimed.{Claimed}
use Rattle.routes_columns.specs.Columns.{lane_key, claim_at, claimed_if, SamePlaces, ClaimsHeld, ClaimRoom, Claiming, TwoMore, head_in, headed_in, link_in, linked_in, TapTold, TapAsked, row_in, NextAsked}
use Rattle.routes_columns.proofs.Claiming.{claim_held, one_claim}

-- The run of a tap's lane, by what the code read of the tap.
pub lane_keyed : (pages nodes wires facts groups laid : List (List ℕ)) (k : ℕ) (t : Tap) (l : Lane) → t ≡ tap_read (get_or laid k []) → l ≡ lane_read pages nodes wires facts groups t.page t.group
    → (t.page ≡ get_or (get_or laid k []) 0 0) × (l.lane ≡ get_or (get_or groups (get_or (get_or laid k []) 1 0) []) 4 0)
lane_keyed pages nodes wires facts groups laid k t l et el =
    (ap (λ (u : Tap). u.page) et, ap (λ (v : Lane). v.lane) el ∙ ap (λ (u : Tap). get_or (get_or groups u.group []) 4 0) et)

-- Two steps that leave the runs in their places.
pub both_same : {old between new : ClaimRuns} → SamePlaces old between → SamePlaces between new → SamePlaces old new
both_same p q = record { starts = q.starts ∙ p.starts; nexts_long = q.nexts_long ∙ p.nexts_long; xs_long = q.xs_long ∙ p.xs_long }

-- The head asked, then the link.
module _ (t : Tap) (l : Lane) (news : News) (level : Level) {starts nexts xs nexts₁ xs₁ nexts₂ xs₂ : List ℕ} {k served : ℕ} {keeps head link : Bool} (few : l.lane < 512) (e : k ≡ lane_key t.page l.lane)
    (room : ClaimRoom 2 starts nexts xs (lane_key t.page l.lane)) (asked₁ : Claiming starts k l.source_x (begins_group news && not (eqb l.source_x MISSING)) nexts xs nexts₁ xs₁ head) (long : length nexts₁ ≡ length nexts)
    (eServed : served ≡ served_at level) (eOwn : keeps ≡ is_own level) (asked₂ : Claiming starts k (served + 2) (begins_row news && keeps) nexts₁ xs₁ nexts₂ xs₂ link) where
  two_more : TwoMore (lane_key t.page l.lane) nexts nexts₂
  two_more =
      let next = room.next in
      let a = one_claim (omega (arith, e)) asked₁ in
      let b = one_claim (omega (arith, e)) asked₂ in
      let a₀ = a.0 in
      let a₁ = a.1 in
      let b₀ = b.0 in
      let b₁ = b.1 in
      subst (λ (q : ℕ). TwoMore q nexts nexts₂) e (record { least = omega arith; most = omega arith; others = λ j z. b.2 j z ∙ a.2 j z })

  told : (pages : ℕ) (claims : List Stop) → t.page < pages → ClaimsHeld pages claims starts nexts xs → TapTold t l news level pages claims starts nexts₂ xs₂ (record { head = head; link = link })
  told pages claims on c =
      let open₀ : get_or nexts k 0 + 2 ≤ get_or starts (suc k) 0 = subst (λ (q : ℕ). get_or nexts q 0 + 2 ≤ get_or starts (suc q) 0) (sym e) room.room in
      let next = room.next in
      let more = (one_claim (omega (arith, e)) asked₁).1 in
      let first = claim_held c t l.lane l.source_x on few e (omega arith) asked₁ in
      let second = claim_held first.1 t l.lane (served + 2) on few e (omega arith) asked₂ in
      let headed_same : claimed_if head (claim_at t l.lane l.source_x) claims ≡ headed_in t l news level claims = ap (λ so. claimed_if so (claim_at t l.lane l.source_x) claims) first.0 in
      let link_same : link ≡ link_in t l news level claims = second.0 ∙ (λ i. begins_row news && eOwn i && unclaimed (headed_same i) t.page l.lane (eServed i + 2)) in
      record {
        head = first.0;
        link = link_same;
        held = subst (λ (r : List Stop). ClaimsHeld pages r starts nexts₂ xs₂) (λ i. claimed_if (link_same i) (claim_at t l.lane (eServed i + 2)) (headed_same i)) second.1;
      }

  pub tap_asked : TapAsked t l news level starts nexts xs nexts₂ xs₂ (record { head = head; link = link })
  tap_asked = record { more = two_more; told = told }

-- A row that may not be known.
row_known : (o : Option ℕ) (f : Found) → o ≡ found_of f → is_some o ≡ found f
row_known o none h = ap is_some h
row_known o (at r) h = ap is_some h

row_held : (o : Option ℕ) (f : Found) → o ≡ found_of f → unwrap_or o MISSING ≡ held f
row_held o none h = ap (λ (p : Option ℕ). unwrap_or p MISSING) h
row_held o (at r) h = ap (λ (p : Option ℕ). unwrap_or p MISSING) h

and_assoc : (a b c : Bool) → a && b && c ≡ a && (b && c)
and_assoc true b c = refl
and_assoc false b c = refl

module _ (b : Board) (ts : List Groups.Tap) (ps : List PageLanes) (ls : List Groups.Tap) (t : Tap) (l : Lane) (news : News) (level : Level) (lane : LaneOf b ts ps (tap_of t) l) (n : NewsOf ls (tap_of t) news) where
  claimed_as : (so : Bool) (x : ℕ) (claims : List Stop) → claimed_if so (claim_at t (lane_for ps (tap_of t)) x) claims ≡ claim_if b ts ps so (tap_of t) x claims
  claimed_as true x claims = refl
  claimed_as false x claims = refl

  head_same : (claims : List Stop) → head_in t l news level claims ≡ head_here b ts ps claims ls (tap_of t)
  unfolding head_here
  head_same claims =
      (λ i. n.group i && not (eqb (lane.source_x i) MISSING) && unclaimed claims t.page (lane.lane i) (lane.source_x i))
      ∙ and_assoc (new_group ls (tap_of t)) (placed b (source b ts ps (tap_of t))) (unclaimed claims t.page (lane_for ps (tap_of t)) (source_x b ts ps (tap_of t)))

  headed_same : (claims : List Stop) → headed_in t l news level claims ≡ headed b ts ps claims ls (tap_of t)
  headed_same claims =
      (λ i. claimed_if (head_same claims i) (claim_at t (lane.lane i) (lane.source_x i)) claims) ∙ claimed_as (head_here b ts ps claims ls (tap_of t)) (source_x b ts ps (tap_of t)) claims

  link_same : (claims : List Stop) → link_in t l news level claims ≡ link_here b ts ps (headed b ts ps claims ls (tap_of t)) ls (tap_of t) level
  unfolding link_here
  link_same claims =
      (λ i. n.row i && is_own level && unclaimed (headed_same claims i) t.page (lane.lane i) (served_at level + REROUTER_SIZE))
      ∙ and_assoc (new_row ls (tap_of t)) (is_own level) (unclaimed (headed b ts ps claims ls (tap_of t)) t.page (lane_for ps (tap_of t)) (served_at level + REROUTER_SIZE))

  linked_same : (claims : List Stop)
      → linked_in t l news level claims
      ≡ claim_if b ts ps (link_here b ts ps (headed b ts ps claims ls (tap_of t)) ls (tap_of t) level) (tap_of t) (served_at level + REROUTER_SIZE) (headed b ts ps claims ls (tap_of t))
  linked_same claims =
      (λ i. claimed_if (link_same claims i) (claim_at t (lane.lane i) (served_at level + REROUTER_SIZE)) (headed_same claims i))
      ∙ claimed_as (link_here b ts ps (headed b ts ps claims ls (tap_of t)) ls (tap_of t) level) (served_at level + REROUTER_SIZE) (headed b ts ps claims ls (tap_of t))

  row_same : (a : Asking.Asking) (head link : Bool) → head ≡ head_in t l news level a.claims → link ≡ link_in t l news level a.claims
      → row_in l news level head link ≡ question_row b ts ps a ls (tap_of t) level
  row_same a head link eh el =
      λ i.
      flag ((eh ∙ head_same a.claims) i)
      ∷ flag ((el ∙ link_same a.claims) i)
      ∷ flag ((eh ∙ head_same a.claims) i && row_known l.source_row (source_row b t.group t.page) lane.row i)
      ∷ flag (n.column i && is_kept level)
      ∷ row_held l.source_row (source_row b t.group t.page) lane.row i
      ∷ lane.source_x i
      ∷ (lane.source_y i - TAP_RESERVE)
      ∷ served_at level
      ∷ []

  next_as : {starts nexts xs nexts' xs' : List ℕ} {k : ℕ} {q : Claimed} {asked : List (List ℕ)} {row : List ℕ} → TapAsked t l news level starts nexts xs nexts' xs' q
      → row ≡ row_in l news level q.head q.link → NextAsked b ts ps ls (tap_of t) level k starts nexts xs asked nexts' xs' (set asked k row)
  unfolding ask_tap
  next_as {starts} {nexts} {xs} {nexts'} {xs'} {k} {q} {asked} {row} tap er =
      record {
        claims = λ pages a on c. subst (λ (r : List Stop). ClaimsHeld pages r starts nexts' xs') (linked_same a.claims) (tap.told pages a.claims on c).held;
        row = λ pages a on c. let told = tap.told pages a.claims on c in ap (set asked k) (er ∙ row_same a q.head q.link told.head told.link);
      }

-- The same of the tap as it was read.
pub next_asked : (b : Board) (ts : List Groups.Tap) (ps : List PageLanes) (ls : List Groups.Tap) (read : List ℕ) (t : Tap) (l : Lane) (news : News) (level : Level) → t ≡ tap_read read → LaneOf b ts ps (tap_of t) l → NewsOf ls (tap_in read) news
    → {starts nexts xs nexts' xs' : List ℕ} {k : ℕ} {q : Claimed} {asked : List (List ℕ)} {row : List ℕ} → TapAsked t l news level starts nexts xs nexts' xs' q
    → row ≡ row_in l news level q.head q.link → NextAsked b ts ps ls (tap_in read) level k starts nexts xs asked nexts' xs' (set asked k row)
next_asked b ts ps ls read t l news level et lane n {starts} {nexts} {xs} {nexts'} {xs'} {k} {q} {asked} {row} tap er =
    let same : tap_of t ≡ tap_in read = ap tap_of et in
    subst (λ (u : Groups.Tap). NextAsked b ts ps ls u level k starts nexts xs asked nexts' xs' (set asked k row)) same
    (next_as b ts ps ls t l news level lane (subst (λ (u : Groups.Tap). NewsOf ls u news) (sym same) n) tap er)
