-- Laws of the packing step.
use mathlib.Core.Path.{◌≡◌, refl, sym, ◌∙◌}
use mathlib.Core.Bool.{Bool, true, false}
use Prim.Native.Nat.{ℕ, ◌≤◌, ◌<◌}
use native.Mathlib.Omega.{arith}
use lib.Dec.{ltb}
use lib.ListN.{length-take}
use borrow.Author.Tests.{lt-ltb, ltb-true, ltb-false}
use Rattle.lanes.specs.Lanes.{lane_most, lane_for, with_tenant}
use Rattle.lanes.specs.Table.{open_ends, seat_of, TookLane}
use Rattle.lanes.specs.declared.table.LaneTable.{LaneTable}
use Rattle.lanes.specs.declared.table.Taken.{Taken}
use Rattle.std.specs.Prelude.{Some, None}
use Rattle.base.proofs.Bools.{never}
use Rattle.lanes.proofs.FindLaws.{first_within}
use Rattle.lanes.proofs.LaneLaws.{ends_before}

pub lane_within : (t : LaneTable) (first l : ℕ) → l ≡ lane_for first (open_ends t) → l ≤ t.count
unfolding lane_for
lane_within t first l e = omega (arith, e, first_within (ends_before first) (open_ends t), length-take t.count t.ends)

module _ (t : LaneTable) (first last l : ℕ) (e : l ≡ lane_for first (open_ends t)) where
  pub took_lane : (next : LaneTable) → l < lane_most → open_ends next ≡ with_tenant l last (open_ends t) → next.count ≤ lane_most
      → TookLane t first last (record { table = next; seat = Some l })
  took_lane next h p b = record { seat = rw (← e, lt-ltb l lane_most h); ends = rw (← e, lt-ltb l lane_most h) p; bounded = b }

-- what a seat says
seat_lane : (l lane : ℕ) → seat_of l ≡ Some lane → (lane ≡ l) × (l < lane_most)
seat_lane l lane h = go (ltb l lane_most) refl
  where
    go : (b : Bool) → ltb l lane_most ≡ b → (lane ≡ l) × (l < lane_most)
    go true t = let e : Some l ≡ Some lane = rw t at h in (cc, ltb-true l lane_most t)
    go false t = let e : None ≡ Some lane = rw t at h in never cc

seat_none : (l : ℕ) → seat_of l ≡ None → lane_most ≤ l
seat_none l h = go (ltb l lane_most) refl
  where
    go : (b : Bool) → ltb l lane_most ≡ b → lane_most ≤ l
    go true t = let e : Some l ≡ None = rw t at h in never cc
    go false t = ltb-false l lane_most t

-- what a step says to its caller
module _ (t : LaneTable) (first last : ℕ) (r : Taken) (took : TookLane t first last r) where
  pub took_none_of : r.seat ≡ None → lane_most ≤ lane_for first (open_ends t)
  took_none_of h = seat_none (lane_for first (open_ends t)) (sym took.seat ∙ h)

  module _ (lane : ℕ) (h : r.seat ≡ Some lane) where
    pub took_which : lane ≡ lane_for first (open_ends t)
    took_which = (seat_lane (lane_for first (open_ends t)) lane (sym took.seat ∙ h)).0

    pub took_below : lane < lane_most
    took_below = omega (arith, took_which, (seat_lane (lane_for first (open_ends t)) lane (sym took.seat ∙ h)).1)

    pub took_ends : open_ends r.table ≡ with_tenant lane last (open_ends t)
    took_ends = took.ends ∙ rw (← took_which, lt-ltb lane lane_most took_below)
