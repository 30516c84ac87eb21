use Prim.Native.Nat.{max}
use mathlib.Core.Path.{◌≡◌}
use native.Mathlib.Omega.{arith}
use native.Mathlib.Numerals.{add-one}
use lib.ListN.{length}
use Rattle.board.proofs.Faults.{ready_at, ready_next}
use Rattle.board.proofs.walks.skip_lines.Goals as goal

pub loop-k-init : goal.loop-k-init
loop-k-init c = let a = c.args in
    let same : max 0 (length a.rows.now) ≡ max (length a.rows.now) (length a.rows.now) = omega arith in
    (omega arith, ready_at a.text.now same c.requires.ready)

pub loop-k-preserved : goal.loop-k-preserved
loop-k-preserved c = let l = c.loop-k in (
  omega arith,
  rw (add-one l.k, c.row_of-place.ensures) (ready_next _ l.invariant.1 (omega (arith, c.requires.n_in_bounds))),
)

pub returns : goal.returns
returns c = let a = c.args in
    let l = c.loop-k in
    let same : max l.k (length a.rows.now) ≡ max a.n (length a.rows.now) = omega arith in
    ready_at a.text.now same l.invariant.1
