-- Where a board's taps stand.
use Prim.Native.Nat.{ℕ, zero, suc}
use mathlib.Core.Path.{◌≡◌, refl, sym, subst}
use mathlib.Core.Logic.{⊎_elim}
use mathlib.Core.List.Memᴰ.{cases_cons as cases}
use mathlib.Core.List.Memᴰ.{not-nil as nowhere}
use mathlib.Core.List.{List, [], Memᴰ as Mem}
use lib.ListN.{length}
use Rattle.base.specs.Lists.{Found, none, at, fold, upto}
use Rattle.board.specs.Board.{Board, page_of, x_of, y_of, target_node, target_port}
use Rattle.board.specs.Rows.{row_of}
use Rattle.board.specs.Groups.{Tap, tap_for, add_wire, taps_of}
use Rattle.board.specs.Tables.{tap_target}
use Rattle.board_groups.proofs.TapLaws.{add_none, add_some}

-- A tap stands where its target anchor does, and names its wire's target.
pub record Stands (b : Board) (t : Tap) : Type 0 where
  pub target : ℕ
  pub carries : tap_target b t.wire ≡ at target
  pub page : t.page ≡ page_of b target
  pub row : t.row ≡ row_of b target
  pub x : t.x ≡ x_of b target
  pub y : t.y ≡ y_of b target
  pub node : t.node ≡ target_node b t.wire
  pub port : t.port ≡ target_port b t.wire

module _ (b : Board) where
  new_stands : (n : ℕ) (ts : List Tap) (a : ℕ) → tap_target b n ≡ at a → Stands b (tap_for b ts n a)
  unfolding tap_for
  new_stands n ts a e = record { target = a; carries = e; page = refl; row = refl; x = refl; y = refl; node = refl; port = refl }

  stands_upto : (n : ℕ) (t : Tap) → Mem t (fold (add_wire b) [] (upto n)) → Stands b t
  stands_upto zero t m = absurd (nowhere m)
  stands_upto (suc n) t m = go (tap_target b n) refl (stands_upto n)
    where
      go : (f : Found) → tap_target b n ≡ f → ((u : Tap) → Mem u (fold (add_wire b) [] (upto n)) → Stands b u) → Stands b t
      go none e ih = ih t (subst (Mem t) (add_none b n (fold (add_wire b) [] (upto n)) e) m)
      go (at a) e ih =
          ⊎_elim (λ q. subst (Stands b) (sym q) (new_stands n (fold (add_wire b) [] (upto n)) a e)) (λ o. ih t o)
          (cases (subst (Mem t) (add_some b n (fold (add_wire b) [] (upto n)) a e) m))

  pub tap_stands : (t : Tap) → Mem t (taps_of b) → Stands b t
  unfolding taps_of
  tap_stands t m = stands_upto (length b.wires) t m
