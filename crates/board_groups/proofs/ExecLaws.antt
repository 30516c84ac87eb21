-- The X records as sorted keys: what the place of a key among them tells.
use Prim.Native.Nat.{ℕ, ◌≤◌, ◌<◌}
use native.Mathlib.Omega.{arith}
use native.Mathlib.Decide.{dec_lt}
use mathlib.Core.Path.{◌≡◌, refl, sym, ◌∙◌}
use mathlib.Core.Bool.{Bool, true, false, ◌&&◌}
use mathlib.Core.List.{List}
use lib.Dec.{eqb}
use lib.ListN.{length, get_or, take}
use lib.Seq.{length-take-le}
use Rattle.std.proofs.lemmas.List.{get_or-take}
use Rattle.std.specs.Prelude.{Result, Ok, Err, is_ok, MatchResult}
use Rattle.std.specs.List.Sorted.{IsBinarySearchResult}
use Rattle.std.specs.Ordering.{nat_cmp}
use Rattle.std.proofs.lemmas.List.Sorted.{searched}
use borrow.Author.Tests.{eq-eqb}
use Rattle.base.specs.Lists.{any, upto}
use Rattle.base.specs.Keys.{Risen}
use Rattle.base.proofs.Bools.{clash, both}
use Rattle.base.proofs.Lists.{none_of, none_at_all, same_two}
use Rattle.base.proofs.Members.{upto_in, upto_below}
use Rattle.board.specs.Board.{field}
use Rattle.board_groups.specs.Collecting.{WORD, exec_key, ExecKeys}

abbrev pub Exec : List (List ℕ) → ℕ → ℕ → ℕ → Bool
Exec execs node port e = eqb (field execs e 1) node && eqb (field execs e 2) port

-- One number below n that passes the test.
any_one : (p : ℕ → Bool) (n e : ℕ) → e < n → p e ≡ true → any p (upto n) ≡ true
any_one p n e h t = go (any p (upto n)) refl
  where
    go : (a : Bool) → any p (upto n) ≡ a → a ≡ true
    go true q = refl
    go false q = clash t (none_of p q (upto_in n e h))

-- The keys of the first n X records, in order.
abbrev pub KeysUpto : List (List ℕ) → List ℕ → ℕ → Type 0
KeysUpto execs keys n = (e : ℕ) → e < n → (get_or keys e 0 ≡ exec_key (field execs e 1) (field execs e 2)) × (field execs e 2 < WORD)

-- The keys of the X records, sorted.
pub execs_sorted : (execs : List (List ℕ)) (given risen : List ℕ) → length execs ≤ length risen → Risen given risen (length execs)
    → KeysUpto execs given (length execs) → ExecKeys execs risen
execs_sorted execs given risen room r known =
    record {
      room = room;
      rising = r.rising;
      from = λ p h. let f = r.from p h in let k = known f.0 f.1 in (f.0, f.1, sym f.2 ∙ k.0, k.1);
      to = λ e h. let t = r.to e h in (t.0, t.1, t.2 ∙ (known e h).0);
    }

-- The keys of the X records without what stands behind them.
pub front_keys : (execs : List (List ℕ)) (keys : List ℕ) → ExecKeys execs keys → ExecKeys execs (take (length execs) keys)
front_keys execs keys known =
    let same : (p : ℕ) → p < length execs → get_or (take (length execs) keys) p 0 ≡ get_or keys p 0 = λ p h. get_or-take (length execs) keys p 0 h in
    record {
      room = omega (arith, length-take-le (length execs) keys known.room);
      rising = λ i j h l. let a = same i (omega arith) in let b = same j l in let r = known.rising i j h l in omega arith;
      from = λ p h. let f = known.from p h in (f.0, f.1, same p h ∙ f.2, f.3);
      to = λ e h. let t = known.to e h in (t.0, t.1, same t.0 t.1 ∙ t.2);
    }

-- What a search among the keys found tells whether an X names both.
module _ (execs : List (List ℕ)) (keys : List ℕ) (size : length keys ≡ length execs) (known : ExecKeys execs keys) (node port : ℕ) (less : port < WORD) where
  rising : (i j : ℕ) → i ≤ j → j < length keys → get_or keys i 0 ≤ get_or keys j 0
  rising i j h l = known.rising i j h (omega arith)

  unnamed : (p : ℕ) → ((k : ℕ) → k < p → get_or keys k 0 < exec_key node port) → ((k : ℕ) → p ≤ k → k < length keys → exec_key node port < get_or keys k 0)
      → (e : ℕ) → e < length execs → (t : Bool) → Exec execs node port e ≡ t → t ≡ false
  unnamed p before after e h false q = refl
  unnamed p before after e h true q =
      let same = same_two (field execs e 1) node (field execs e 2) port q in
      let at = known.to e h in
      let key : get_or keys at.0 0 ≡ exec_key node port = at.2 ∙ (λ z. exec_key (same.0 z) (same.1 z)) in
      absurd (elim (dec_lt at.0 p) [ yes l ↦ let b = before at.0 l in omega arith | no f ↦ let a = after at.0 (omega arith) (omega (arith, at.1)) in omega arith ])

  pub exec_searched : (r : Result ℕ ℕ) → IsBinarySearchResult (λ y. nat_cmp y (exec_key node port)) keys r → is_ok r ≡ any (Exec execs node port) (upto (length execs))
  exec_searched r found = go r (searched keys (exec_key node port) r found rising)
    where
      go : (r : Result ℕ ℕ) → MatchResult r (λ i. (i < length keys) × (get_or keys i 0 ≡ exec_key node port))
          (λ i. (i ≤ length keys) × ((k : ℕ) → k < i → get_or keys k 0 < exec_key node port) × ((k : ℕ) → i ≤ k → k < length keys → exec_key node port < get_or keys k 0))
          → is_ok r ≡ any (Exec execs node port) (upto (length execs))
      go (Ok p) at =
          let f = known.from p (omega (arith, at.0)) in
          let same = at.1 in
          let key : get_or keys p 0 ≡ exec_key (field execs f.0 1) (field execs f.0 2) = f.2 in
          let low : field execs f.0 2 < WORD = f.3 in
          sym (any_one (Exec execs node port) (length execs) f.0 f.1 (both _ _ (eq-eqb (field execs f.0 1) node (omega arith)) (eq-eqb (field execs f.0 2) port (omega arith))))
      go (Err p) at =
          sym (none_at_all (Exec execs node port) (upto (length execs)) (λ e m. unnamed p at.1 at.2 e (upto_below (length execs) m) (Exec execs node port e) refl))
