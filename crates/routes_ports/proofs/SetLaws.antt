-- The set of suppressed ports: sorting ports and leaving out repetitions gives it.
use Prim.Native.Nat.{ℕ, ◌+◌, ◌-◌, ◌/◌, ◌%◌, ◌≤◌}
use native.Mathlib.Omega.{arith}
use mathlib.Core.Path.{◌≡◌, refl, sym, ap, ◌∙◌}
use mathlib.Core.Bool.{Bool, true, false, ◌&&◌, ◌||◌}
use mathlib.Core.List.{List, [], ◌∷◌, ◌++◌, map, map-append}
use lib.Dec.{eqb, ltb}
use lib.ListN.{length, take}
use lib.Seq.{length-take-le, take-append-add, take-append-le}
use borrow.Author.Tests.{lt-ltb, le-ltb, eq-eqb, ne_eqb}
use Rattle.base.specs.Sort.{inserted, sorted, lex_less, sorted_keys}
use Rattle.base.proofs.SortLaws.{inserted_past, inserted_here, lex_order, Compared, below, same, above, compared}
use Rattle.base.proofs.Bools.{clash}
use Rattle.base.proofs.Lists.{by_test}
use Rattle.routes.specs.Bus.{Port, insert_port, same_port}
use Rattle.routes.proofs.Views.{sorted-map}
use Rattle.routes_ports.specs.Ports.{targets, suppress, ports_set}
use Rattle.routes.specs.Buffers.{port_row, ports_held}
use Rattle.routes_ports.specs.Settling.{wires_from, WORD, key_port, port_less, again, unique, settled}

-- Two ports compared: exactly one of three.
pub data Ordered (p q : Port) : Type 0 where
  before : port_less p q ≡ true → same_port p q ≡ false → port_less q p ≡ false → Ordered p q
  equal : p ≡ q → port_less p q ≡ false → same_port p q ≡ true → port_less q p ≡ false → Ordered p q
  behind : port_less p q ≡ false → same_port p q ≡ false → port_less q p ≡ true → Ordered p q

pub ordered : (p q : Port) → Ordered p q
ordered p q = go (compared p.node q.node) (compared p.port q.port)
  where
    go : Compared p.node q.node → Compared p.port q.port → Ordered p q
    go (below h) k =
        before (rw (lt-ltb p.node q.node h)) (rw (ne_eqb p.node q.node (λ e. omega arith)))
        (rw (le-ltb q.node p.node (omega arith), ne_eqb q.node p.node (λ e. omega arith)))
    go (above h) k =
        behind (rw (le-ltb p.node q.node (omega arith), ne_eqb p.node q.node (λ e. omega arith)))
        (rw (ne_eqb p.node q.node (λ e. omega arith))) (rw (lt-ltb q.node p.node h))
    go (same h) (below k) =
        before (rw (le-ltb p.node q.node (omega arith), eq-eqb p.node q.node h, lt-ltb p.port q.port k))
        (rw (eq-eqb p.node q.node h, ne_eqb p.port q.port (λ e. omega arith)))
        (rw (le-ltb q.node p.node (omega arith), eq-eqb q.node p.node (sym h), le-ltb q.port p.port (omega arith)))
    go (same h) (above k) =
        behind (rw (le-ltb p.node q.node (omega arith), eq-eqb p.node q.node h, le-ltb p.port q.port (omega arith)))
        (rw (eq-eqb p.node q.node h, ne_eqb p.port q.port (λ e. omega arith)))
        (rw (le-ltb q.node p.node (omega arith), eq-eqb q.node p.node (sym h), lt-ltb q.port p.port k))
    go (same h) (same k) =
        equal (λ i. record { node = h i; port = k i })
        (rw (le-ltb p.node q.node (omega arith), eq-eqb p.node q.node h, le-ltb p.port q.port (omega arith)))
        (rw (eq-eqb p.node q.node h, eq-eqb p.port q.port k))
        (rw (le-ltb q.node p.node (omega arith), eq-eqb q.node p.node (sym h), le-ltb q.port p.port (omega arith)))

-- The three clauses of `insert_port`.
pub insert_before : (p q : Port) (l : List Port) → port_less p q ≡ true → insert_port p (q ∷ l) ≡ p ∷ q ∷ l
insert_before p q l h = rw (h, insert_port)

insert_equal : (p q : Port) (l : List Port) → port_less p q ≡ false → same_port p q ≡ true → insert_port p (q ∷ l) ≡ q ∷ l
insert_equal p q l h e = rw (h, e, insert_port)

insert_behind : (p q : Port) (l : List Port) → port_less p q ≡ false → same_port p q ≡ false → insert_port p (q ∷ l) ≡ q ∷ insert_port p l
insert_behind p q l h e = rw (h, e, insert_port)

pub unique_again : (p : Port) (l : List Port) → again p l ≡ true → unique (p ∷ l) ≡ unique l
unique_again p l h = rw (h, unique)

pub unique_last : (p : Port) (l : List Port) → again p l ≡ false → unique (p ∷ l) ≡ p ∷ unique l
unique_last p l h = rw (h, unique)

-- The first of a list stays the first.
unique_first : (p : Port) (l : List Port) → (rest : List Port) × (unique (p ∷ l) ≡ p ∷ rest)
unique_first p [] = ([], refl)
unique_first p (q ∷ l) = go (ordered p q) (unique_first q l)
  where
    go : Ordered p q → (rest : List Port) × (unique (q ∷ l) ≡ q ∷ rest) → (rest : List Port) × (unique (p ∷ q ∷ l) ≡ p ∷ rest)
    go (before a e b) ih = (unique (q ∷ l), unique_last p (q ∷ l) e)
    go (equal d a e b) ih = (ih.0, unique_again p (q ∷ l) e ∙ (ih.1 ∙ ap (λ r. r ∷ ih.0) (sym d)))
    go (behind a e b) ih = (unique (q ∷ l), unique_last p (q ∷ l) e)

-- A greater port put in leaves whether a port is followed by itself.
again_inserted : (p x : Port) (l : List Port) → port_less p x ≡ true → again p (inserted port_less x l) ≡ again p l
unfolding inserted
again_inserted p x [] h = other (ordered p x)
  where
    other : Ordered p x → same_port p x ≡ false
    other (before a e b) = e
    other (equal d a e b) = clash h a
    other (behind a e b) = e
again_inserted p x (q ∷ l) h = go (port_less q x) refl (ordered p x) (ordered p q)
  where
    go : (t : Bool) → port_less q x ≡ t → Ordered p x → Ordered p q → again p (elim t [ true ↦ q ∷ inserted port_less x l | false ↦ x ∷ q ∷ l ]) ≡ same_port p q
    go true f o r = refl
    go false f (equal d a e b) r = clash h a
    go false f (behind a e b) r = clash h a
    go false f (before a e b) (before c g k) = e ∙ sym g
    go false f (before a e b) (equal d c g k) = clash h (ap (λ r. port_less r x) d ∙ f)
    go false f (before a e b) (behind c g k) = e ∙ sym g

-- The one idea: leaving out repetitions turns an insertion of the sort into one of the set.
unique_inserted : (x : Port) (l : List Port) → unique (inserted port_less x l) ≡ insert_port x (unique l)
unfolding inserted
unique_inserted x [] = refl
unique_inserted x (y ∷ l) = go (ordered x y) (unique_first y l) (again y l) refl (unique_inserted x l)
  where
    go : Ordered x y → (rest : List Port) × (unique (y ∷ l) ≡ y ∷ rest) → (t : Bool) → again y l ≡ t → unique (inserted port_less x l) ≡ insert_port x (unique l)
        → unique (inserted port_less x (y ∷ l)) ≡ insert_port x (unique (y ∷ l))
    go (before a e b) u t f ih =
        ap unique (inserted_here port_less x y l b)
        ∙ (unique_last x (y ∷ l) e ∙ (ap {B = List Port} (λ r. x ∷ r) u.1 ∙ (sym (insert_before x y u.0 a) ∙ ap (insert_port x) (sym u.1))))
    go (equal d a e b) u t f ih =
        ap unique (inserted_here port_less x y l b)
        ∙ (unique_again x (y ∷ l) e ∙ (u.1 ∙ (sym (insert_equal x y u.0 a e) ∙ ap (insert_port x) (sym u.1))))
    go (behind a e b) u true f ih =
        ap unique (inserted_past port_less x y l b)
        ∙ (unique_again y (inserted port_less x l) (again_inserted y x l b ∙ f) ∙ (ih ∙ ap (insert_port x) (sym (unique_again y l f))))
    go (behind a e b) u false f ih =
        ap unique (inserted_past port_less x y l b)
        ∙ (unique_last y (inserted port_less x l) (again_inserted y x l b ∙ f)
        ∙ (ap {B = List Port} (λ r. y ∷ r) ih ∙ (sym (insert_behind x y (unique l) a e) ∙ ap (insert_port x) (sym (unique_last y l f)))))

unique_sorted : (l : List Port) → unique (sorted port_less l) ≡ ports_set l
unfolding sorted
unique_sorted [] = refl
unique_sorted (p ∷ l) = unique_inserted p (sorted port_less l) ∙ ap (insert_port p) (unique_sorted l)

-- Keys compare as their ports do, and are equal where these are.
keys_less : (a b : ℕ) → port_less (key_port a) (key_port b) ≡ ltb a b
keys_less a b = go (compared (a / WORD) (b / WORD)) (compared (a % WORD) (b % WORD))
  where
    go : Compared (a / WORD) (b / WORD) → Compared (a % WORD) (b % WORD) → port_less (key_port a) (key_port b) ≡ ltb a b
    go (below h) k = rw (lt-ltb (a / WORD) (b / WORD) h, lt-ltb a b (omega arith))
    go (above h) k = rw (le-ltb (a / WORD) (b / WORD) (omega arith), ne_eqb (a / WORD) (b / WORD) (λ e. omega arith), le-ltb a b (omega arith))
    go (same h) (below k) =
        rw (le-ltb (a / WORD) (b / WORD) (omega arith), eq-eqb (a / WORD) (b / WORD) h, lt-ltb (a % WORD) (b % WORD) k, lt-ltb a b (omega arith))
    go (same h) (above k) =
        rw (le-ltb (a / WORD) (b / WORD) (omega arith), eq-eqb (a / WORD) (b / WORD) h, le-ltb (a % WORD) (b % WORD) (omega arith), le-ltb a b (omega arith))
    go (same h) (same k) =
        rw (le-ltb (a / WORD) (b / WORD) (omega arith), eq-eqb (a / WORD) (b / WORD) h, le-ltb (a % WORD) (b % WORD) (omega arith), le-ltb a b (omega arith))

pub keys_same : (a b : ℕ) → same_port (key_port a) (key_port b) ≡ eqb a b
keys_same a b = go (compared (a / WORD) (b / WORD)) (compared (a % WORD) (b % WORD))
  where
    go : Compared (a / WORD) (b / WORD) → Compared (a % WORD) (b % WORD) → same_port (key_port a) (key_port b) ≡ eqb a b
    go (below h) k = rw (ne_eqb (a / WORD) (b / WORD) (λ e. omega arith), ne_eqb a b (λ e. omega arith))
    go (above h) k = rw (ne_eqb (a / WORD) (b / WORD) (λ e. omega arith), ne_eqb a b (λ e. omega arith))
    go (same h) (below k) = rw (eq-eqb (a / WORD) (b / WORD) h, ne_eqb (a % WORD) (b % WORD) (λ e. omega arith), ne_eqb a b (λ e. omega arith))
    go (same h) (above k) = rw (eq-eqb (a / WORD) (b / WORD) h, ne_eqb (a % WORD) (b % WORD) (λ e. omega arith), ne_eqb a b (λ e. omega arith))
    go (same h) (same k) = rw (eq-eqb (a / WORD) (b / WORD) h, eq-eqb (a % WORD) (b % WORD) k, eq-eqb a b (omega arith))

pub suppress-append : (old l more : List Port) → suppress old (more ++ l) ≡ suppress (suppress old l) more
suppress-append old l [] = refl
suppress-append old l (p ∷ more) = ap (insert_port p) (suppress-append old l more)

-- Keys sorted and read without repetitions.
keys_once : (keys : List ℕ) (old more : List Port) → map key_port keys ≡ more ++ old → unique (map key_port (sorted_keys keys)) ≡ suppress (ports_set old) more
unfolding sorted_keys
keys_once keys old more h =
    ap unique (sorted-map ltb port_less key_port keys_less keys ∙ ap (sorted port_less) h) ∙ (unique_sorted (more ++ old) ∙ suppress-append [] old more)

-- The whole: keys gathered from bus wires, those of the ports handed in behind them, all sorted and read without repetitions.
pub settled_once : (wires : List (List ℕ)) (from to : ℕ) (ports : List (List ℕ)) (u n : ℕ) (gathered added tail sorted' : List ℕ) → n ≤ length gathered → u ≤ length ports → u ≤ length added
    → map key_port (take n gathered) ≡ targets (wires_from wires from (to - from)) → map key_port (take (length (take u ports)) added) ≡ ports_held ports u
    → sorted' ≡ sorted_keys (take (n + u) (take n gathered ++ (added ++ tail))) → unique (map key_port sorted') ≡ settled wires from to ports u
settled_once wires from to ports u n gathered added tail sorted' room given long g a s =
    let front : n ≡ length (take n gathered) = sym (length-take-le n gathered room) in
    let keys : take (n + u) (take n gathered ++ (added ++ tail)) ≡ take n gathered ++ take (length (take u ports)) added =
    ap (λ k. take (k + u) (take n gathered ++ (added ++ tail))) front ∙ take-append-add (take n gathered) (added ++ tail) u
    ∙ ap (λ l. take n gathered ++ l) (take-append-le u added tail long ∙ ap (λ k. take k added) (sym (length-take-le u ports given))) in
    ap (λ r. unique (map key_port r)) s
    ∙ keys_once (take (n + u) (take n gathered ++ (added ++ tail))) (ports_held ports u) (targets (wires_from wires from (to - from)))
    (ap (map key_port) keys ∙ map-append key_port (take n gathered) (take (length (take u ports)) added) ∙ (λ i. g i ++ a i))

-- A set of ports is ascending, and is its own set.
abbrev Under : Port → List Port → Type 0
Under p [] = Unit {0}
Under p (q ∷ l) = port_less p q ≡ true

abbrev Ascending : List Port → Type 0
Ascending [] = Unit {0}
Ascending (p ∷ l) = Under p l × Ascending l

under_insert : (p x : Port) (l : List Port) → port_less p x ≡ true → Under p l → Under p (insert_port x l)
under_insert p x [] h u = h
under_insert p x (q ∷ l) h u =
    by_test (Under p) (port_less x q) (λ e. h) (λ e. by_test (Under p) (same_port x q) (λ f. u) (λ f. u))

insert_ascending : (x : Port) (l : List Port) → Ascending l → Ascending (insert_port x l)
insert_ascending x [] a = (tt, tt)
insert_ascending x (q ∷ l) a = go (ordered x q) (insert_ascending x l a.1)
  where
    go : Ordered x q → Ascending (insert_port x l) → Ascending (insert_port x (q ∷ l))
    go (before c e b) ih = rw (insert_before x q l c) (c, a)
    go (equal d c e b) ih = rw (insert_equal x q l c e) a
    go (behind c e b) ih = rw (insert_behind x q l c e) (under_insert q x l b a.0, ih)

set_ascending : (l : List Port) → Ascending (ports_set l)
set_ascending [] = tt
set_ascending (p ∷ l) = insert_ascending p (ports_set l) (set_ascending l)

insert_under : (p : Port) (l : List Port) → Under p l → insert_port p l ≡ p ∷ l
insert_under p [] u = refl
insert_under p (q ∷ l) u = insert_before p q l u

ascending_set : (l : List Port) → Ascending l → ports_set l ≡ l
ascending_set [] a = refl
ascending_set (p ∷ l) a = ap (insert_port p) (ascending_set l a.1) ∙ insert_under p l a.0

pub set-again : (l : List Port) → ports_set (ports_set l) ≡ ports_set l
set-again l = ascending_set (ports_set l) (set_ascending l)

-- The order in which ports are put in makes no difference.
rows_less : (p q : Port) → lex_less (port_row p) (port_row q) ≡ port_less p q
unfolding lex_less
rows_less p q = go (ltb p.node q.node) (eqb p.node q.node) (ltb p.port q.port) (eqb p.port q.port)
  where
    go : (s t u v : Bool) → (s || (t && (u || (v && false)))) ≡ (s || (t && u))
    go true t u v = refl
    go false false u v = refl
    go false true true v = refl
    go false true false true = refl
    go false true false false = refl

less_through : (x p q : Port) → port_less x p ≡ true → port_less p q ≡ true → port_less x q ≡ true
less_through x p q h k = sym (rows_less x q) ∙ lex_order.through (port_row x) (port_row p) (port_row q) (rows_less x p ∙ h) (rows_less p q ∙ k)

insert_past : (p q : Port) (l : List Port) → port_less p q ≡ true → insert_port q (p ∷ l) ≡ p ∷ insert_port q l
insert_past p q l h = go (ordered q p)
  where
    go : Ordered q p → insert_port q (p ∷ l) ≡ p ∷ insert_port q l
    go (before a e b) = clash h b
    go (equal d a e b) = clash h b
    go (behind a e b) = insert_behind q p l a e

swap_less : (p q : Port) (l : List Port) → port_less p q ≡ true → insert_port p (insert_port q l) ≡ insert_port q (insert_port p l)
swap_less p q [] h = insert_before p q [] h ∙ sym (insert_past p q [] h)
swap_less p q (x ∷ l) h = go (ordered p x) (swap_less p q l h)
  where
    go : Ordered p x → insert_port p (insert_port q l) ≡ insert_port q (insert_port p l) → insert_port p (insert_port q (x ∷ l)) ≡ insert_port q (insert_port p (x ∷ l))
    go (before a e b) ih =
        insert_under p (insert_port q (x ∷ l)) (under_insert p q (x ∷ l) h a) ∙ (sym (insert_past p q (x ∷ l) h) ∙ ap (insert_port q) (sym (insert_before p x l a)))
    go (equal d a e b) ih =
        let past = insert_past x q l (ap (λ r. port_less r q) (sym d) ∙ h) in
        ap (insert_port p) past ∙ (insert_equal p x (insert_port q l) a e ∙ (sym past ∙ ap (insert_port q) (sym (insert_equal p x l a e))))
    go (behind a e b) ih =
        ap (insert_port p) (insert_past x q l (less_through x p q b h))
        ∙ (insert_behind p x (insert_port q l) a e
        ∙ (ap {B = List Port} (λ r. x ∷ r) ih
        ∙ (sym (insert_past x q (insert_port p l) (less_through x p q b h)) ∙ ap (insert_port q) (sym (insert_behind p x l a e)))))

insert_swap : (p q : Port) (l : List Port) → insert_port p (insert_port q l) ≡ insert_port q (insert_port p l)
insert_swap p q l = go (ordered p q)
  where
    go : Ordered p q → insert_port p (insert_port q l) ≡ insert_port q (insert_port p l)
    go (before a e b) = swap_less p q l a
    go (equal d a e b) = λ i. insert_port (d i) (insert_port (sym d i) l)
    go (behind a e b) = sym (swap_less q p l b)

suppress_insert : (p : Port) (old l : List Port) → suppress (insert_port p old) l ≡ insert_port p (suppress old l)
suppress_insert p old [] = refl
suppress_insert p old (q ∷ l) = ap (insert_port q) (suppress_insert p old l) ∙ insert_swap q p (suppress old l)

-- A port more behind others.
pub set_last : (l : List Port) (p : Port) → ports_set (l ++ (p ∷ [])) ≡ insert_port p (ports_set l)
set_last l p = suppress-append [] (p ∷ []) l ∙ suppress_insert p [] l
