-- One read more: what it gave stands behind what stood there.
use Rattle.std.proofs.Common.{◌≡◌, ℕ, ◌+◌, ◌-◌, ◌≤◌, List, ◌++◌, rules, arith, length, take, slice_range, sym, ap, ◌∙◌, subst, le_refl, drop_at, length-take-le}
use Rattle.std.proofs.lemmas.Slice.{take-put_mid_below}
use Rattle.std.specs.Io.KnownBytes.{Consumes}
use Rattle.std.proofs.KnownBytes.{Consumes-trans}
use borrow.Rule.Slice.PartMut.{put_mid, post_of}
use lib.Seq.{take-add, take-append-le}
use Rattle.program_input.proofs.read_full.Goals as goal

-- a list that keeps its first a goes on, as far as b, by what stands there now
kept_and_more : (a b : ℕ) (xs ys : List ℕ) → a ≤ b → take a ys ≡ take a xs → take a xs ++ slice_range ys a b ≡ take b ys
kept_and_more a b xs ys h same =
    let whole : a + (b - a) ≡ b = omega arith in
    ap (λ l. l ++ slice_range ys a b) (sym same) ∙ sym (take-add a (b - a) ys) ∙ ap (λ n. take n ys) whole

-- of a part that is put back, its first n stand from its start on
put_back : (a k n : ℕ) (xs ys : List ℕ) → a ≤ length xs → n ≤ length ys → slice_range (put_mid a k xs ys) a (a + n) ≡ take n ys
put_back a k n xs ys within fits =
    let count : (a + n) - a ≡ n = omega arith in
    ap (take ((a + n) - a)) (drop_at (take a xs) (ys ++ post_of a k xs) a (length-take-le a xs within))
    ∙ ap (λ m. take m (ys ++ post_of a k xs)) count ∙ take-append-le n ys (post_of a k xs) fits

pub loop-done-preserved : goal.loop-done-preserved
loop-done-preserved g c =
    let from = c.loop-done.done in
    let n = c.in_ok-n.n in
    let room = length c.loop-done.buffer - from in
    let within = c.loop-done.invariant.1 in
    let part = put_back from room n c.loop-done.buffer c.read.new.buf within c.in_ok-n.ensures.bound.0 in
    let joined = kept_and_more from (from + n) c.loop-done.buffer (put_mid from room c.loop-done.buffer c.read.new.buf) (omega arith) (take-put_mid_below _ _ _ _ _ (le_refl _) within) in
    (search rules, search rules, subst (Consumes _ _) (ap (λ l. take from c.loop-done.buffer ++ l) (sym part) ∙ joined) (Consumes-trans _ _ _ _ _ c.loop-done.invariant.2 c.in_ok-n.ensures.bytes.0))
