-- `find_ends` meets its contract: no anchor is asked for at first. Assumes nothing.
use native.Mathlib.Omega.{arith}
use mathlib.Core.Path.{◌≡◌, ap}
use lib.ListN.{length}
use Rattle.board_groups.proofs.Ends.{none_asked}
use Rattle.board_groups.proofs.anchors.find_ends.Goals as goal

pub returns : goal.returns
returns c = λ b n p f e k.
    let long : length b.inner ≡ length c.args.named.sections.inner.now = ap length f in
    c.write_ends.ensures b n p f e (none_asked b 4096 (omega (arith, long, c.args.named.indexed.few_inner))) k
