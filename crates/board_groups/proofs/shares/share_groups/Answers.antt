-- `share_groups` meets its contract: the sorted keys bring the taps in runs. Assumes nothing.
use native.Mathlib.Omega.{arith}
use mathlib.Core.Path.{◌≡◌, ◌∙◌, sym, subst}
use lib.ListN.{length}
use lib.Seq.{length-take-le}
use Rattle.board_groups.specs.Shares.{Runs}
use Rattle.board_groups.proofs.ShareLaws.{all_risen, runs_sorted}
use Rattle.board_groups.proofs.shares.share_groups.Goals as goal

pub share_along-requires : goal.share_along-requires
share_along-requires c =
    let a = c.args in
    let m = length a.taps.now in
    let filled : length c.fill_tap_keys.new.keys ≡ m = c.fill_tap_keys.auto.keys ∙ length-take-le m _ (omega arith) in
    let long : length c.sort_keys.new.keys ≡ m = c.sort_keys.auto.keys ∙ filled in
    let runs = runs_sorted a.wires.now a.taps.now c.fill_tap_keys.new.keys c.sort_keys.new.keys m (omega arith) (omega arith) c.requires.0 c.requires.1 (all_risen _ _ m filled c.sort_keys.ensures) c.fill_tap_keys.ensures in
    (subst (Runs a.wires.now a.taps.now c.sort_keys.new.keys) (sym long) runs, long)
