-- `append_taps` meets its contract: the taps that are there get their groups. Assumes nothing.
use Prim.Native.Nat.{◌≤◌}
use mathlib.Core.Path.{◌≡◌}
use native.Mathlib.Omega.{arith}
use lib.ListN.{length, take}
use Rattle.std.proofs.lemmas.List.{length-take-le}
use Rattle.board.specs.Groups.{taps_of}
use Rattle.board_groups.proofs.ShareLaws.{shared_front}
use Rattle.board_groups.proofs.TapLaws.{appended_all}
use Rattle.board_groups.proofs.groups.append_taps.Goals as goal

pub returns-clause-result_after : goal.returns-clause-result_after
returns-clause-result_after c = λ b n e k t.
    let m = c.append_all-m.result in
    let taps = c.append_all-m.new.taps in
    let room : m ≤ length taps = omega arith in
    let front : length (take m taps) ≡ m = length-take-le m taps room in
    let long : length c.share_groups.new.taps ≡ m = omega (arith, front, c.share_groups.auto.taps) in
    appended_all b c.args.s.wires.now taps _ m (taps_of b) e (c.append_all-m.ensures.appended b n e k t)
    (shared_front c.args.s.wires.now taps c.share_groups.new.taps m room long (rw front at c.share_groups.ensures))
