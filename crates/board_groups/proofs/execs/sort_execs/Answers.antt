-- `sort_execs` meets its contract. Assumes nothing.
use native.Mathlib.Omega.{arith}
use Prim.Native.Nat.{◌≤◌}
use mathlib.Core.Path.{◌≡◌, ◌∙◌}
use lib.ListN.{length, drop, length-append}
use lib.Seq.{length-take-le}
use Rattle.base.proofs.KeyLaws.{front_risen}
use Rattle.board_groups.proofs.ExecLaws.{execs_sorted}
use Rattle.board_groups.proofs.execs.sort_execs.Goals as goal

pub returns : goal.returns
returns c =
    let execs = c.args.execs.now in
    let filled = c.fill_exec_keys.new.keys in
    let front = c.sort_keys.new.keys in
    let room : length execs ≤ length filled = omega (arith, c.fill_exec_keys.auto.keys) in
    let sorted : length front ≡ length execs = c.sort_keys.auto.keys ∙ length-take-le (length execs) filled room in
    execs_sorted execs filled _ (omega (arith, sorted, length-append front (drop (length execs) filled))) (front_risen filled _ _ room c.sort_keys.ensures) c.fill_exec_keys.ensures
