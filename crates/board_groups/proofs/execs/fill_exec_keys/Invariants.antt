-- `fill_exec_keys` meets its contract: the keys of the records behind are written. Assumes nothing.
use Rattle.board_groups.proofs.ExecLaws.{KeysUpto}
use Rattle.board_groups.proofs.execs.fill_exec_keys.Given as goal

abbrev pub invariant-loop-e : goal.invariant-loop-e
invariant-loop-e l = KeysUpto l.execs l.keys l.e
