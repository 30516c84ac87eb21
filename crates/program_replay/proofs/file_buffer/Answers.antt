-- `replay::file_buffer` has the length that it tells: by the law on lists of one element, since so long a list is not computed. Assumes nothing.
use Prim.Native.Nat.{ℕ}
use mathlib.Core.Path.{sym}
use lib.ListN.{length-replicate}
use Rattle.program_replay.proofs.file_buffer.Goals as goal

pub returns : goal.returns
returns c = sym (length-replicate {0} {A = ℕ} 1048576 0)
