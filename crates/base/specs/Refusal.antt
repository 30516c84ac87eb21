-- What turns a sheet or a call away: the reasons of E1 to E8 and H6, and what a refusal is.
use Rattle.std.specs.Prelude.{ℕ}
use Rattle.base.specs.declared.refusal.Reason.{Reason}
use Rattle.base.specs.declared.refusal.Reason.TheVariants.{Unread, TooMany, OutOfRange, IdTaken, NotThere, Unplaced, NoRoom, NoLane, BadBox}
use Rattle.base.specs.declared.refusal.Refusal.{Refusal}

-- E1 to E8, H6: the number of a refusal is that of its rule, and 9 for a box that is not on the board
abbrev pub number_of : Reason → ℕ
number_of Unread = 1
number_of TooMany = 2
number_of OutOfRange = 3
number_of IdTaken = 4
number_of NotThere = 5
number_of Unplaced = 6
number_of NoRoom = 7
number_of NoLane = 8
number_of BadBox = 9

-- E10: a reason at its place
abbrev pub refusal : Reason → ℕ → Refusal
refusal reason place = record { reason = reason; place = place }
