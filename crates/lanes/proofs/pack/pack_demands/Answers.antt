-- `lanes::pack::pack_demands` meets its contract, by those of the sort and of the seating. Assumes nothing.
use mathlib.Core.Path.{sym, subst}
use mathlib.Core.List.{map}
use Rattle.lanes.specs.Keys.{Fitting, demand_of}
use Rattle.lanes.proofs.RankLaws.{fitting_sorted, fitting_keys}
use Rattle.lanes.proofs.pack.pack_demands.Goals as goal

pub seat_keys-requires : goal.seat_keys-requires
seat_keys-requires g c =
    subst Fitting (sym c.sort_rows.ensures)
    (fitting_sorted c.write_keys.new.keys (fitting_keys (map demand_of c.args.demands.now) c.requires.keys_len.2 c.write_keys.new.keys c.write_keys.ensures))
