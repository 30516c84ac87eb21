-- `clear_loads` meets its contract. Assumes nothing.
use Rattle.std.proofs.Common.{refl, ◌∙◌, arith}
use Rattle.routes_rows.proofs.LoadLaws.{loads_long, cleared_only, cleared_loads}
use Rattle.routes_rows.proofs.loads.clear_loads.Goals as goal

pub returns : goal.returns
returns c =
    let f = c.fill.ensures in
    let few = loads_long c.args.notes.now c.requires in
    let long = f.len ∙ few in
    (cleared_only c.args.notes.now c.fill.new.self c.requires long, cleared_loads c.args.notes.now c.fill.new.self c.requires long (λ k low. f.clones k 0 (omega (arith, low, few)) refl))
