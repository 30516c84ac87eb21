use mathlib.Core.Path.{◌≡◌, refl, ap, ◌∙◌}
use mathlib.Core.List.{[], map}
use native.Mathlib.Omega.{arith}
use lib.ListN.{get_or, length-map}
use lib.Seq.{take_all}
use Rattle.lanes.specs.Lanes.{entries, no_demand}
use Rattle.lanes.specs.LaneCall.{faulty}
use Rattle.lanes.specs.Keys.{key_of, demand_in, demand_of}
use Rattle.lanes.proofs.RankLaws.{length_keys, key_at_lem}
use Rattle.lanes.proofs.NumberLaws.{demand_read}
use Rattle.base.proofs.Filling.{copied_more, copied_all}
use Rattle.lanes.proofs.pack.write_keys.Goals as goal

pub key_row-requires : goal.key_row-requires
unfolding demand_of
key_row-requires g c =
    let there : demand_in c.from-demand.result ≡ get_or (map demand_of c.args.demands.now) c.loop-i.i no_demand = c.from-demand.ensures ∙ demand_read c.args.demands.now c.loop-i.i c.index-demands-i.result c.index-demands-i.is (omega arith) in
    ap faulty there ∙ c.requires.keys_len.2 c.loop-i.i (omega (arith, length-map c.args.demands.now demand_of))

pub loop-i-preserved : goal.loop-i-preserved
unfolding demand_of
loop-i-preserved g c =
    let there : demand_in c.from-demand.result ≡ get_or (map demand_of c.args.demands.now) c.loop-i.i no_demand = c.from-demand.ensures ∙ demand_read c.args.demands.now c.loop-i.i c.index-demands-i.result c.index-demands-i.is (omega arith) in
    copied_more (map key_of (entries 0 (map demand_of c.args.demands.now))) c.loop-i.keys c.loop-i.i [] c.key_row.result
    (key_at_lem (map demand_of c.args.demands.now) c.loop-i.i c.key_row.result (demand_in c.from-demand.result) (omega (arith, length-map c.args.demands.now demand_of)) c.key_row.ensures there)
    (omega arith) (omega (arith, length_keys 0 (map demand_of c.args.demands.now), length-map c.args.demands.now demand_of)) c.loop-i.invariant

pub returns : goal.returns
returns g c =
    copied_all (map key_of (entries 0 (map demand_of c.args.demands.now))) c.loop-i.keys c.loop-i.i c.loop-i.i (omega arith) refl c.loop-i.invariant
    ∙ take_all c.loop-i.i (map key_of (entries 0 (map demand_of c.args.demands.now))) (omega (arith, length_keys 0 (map demand_of c.args.demands.now), length-map c.args.demands.now demand_of))
