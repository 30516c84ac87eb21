-- `add_id` meets its contract: the entry goes in front of its bucket's chain. Assumes nothing.
use native.Mathlib.Numerals.{add-one}
use Rattle.board.proofs.Newest.{added_ids, index_more}
use Rattle.board.proofs.ids.add_id.Goals as goal

pub returns : goal.returns
returns c = let a = c.args in
    let p = c.requires in rw (add-one a.n, c.bucket_of-k.ensures) record {
      index_after = added_ids a.index.now a.n p.index a.id.0 _;
      index_2 = index_more a.index.now a.n p.index a.id.0 p.n_in_bounds.0;
    }
