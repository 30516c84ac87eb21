-- `is_body` meets its contract: an end's anchor is its own body node exactly where it has the end's id. Assumes nothing.
use Rattle.std.proofs.Common.{◌≡◌, ◌<◌, ◌≤◌, [], length, get_or, refl, rules}
use Rattle.base.proofs.Bools.{clash}
use Rattle.routes_corners.proofs.CornerLaws.{body_beyond, body_tested}
use Rattle.routes_corners.proofs.find.is_body.Goals as goal

pub returns-in_default : goal.returns-in_default
returns-in_default c =
    let beyond : length c.args.nodes.now ≤ c.args.anchor = search rules in record {
      anchor_in_bounds = λ e. clash e refl;
      id_value = λ b same e. body_beyond b _ _ e _ same beyond;
    }

pub returns : goal.returns
returns c =
    let here : c.in-Some.node.now ≡ get_or c.args.nodes.now c.args.anchor [] = search rules in
    let low : c.args.anchor < length c.args.nodes.now = search rules in
    rw here
    (record {
      anchor_in_bounds = λ e. low;
      id_value = λ b same e. body_tested b _ _ e _ same low;
    })
