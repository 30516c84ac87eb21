-- `page_end` meets its contract: what stands before the first tap of another page is of the page. Assumes nothing.
use Rattle.routes_levels.proofs.PageEnds.{page_found, page_whole}
use Rattle.routes_levels.proofs.pages.page_end.Goals as goal

pub returns-in-Some : goal.returns-in-Some
returns-in-Some c = page_found c.args.laid.now c.args.a c.requires c.in-Some.n c.in-Some.ensures

pub returns-in-None : goal.returns-in-None
returns-in-None c = page_whole c.args.laid.now c.args.a c.requires c.in-None.ensures
