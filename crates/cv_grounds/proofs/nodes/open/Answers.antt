use Rattle.std.proofs.Common.{◌≤◌, length, arith}
use Rattle.cv_grounds.proofs.Listing.{no_tree}
use Rattle.cv_grounds.proofs.nodes.open.Goals as goal

pub returns-else-n-live-clause-none : goal.returns-else-n-live-clause-none
returns-else-n-live-clause-none c =
    let l : length c.args.pool.now.trees ≤ c.args.n.0 = omega (arith, c.live.ensures, c.if-n-live.false) in
    no_tree c.args.pool.now.trees c.args.n l
