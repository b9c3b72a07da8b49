use Rattle.std.proofs.Common.{ap}
use Rattle.cv_syntax.specs.PoolTrees.{tree_at}
use Rattle.cv_syntax.proofs.Trees.{empty_at}
use Rattle.cv_query_certificates.specs.PairParts.{names_in}
use Rattle.cv_costs.proofs.CertificateCosts.{names_end}
use Rattle.cv_costs.proofs.certificates.names_in.Goals as goal

pub returns : goal.returns
returns c =
    let trees = c.args.pool.now.trees in
    names_end (tree_at trees c.names.at) c.names.made.items _ (ap names_in (empty_at trees c.names.at c.in_default.is)) c.names.invariant.same
