use Rattle.std.proofs.Common.{ap, sym, ◌∙◌}
use Rattle.cv_syntax.proofs.Trees.{empty_at, tree_at_None}
use Rattle.cv_query_certificates.specs.PairParts.{names_in}
use Rattle.cv_costs.specs.Certificates.{distinct_among}
use Rattle.cv_costs.proofs.certificates.distinct_among.Goals as goal

pub returns-clause-names : goal.returns-clause-names
returns-clause-names c =
    let trees = c.args.pool.now.trees in
    ap names_in (tree_at_None trees) ∙ (sym (ap distinct_among (empty_at trees c.parts.at c.in_default.is)) ∙ c.parts.invariant.same)
