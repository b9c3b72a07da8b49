use Rattle.std.proofs.Common.{drop, sym, ◌∙◌}
use Rattle.cv_syntax.specs.PoolTrees.{tree_at}
use Rattle.cv_syntax.proofs.Trees.{empty_at}
use Rattle.cv_query_entries.specs.terms.Given.{names_in}
use Rattle.cv_query_entries.proofs.terms.given.other_term.Goals as goal
use Rattle.cv_derive_reasons.proofs.substitution.Unders.{given_nothing}

pub returns-in_default-clause-tree : goal.returns-in_default-clause-tree
returns-in_default-clause-tree c =
    sym (given_nothing (names_in (drop c.names.k c.args.others.now)) (tree_at c.args.pool.now.trees c.names.at) c.args.x (empty_at c.args.pool.now.trees c.names.at c.in_default.is)) ∙ c.names.invariant.rest
