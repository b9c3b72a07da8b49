use Rattle.std.proofs.Common.{drop, sym, ◌∙◌}
use Rattle.cv_syntax.specs.PoolTrees.{tree_at}
use Rattle.cv_syntax.proofs.Trees.{empty_at}
use Rattle.cv_derive_reasons.specs.substitution.Under.{names_of}
use Rattle.cv_derive_reasons.proofs.substitution.Unders.{given_nothing}
use Rattle.cv_derive_reasons.proofs.substitution.substitution.term_for.Goals as goal

pub returns-in_default-clause-tree : goal.returns-in_default-clause-tree
returns-in_default-clause-tree c =
    sym (given_nothing (names_of (drop c.names.k c.args.names.now)) (tree_at c.args.pool.now.trees c.names.at) c.args.x (empty_at c.args.pool.now.trees c.names.at c.in_default.is)) ∙ c.names.invariant.rest
