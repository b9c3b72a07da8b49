use Rattle.std.proofs.Common.{◌∙◌}
use Rattle.cv_syntax.specs.PoolTrees.{tree_at}
use Rattle.cv_syntax.proofs.Trees.{empty_at}
use Rattle.cv_derive_reasons.proofs.cells.Patterns.{rows_end}
use Rattle.cv_derive_reasons.proofs.cells.cells.are_indices_under.Goals as goal

pub returns : goal.returns
returns c = rows_end c.args.names.now (tree_at c.args.pool.now.trees c.args.terms) c.args.replications.now c.list.count (tree_at c.args.pool.now.trees c.list.at) c.list.invariant.few (empty_at c.args.pool.now.trees c.list.at c.in_default.is) ∙ c.list.invariant.same
