use Rattle.std.proofs.Common.{ap, sym, ◌∙◌}
use Rattle.cv_syntax_trees.specs.Tree.{first}
use Rattle.cv_syntax.proofs.Trees.{empty_at, tree_at_None}
use Rattle.cv_scope.proofs.rules.front.Goals as goal

pub returns-in_default-clause-tree : goal.returns-in_default-clause-tree
returns-in_default-clause-tree c = tree_at_None c.args.pool.now.trees ∙ sym (ap first (empty_at c.args.pool.now.trees c.args.tree c.in_default.is))
