use Rattle.std.proofs.Common.{ap, sym, ◌∙◌}
use Rattle.std.specs.List.{list_any}
use Rattle.cv_syntax_trees.specs.Tree.{same_tree}
use Rattle.cv_syntax.specs.PoolTrees.{tree_at}
use Rattle.cv_syntax.proofs.Trees.{empty_at}
use Rattle.cv_scope_rules.specs.Context.{cells_of}
use Rattle.cv_rule_fresh.proofs.reach.is_bound.Goals as goal

pub returns : goal.returns
returns c =
    let trees = c.args.pool.now.trees in
    sym (ap (λ t. list_any (same_tree (tree_at trees c.args.cell)) (cells_of c.args.replications.now t)) (empty_at trees c.binders.at c.in_default.is)) ∙ c.binders.invariant.same
