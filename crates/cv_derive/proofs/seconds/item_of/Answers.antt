use Rattle.std.proofs.Common.{◌∙◌}
use Rattle.cv_syntax.specs.PoolTrees.{tree_at}
use Rattle.cv_syntax.proofs.Trees.{empty_at}
use Rattle.cv_derive.proofs.Copies.{no_item}
use Rattle.cv_derive.proofs.seconds.item_of.Goals as goal

pub returns-clause-item : goal.returns-clause-item
returns-clause-item c =
    let trees = c.args.pool.now.trees in
    no_item (tree_at trees c.items.at) c.items.left (empty_at trees c.items.at c.in_default.is) ∙ c.items.invariant.same
