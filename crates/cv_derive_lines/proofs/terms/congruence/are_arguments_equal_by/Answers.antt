use Rattle.std.proofs.Common.{◌∙◌}
use Rattle.cv_syntax.specs.PoolTrees.{tree_at}
use Rattle.cv_derive_lines.specs.citing.Bookmarks.{visible_to}
use Rattle.cv_derive_lines.proofs.terms.Congruent.{of_index, of_variable}
use Rattle.cv_derive_lines.proofs.terms.Known.{index_at}
use Rattle.cv_derive_lines.proofs.terms.congruence.are_arguments_equal_by.Goals as goal

pub returns-then-contains_key : goal.returns-then-contains_key
returns-then-contains_key c = λ s e.
    let trees = c.args.pool.now.trees in
    of_index s (visible_to trees c.args.citing.now) (tree_at trees c.args.cited_claims) c.args.left.head (tree_at trees c.args.left.first) (tree_at trees c.args.left.second) (tree_at trees c.args.right.first) (tree_at trees c.args.right.second) c.in-Leaf.x c.contains_key.result c.in-Leaf.is (c.contains_key.ensures ∙ index_at c.args.above.now s e c.in-Leaf.x) c.if-contains_key.true

pub returns-else-contains_key : goal.returns-else-contains_key
returns-else-contains_key c = λ s e.
    let trees = c.args.pool.now.trees in
    of_variable s (visible_to trees c.args.citing.now) (tree_at trees c.args.cited_claims) c.args.left.head (tree_at trees c.args.left.first) (tree_at trees c.args.left.second) (tree_at trees c.args.right.first) (tree_at trees c.args.right.second) c.in-Leaf.x c.contains_key.result c.is_empty.result c.in-Leaf.is (c.contains_key.ensures ∙ index_at c.args.above.now s e c.in-Leaf.x) c.if-contains_key.false c.is_empty.ensures.test
