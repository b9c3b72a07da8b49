use Rattle.std.proofs.Common.{◌≡◌, ◌+◌, ◌*◌, ◌≤◌, ◌++◌, ℕ, List, length, map, take}
use Rattle.std.specs.Prelude.{flat_map}
use Rattle.cv_pool.specs.Nodes.{ChildBelow}
use Rattle.cv_syntax_trees.specs.declared.head.Head.TheVariants.{Cons}
use Rattle.cv_syntax_trees.specs.Tree.{Tree, size}
use Rattle.cv_syntax.specs.PoolTrees.{tree_at}
use Rattle.cv_syntax.specs.Postorder.{postorder}
use Rattle.cv_syntax.specs.Walks.{above}
use Rattle.cv_edit_names.specs.Kept.{around_in, copy_in, naming_in}
use Rattle.cv_edit_names.specs.Splitting.{looking_for, split_branches}
use Rattle.cv_edit_names.proofs.Lists.{Listing}
use Rattle.cv_edit_names.proofs.splitting.+list_split.Given as goal

abbrev pub decreases-list_split : goal.decreases-list_split
decreases-list_split l = 4 * above l.start

abbrev pub decreases-list_first : goal.decreases-list_first
decreases-list_first l = 4 * above l.node.first + 1

abbrev pub decreases-list_second : goal.decreases-list_second
decreases-list_second l = 4 * above l.node.second + 1

abbrev pub decreases-list_branches : goal.decreases-list_branches
decreases-list_branches l = 4 * above l.start

abbrev pub decreases-list_copies : goal.decreases-list_copies
decreases-list_copies l = 4 * above l.branch.now.body + 3

abbrev pub decreases-list_each : goal.decreases-list_each
decreases-list_each l = 4 * above l.branch.now.body + 2

abbrev pub decreases-list_branch : goal.decreases-list_branch
decreases-list_branch l = 4 * above l.branch.now.body + 1

abbrev pub decreases-list_branches-branches : goal.decreases-list_branches-branches
decreases-list_branches-branches l = above l.at

abbrev pub invariant-list_branches-branches : goal.invariant-list_branches-branches
invariant-list_branches-branches l = record {
  below : above l.at ≤ above l.fn.start;
  live : ChildBelow (length l.pool.trees) l.at;
  fits : l.here + size (tree_at l.pool.trees l.at) ≡ l.place + size (tree_at l.pool.trees l.fn.start);
  listed : (done : List Tree) × Listing l.fn.makes.items l.makes.items l.links.items (split_branches (naming_in l.naming) (around_in l.pool.trees l.naming.variable l.around) l.place (tree_at l.pool.trees l.fn.start)) (split_branches (naming_in l.naming) (around_in l.pool.trees l.naming.variable l.around) l.here (tree_at l.pool.trees l.at)) done;
}

abbrev pub invariant-list_each-names : goal.invariant-list_each-names
invariant-list_each-names l = record {
  makes : l.makes.items ≡ l.fn.makes.items ++ flat_map postorder (map (copy_in l.pool.trees (naming_in l.naming) l.place l.branch) (map (looking_for (around_in l.pool.trees l.naming.variable l.around) (tree_at l.pool.trees l.cell)) (take l.y-index l.naming.names.now)));
  links : l.links.items ≡ l.fn.links.items ++ map (λ y. Cons) (take l.y-index l.naming.names.now);
}
