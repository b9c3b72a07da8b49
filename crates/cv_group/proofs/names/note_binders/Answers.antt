use Rattle.std.proofs.Common.{ap, ◌∙◌}
use Rattle.cv_syntax.specs.PoolTrees.{tree_at}
use Rattle.cv_syntax.proofs.Trees.{node_at}
use Rattle.cv_syntax.proofs.ChildReads.{bound_names_None, bound_names_other}
use Rattle.cv_syntax.specs.NameSets.{is_one_of}
use Rattle.cv_group.proofs.bodies.Sets as set
use Rattle.cv_group.proofs.names.note_binders.Goals as goal

pub returns-in_default-head : goal.returns-in_default-head
returns-in_default-head c =
    let trees = c.args.pool.now.trees in
    let node = c.read_node-cell.result in
    λ x. set.or_nothing _ _ (ap (λ xs. is_one_of xs x) (bound_names_other (tree_at trees c.binders.at) node.head (tree_at trees node.first) (tree_at trees node.second) (node_at trees c.binders.at c.in-Some.k node c.in-Some.is c.read_node-cell.ensures.tree) c.in_default-head.not-Binder)) ∙ c.binders.invariant.same x

pub returns : goal.returns
returns c = λ x. set.or_nothing _ _ (ap (λ xs. is_one_of xs x) (bound_names_None c.args.pool.now.trees c.binders.at c.in_default.is)) ∙ c.binders.invariant.same x
