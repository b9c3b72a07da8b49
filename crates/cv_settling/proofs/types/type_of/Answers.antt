use Rattle.std.proofs.Common.{ap, sym, ◌∙◌}
use Rattle.std.specs.Prelude.{option_map}
use Rattle.cv_syntax_trees.specs.declared.sites.sort.Sort.TheVariants.{OfType}
use Rattle.cv_syntax.specs.PoolTrees.{tree_at}
use Rattle.cv_scope_rules.specs.typing.Signature.{Function, function_in}
use Rattle.cv_settling.specs.Seen.{type_in}
use Rattle.cv_settling.proofs.Typed.{type_of_apply, type_of_leaf, type_of_other, type_of_read, type_of_truth}
use Rattle.cv_settling.proofs.types.type_of.Goals as goal

pub returns-then-is_truth_value : goal.returns-then-is_truth_value
returns-then-is_truth_value c =
    let trees = c.args.table.now.pool.now.trees in
    let node = c.in_ok-node.node in
    λ s t. type_of_truth s (tree_at trees c.args.term) node.head (tree_at trees node.first) (tree_at trees node.second) c.in_ok-node.ensures.node (sym c.is_truth_value.ensures ∙ c.if-is_truth_value.true)

pub returns-in-Leaf : goal.returns-in-Leaf
returns-in-Leaf c =
    let trees = c.args.table.now.pool.now.trees in
    let node = c.in_ok-node.node in
    λ s t. type_of_leaf s (tree_at trees c.args.term) node.head (tree_at trees node.first) (tree_at trees node.second) c.in_ok-node.ensures.node c.in-Leaf.x _ c.in-Leaf.is (c.leaf_type.ensures s t)

pub returns-in-Read : goal.returns-in-Read
returns-in-Read c =
    let trees = c.args.table.now.pool.now.trees in
    let node = c.in_ok-node.node in
    λ s t. type_of_read s (tree_at trees c.args.term) node.head (tree_at trees node.first) (tree_at trees node.second) c.in_ok-node.ensures.node c.in-Read.x _ c.in-Read.is (c.read_type.ensures s t)

pub returns-in-Apply : goal.returns-in-Apply
returns-in-Apply c =
    let trees = c.args.table.now.pool.now.trees in
    let node = c.in_ok-node.node in
    λ s t.
    type_of_apply s (tree_at trees c.args.term) node.head (tree_at trees node.first) (tree_at trees node.second) c.in_ok-node.ensures.node c.in-Apply.f _ c.in-Apply.is
    (c.function_type.ensures trees ∙ ap (λ ds. type_in (option_map (λ (f : Function). OfType f.result) (function_in ds c.in-Apply.f))) (sym t.declarations))

pub returns-in_default : goal.returns-in_default
returns-in_default c =
    let trees = c.args.table.now.pool.now.trees in
    let node = c.in_ok-node.node in
    λ s t. type_of_other s (tree_at trees c.args.term) node.head (tree_at trees node.first) (tree_at trees node.second) c.in_ok-node.ensures.node (sym c.is_truth_value.ensures ∙ c.if-is_truth_value.false) c.in_default.not-Leaf c.in_default.not-Read c.in_default.not-Apply
