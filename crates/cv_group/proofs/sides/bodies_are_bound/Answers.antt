use Rattle.std.proofs.Common.{◌≡◌, length, [], ap, sym, ◌∙◌}
use Rattle.cv_syntax_trees.specs.Tree.{second}
use Rattle.cv_syntax.specs.PoolTrees.{tree_at}
use Rattle.cv_syntax.proofs.Trees.{child_live, empty_at, node_at}
use Rattle.cv_group_rules.specs.Rules as rule
use Rattle.cv_group.proofs.shapes.Steps as side
use Rattle.cv_group.specs.Tables.{around_by, symbols_in}
use Rattle.cv_group.specs.bodies.Levels.{is_paired}
use Rattle.cv_group.proofs.sides.bodies_are_bound.Goals as goal

pub returns-then-not-branch-clause-bound : goal.returns-then-not-branch-clause-bound
returns-then-not-branch-clause-bound c =
    let trees = c.args.pool.now.trees in
    let node = c.read_node-node.result in
    let here : c.in_ok-function_is_bound.field-0 ≡ rule.is_bound (around_by (symbols_in c.args.around.now.symbols) (is_paired c.args.around.now.names) (tree_at trees c.args.key) (tree_at trees node.first)) [] (second (tree_at trees node.first)) = c.in_ok-function_is_bound.ensures.bound ∙ (ap (λ s. rule.is_bound (around_by (symbols_in s) (is_paired c.list.around.names) (tree_at trees c.args.key) (tree_at trees node.first)) [] (second (tree_at trees node.first))) c.list.invariant.symbols ∙ ap (λ s. rule.is_bound (around_by (symbols_in c.args.around.now.symbols) (is_paired s) (tree_at trees c.args.key) (tree_at trees node.first)) [] (second (tree_at trees node.first))) c.list.invariant.names) in
    side.and_false _ _ _ _ (side.each_step (λ f. rule.is_bound (around_by (symbols_in c.args.around.now.symbols) (is_paired c.args.around.now.names) (tree_at trees c.args.key) f) [] (second f)) (tree_at trees c.list.at) node.head (tree_at trees node.first) (tree_at trees node.second) (node_at trees c.list.at c.in-Some.k node c.in-Some.is c.read_node-node.ensures.tree)) c.list.invariant.same (sym here ∙ c.if-not-branch.true)

pub list-preserved : goal.list-preserved
list-preserved c =
    let trees = c.args.pool.now.trees in
    let node = c.read_node-node.result in
    let here : c.in_ok-function_is_bound.field-0 ≡ rule.is_bound (around_by (symbols_in c.args.around.now.symbols) (is_paired c.args.around.now.names) (tree_at trees c.args.key) (tree_at trees node.first)) [] (second (tree_at trees node.first)) = c.in_ok-function_is_bound.ensures.bound ∙ (ap (λ s. rule.is_bound (around_by (symbols_in s) (is_paired c.list.around.names) (tree_at trees c.args.key) (tree_at trees node.first)) [] (second (tree_at trees node.first))) c.list.invariant.symbols ∙ ap (λ s. rule.is_bound (around_by (symbols_in c.args.around.now.symbols) (is_paired s) (tree_at trees c.args.key) (tree_at trees node.first)) [] (second (tree_at trees node.first))) c.list.invariant.names) in
    record {
      live = child_live (length trees) c.list.at c.in-Some.k node.second c.in-Some.is c.list.invariant.live c.read_node-node.ensures.second;
      symbols = c.in_ok-function_is_bound.ensures.symbols ∙ c.list.invariant.symbols;
      names = c.in_ok-function_is_bound.ensures.names ∙ c.list.invariant.names;
      same = side.and_true _ _ _ _ (side.each_step (λ f. rule.is_bound (around_by (symbols_in c.args.around.now.symbols) (is_paired c.args.around.now.names) (tree_at trees c.args.key) f) [] (second f)) (tree_at trees c.list.at) node.head (tree_at trees node.first) (tree_at trees node.second) (node_at trees c.list.at c.in-Some.k node c.in-Some.is c.read_node-node.ensures.tree)) c.list.invariant.same (sym here ∙ c.if-not-branch.false);
    }

pub returns-clause-bound : goal.returns-clause-bound
returns-clause-bound c =
    let trees = c.args.pool.now.trees in
    sym (side.each_end (λ f. rule.is_bound (around_by (symbols_in c.args.around.now.symbols) (is_paired c.args.around.now.names) (tree_at trees c.args.key) f) [] (second f)) (tree_at c.args.pool.now.trees c.list.at) (empty_at c.args.pool.now.trees c.list.at c.in_default.is)) ∙ c.list.invariant.same
