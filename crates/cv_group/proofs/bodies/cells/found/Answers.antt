use Rattle.std.proofs.Common.{◌≡◌, ℕ, length, ap, ◌∙◌}
use Rattle.cv_syntax.specs.PoolTrees.{tree_at}
use Rattle.cv_syntax.proofs.Trees.{child_live, empty_at, node_at}
use Rattle.cv_group_rules.specs.Rules as rule
use Rattle.cv_group.proofs.bodies.Steps as step
use Rattle.cv_group.proofs.bodies.Sets as set
use Rattle.cv_group.specs.bodies.Levels.{is_paired}
use Rattle.std.proofs.Math.Path.{fun_ext}
use Rattle.cv_syntax.specs.NameSets.{is_in}
use Rattle.cv_group.proofs.bodies.cells.found.Goals as goal

pub cells-preserved : goal.cells-preserved
cells-preserved c =
    let trees = c.args.pool.now.trees in
    let node = c.read_node-node.result in
    record {
      live = child_live (length trees) c.cells.at c.in-Some.k node.second c.in-Some.is c.cells.invariant.live c.read_node-node.ensures.second;
      same = λ v u. set.or_more _ _ _ _ _ (c.in_ok-note_cell.ensures.reads v u) (step.has_read_step (tree_at trees c.cells.at) node.head (tree_at trees node.first) (tree_at trees node.second) (node_at trees c.cells.at c.in-Some.k node c.in-Some.is c.read_node-node.ensures.tree) v u) ∙ c.cells.invariant.same v u;
      named = λ x. set.or_more _ _ _ _ _ (c.in_ok-note_cell.ensures.names x) (step.has_name_step (tree_at trees c.cells.at) node.head (tree_at trees node.first) (tree_at trees node.second) (node_at trees c.cells.at c.in-Some.k node c.in-Some.is c.read_node-node.ensures.tree) x) ∙ c.cells.invariant.named x;
    }

pub returns : goal.returns
returns c =
    let trees = c.args.pool.now.trees in
    let all : (v u : ℕ) → is_paired c.cells.reads v u ≡ rule.has_read (tree_at trees c.args.cells) v u = λ v u. set.or_nothing _ _ (step.has_read_end (tree_at c.args.pool.now.trees c.cells.at) (empty_at c.args.pool.now.trees c.cells.at c.in_default.is) v u) ∙ c.cells.invariant.same v u in
    let named : (x : ℕ) → is_in c.cells.names x ≡ rule.has_name (tree_at trees c.args.cells) x = λ x. set.or_nothing _ _ (step.has_name_end (tree_at c.args.pool.now.trees c.cells.at) (empty_at c.args.pool.now.trees c.cells.at c.in_default.is) x) ∙ c.cells.invariant.named x in
    ap (λ f. rule.Found c.args.index c.args.bound f (is_in c.cells.names)) (fun_ext (λ v. fun_ext (λ u. all v u)))
    ∙ ap (λ g. rule.Found c.args.index c.args.bound (rule.has_read (tree_at trees c.args.cells)) g) (fun_ext (λ x. named x))
