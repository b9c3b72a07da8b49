use Rattle.std.proofs.Common.{rules, ◌+◌, ◌<◌, ◌&&◌, arith, ap, length, refl, sym, ◌∙◌}
use Rattle.std.specs.Prelude.{◌||◌}
use Rattle.cv_syntax_trees.specs.Tree.{first_place, second_place, size}
use Rattle.cv_syntax.specs.PoolTrees.{tree_at}
use Rattle.cv_syntax.specs.Walks.{above}
use Rattle.cv_syntax.proofs.Trees.{child_above, child_live, empty_at, node_at}
use Rattle.cv_syntax.proofs.Walking.{above_child, above_some, size_at, size_end}
use Rattle.cv_syntax_trees.specs.sites.Sites.{first_of}
use Rattle.cv_scope_rules.specs.Context.{first_position, second_position}
use Rattle.cv_scene.specs.Scenes.{head_reads}
use Rattle.cv_scene.specs.Refusals.{is_condition}
use Rattle.cv_scene_view.proofs.Tested.{reads_first, reads_here, reads_rest}
use Rattle.cv_match.specs.reads.Within.{use_within}
use Rattle.cv_match.proofs.reads.Within.{within_end, within_moved, within_node}
use Rattle.cv_match.proofs.reads.conditions.+condition_use.Goals as goal

pub returns-then-is_use-clause-found : goal.returns-then-is_use-clause-found
returns-then-is_use-clause-found t c =
    let trees = c.args.pool.now.trees in
    let node = c.read_node-node.result in
    let w = c.tree.here in
    let p = c.tree.place in
    let a = tree_at trees node.first in
    let b = tree_at trees node.second in
    let e = within_node c.args.within c.args.x w p (tree_at trees c.tree.at) node.head a b (node_at trees c.tree.at c.in-Some.k node c.in-Some.is c.read_node-node.ensures.tree) in
    sym c.tree.invariant.same ∙ reads_here (use_within c.args.within c.args.x w p (tree_at trees c.tree.at)) (first_of (use_within (c.args.within || is_condition w) c.args.x (first_position w node.head) (first_place p node.head) a) (use_within c.args.within c.args.x (second_position w node.head) (second_place p node.head a) b)) p c.is_use.result (c.args.within && head_reads c.args.x node.head) e c.is_use.ensures c.if-is_use.true

pub overflow_add-first : goal.overflow_add-first
overflow_add-first t c =
    let s = size_at c.args.pool.now.trees c.tree.at c.in-Some.k c.read_node-node.result c.in-Some.is c.read_node-node.ensures.tree in
    omega (arith, s, c.tree.invariant.sum, c.requires.fits, c.weight.ensures.weight)

pub condition_use-requires : goal.condition_use-requires
condition_use-requires t c =
    let s = size_at c.args.pool.now.trees c.tree.at c.in-Some.k c.read_node-node.result c.in-Some.is c.read_node-node.ensures.tree in
    let k = above_some c.tree.at c.in-Some.k c.in-Some.is in
    let b = above_child c.in-Some.k.0 c.read_node-node.result.first c.read_node-node.ensures.first in
    let less : above c.read_node-node.result.first < above c.args.tree = omega (arith, k, b, c.tree.invariant.less) in
    (search rules, (child_live (length c.args.pool.now.trees) c.tree.at c.in-Some.k c.read_node-node.result.first c.in-Some.is c.tree.invariant.live c.read_node-node.ensures.first, omega (arith, s, c.tree.invariant.sum, c.requires.fits, c.weight.ensures.weight)))

pub returns-in-Err-clause-found : goal.returns-in-Err-clause-found
returns-in-Err-clause-found t c =
    let trees = c.args.pool.now.trees in
    let node = c.read_node-node.result in
    let w = c.tree.here in
    let p = c.tree.place in
    let a = tree_at trees node.first in
    let b = tree_at trees node.second in
    let e = within_node c.args.within c.args.x w p (tree_at trees c.tree.at) node.head a b (node_at trees c.tree.at c.in-Some.k node c.in-Some.is c.read_node-node.ensures.tree) in
    let m = within_moved c.args.x a c.is_inside.result (c.args.within || is_condition w) c.first.result (first_position w node.head) (p + c.weight.result) (first_place p node.head) c.is_inside.ensures c.first.ensures (ap (λ n. p + n) c.weight.ensures.weight) in
    sym c.tree.invariant.same ∙ reads_first (use_within c.args.within c.args.x w p (tree_at trees c.tree.at)) (use_within (c.args.within || is_condition w) c.args.x (first_position w node.head) (first_place p node.head) a) (use_within c.args.within c.args.x (second_position w node.head) (second_place p node.head a) b) p c.in-Err.found c.is_use.result (c.args.within && head_reads c.args.x node.head) e c.is_use.ensures c.if-is_use.false (m ∙ c.in-Err.ensures.found)

pub tree-preserved : goal.tree-preserved
tree-preserved t c =
    let trees = c.args.pool.now.trees in
    let node = c.read_node-node.result in
    let w = c.tree.here in
    let p = c.tree.place in
    let a = tree_at trees node.first in
    let b = tree_at trees node.second in
    let e = within_node c.args.within c.args.x w p (tree_at trees c.tree.at) node.head a b (node_at trees c.tree.at c.in-Some.k node c.in-Some.is c.read_node-node.ensures.tree) in
    let m = within_moved c.args.x a c.is_inside.result (c.args.within || is_condition w) c.first.result (first_position w node.head) (p + c.weight.result) (first_place p node.head) c.is_inside.ensures c.first.ensures (ap (λ n. p + n) c.weight.ensures.weight) in
    let s = size_at trees c.tree.at c.in-Some.k node c.in-Some.is c.read_node-node.ensures.tree in
    let q = c.in-Ok.ensures.next ∙ ap (λ n. p + n + size a) c.weight.ensures.weight in
    record {
      live = child_live (length trees) c.tree.at c.in-Some.k node.second c.in-Some.is c.tree.invariant.live c.read_node-node.ensures.second;
      less = child_above _ c.tree.at c.in-Some.k node.second c.in-Some.is c.tree.invariant.less c.read_node-node.ensures.second;
      sum = omega (arith, s, q, c.tree.invariant.sum);
      same = sym (within_moved c.args.x b c.args.within c.args.within c.second-here.result (second_position w node.head) c.in-Ok.next (second_place p node.head a) refl c.second-here.ensures q) ∙ (sym (reads_rest (use_within c.args.within c.args.x w p (tree_at trees c.tree.at)) (use_within (c.args.within || is_condition w) c.args.x (first_position w node.head) (first_place p node.head) a) (use_within c.args.within c.args.x (second_position w node.head) (second_place p node.head a) b) p c.is_use.result (c.args.within && head_reads c.args.x node.head) e c.is_use.ensures c.if-is_use.false (m ∙ c.in-Ok.ensures.none)) ∙ c.tree.invariant.same);
    }

pub returns-clause-none : goal.returns-clause-none
returns-clause-none t c = sym c.tree.invariant.same ∙ within_end c.args.within c.args.x c.tree.here c.tree.place (tree_at c.args.pool.now.trees c.tree.at) (empty_at c.args.pool.now.trees c.tree.at c.in_default.is)

pub returns-clause-next : goal.returns-clause-next
returns-clause-next t c = omega (arith, c.tree.invariant.sum, size_end c.args.pool.now.trees c.tree.at c.in_default.is)
