use Rattle.std.proofs.Common.{rules, arith, ap, sym, ◌∙◌, Some}
use Rattle.cv_syntax.specs.PoolTrees.{tree_at}
use Rattle.cv_syntax.proofs.Trees.{empty_at, tree_at_None}
use Rattle.cv_syntax.proofs.Walking.{size_node}
use Rattle.cv_path.proofs.Going.{subtree_here, subtree_within, subtree_behind, subtree_empty}
use Rattle.cv_scene.specs.Scenes.{or_empty}
use Rattle.cv_query_parts.specs.Views.{trees_of}
use Rattle.cv_query_parts.proofs.places.node_at.Goals as goal

pub place_in-requires-clause-fits : goal.place_in-requires-clause-fits
place_in-requires-clause-fits c =
    let trees = trees_of c.args.view.now in
    let node = c.read_node-node.result in
    omega (arith, size_node (tree_at trees c.down.at) node.head (tree_at trees node.first) (tree_at trees node.second) (ap (tree_at trees) c.in-Some.is ∙ c.read_node-node.ensures.tree))

pub returns-in-Here-clause-tree : goal.returns-in-Here-clause-tree
returns-in-Here-clause-tree c =
    let trees = trees_of c.args.view.now in
    let node = c.read_node-node.result in
    let e = ap (tree_at trees) c.in-Some.is ∙ c.read_node-node.ensures.tree in
    ap (λ o. Some (tree_at trees o)) (sym c.in-Some.is) ∙ (sym (subtree_here (tree_at trees c.down.at) node.head (tree_at trees node.first) (tree_at trees node.second) c.down.left 0 e c.in-Here.ensures) ∙ c.down.invariant.same)

pub down-preserved-in-Within : goal.down-preserved-in-Within
down-preserved-in-Within c =
    let trees = trees_of c.args.view.now in
    let node = c.read_node-node.result in
    let e = ap (tree_at trees) c.in-Some.is ∙ c.read_node-node.ensures.tree in
    record {
      live = search rules;
      within = omega (arith, size_node (tree_at trees c.down.at) node.head (tree_at trees node.first) (tree_at trees node.second) e);
      same = sym (subtree_within (tree_at trees c.down.at) node.head (tree_at trees node.first) (tree_at trees node.second) c.down.left c.in-Within.rest e c.in-Within.ensures) ∙ c.down.invariant.same;
    }

pub down-preserved : goal.down-preserved
down-preserved c =
    let trees = trees_of c.args.view.now in
    let node = c.read_node-node.result in
    let e = ap (tree_at trees) c.in-Some.is ∙ c.read_node-node.ensures.tree in
    record {
      live = search rules;
      within = omega (arith, size_node (tree_at trees c.down.at) node.head (tree_at trees node.first) (tree_at trees node.second) e);
      same = sym (subtree_behind (tree_at trees c.down.at) node.head (tree_at trees node.first) (tree_at trees node.second) c.down.left c.in-Behind.rest e c.in-Behind.ensures) ∙ c.down.invariant.same;
    }

pub returns-clause-tree : goal.returns-clause-tree
returns-clause-tree c = sym (subtree_empty _ c.down.left (empty_at (trees_of c.args.view.now) c.down.at c.in_default.is)) ∙ c.down.invariant.same

pub returns-in-Here-clause-part : goal.returns-in-Here-clause-part
returns-in-Here-clause-part c = ap or_empty (returns-in-Here-clause-tree c)

pub returns-clause-part : goal.returns-clause-part
returns-clause-part c = tree_at_None (trees_of c.args.view.now) ∙ ap or_empty (returns-clause-tree c)
