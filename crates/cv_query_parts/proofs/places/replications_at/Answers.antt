use Rattle.std.proofs.Common.{rules, arith, ap, sym, ◌∙◌, []}
use Rattle.cv_syntax.specs.PoolTrees.{tree_at}
use Rattle.cv_syntax.proofs.Trees.{empty_at}
use Rattle.cv_syntax.proofs.Walking.{size_node}
use Rattle.cv_scope_rules.specs.Context.{replications_below}
use Rattle.cv_scene_view.proofs.Above.{passed_to, passed_game, to_behind, to_here, to_nothing, to_within}
use Rattle.cv_query_parts.specs.Views.{game_of, trees_of}
use Rattle.cv_query_parts.proofs.places.replications_at.Goals as goal

pub down-init : goal.down-init
down-init c = record {
  live = search rules;
  within = omega arith;
  same = ap (λ f. passed_to f (game_of c.args.view.now) c.args.place) c.new-passed.ensures.items;
}

pub place_in-requires-clause-fits : goal.place_in-requires-clause-fits
place_in-requires-clause-fits c =
    let trees = trees_of c.args.view.now in
    let node = c.read_node-node.result in
    omega (arith, size_node (tree_at trees c.down.at) node.head (tree_at trees node.first) (tree_at trees node.second) (ap (tree_at trees) c.in-Some.is ∙ c.read_node-node.ensures.tree))

pub returns-in-Here : goal.returns-in-Here
returns-in-Here c =
    let trees = trees_of c.args.view.now in
    let node = c.read_node-node.result in
    let e = ap (tree_at trees) c.in-Some.is ∙ c.read_node-node.ensures.tree in
    sym (to_here [] replications_below c.down.passed.items (tree_at trees c.down.at) node.head (tree_at trees node.first) (tree_at trees node.second) c.down.left 0 e c.in-Here.ensures) ∙ (c.down.invariant.same ∙ passed_game (game_of c.args.view.now) c.args.place)

pub down-preserved-in-Within : goal.down-preserved-in-Within
down-preserved-in-Within c =
    let trees = trees_of c.args.view.now in
    let node = c.read_node-node.result in
    let e = ap (tree_at trees) c.in-Some.is ∙ c.read_node-node.ensures.tree in
    record {
      live = search rules;
      within = omega (arith, size_node (tree_at trees c.down.at) node.head (tree_at trees node.first) (tree_at trees node.second) e);
      same = sym (to_within [] replications_below c.down.passed.items (tree_at trees c.down.at) node.head (tree_at trees node.first) (tree_at trees node.second) c.down.left c.in-Within.rest e c.in-Within.ensures) ∙ c.down.invariant.same;
    }

pub down-preserved : goal.down-preserved
down-preserved c =
    let trees = trees_of c.args.view.now in
    let node = c.read_node-node.result in
    let e = ap (tree_at trees) c.in-Some.is ∙ c.read_node-node.ensures.tree in
    record {
      live = search rules;
      within = omega (arith, size_node (tree_at trees c.down.at) node.head (tree_at trees node.first) (tree_at trees node.second) e);
      same = sym (to_behind [] replications_below c.down.passed.items (tree_at trees c.down.at) node.head (tree_at trees node.first) (tree_at trees node.second) c.down.left c.in-Behind.rest e c.pass_replication.new.passed.items c.in-Behind.ensures c.in_ok-pass_replication-in-Behind.ensures) ∙ c.down.invariant.same;
    }

pub returns : goal.returns
returns c =
    let trees = trees_of c.args.view.now in
    c.new.ensures.items
    ∙ (sym (to_nothing [] replications_below c.down.passed.items (tree_at trees c.down.at) c.down.left (empty_at trees c.down.at c.in_default.is)) ∙ (c.down.invariant.same ∙ passed_game (game_of c.args.view.now) c.args.place))
