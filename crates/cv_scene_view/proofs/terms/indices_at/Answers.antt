use Rattle.std.proofs.Common.{rules, arith, ap, sym, ◌∙◌, Some}
use Rattle.cv_syntax.specs.PoolTrees.{tree_at}
use Rattle.cv_syntax.proofs.Trees.{empty_at}
use Rattle.cv_syntax.proofs.Walking.{size_node}
use Rattle.cv_typing.specs.Tables.{above_of}
use Rattle.cv_typing.proofs.Files.{nothing_bound}
use Rattle.cv_scope_rules.specs.typing.Parts.{nothing_above}
use Rattle.cv_scene_view.specs.Kept.{above_behind}
use Rattle.cv_scene_view.proofs.Above.{above_to, to_behind, to_game, to_here, to_nothing, to_within}
use Rattle.cv_scene_view.proofs.terms.indices_at.Goals as goal

pub down-init : goal.down-init
down-init c = record {
  live = search rules;
  within = omega arith;
  same = ap (λ f. above_to f (tree_at c.args.work.now.pool.trees (Some c.args.game)) c.args.place) (nothing_bound c.new-above.result c.new-above.ensures.empty);
}

pub place_in-requires-clause-fits : goal.place_in-requires-clause-fits
place_in-requires-clause-fits c =
    let trees = c.args.work.now.pool.trees in
    let node = c.read_node-node.result in
    omega (arith, size_node (tree_at trees c.down.at) node.head (tree_at trees node.first) (tree_at trees node.second) (ap (tree_at trees) c.in-Some.is ∙ c.read_node-node.ensures.tree))

pub returns-in-Here : goal.returns-in-Here
returns-in-Here c =
    let trees = c.args.work.now.pool.trees in
    let node = c.read_node-node.result in
    let e = ap (tree_at trees) c.in-Some.is ∙ c.read_node-node.ensures.tree in
    sym (to_here nothing_above above_behind (above_of c.down.above) (tree_at trees c.down.at) node.head (tree_at trees node.first) (tree_at trees node.second) c.down.left 0 e c.in-Here.ensures) ∙ (c.down.invariant.same ∙ to_game (tree_at trees (Some c.args.game)) c.args.place)

pub down-preserved-in-Within : goal.down-preserved-in-Within
down-preserved-in-Within c =
    let trees = c.args.work.now.pool.trees in
    let node = c.read_node-node.result in
    let e = ap (tree_at trees) c.in-Some.is ∙ c.read_node-node.ensures.tree in
    record {
      live = search rules;
      within = omega (arith, size_node (tree_at trees c.down.at) node.head (tree_at trees node.first) (tree_at trees node.second) e);
      same = sym (to_within nothing_above above_behind (above_of c.down.above) (tree_at trees c.down.at) node.head (tree_at trees node.first) (tree_at trees node.second) c.down.left c.in-Within.rest e c.in-Within.ensures) ∙ c.down.invariant.same;
    }

pub down-preserved : goal.down-preserved
down-preserved c =
    let trees = c.args.work.now.pool.trees in
    let node = c.read_node-node.result in
    let e = ap (tree_at trees) c.in-Some.is ∙ c.read_node-node.ensures.tree in
    record {
      live = search rules;
      within = omega (arith, size_node (tree_at trees c.down.at) node.head (tree_at trees node.first) (tree_at trees node.second) e);
      same = sym (to_behind nothing_above above_behind (above_of c.down.above) (tree_at trees c.down.at) node.head (tree_at trees node.first) (tree_at trees node.second) c.down.left c.in-Behind.rest e (above_of c.bind_index.new.above) c.in-Behind.ensures c.in_ok-bind_index-in-Behind.ensures) ∙ c.down.invariant.same;
    }

pub returns : goal.returns
returns c =
    let trees = c.args.work.now.pool.trees in
    nothing_bound c.new.result c.new.ensures.empty
    ∙ (sym (to_nothing nothing_above above_behind (above_of c.down.above) (tree_at trees c.down.at) c.down.left (empty_at trees c.down.at c.in_default.is)) ∙ (c.down.invariant.same ∙ to_game (tree_at trees (Some c.args.game)) c.args.place))
