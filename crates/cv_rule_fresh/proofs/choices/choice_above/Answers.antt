use Rattle.std.proofs.Common.{◌≡◌, ◌-◌, rules, arith, ap, sym, ◌∙◌, None, Some, option_map}
use Rattle.cv_syntax.specs.PoolTrees.{tree_at}
use Rattle.cv_syntax.proofs.Trees.{empty_at}
use Rattle.cv_syntax.proofs.Walking.{size_node}
use Rattle.cv_rule_fresh.specs.collisions.Choices.{choice_in}
use Rattle.cv_rule_fresh.specs.Looks.{choice_of}
use Rattle.cv_rule_fresh.proofs.Ways.{last_behind, last_here, last_nowhere, last_within}
use Rattle.cv_rule_fresh.proofs.choices.choice_above.Goals as goal

pub down-init : goal.down-init
down-init c = record {
  live = search rules;
  within = omega arith;
  left = omega arith;
  same =
      let none : c.args.place - c.args.place ≡ 0 = omega arith in
      ap (λ q. choice_in c.args.x None q (tree_at c.args.pool.now.trees (Some c.args.game)) c.args.place) none;
}

pub place_in-requires-clause-fits : goal.place_in-requires-clause-fits
place_in-requires-clause-fits c =
    let trees = c.args.pool.now.trees in
    let node = c.read_node-node.result in
    omega (arith, size_node (tree_at trees c.down.at) node.head (tree_at trees node.first) (tree_at trees node.second) (ap (tree_at trees) c.in-Some.is ∙ c.read_node-node.ensures.tree))

pub returns-in-Here : goal.returns-in-Here
returns-in-Here c =
    let trees = c.args.pool.now.trees in
    let node = c.read_node-node.result in
    let e = ap (tree_at trees) c.in-Some.is ∙ c.read_node-node.ensures.tree in
    sym (last_here c.args.x (option_map choice_of c.down.last) c.args.place (tree_at trees c.down.at) node.head (tree_at trees node.first) (tree_at trees node.second) c.down.left 0 e c.in-Here.ensures) ∙ c.down.invariant.same

pub down-preserved-in-Within : goal.down-preserved-in-Within
down-preserved-in-Within c =
    let trees = c.args.pool.now.trees in
    let node = c.read_node-node.result in
    let e = ap (tree_at trees) c.in-Some.is ∙ c.read_node-node.ensures.tree in
    record {
      live = search rules;
      within = omega (arith, size_node (tree_at trees c.down.at) node.head (tree_at trees node.first) (tree_at trees node.second) e);
      left = (let l = c.in-Within.ensures.0 in let m = c.down.invariant.left in omega arith);
      same = sym (last_within c.args.x (option_map choice_of c.down.last) c.args.place (tree_at trees c.down.at) node.head (tree_at trees node.first) (tree_at trees node.second) c.down.left c.in-Within.rest e c.down.invariant.left c.in-Within.ensures) ∙ c.down.invariant.same;
    }

pub down-preserved : goal.down-preserved
down-preserved c =
    let trees = c.args.pool.now.trees in
    let node = c.read_node-node.result in
    let e = ap (tree_at trees) c.in-Some.is ∙ c.read_node-node.ensures.tree in
    record {
      live = search rules;
      within = omega (arith, size_node (tree_at trees c.down.at) node.head (tree_at trees node.first) (tree_at trees node.second) e);
      left = (let l = c.in-Behind.ensures in let m = c.down.invariant.left in omega arith);
      same = sym (last_behind c.args.x (option_map choice_of c.down.last) c.args.place (tree_at trees c.down.at) node.head (tree_at trees node.first) (tree_at trees node.second) c.down.left c.in-Behind.rest e c.down.invariant.left (option_map choice_of c.choice_behind-last.result) c.choice_behind-last.ensures c.in-Behind.ensures) ∙ c.down.invariant.same;
    }

pub returns : goal.returns
returns c =
    let trees = c.args.pool.now.trees in
    sym (last_nowhere c.args.x (option_map choice_of c.down.last) _ (tree_at trees c.down.at) c.down.left (empty_at trees c.down.at c.in_default.is)) ∙ c.down.invariant.same
