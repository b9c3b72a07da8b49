use Rattle.std.proofs.Common.{◌≡◌, ◌+◌, ◌≤◌, arith, ap, ◌∙◌, Some}
use Rattle.cv_syntax.specs.PoolTrees.{tree_at}
use Rattle.cv_syntax.proofs.Trees.{child_above, size_Empty}
use Rattle.cv_syntax.proofs.Walking.{size_at, size_end, size_same}
use Rattle.cv_syntax_trees.specs.Tree.{size}
use Rattle.cv_grounds.proofs.nodes.+nodes_up_to.Goals as goal
use Rattle.cv_grounds.proofs.nodes.+nodes_up_to.Goals.{in-Some-first, in_default-first}

pub returns-in_default-open-clause-few : goal.returns-in_default-open-clause-few
returns-in_default-open-clause-few t c l m =
    let trees = c.args.pool.now.trees in
    let s : size (tree_at trees c.chain.at) ≡ 0 = size_Empty (tree_at trees c.chain.at) (ap (tree_at trees) c.in-Some.is ∙ c.in_default-open.ensures.none) in
    omega (arith, c.chain.invariant.exact m, s)

pub returns-then-total-most-clause-least : goal.returns-then-total-most-clause-least
returns-then-total-most-clause-least t c =
    let trees = c.args.pool.now.trees in
    let node = c.in-Some-open.node in
    let s = size_at trees c.chain.at c.in-Some.n node c.in-Some.is c.in-Some-open.ensures.tree in
    elim c.match-node.branch [
      | in-Some-first w ↦ omega (arith, s, size_same trees node.first (Some w.in-Some-first.child) w.in-Some-first.is, w.nodes_up_to.ensures.least, w.saturating_add-total-in-Some-first.ensures, w.total-is, c.saturating_add-total.ensures, c.weight.ensures.weight, c.chain.invariant.least)
      | in_default-first w ↦ omega (arith, s, w.total-is, c.saturating_add-total.ensures, c.weight.ensures.weight, c.chain.invariant.least)
    ]

pub chain-preserved : goal.chain-preserved
chain-preserved t c =
    let trees = c.args.pool.now.trees in
    let node = c.in-Some-open.node in
    let s = size_at trees c.chain.at c.in-Some.n node c.in-Some.is c.in-Some-open.ensures.tree in
    record {
      below = child_above (c.args.start.0 + 1) c.chain.at c.in-Some.n node.second c.in-Some.is c.chain.invariant.below c.in-Some-open.ensures.second;
      few = omega (arith, c.if-total-most.false);
      least = elim c.match-node.branch [
        | in-Some-first w ↦ omega (arith, s, size_same trees node.first (Some w.in-Some-first.child) w.in-Some-first.is, w.nodes_up_to.ensures.least, w.saturating_add-total-in-Some-first.ensures, w.total-is, c.saturating_add-total.ensures, c.weight.ensures.weight, c.chain.invariant.least)
        | in_default-first w ↦ omega (arith, s, w.total-is, c.saturating_add-total.ensures, c.weight.ensures.weight, c.chain.invariant.least)
      ];
      exact = λ m. elim c.match-node.branch [
        | in-Some-first w ↦
            let total : c.match-node.total ≤ c.args.most = omega (arith, c.if-total-most.false) in
            let few : w.nodes_up_to.result ≤ c.args.most = omega (arith, w.saturating_add-total-in-Some-first.ensures, w.total-is, total, m) in
            omega (arith, s, size_same trees node.first (Some w.in-Some-first.child) w.in-Some-first.is, w.nodes_up_to.ensures.few few m, w.saturating_add-total-in-Some-first.ensures, w.total-is, total, m, c.saturating_add-total.ensures, c.weight.ensures.weight, c.chain.invariant.exact m)
        | in_default-first w ↦
            let total : c.match-node.total ≤ c.args.most = omega (arith, c.if-total-most.false) in
            omega (arith, s, size_end trees node.first w.in_default-first.is, w.total-is, total, m, c.saturating_add-total.ensures, c.weight.ensures.weight, c.chain.invariant.exact m)
      ];
    }

pub returns-clause-few : goal.returns-clause-few
returns-clause-few t c l m = omega (arith, c.chain.invariant.exact m, size_end c.args.pool.now.trees c.chain.at c.in_default.is)
