use Rattle.std.proofs.Common.{rules, ◌+◌, ◌≡◌, ◌<◌, Some, ap, ◌∙◌, arith}
use Rattle.cv_syntax.specs.PoolTrees.{tree_at}
use Rattle.cv_syntax.proofs.Trees.{child_above, empty_at, size_Empty}
use Rattle.cv_syntax.proofs.Walking.{above_some, below_some, size_at, size_end, size_same}
use Rattle.cv_syntax_trees.specs.Tree.{size}
use Rattle.cv_settling_lateness.proofs.Noting.{first_noted, none_noted, tree_done}
use Rattle.cv_settling_lateness.proofs.lateness.+note.Goals as goal

pub returns-in_default-open-clause-size : goal.returns-in_default-open-clause-size
returns-in_default-open-clause-size t c =
    let trees = c.args.pool.now.trees in
    let s : size (tree_at trees c.chain.at) ≡ 0 = size_Empty (tree_at trees c.chain.at) (ap (tree_at trees) c.in-Some.is ∙ c.in_default-open.ensures.none) in
    omega (arith, s, c.chain.invariant.total, c.chain.invariant.begun)

pub returns-in_default-open-clause-definitions : goal.returns-in_default-open-clause-definitions
returns-in_default-open-clause-definitions t c = tree_done c.chain.here _ _ _ (ap (tree_at c.args.pool.now.trees) c.in-Some.is ∙ c.in_default-open.ensures.none) c.chain.invariant.definitions

pub overflow_add-here : goal.overflow_add-here
overflow_add-here t c =
    omega (arith, size_at c.args.pool.now.trees c.chain.at c.in-Some.n c.in-Some-open.node c.in-Some.is c.in-Some-open.ensures.tree, c.chain.invariant.total, c.requires.fits, c.weight-here.ensures.weight)

pub note-requires : goal.note-requires
note-requires t c =
    let trees = c.args.pool.now.trees in
    let k = above_some c.chain.at c.in-Some.n c.in-Some.is in
    let b = below_some c.in-Some.n.0 c.in-Some-open.node.first c.in-Some-first.first c.in-Some-first.is c.in-Some-open.ensures.first in
    let less : c.in-Some-first.first.0 < c.args.start.0 = omega (arith, k, b, c.chain.invariant.below) in (
      search rules,
      (
        omega (arith, size_at trees c.chain.at c.in-Some.n c.in-Some-open.node c.in-Some.is c.in-Some-open.ensures.tree, size_same trees c.in-Some-open.node.first (Some c.in-Some-first.first) c.in-Some-first.is, c.chain.invariant.total, c.requires.fits, c.weight-here.ensures.weight),
        c.chain.invariant.sizes,
      ),
    )

pub overflow_add-here-in-Some-first : goal.overflow_add-here-in-Some-first
overflow_add-here-in-Some-first t c =
    let trees = c.args.pool.now.trees in
    omega (arith, size_at trees c.chain.at c.in-Some.n c.in-Some-open.node c.in-Some.is c.in-Some-open.ensures.tree, size_same trees c.in-Some-open.node.first (Some c.in-Some-first.first) c.in-Some-first.is, c.in_ok-size.ensures.size, c.chain.invariant.total, c.requires.fits, c.weight-here.ensures.weight)

pub chain-preserved-in_ok-put : goal.chain-preserved-in_ok-put
chain-preserved-in_ok-put t c =
    let trees = c.args.pool.now.trees in
    let node = c.in-Some-open.node in
    record {
      below = child_above (c.args.start.0 + 1) c.chain.at c.in-Some.n node.second c.in-Some.is c.chain.invariant.below c.in-Some-open.ensures.second;
      begun = omega (arith, c.chain.invariant.begun);
      total = omega (arith, size_at trees c.chain.at c.in-Some.n node c.in-Some.is c.in-Some-open.ensures.tree, size_same trees node.first (Some c.in-Some-first.first) c.in-Some-first.is, c.in_ok-size.ensures.size, c.chain.invariant.total, c.weight-here.ensures.weight);
      definitions = first_noted trees c.chain.at c.in-Some.n node c.in-Some.is c.in-Some-open.ensures.tree c.chain.here c.weight-here.result c.weight-here.ensures.weight _ _ _ c.in_ok-note_node.ensures c.chain.invariant.definitions c.in_ok-size.size c.in-Some-first.first _ c.in-Some-first.is c.in_ok-size.ensures.size c.in_ok-size.ensures.definitions;
      sizes = c.in_ok-put.ensures trees c.in_ok-size.ensures.sizes c.in_ok-size.ensures.size;
    }

pub chain-preserved : goal.chain-preserved
chain-preserved t c =
    let trees = c.args.pool.now.trees in
    let node = c.in-Some-open.node in
    record {
      below = child_above (c.args.start.0 + 1) c.chain.at c.in-Some.n node.second c.in-Some.is c.chain.invariant.below c.in-Some-open.ensures.second;
      begun = omega (arith, c.chain.invariant.begun);
      total = omega (arith, size_at trees c.chain.at c.in-Some.n node c.in-Some.is c.in-Some-open.ensures.tree, size_end trees node.first c.in_default-first.is, c.chain.invariant.total, c.weight-here.ensures.weight);
      definitions = none_noted trees c.chain.at c.in-Some.n node c.in-Some.is c.in-Some-open.ensures.tree c.chain.here c.weight-here.result c.weight-here.ensures.weight _ _ _ c.in_ok-note_node.ensures c.chain.invariant.definitions c.in_default-first.is;
      sizes = c.chain.invariant.sizes;
    }

pub returns-clause-size : goal.returns-clause-size
returns-clause-size t c = omega (arith, size_end c.args.pool.now.trees c.chain.at c.in_default.is, c.chain.invariant.total, c.chain.invariant.begun)

pub returns-clause-definitions : goal.returns-clause-definitions
returns-clause-definitions t c = tree_done c.chain.here _ _ _ (empty_at c.args.pool.now.trees c.chain.at c.in_default.is) c.chain.invariant.definitions
