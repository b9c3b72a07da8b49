use Rattle.std.proofs.Common.{rules, ◌<◌, ◌+◌, ◌≡◌, arith, ap, length, sym, ◌∙◌}
use Rattle.cv_syntax_trees.specs.Head.{weight}
use Rattle.cv_syntax_trees.specs.Tree.{size}
use Rattle.cv_syntax.specs.PoolTrees.{tree_at}
use Rattle.cv_syntax.specs.Walks.{above}
use Rattle.cv_syntax.proofs.Trees.{child_above, child_live, empty_at, node_at}
use Rattle.cv_syntax.proofs.Walking.{above_child, above_some, size_at}
use Rattle.cv_meaning.specs.contexts.Groups.{function_of}
use Rattle.cv_scene.specs.Scenes.{first_reading}
use Rattle.cv_match.proofs.reads.Reading.{argument_end, argument_first, argument_here, argument_none, argument_rest}
use Rattle.cv_match.proofs.reads.arguments.+argument_use.Goals as goal

pub returns-in_default-there : goal.returns-in_default-there
returns-in_default-there t c =
    let trees = c.args.pool.now.trees in
    argument_none c.args.x (function_of (tree_at trees c.args.f)).arguments (tree_at trees c.body.at) c.body.place (tree_at trees c.body.there) (empty_at trees c.body.there c.in_default-there.is) ∙ c.body.invariant.same

pub reading_at-requires-clause-fits : goal.reading_at-requires-clause-fits
reading_at-requires-clause-fits t c =
    let s = ap (λ o. size (tree_at c.args.pool.now.trees o)) c.in-Some-there.is in
    omega (arith, s, c.body.invariant.sum, c.requires.fits)

pub returns-then-is_argument : goal.returns-then-is_argument
returns-then-is_argument t c =
    let trees = c.args.pool.now.trees in
    let xs = (function_of (tree_at trees c.args.f)).arguments in
    let node = c.read_node-node.result in
    let other = c.read_node-other.result in
    let e = node_at trees c.body.at c.in-Some.n node c.in-Some.is c.read_node-node.ensures.tree in
    let o = node_at trees c.body.there c.in-Some-there.k other c.in-Some-there.is c.read_node-other.ensures.tree in
    c.reading_at.ensures ∙ (ap (λ u. first_reading c.args.x c.body.place (tree_at trees u)) (sym c.in-Some-there.is) ∙ (argument_here c.args.x xs (tree_at trees c.body.at) c.body.place (tree_at trees c.body.there) node.head (tree_at trees node.first) (tree_at trees node.second) e other.head (tree_at trees other.first) (tree_at trees other.second) o c.is_argument.result c.is_argument.ensures c.if-is_argument.true ∙ c.body.invariant.same))

pub overflow_add-first : goal.overflow_add-first
overflow_add-first t c =
    let s = size_at c.args.pool.now.trees c.body.there c.in-Some-there.k c.read_node-other.result c.in-Some-there.is c.read_node-other.ensures.tree in
    omega (arith, s, c.body.invariant.sum, c.requires.fits, c.weight.ensures.weight)

pub argument_use-requires : goal.argument_use-requires
argument_use-requires t c =
    let trees = c.args.pool.now.trees in
    let node = c.read_node-node.result in
    let other = c.read_node-other.result in
    let s = size_at trees c.body.there c.in-Some-there.k other c.in-Some-there.is c.read_node-other.ensures.tree in
    let k = above_some c.body.at c.in-Some.n c.in-Some.is in
    let b = above_child c.in-Some.n.0 node.first c.read_node-node.ensures.first in
    let less : above node.first < above c.args.body = omega (arith, k, b, c.body.invariant.less) in
    (search rules, (c.requires.function, (child_live (length trees) c.body.at c.in-Some.n node.first c.in-Some.is c.body.invariant.live c.read_node-node.ensures.first, (child_live (length trees) c.body.there c.in-Some-there.k other.first c.in-Some-there.is c.body.invariant.there c.read_node-other.ensures.first, omega (arith, s, c.body.invariant.sum, c.requires.fits, c.weight.ensures.weight)))))

pub returns-in-Some-argument_use : goal.returns-in-Some-argument_use
returns-in-Some-argument_use t c =
    let trees = c.args.pool.now.trees in
    let xs = (function_of (tree_at trees c.args.f)).arguments in
    let node = c.read_node-node.result in
    let other = c.read_node-other.result in
    let e = node_at trees c.body.at c.in-Some.n node c.in-Some.is c.read_node-node.ensures.tree in
    let o = node_at trees c.body.there c.in-Some-there.k other c.in-Some-there.is c.read_node-other.ensures.tree in
    argument_first c.args.x xs (tree_at trees c.body.at) c.body.place (tree_at trees c.body.there) node.head (tree_at trees node.first) (tree_at trees node.second) e other.head (tree_at trees other.first) (tree_at trees other.second) o c.is_argument.result c.is_argument.ensures c.if-is_argument.false (c.body.place + c.weight.result) (ap (λ n. c.body.place + n) c.weight.ensures.weight) c.in-Some-argument_use.found c.in-Some-argument_use.ensures ∙ c.body.invariant.same

pub size_below-requires-clause-fits : goal.size_below-requires-clause-fits
size_below-requires-clause-fits t c =
    let s = size_at c.args.pool.now.trees c.body.there c.in-Some-there.k c.read_node-other.result c.in-Some-there.is c.read_node-other.ensures.tree in
    omega (arith, s, c.body.invariant.sum, c.requires.fits)

pub overflow_add-place : goal.overflow_add-place
overflow_add-place t c =
    let s = size_at c.args.pool.now.trees c.body.there c.in-Some-there.k c.read_node-other.result c.in-Some-there.is c.read_node-other.ensures.tree in
    omega (arith, s, c.body.invariant.sum, c.requires.fits, c.weight.ensures.weight, c.size_below.ensures)

pub body-preserved : goal.body-preserved
body-preserved t c =
    let trees = c.args.pool.now.trees in
    let xs = (function_of (tree_at trees c.args.f)).arguments in
    let node = c.read_node-node.result in
    let other = c.read_node-other.result in
    let e = node_at trees c.body.at c.in-Some.n node c.in-Some.is c.read_node-node.ensures.tree in
    let o = node_at trees c.body.there c.in-Some-there.k other c.in-Some-there.is c.read_node-other.ensures.tree in
    let s = size_at trees c.body.there c.in-Some-there.k other c.in-Some-there.is c.read_node-other.ensures.tree in
    let q : c.body.place + c.weight.result + c.size_below.result ≡ c.body.place + weight other.head + size (tree_at trees other.first) = omega (arith, c.weight.ensures.weight, c.size_below.ensures) in
    record {
      live = child_live (length trees) c.body.at c.in-Some.n node.second c.in-Some.is c.body.invariant.live c.read_node-node.ensures.second;
      there = child_live (length trees) c.body.there c.in-Some-there.k other.second c.in-Some-there.is c.body.invariant.there c.read_node-other.ensures.second;
      less = child_above _ c.body.at c.in-Some.n node.second c.in-Some.is c.body.invariant.less c.read_node-node.ensures.second;
      sum = omega (arith, s, q, c.body.invariant.sum);
      same = argument_rest c.args.x xs (tree_at trees c.body.at) c.body.place (tree_at trees c.body.there) node.head (tree_at trees node.first) (tree_at trees node.second) e other.head (tree_at trees other.first) (tree_at trees other.second) o c.is_argument.result c.is_argument.ensures c.if-is_argument.false (c.body.place + c.weight.result) (ap (λ n. c.body.place + n) c.weight.ensures.weight) (c.body.place + c.weight.result + c.size_below.result) q c.in_default-argument_use.ensures ∙ c.body.invariant.same;
    }

pub returns : goal.returns
returns t c =
    let trees = c.args.pool.now.trees in
    argument_end c.args.x (function_of (tree_at trees c.args.f)).arguments (tree_at trees c.body.at) c.body.place (tree_at trees c.body.there) (empty_at trees c.body.at c.in_default.is) ∙ c.body.invariant.same
