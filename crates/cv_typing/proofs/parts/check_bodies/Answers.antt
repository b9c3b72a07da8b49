use Rattle.std.proofs.Common.{◌+◌, drop, length, ap, ◌∙◌, arith}
use Rattle.std.proofs.lemmas.Result.{err_from_is_err_and}
use Rattle.cv_syntax.specs.Declarations.{declarations}
use Rattle.cv_syntax_trees.specs.Tree.{size}
use Rattle.cv_syntax.specs.PoolTrees.{tree_at}
use Rattle.cv_syntax.proofs.Walking.{above_child, above_some}
use Rattle.cv_scope_rules.specs.typing.Parts.{in_function, names_of}
use Rattle.cv_typing.specs.Tables.{arrays_of}
use Rattle.cv_typing.proofs.Bodies.{bodies_end, bodies_next, bodies_refused, bodies_size, body_same, in_another, with_arrays}
use Rattle.cv_syntax.proofs.Trees.{child_live, empty_at, node_at}
use Rattle.cv_typing.proofs.parts.check_bodies.Goals as goal

pub walk-requires-clause-fits : goal.walk-requires-clause-fits
walk-requires-clause-fits c =
    let trees = c.args.pool.now.trees in
    let node = c.read_node-node.result in
    let s = bodies_size (arrays_of c.args.arrays.now) (tree_at trees c.args.key) c.list.n c.args.sorts.now (tree_at trees c.list.at) node.head (tree_at trees node.first) (tree_at trees node.second) (node_at trees c.list.at c.in-Some.k node c.in-Some.is c.read_node-node.ensures.tree) in
    let b = ap size c.second_of-body.ensures.tree in
    omega (arith, s, b, c.list.invariant.sum, c.requires.fits)

pub returns-in_err-place : goal.returns-in_err-place
returns-in_err-place c =
    let trees = c.args.pool.now.trees in
    let node = c.read_node-node.result in
    let key = tree_at trees c.args.key in
    let names = c.in_ok-above.ensures ∙ ap (names_of key) c.first_of.ensures.tree in
    let f = tree_at trees node.first in
    let arrays = with_arrays (declarations trees c.args.decls.now.list) (arrays_of c.enter.new.self) (arrays_of c.list.arrays) (arrays_of c.args.arrays.now) f (c.in_ok-enter.ensures) (c.list.invariant.arrays f) in
    let same = body_same _ _ c.list.place _ _ _ _ _ _ arrays names c.result_at.ensures c.second_of-body.ensures.tree in
    let p = err_from_is_err_and c.from_residual-in_err-place.result c.from_residual-in_err-place.ensures.1 in
    rw (p.1, p.2) (bodies_refused (declarations trees c.args.decls.now.list) c.list.place (arrays_of c.args.arrays.now) key (drop c.list.n c.args.sorts.now) (tree_at trees c.list.at) node.head (tree_at trees node.first) (tree_at trees node.second) _ _ c.in_err-place.field-0.0 (node_at trees c.list.at c.in-Some.k node c.in-Some.is c.read_node-node.ensures.tree) same c.list.invariant.same c.in_err-place.ensures.fault)

pub overflow_add-n : goal.overflow_add-n
overflow_add-n c = let here = above_some c.list.at c.in-Some.k c.in-Some.is in omega (arith, here, c.list.invariant.bound)

pub list-preserved : goal.list-preserved
list-preserved c =
    let trees = c.args.pool.now.trees in
    let node = c.read_node-node.result in
    let key = tree_at trees c.args.key in
    let names = c.in_ok-above.ensures ∙ ap (names_of key) c.first_of.ensures.tree in
    let f = tree_at trees node.first in
    let arrays = with_arrays (declarations trees c.args.decls.now.list) (arrays_of c.enter.new.self) (arrays_of c.list.arrays) (arrays_of c.args.arrays.now) f (c.in_ok-enter.ensures) (c.list.invariant.arrays f) in
    let same = body_same _ _ c.list.place _ _ _ _ _ _ arrays names c.result_at.ensures c.second_of-body.ensures.tree in
    let tree = node_at trees c.list.at c.in-Some.k node c.in-Some.is c.read_node-node.ensures.tree in
    let s = bodies_size (arrays_of c.args.arrays.now) key c.list.n c.args.sorts.now (tree_at trees c.list.at) node.head (tree_at trees node.first) (tree_at trees node.second) tree in
    let b = ap size c.second_of-body.ensures.tree in
    let here = above_some c.list.at c.in-Some.k c.in-Some.is in
    let less = above_child c.in-Some.k.0 node.second c.read_node-node.ensures.second in
    record {
      live = child_live (length trees) c.list.at c.in-Some.k node.second c.in-Some.is c.list.invariant.live c.read_node-node.ensures.second;
      same = bodies_next (declarations trees c.args.decls.now.list) c.list.place c.in_ok-place.place (arrays_of c.args.arrays.now) key c.list.n c.args.sorts.now (tree_at trees c.list.at) node.head (tree_at trees node.first) (tree_at trees node.second) _ _ tree same c.in_ok-place.ensures.typed (c.in_ok-place.ensures.next ∙ ap (λ n. c.list.place + n) b) c.list.invariant.same;
      sum = omega (arith, s, b, c.list.invariant.sum, c.in_ok-place.ensures.next);
      bound = omega (arith, less, here, c.list.invariant.bound);
      arrays = λ g. ap (λ r. in_function r g) c.in_ok-enter.ensures ∙ (in_another (arrays_of c.list.arrays) f g ∙ c.list.invariant.arrays g);
    }

pub returns : goal.returns
returns c =
    let trees = c.args.pool.now.trees in
    let end = bodies_end (arrays_of c.args.arrays.now) (tree_at trees c.args.key) (drop c.list.n c.args.sorts.now) (tree_at trees c.list.at) (empty_at trees c.list.at c.in_default.is) in
    Rattle.cv_typing.proofs.Bodies.all_checked (declarations trees c.args.decls.now.list) c.args.from c.list.place _ _ end c.list.invariant.same c.list.invariant.sum
