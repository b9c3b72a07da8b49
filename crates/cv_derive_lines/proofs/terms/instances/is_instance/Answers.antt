use Rattle.std.proofs.Common.{◌<◌, arith, length}
use Rattle.cv_syntax.specs.PoolTrees.{tree_at}
use Rattle.cv_syntax.proofs.Walking.{live_child}
use Rattle.cv_scene.specs.lines.Inferences.{number_of}
use Rattle.cv_derive_lines.proofs.terms.Equations.{instance_at, live_equation, no_equation, other_types}
use Rattle.cv_derive_lines.proofs.terms.instances.is_instance.Goals as goal

pub read_node-equation-requires : goal.read_node-equation-requires
read_node-equation-requires c = live_equation (length c.args.work.now.pool.trees) c.args.work.now.decls.list c.requires.declared c.number-k.result c.equation.result c.in-Some.tree c.equation.ensures c.in-Some.is

pub are_of_types-requires-clause-binders : goal.are_of_types-requires-clause-binders
are_of_types-requires-clause-binders c =
    let live : c.in-Some.tree.0 < length c.args.work.now.pool.trees = live_equation (length c.args.work.now.pool.trees) c.args.work.now.decls.list c.requires.declared c.number-k.result c.equation.result c.in-Some.tree c.equation.ensures c.in-Some.is in
    live_child (length c.args.work.now.pool.trees) c.in-Some.tree.0 c.read_node-equation.result.first (omega (arith, live)) c.read_node-equation.ensures.first

pub same_instance-requires-clause-pattern : goal.same_instance-requires-clause-pattern
same_instance-requires-clause-pattern c =
    let live : c.in-Some.tree.0 < length c.args.work.now.pool.trees = live_equation (length c.args.work.now.pool.trees) c.args.work.now.decls.list c.requires.declared c.number-k.result c.equation.result c.in-Some.tree c.equation.ensures c.in-Some.is in
    live_child (length c.args.work.now.pool.trees) c.in-Some.tree.0 c.read_node-equation.result.second (omega (arith, live)) c.read_node-equation.ensures.second

pub same_instance-requires-clause-binders : goal.same_instance-requires-clause-binders
same_instance-requires-clause-binders c =
    let live : c.in-Some.tree.0 < length c.args.work.now.pool.trees = live_equation (length c.args.work.now.pool.trees) c.args.work.now.decls.list c.requires.declared c.number-k.result c.equation.result c.in-Some.tree c.equation.ensures c.in-Some.is in
    live_child (length c.args.work.now.pool.trees) c.in-Some.tree.0 c.read_node-equation.result.first (omega (arith, live)) c.read_node-equation.ensures.first

pub returns-in_default : goal.returns-in_default
returns-in_default c = λ s i.
    let trees = c.args.work.now.pool.trees in
    no_equation trees c.args.work.now.decls.list s.scene.declarations i.declared c.equation.result c.number-k.result (number_of (tree_at trees c.args.cited_equation)) c.equation.ensures c.number-k.ensures s (tree_at trees c.args.terms) (tree_at trees c.args.term) c.in_default.is

pub returns-then-not-are_of_types : goal.returns-then-not-are_of_types
returns-then-not-are_of_types c = λ s i.
    let trees = c.args.work.now.pool.trees in
    let node = c.read_node-equation.result in
    other_types trees c.args.work.now.decls.list s.scene.declarations i.declared c.equation.result c.number-k.result (number_of (tree_at trees c.args.cited_equation)) c.equation.ensures c.number-k.ensures s (tree_at trees c.args.terms) (tree_at trees c.args.term) c.in-Some.tree c.in-Some.is node.head (tree_at trees node.first) (tree_at trees node.second) c.read_node-equation.ensures.tree c.are_of_types.result (c.are_of_types.ensures s i) c.if-not-are_of_types.true

pub returns : goal.returns
returns c = λ s i.
    let trees = c.args.work.now.pool.trees in
    let node = c.read_node-equation.result in
    instance_at trees c.args.work.now.decls.list s.scene.declarations i.declared c.equation.result c.number-k.result (number_of (tree_at trees c.args.cited_equation)) c.equation.ensures c.number-k.ensures s (tree_at trees c.args.terms) (tree_at trees c.args.term) c.in-Some.tree c.in-Some.is node.head (tree_at trees node.first) (tree_at trees node.second) c.read_node-equation.ensures.tree c.are_of_types.result (c.are_of_types.ensures s i) c.if-not-are_of_types.false c.same_instance.result c.same_instance.ensures
