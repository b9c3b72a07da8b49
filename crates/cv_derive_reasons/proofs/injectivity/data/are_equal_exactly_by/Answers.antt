use Rattle.std.proofs.Common.{eq-eqb}
use Rattle.cv_syntax.specs.Declarations.{declarations}
use Rattle.cv_syntax.specs.PoolTrees.{tree_at}
use Rattle.cv_derive_reasons.proofs.injectivity.Injective.{no_data, values_at}
use Rattle.cv_derive_reasons.proofs.injectivity.data.are_equal_exactly_by.Goals as goal

pub returns-then-not-is_data : goal.returns-then-not-is_data
returns-then-not-is_data c =
    let trees = c.args.work.now.pool.trees in
    let m = c.in-Some.m in
    let n = c.in-Some-read_child.n in
    no_data (declarations trees c.args.work.now.decls.list) (tree_at trees c.args.left) (tree_at trees c.args.right) (tree_at trees c.args.term) m.head n.head (tree_at trees m.first) (tree_at trees m.second) (tree_at trees n.first) (tree_at trees n.second) c.in-Some.ensures.node c.in-Some-read_child.ensures.node c.in-Apply.f c.in-Apply-head.g c.in-Apply.is c.in-Apply-head.is (eq-eqb c.in-Apply.f c.in-Apply-head.g c.if-f-g.false) c.is_data.result (c.is_data.ensures trees) c.if-not-is_data.true

pub returns : goal.returns
returns c =
    let trees = c.args.work.now.pool.trees in
    let m = c.in-Some.m in
    let n = c.in-Some-read_child.n in
    values_at (declarations trees c.args.work.now.decls.list) (tree_at trees c.args.left) (tree_at trees c.args.right) (tree_at trees c.args.term) m.head n.head (tree_at trees m.first) (tree_at trees m.second) (tree_at trees n.first) (tree_at trees n.second) c.in-Some.ensures.node c.in-Some-read_child.ensures.node c.in-Apply.f c.in-Apply-head.g c.in-Apply.is c.in-Apply-head.is (eq-eqb c.in-Apply.f c.in-Apply-head.g c.if-f-g.false) c.is_data.result (c.is_data.ensures trees) c.if-not-is_data.false c.are_equations.result c.are_equations.ensures
