use Rattle.std.proofs.Common.{sym, subst, arith}
use Rattle.cv_pool.specs.Nodes.{ChildBelow}
use Rattle.cv_syntax.specs.PoolTrees.{tree_at}
use Rattle.cv_settling_lateness.proofs.Stepping.{countable, ends, first_beside, into_first, into_second, not_first, second_beside}
use Rattle.cv_settling_lateness.proofs.lateness.Lateness.step.Goals as goal

pub returns-then-place-children-clause-leads : goal.returns-then-place-children-clause-leads
returns-then-place-children-clause-leads c game l st =
    ends c.args.pool.now.trees c.args.self.now.definitions.list.items c.args.place c.args.here c.args.node c.requires.tree st c.children_of-children.result (c.children_of-children.ensures.value l.sizes st.takes) c.args.x (omega (arith, c.if-place-children.true))

pub returns-then-place-children-2-clause-leads : goal.returns-then-place-children-2-clause-leads
returns-then-place-children-2-clause-leads c game l st =
    let trees = c.args.pool.now.trees in
    let ds = c.args.self.now.definitions.list.items in
    let children = c.children_of-children.result in
    let e = c.children_of-children.ensures.value l.sizes st.takes in
    into_second trees ds c.args.place c.args.here c.args.node c.requires.tree st children e c.args.x (omega (arith, c.if-place-children-2.true)) c.way_behind.result
    (c.way_behind.ensures.way l.sizes l.sorted (countable trees ds c.args.place c.args.here c.args.node c.requires.tree st children e c.args.x) (first_beside trees ds c.args.place c.args.here c.args.node c.requires.tree st children e c.args.x))

pub returns-then-place-children-2-clause-below : goal.returns-then-place-children-2-clause-below
returns-then-place-children-2-clause-below c n a b = c.way_behind.ensures.below n (subst (ChildBelow n) (sym c.children_of-children.ensures.second) b)

pub returns-then-is_free_beside-clause-leads : goal.returns-then-is_free_beside-clause-leads
returns-then-is_free_beside-clause-leads c game l st =
    let trees = c.args.pool.now.trees in
    let ds = c.args.self.now.definitions.list.items in
    let children = c.children_of-children.result in
    let e = c.children_of-children.ensures.value l.sizes st.takes in
    into_first trees ds c.args.place c.args.here c.args.node c.requires.tree st children e c.args.x (omega (arith, c.if-place-children.false)) (omega (arith, c.if-place-children-2.false)) c.is_free_beside.result
    (c.is_free_beside.ensures (tree_at trees c.args.node.second) l.sorted (second_beside trees ds c.args.place c.args.here c.args.node c.requires.tree st children e c.args.x)) c.if-is_free_beside.true

pub returns-then-is_free_beside-clause-below : goal.returns-then-is_free_beside-clause-below
returns-then-is_free_beside-clause-below c n a b = subst (ChildBelow n) (sym c.children_of-children.ensures.first) a

pub returns-clause-leads : goal.returns-clause-leads
returns-clause-leads c game l st =
    let trees = c.args.pool.now.trees in
    let ds = c.args.self.now.definitions.list.items in
    let children = c.children_of-children.result in
    let e = c.children_of-children.ensures.value l.sizes st.takes in
    not_first trees ds c.args.place c.args.here c.args.node c.requires.tree st children e c.args.x (omega (arith, c.if-place-children.false)) (omega (arith, c.if-place-children-2.false)) c.is_free_beside.result
    (c.is_free_beside.ensures (tree_at trees c.args.node.second) l.sorted (second_beside trees ds c.args.place c.args.here c.args.node c.requires.tree st children e c.args.x)) c.if-is_free_beside.false
