use Rattle.std.proofs.Common.{◌∙◌, eq-eqb, ne_eqb}
use Rattle.cv_syntax.specs.PoolTrees.{tree_at}
use Rattle.cv_settling.proofs.Told.{bound_end, bound_here, bound_later, bound_other}
use Rattle.cv_settling.proofs.equations.is_bound.Goals as goal

pub returns-in_default-head : goal.returns-in_default-head
returns-in_default-head c =
    let trees = c.args.pool.now.trees in
    let cell = c.in-Some.cell in
    bound_other c.args.x (tree_at trees c.binders.at) cell.head (tree_at trees cell.first) (tree_at trees cell.second) c.in-Some.ensures.node c.in_default-head.not-Binder ∙ c.binders.invariant

pub returns-then-y-x : goal.returns-then-y-x
returns-then-y-x c =
    let trees = c.args.pool.now.trees in
    let cell = c.in-Some.cell in
    bound_here c.args.x (tree_at trees c.binders.at) cell.head (tree_at trees cell.first) (tree_at trees cell.second) c.in-Some.ensures.node c.in-Binder.y _ c.in-Binder.is (eq-eqb c.in-Binder.y c.args.x c.if-y-x.true) ∙ c.binders.invariant

pub binders-preserved : goal.binders-preserved
binders-preserved c =
    let trees = c.args.pool.now.trees in
    let cell = c.in-Some.cell in
    bound_later c.args.x (tree_at trees c.binders.at) cell.head (tree_at trees cell.first) (tree_at trees cell.second) c.in-Some.ensures.node c.in-Binder.y _ c.in-Binder.is (ne_eqb c.in-Binder.y c.args.x c.if-y-x.false) ∙ c.binders.invariant

pub returns : goal.returns
returns c = bound_end c.args.x (tree_at c.args.pool.now.trees c.binders.at) c.in_default.ensures.none ∙ c.binders.invariant
