use Rattle.std.proofs.Common.{ap, ◌∙◌}
use Rattle.cv_syntax.specs.PoolTrees.{tree_at}
use Rattle.cv_syntax.proofs.Trees.{empty_at}
use Rattle.cv_settling_lateness.proofs.Noting.{binder_noted, binders_done, binders_ended}
use Rattle.cv_settling_lateness.proofs.definitions.Definitions.note_all.Goals as goal

pub returns-in_default-open : goal.returns-in_default-open
returns-in_default-open c = binders_done c.args.place _ _ _ (ap (tree_at c.args.pool.now.trees) c.in-Some.is ∙ c.in_default-open.ensures.none) c.cells.invariant

pub returns-in_default-head : goal.returns-in_default-head
returns-in_default-head c = binders_ended c.args.place c.args.pool.now.trees c.cells.at c.in-Some.n c.in-Some-open.cell c.in-Some.is c.in-Some-open.ensures.tree _ _ c.in_default-head.not-Binder c.cells.invariant

pub cells-preserved : goal.cells-preserved
cells-preserved c =
    binder_noted c.args.place c.args.pool.now.trees c.cells.at c.in-Some.n c.in-Some-open.cell c.in-Some.is c.in-Some-open.ensures.tree _ _ _ c.in-Binder.name c.in-Binder.field-1 c.in-Binder.is c.in_ok-push.ensures.items c.cells.invariant

pub returns : goal.returns
returns c = binders_done c.args.place _ _ _ (empty_at c.args.pool.now.trees c.cells.at c.in_default.is) c.cells.invariant
