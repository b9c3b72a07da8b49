use Rattle.cv_inline_draws.proofs.sites.Branching.{no_branch, no_cells, no_condition, no_form, no_list, one_branch}
use Rattle.std.proofs.Common.{sym, ◌∙◌}
use Rattle.cv_syntax.specs.PoolTrees.{tree_at}
use Rattle.cv_inline_draws.proofs.sites.bodies.branch_at.Goals as goal

pub returns-in_err-item-clause-none : goal.returns-in_err-item-clause-none
returns-in_err-item-clause-none c = rw c.from_residual.ensures (λ ss k. no_list ss k c.args.list.place (tree_at c.args.pool.now.trees c.args.list.root) c.in_err-item.ensures.none)

pub returns-in_err-branch-clause-none : goal.returns-in_err-branch-clause-none
returns-in_err-branch-clause-none c = rw c.from_residual-in_err-branch.ensures (λ ss k. no_branch ss k c.args.pool.now.trees c.args.list c.in_ok-item.item c.in_ok-item.ensures.node c.in_err-branch.ensures.none)

pub returns-in_err-cells-clause-none : goal.returns-in_err-cells-clause-none
returns-in_err-cells-clause-none c =
    rw c.from_residual-in_err-cells.ensures (λ ss k. no_cells ss k c.args.pool.now.trees c.args.list c.in_ok-item.item c.in_ok-branch.branch c.in_ok-item.ensures.node c.in_ok-branch.ensures.node c.in_err-cells.ensures.none)

pub returns-in_err-condition-clause-none : goal.returns-in_err-condition-clause-none
returns-in_err-condition-clause-none c =
    rw c.from_residual-in_err-condition.ensures (λ ss k. no_condition ss k c.args.pool.now.trees c.args.list c.in_ok-item.item c.in_ok-branch.branch c.in_ok-cells.cells c.in_ok-item.ensures.node c.in_ok-branch.ensures.node c.in_ok-cells.ensures.node c.in_err-condition.ensures.none)

pub returns-then-have_form-clause-branch : goal.returns-then-have_form-clause-branch
returns-then-have_form-clause-branch c =
    λ ss k.
    one_branch ss k c.args.pool.now.trees c.args.list c.in_ok-item.item c.in_ok-branch.branch c.in_ok-cells.cells c.in_ok-condition.condition c.in_ok-item.ensures.node c.in_ok-branch.ensures.node c.in_ok-cells.ensures.node c.in_ok-condition.ensures.node (sym c.have_form.ensures ∙ c.if-have_form.true)

pub returns-clause-none : goal.returns-clause-none
returns-clause-none c =
    λ ss k.
    no_form ss k c.args.pool.now.trees c.args.list c.in_ok-item.item c.in_ok-branch.branch c.in_ok-cells.cells c.in_ok-condition.condition c.in_ok-item.ensures.node c.in_ok-branch.ensures.node c.in_ok-cells.ensures.node c.in_ok-condition.ensures.node (sym c.have_form.ensures ∙ c.if-have_form.false)
