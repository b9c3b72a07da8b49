use Rattle.std.proofs.Common.{ap, refl, ◌∙◌}
use Rattle.cv_syntax_trees.specs.Tree.{same_tree}
use Rattle.cv_syntax.specs.PoolTrees.{tree_at}
use Rattle.cv_scope_rules.specs.Context.{cell_of}
use Rattle.cv_match_terms.proofs.patterns.Parts.{test_first, test_last, test_second}
use Rattle.cv_match.specs.Fitting.{is_own_use}
use Rattle.cv_match.proofs.coins.is_own_use.Goals as goal

pub returns-then-is_unasked : goal.returns-then-is_unasked
unfolding is_own_use
returns-then-is_unasked c =
    test_last _ _ _ _ _ _ _ (c.is_cell.ensures ∙ ap (λ l. same_tree (tree_at c.args.work.now.pool.trees c.args.term) (cell_of l c.args.x)) c.as_slice.ensures.value) c.if-is_cell.true c.is_unasked.ensures c.if-is_unasked.true c.is_used_alike.ensures refl

pub returns-else-is_unasked : goal.returns-else-is_unasked
unfolding is_own_use
returns-else-is_unasked c =
    test_second _ _ _ _ _ _ (c.is_cell.ensures ∙ ap (λ l. same_tree (tree_at c.args.work.now.pool.trees c.args.term) (cell_of l c.args.x)) c.as_slice.ensures.value) c.if-is_cell.true c.is_unasked.ensures c.if-is_unasked.false refl

pub returns-else-is_cell : goal.returns-else-is_cell
unfolding is_own_use
returns-else-is_cell c =
    test_first _ _ _ _ (c.is_cell.ensures ∙ ap (λ l. same_tree (tree_at c.args.work.now.pool.trees c.args.term) (cell_of l c.args.x)) c.as_slice.ensures.value) c.if-is_cell.false refl
