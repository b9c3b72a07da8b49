use Rattle.std.proofs.Common.{ap, ◌∙◌, None}
use Rattle.std.specs.List.{list_any}
use Rattle.cv_syntax_trees.specs.Tree.{same_tree}
use Rattle.cv_syntax.specs.PoolTrees.{tree_at}
use Rattle.cv_syntax.proofs.Trees.{tree_at_None}
use Rattle.cv_rule_fresh.proofs.Seeing.{among_plain, guards_entered, no_cells, other_entered, unowned}
use Rattle.cv_rule_fresh.proofs.reach.is_entered.Goals as goal

pub returns-in-Guards : goal.returns-in-Guards
returns-in-Guards c = λ Γ k s.
    let trees = c.args.pool.now.trees in
    let rs = c.args.replications.now in
    let cell = tree_at trees c.args.cell in
    c.defines.ensures (unowned Γ) k (no_cells rs (tree_at trees None) (tree_at_None trees))
    ∙ (among_plain c.front-none.result.now rs (tree_at trees None) cell _ c.front-none.ensures
    ∙ ap (list_any (same_tree cell)) (guards_entered c.args.position c.args.node.head (tree_at trees c.args.node.first) Γ c.in-Guards.is c.in-Cons.is))

pub returns-in_default : goal.returns-in_default
returns-in_default c = λ Γ k s.
    let trees = c.args.pool.now.trees in
    let rs = c.args.replications.now in
    let cell = tree_at trees c.args.cell in
    c.defines-in_default.ensures (unowned Γ) k (no_cells rs (tree_at trees None) (tree_at_None trees))
    ∙ (among_plain c.front-none.result.now rs (tree_at trees None) cell _ c.front-none.ensures
    ∙ ap (list_any (same_tree cell)) (other_entered c.args.position c.args.node.head (tree_at trees c.args.node.first) Γ c.in_default.not-Cons))
