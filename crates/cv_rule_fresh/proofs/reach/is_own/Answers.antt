use Rattle.std.proofs.Common.{ap, ap₂, sym, ◌∙◌, ◌||◌}
use Rattle.std.proofs.lemmas.List.Folds.{list_any-append}
use Rattle.std.specs.List.{list_any}
use Rattle.cv_syntax_trees.specs.Tree.{same_tree}
use Rattle.cv_syntax.specs.PoolTrees.{tree_at}
use Rattle.cv_scope_rules.specs.Context.{cells_of, second_context}
use Rattle.cv_rule_fresh.proofs.Seeing.{other_own}
use Rattle.cv_rule_fresh.proofs.reach.is_own.Goals as goal

pub returns-in-Branch : goal.returns-in-Branch
returns-in-Branch c = λ Γ k s.
    let trees = c.args.pool.now.trees in
    let cell = tree_at trees c.args.cell in
    let a = tree_at trees c.args.node.first in
    c.is_seen.ensures
    ∙ (ap₂ ◌||◌ s.own (c.is_bound.ensures ∙ ap (λ rs. list_any (same_tree cell) (cells_of rs a)) (sym k))
    ∙ (sym (list_any-append (same_tree cell) Γ.own (cells_of Γ.replications a)) ∙ sym (ap (λ h. list_any (same_tree cell) (second_context c.args.position h a Γ).own) c.in-Branch.is)))

pub returns-in-Cons : goal.returns-in-Cons
returns-in-Cons c = λ Γ k s.
    let trees = c.args.pool.now.trees in
    let cell = tree_at trees c.args.cell in
    let a = tree_at trees c.args.node.first in
    c.is_own_behind.ensures cell a Γ s ∙ sym (ap (λ h. list_any (same_tree cell) (second_context c.args.position h a Γ).own) c.in-Cons.is)

pub returns-in_default : goal.returns-in_default
returns-in_default c = λ Γ k s.
    let trees = c.args.pool.now.trees in
    s.own ∙ ap (list_any (same_tree (tree_at trees c.args.cell))) (sym (other_own c.args.position c.args.node.head (tree_at trees c.args.node.first) Γ c.in_default.not-Cons c.in_default.not-Branch))
