use Rattle.std.proofs.Common.{ap, sym, ◌∙◌}
use Rattle.std.specs.List.{list_any}
use Rattle.cv_syntax_trees.specs.declared.head.Head.TheVariants.{Cons}
use Rattle.cv_syntax_trees.specs.Tree.{same_tree}
use Rattle.cv_scope_rules.specs.Context.{second_context}
use Rattle.cv_rule_fresh.proofs.Seeing.{list_own}
use Rattle.cv_rule_fresh.proofs.reach.is_own_behind.Goals as goal

pub returns-in-Guarded : goal.returns-in-Guarded
returns-in-Guarded c = λ cell item Γ s. sym (ap (λ w. list_any (same_tree cell) (second_context w Cons item Γ).own) c.in-Guarded.is)

pub returns-in_default : goal.returns-in_default
returns-in_default c = λ cell item Γ s. s.own ∙ ap (list_any (same_tree cell)) (sym (list_own c.args.position item Γ c.in_default.not-Guarded))
