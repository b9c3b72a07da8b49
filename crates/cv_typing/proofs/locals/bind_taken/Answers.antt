use Rattle.std.proofs.Common.{ap, ap₂, ◌∙◌}
use Rattle.cv_scope_rules.specs.declared.typing.precedence.Precedence.TheVariants.{Newest}
use Rattle.cv_syntax_trees.specs.declared.sites.sort.Sort.TheVariants.{OfType}
use Rattle.cv_scope_rules.specs.typing.Signature.{Above}
use Rattle.cv_scope_rules.specs.typing.Wants.{all_bound}
use Rattle.cv_typing.proofs.locals.bind_taken.Goals as goal

pub returns : goal.returns
returns c =
    c.in_ok-bind_all-2.ensures.names
    ∙ ap₂ (λ (f : Above) t. all_bound Newest f OfType t) (c.in_ok-bind_all.ensures.names ∙ ap (all_bound Newest _ OfType) c.first_of.ensures.tree) c.second_of.ensures.tree
