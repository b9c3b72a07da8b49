use Rattle.std.proofs.Common.{ap, ◌∙◌}
use Rattle.std.specs.Prelude.{is_some}
use Rattle.cv_syntax.specs.Declarations.{declarations}
use Rattle.cv_syntax_trees.specs.declared.sites.sort.Sort.TheVariants.{OfType}
use Rattle.cv_scope_rules.specs.typing.Signature.{Function, function_in}
use Rattle.cv_derive_lines.proofs.terms.typing.is_function.Goals as goal
use Rattle.cv_syntax_trees.proofs.lists.Options.{is_some_map}

pub returns : goal.returns
returns c = λ trees. c.is_some.ensures ∙ (ap is_some (c.function_sort.ensures trees) ∙ is_some_map (λ (f : Function). OfType f.result) (function_in (declarations trees c.args.decls.now.list) c.args.f))
