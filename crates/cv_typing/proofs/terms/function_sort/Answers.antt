use Rattle.std.proofs.Common.{ap, sym, ◌∙◌}
use Rattle.std.specs.Prelude.{option_map}
use Rattle.cv_syntax_trees.specs.declared.sites.sort.Sort.TheVariants.{OfType}
use Rattle.cv_typing.specs.Lookups.{function_at}
use Rattle.cv_scope_rules.specs.typing.Signature.{Function}
use Rattle.cv_typing.proofs.Bridges.{function_same}
use Rattle.cv_typing.proofs.terms.function_sort.Goals as goal

pub returns-in-Some : goal.returns-in-Some
returns-in-Some c = λ trees. sym (ap (option_map (λ (f : Function). OfType f.result)) (function_same trees c.args.decls.now.list c.args.f ∙ ap (option_map (function_at trees)) (sym c.find_function.ensures ∙ c.in-Some.is)))

pub returns-in-None : goal.returns-in-None
returns-in-None c = λ trees. sym (ap (option_map (λ (f : Function). OfType f.result)) (function_same trees c.args.decls.now.list c.args.f ∙ ap (option_map (function_at trees)) (sym c.find_function.ensures ∙ c.in-None.is)))
