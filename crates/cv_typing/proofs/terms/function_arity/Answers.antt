use Rattle.std.proofs.Common.{length, ap, sym, ◌∙◌, Some}
use Rattle.std.specs.Prelude.{option_map}
use Rattle.cv_typing.specs.Lookups.{function_at}
use Rattle.cv_scope_rules.specs.typing.Signature.{Function}
use Rattle.cv_typing.proofs.Bridges.{function_live, function_same}
use Rattle.cv_typing.proofs.terms.function_arity.Goals as goal

pub count_names-requires : goal.count_names-requires
count_names-requires c = function_live (length c.args.pool.now.trees) c.args.decls.now.list c.args.f c.requires c.in-Some.function (sym c.find_function.ensures ∙ c.in-Some.is)

pub returns-in-Some : goal.returns-in-Some
returns-in-Some c = ap Some c.count_names.ensures ∙ sym (ap (option_map (λ (f : Function). length f.arguments)) (function_same c.args.pool.now.trees c.args.decls.now.list c.args.f ∙ ap (option_map (function_at c.args.pool.now.trees)) (sym c.find_function.ensures ∙ c.in-Some.is)))

pub returns-in-None : goal.returns-in-None
returns-in-None c = sym (ap (option_map (λ (f : Function). length f.arguments)) (function_same c.args.pool.now.trees c.args.decls.now.list c.args.f ∙ ap (option_map (function_at c.args.pool.now.trees)) (sym c.find_function.ensures ∙ c.in-None.is)))
