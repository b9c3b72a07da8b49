use Rattle.std.proofs.Common.{ap, sym, ◌∙◌}
use Rattle.std.specs.Prelude.{option_map}
use Rattle.cv_typing.specs.Lookups.{function_at}
use Rattle.cv_scope_rules.specs.typing.Wants as wants
use Rattle.cv_typing.proofs.Bridges.{function_live, function_same}
use Rattle.cv_typing.proofs.below.wants_arguments.Goals as goal

pub returns-in-Some-clause-wants : goal.returns-in-Some-clause-wants
returns-in-Some-clause-wants c = λ trees arrays. sym (ap wants.wants_arguments (function_same trees c.args.decls.now.list c.args.f ∙ ap (option_map (function_at trees)) (sym c.find_function.ensures ∙ c.in-Some.is)))

pub returns-in-Some-clause-live : goal.returns-in-Some-clause-live
returns-in-Some-clause-live c = λ n live. function_live n c.args.decls.now.list c.args.f live c.in-Some.function (sym c.find_function.ensures ∙ c.in-Some.is)

pub returns-in-None-clause-wants : goal.returns-in-None-clause-wants
returns-in-None-clause-wants c = λ trees arrays. sym (ap wants.wants_arguments (function_same trees c.args.decls.now.list c.args.f ∙ ap (option_map (function_at trees)) (sym c.find_function.ensures ∙ c.in-None.is)))
