use Rattle.std.proofs.Common.{ap, sym, ◌∙◌}
use Rattle.std.specs.Prelude.{option_map}
use Rattle.cv_syntax_trees.specs.declared.sites.sort.Sort.TheVariants.{OfType}
use Rattle.cv_scope_rules.specs.typing.Signature.{Function, function_in}
use Rattle.cv_settling.specs.Seen.{type_in, type_seen}
use Rattle.cv_settling.proofs.Typed.{leaf_defined, leaf_function}
use Rattle.cv_settling.proofs.types.leaf_type.Goals as goal

pub returns-then-is_defined : goal.returns-then-is_defined
returns-then-is_defined c =
    λ s t. leaf_defined s c.args.x c.get-variable.result c.is_defined.result c.is_defined.ensures (ap type_seen c.get-variable.ensures ∙ t.variables c.args.x) c.if-is_defined.true

pub returns : goal.returns
returns c =
    λ s t.
    c.function_type.ensures c.args.table.now.pool.now.trees
    ∙ (ap (λ ds. type_in (option_map (λ (f : Function). OfType f.result) (function_in ds c.args.x))) (sym t.declarations)
    ∙ leaf_function s c.args.x c.get-variable.result c.is_defined.result c.is_defined.ensures (ap type_seen c.get-variable.ensures ∙ t.variables c.args.x) c.if-is_defined.false)
