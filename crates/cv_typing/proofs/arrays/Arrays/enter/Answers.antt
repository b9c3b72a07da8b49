use Rattle.std.proofs.Common.{ap, sym, ◌∙◌}
use Rattle.cv_syntax.specs.PoolTrees.{tree_at}
use Rattle.cv_scope_rules.specs.typing.Parts.{in_function}
use Rattle.cv_scope_rules.specs.typing.Signature.{OfSide}
use Rattle.cv_typing.specs.Tables.{arrays_of, locals_of}
use Rattle.cv_typing.proofs.arrays.Arrays.enter.Goals as goal

pub returns-in_ok-own : goal.returns-in_ok-own
returns-in_ok-own c = ap (OfSide (locals_of c.in-OfSide.field-0)) c.in_ok-own.ensures ∙ sym (ap (λ r. in_function (arrays_of r) (tree_at c.args.pool.now.trees c.args.function)) c.in-OfSide.is)
