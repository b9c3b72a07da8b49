use Rattle.std.proofs.Common.{ap, ◌∙◌}
use Rattle.cv_settling.specs.Seen.{type_seen}
use Rattle.cv_settling.proofs.Typed.{read_defined, read_nothing}
use Rattle.cv_settling.proofs.types.read_type.Goals as goal

pub returns-then-is_defined : goal.returns-then-is_defined
returns-then-is_defined c =
    λ s t. read_defined s c.args.x c.get-variable.result c.is_defined.result c.is_defined.ensures (ap type_seen c.get-variable.ensures ∙ t.variables c.args.x) c.if-is_defined.true

pub returns : goal.returns
returns c =
    λ s t. read_nothing s c.args.x c.get-variable.result c.is_defined.result c.is_defined.ensures (ap type_seen c.get-variable.ensures ∙ t.variables c.args.x) c.if-is_defined.false
