use Rattle.std.proofs.Common.{ap}
use Rattle.cv_syntax.specs.Declarations.{declarations, declared}
use Rattle.cv_scope_rules.specs.typing.Parts.{declaration_parts}
use Rattle.cv_typing.proofs.Bodies.{named_checked}
use Rattle.cv_typing.proofs.parts.check_declaration.Goals as goal

pub returns-in-Name : goal.returns-in-Name
returns-in-Name c = named_checked (declarations c.args.pool.now.trees c.args.decls.now.list) c.args.from _ (ap (λ d. declaration_parts (declarations c.args.pool.now.trees c.args.decls.now.list) (declared c.args.pool.now.trees d)) c.in-Name.is)
