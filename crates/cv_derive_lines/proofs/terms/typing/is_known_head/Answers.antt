use Rattle.std.proofs.Common.{ap, sym, ◌∙◌}
use Rattle.cv_syntax.specs.Declarations.{declarations}
use Rattle.cv_derive_lines.specs.terms.Typed.{is_known_head, names_of}
use Rattle.cv_derive_lines.proofs.terms.Typed.{other_known}
use Rattle.cv_derive_lines.proofs.terms.typing.is_known_head.Goals as goal

pub returns-in-Leaf : goal.returns-in-Leaf
returns-in-Leaf c = λ trees. c.is_known_name.ensures trees ∙ ap (is_known_head (names_of (declarations trees c.args.decls.now.list) c.args.arrays.now c.args.above.now)) (sym c.in-Leaf.is)

pub returns-in-Read : goal.returns-in-Read
returns-in-Read c = λ trees. c.is_variable.ensures ∙ ap (is_known_head (names_of (declarations trees c.args.decls.now.list) c.args.arrays.now c.args.above.now)) (sym c.in-Read.is)

pub returns-in-Apply : goal.returns-in-Apply
returns-in-Apply c = λ trees. c.is_function.ensures trees ∙ ap (is_known_head (names_of (declarations trees c.args.decls.now.list) c.args.arrays.now c.args.above.now)) (sym c.in-Apply.is)

pub returns-in_default : goal.returns-in_default
returns-in_default c = λ trees. other_known (names_of (declarations trees c.args.decls.now.list) c.args.arrays.now c.args.above.now) c.args.head c.in_default.not-Leaf c.in_default.not-Read c.in_default.not-Apply
