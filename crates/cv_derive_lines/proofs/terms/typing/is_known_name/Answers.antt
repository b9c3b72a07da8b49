use Rattle.std.specs.Prelude.{is_some}
use Rattle.cv_syntax.specs.Declarations.{declarations}
use Rattle.cv_scope_rules.specs.typing.Signature.{function_in, variable_in}
use Rattle.cv_typing.specs.Tables.{above_of, arrays_of}
use Rattle.cv_derive_lines.proofs.terms.typing.is_known_name.Goals as goal
use Rattle.cv_scene_view.proofs.Tests.{either_first, either_second, either_third}

pub returns-then-contains_key : goal.returns-then-contains_key
returns-then-contains_key c = λ trees. either_first (is_some (above_of c.args.above.now c.args.x)) (is_some (function_in (declarations trees c.args.decls.now.list) c.args.x)) (is_some (variable_in (arrays_of c.args.arrays.now) c.args.x)) c.contains_key.result c.contains_key.ensures c.if-contains_key.true

pub returns-then-is_function : goal.returns-then-is_function
returns-then-is_function c = λ trees. either_second (is_some (above_of c.args.above.now c.args.x)) (is_some (function_in (declarations trees c.args.decls.now.list) c.args.x)) (is_some (variable_in (arrays_of c.args.arrays.now) c.args.x)) c.contains_key.result c.is_function.result c.contains_key.ensures c.if-contains_key.false (c.is_function.ensures trees) c.if-is_function.true

pub returns : goal.returns
returns c = λ trees. either_third (is_some (above_of c.args.above.now c.args.x)) (is_some (function_in (declarations trees c.args.decls.now.list) c.args.x)) (is_some (variable_in (arrays_of c.args.arrays.now) c.args.x)) c.contains_key.result c.is_function.result c.is_variable.result c.contains_key.ensures c.if-contains_key.false (c.is_function.ensures trees) c.if-is_function.false c.is_variable.ensures
