use Rattle.std.specs.Prelude.{is_some}
use Rattle.cv_syntax.specs.Declarations.{declarations}
use Rattle.cv_scope_rules.specs.typing.Signature.{function_in}
use Rattle.cv_scene_view.specs.Kept.{has_index_name, has_variable}
use Rattle.cv_scene_view.proofs.Tests.{either_first, either_second, either_third}
use Rattle.cv_scene_view.proofs.games.is_name_there.Goals as goal

pub returns-then-is_index : goal.returns-then-is_index
returns-then-is_index c = λ trees. either_first (has_index_name c.args.above.now c.args.arrays.now c.args.everywhere c.args.x) (is_some (function_in (declarations trees c.args.decls.now.list) c.args.x)) (has_variable c.args.arrays.now c.args.x) c.is_index.result c.is_index.ensures c.if-is_index.true

pub returns-then-is_function : goal.returns-then-is_function
returns-then-is_function c = λ trees. either_second (has_index_name c.args.above.now c.args.arrays.now c.args.everywhere c.args.x) (is_some (function_in (declarations trees c.args.decls.now.list) c.args.x)) (has_variable c.args.arrays.now c.args.x) c.is_index.result c.is_function.result c.is_index.ensures c.if-is_index.false (c.is_function.ensures trees) c.if-is_function.true

pub returns : goal.returns
returns c = λ trees. either_third (has_index_name c.args.above.now c.args.arrays.now c.args.everywhere c.args.x) (is_some (function_in (declarations trees c.args.decls.now.list) c.args.x)) (has_variable c.args.arrays.now c.args.x) c.is_index.result c.is_function.result c.is_variable.result c.is_index.ensures c.if-is_index.false (c.is_function.ensures trees) c.if-is_function.false c.is_variable.ensures
