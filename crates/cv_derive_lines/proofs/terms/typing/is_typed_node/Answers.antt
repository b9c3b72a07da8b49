use Rattle.std.proofs.Common.{not}
use Rattle.std.specs.Prelude.{is_some}
use Rattle.cv_syntax.specs.Declarations.{declarations}
use Rattle.cv_syntax.specs.PoolTrees.{tree_at}
use Rattle.cv_typing.specs.Lookups.{signature_in, want_of}
use Rattle.cv_typing.specs.Tables.{above_of}
use Rattle.cv_scope_rules.specs.typing.Typing.{fault_of}
use Rattle.cv_derive_lines.specs.terms.Typed.{is_known_head, names_of}
use Rattle.cv_derive_lines.proofs.terms.Typed.{no_fault, then_second}
use Rattle.cv_derive_lines.proofs.terms.typing.is_typed_node.Goals as goal
use Rattle.cv_scene_view.proofs.Tests.{not_first}

pub returns-then-not-is_known_head : goal.returns-then-not-is_known_head
returns-then-not-is_known_head c =
    let trees = c.args.pool.now.trees in
    not_first (is_known_head (names_of (declarations trees c.args.decls.now.list) c.args.arrays.now c.args.above.now) c.args.node.head) (not (is_some (fault_of (signature_in trees c.args.decls.now.list c.args.arrays.now) (above_of c.args.above.now) (want_of trees c.args.arrays.now c.args.want) c.args.node.head (tree_at trees c.args.node.first)))) c.is_known_head.result (c.is_known_head.ensures trees) c.if-not-is_known_head.true

pub returns : goal.returns
returns c =
    let trees = c.args.pool.now.trees in
    let found = fault_of (signature_in trees c.args.decls.now.list c.args.arrays.now) (above_of c.args.above.now) (want_of trees c.args.arrays.now c.args.want) c.args.node.head (tree_at trees c.args.node.first) in
    then_second (is_known_head (names_of (declarations trees c.args.decls.now.list) c.args.arrays.now c.args.above.now) c.args.node.head) (not (is_some found)) c.is_known_head.result c.is_none.result (c.is_known_head.ensures trees) c.if-not-is_known_head.false (no_fault c.own_fault.result found c.is_none.result c.is_none.ensures c.own_fault.ensures)
