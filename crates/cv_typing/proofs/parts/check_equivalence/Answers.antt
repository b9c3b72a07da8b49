use Rattle.std.proofs.Common.{◌++◌, Some, ap, ◌∙◌, arith}
use Rattle.std.proofs.lemmas.Result.{err_from_is_err_and}
use Rattle.cv_syntax.specs.Declarations.{declarations}
use Rattle.cv_syntax.specs.PoolTrees.{tree_at}
use Rattle.cv_scope_rules.specs.typing.Parts.{body_parts, first_in, equivalence_parts}
use Rattle.cv_scope_rules.specs.typing.Refusals.{parts_size}
use Rattle.cv_typing.specs.Tables.{arrays_of}
use Rattle.cv_typing.proofs.Bodies.{refused_before, size_append, then_checked}
use Rattle.cv_typing.proofs.Sides.{checked_as, equivalence_left, equivalence_whole, right_parts}
use Rattle.cv_typing.proofs.parts.check_equivalence.Goals as goal

pub check_bodies-requires-clause-fits : goal.check_bodies-requires-clause-fits
check_bodies-requires-clause-fits c =
    let trees = c.args.pool.now.trees in
    let ds = declarations trees c.args.decls.now.list in
    let node = c.read_node-node.result in
    let t = tree_at trees (Some c.args.tree) in
    let left = body_parts (arrays_of c.in_ok-left.left) (tree_at trees c.first_of-key.result) c.as_slice.result.now (tree_at trees c.second_of-functions.result) in
    let e = equivalence_left ds t (tree_at trees node.first) (tree_at trees node.second) node.head (arrays_of c.in_ok-left.left) (tree_at trees c.first_of-key.result) (tree_at trees c.second_of-functions.result) c.as_slice.result.now c.read_node-node.ensures.tree c.in_ok-left.ensures c.first_of-key.ensures.tree c.second_of-functions.ensures.tree (c.as_slice.ensures.value ∙ c.new-none.ensures.items) in
    let s = ap parts_size e in
    let f = size_append left (right_parts ds t) in
    omega (arith, s, f, c.requires.fits)

pub returns-in_err-middle : goal.returns-in_err-middle
returns-in_err-middle c =
    let trees = c.args.pool.now.trees in
    let ds = declarations trees c.args.decls.now.list in
    let node = c.read_node-node.result in
    let t = tree_at trees (Some c.args.tree) in
    let left = body_parts (arrays_of c.in_ok-left.left) (tree_at trees c.first_of-key.result) c.as_slice.result.now (tree_at trees c.second_of-functions.result) in
    let e = equivalence_left ds t (tree_at trees node.first) (tree_at trees node.second) node.head (arrays_of c.in_ok-left.left) (tree_at trees c.first_of-key.result) (tree_at trees c.second_of-functions.result) c.as_slice.result.now c.read_node-node.ensures.tree c.in_ok-left.ensures c.first_of-key.ensures.tree c.second_of-functions.ensures.tree (c.as_slice.ensures.value ∙ c.new-none.ensures.items) in
    let p = err_from_is_err_and c.from_residual-in_err-middle.result c.from_residual-in_err-middle.ensures.1 in
    rw (p.1, p.2) (refused_before ds c.args.from left (right_parts ds t) (first_in ds c.args.from (equivalence_parts ds t)) c.in_err-middle.field-0.0 (ap (first_in ds c.args.from) e) c.in_err-middle.ensures)

pub check_bodies-requires-2-clause-fits : goal.check_bodies-requires-2-clause-fits
check_bodies-requires-2-clause-fits c =
    let trees = c.args.pool.now.trees in
    let ds = declarations trees c.args.decls.now.list in
    let node = c.read_node-node.result in
    let t = tree_at trees (Some c.args.tree) in
    let left = body_parts (arrays_of c.in_ok-left.left) (tree_at trees c.first_of-key.result) c.as_slice.result.now (tree_at trees c.second_of-functions.result) in
    let right = body_parts (arrays_of c.in_ok-right.right) (tree_at trees c.first_of-other_key.result) c.as_slice-2.result.now (tree_at trees c.second_of-others.result) in
    let e = equivalence_whole ds t (tree_at trees node.first) (tree_at trees node.second) node.head (arrays_of c.in_ok-left.left) (arrays_of c.in_ok-right.right) (tree_at trees c.first_of-key.result) (tree_at trees c.second_of-functions.result) (tree_at trees c.first_of-other_key.result) (tree_at trees c.second_of-others.result) c.as_slice.result.now c.as_slice-2.result.now c.read_node-node.ensures.tree c.in_ok-left.ensures c.first_of-key.ensures.tree c.second_of-functions.ensures.tree (c.as_slice.ensures.value ∙ c.new-none.ensures.items) c.in_ok-right.ensures c.first_of-other_key.ensures.tree c.second_of-others.ensures.tree (c.as_slice-2.ensures.value ∙ c.in_ok-sorts.ensures) in
    let s = ap parts_size e in
    let f = size_append left right in
    omega (arith, s, f, c.requires.fits, c.in_ok-middle.ensures.1)

pub returns : goal.returns
returns c =
    let trees = c.args.pool.now.trees in
    let ds = declarations trees c.args.decls.now.list in
    let node = c.read_node-node.result in
    let t = tree_at trees (Some c.args.tree) in
    let left = body_parts (arrays_of c.in_ok-left.left) (tree_at trees c.first_of-key.result) c.as_slice.result.now (tree_at trees c.second_of-functions.result) in
    let right = body_parts (arrays_of c.in_ok-right.right) (tree_at trees c.first_of-other_key.result) c.as_slice-2.result.now (tree_at trees c.second_of-others.result) in
    let e = equivalence_whole ds t (tree_at trees node.first) (tree_at trees node.second) node.head (arrays_of c.in_ok-left.left) (arrays_of c.in_ok-right.right) (tree_at trees c.first_of-key.result) (tree_at trees c.second_of-functions.result) (tree_at trees c.first_of-other_key.result) (tree_at trees c.second_of-others.result) c.as_slice.result.now c.as_slice-2.result.now c.read_node-node.ensures.tree c.in_ok-left.ensures c.first_of-key.ensures.tree c.second_of-functions.ensures.tree (c.as_slice.ensures.value ∙ c.new-none.ensures.items) c.in_ok-right.ensures c.first_of-other_key.ensures.tree c.second_of-others.ensures.tree (c.as_slice-2.ensures.value ∙ c.in_ok-sorts.ensures) in
    checked_as ds c.args.from (left ++ right) (equivalence_parts ds t) c.check_bodies-2.result e (then_checked ds c.args.from c.in_ok-middle.middle left right c.check_bodies-2.result c.in_ok-middle.ensures.0 c.in_ok-middle.ensures.1 c.check_bodies-2.ensures)
