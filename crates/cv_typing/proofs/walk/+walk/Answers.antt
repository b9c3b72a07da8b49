use Rattle.std.proofs.Common.{rules, ◌+◌, ◌<◌, length, arith, refl, ap, sym, ◌∙◌}
use Rattle.std.proofs.lemmas.Result.{err_from_is_err_and}
use Rattle.cv_syntax.specs.PoolTrees.{tree_at}
use Rattle.cv_syntax.specs.Walks.{above as rank}
use Rattle.cv_syntax.proofs.Walking.{above_child, above_some, size_at, size_end}
use Rattle.cv_typing.specs.Lookups.{signature_in, want_of}
use Rattle.cv_typing.specs.Tables.{above_of, restored}
use Rattle.cv_scope_rules.specs.typing.Wants.{with_names}
use Rattle.cv_scope_rules.proofs.typing.Steps.{fault_end, fault_parts, names_bound, none_bound, refused_as, refused_first, refused_here}
use Rattle.cv_syntax.proofs.faults.Steps.{skip_two}
use Rattle.cv_syntax.proofs.Trees.{child_above, child_live, empty_at, node_at}
use Rattle.cv_typing.proofs.walk.+walk.Goals as goal

pub returns-in-Some-own_fault-clause-fault : goal.returns-in-Some-own_fault-clause-fault
returns-in-Some-own_fault-clause-fault t c =
    let trees = c.args.pool.now.trees in
    let node = c.read_node-node.result in
    let e = signature_in trees c.args.decls.now.list c.args.arrays.now in
    let w = want_of trees c.args.arrays.now c.tree.want in
    let parts = fault_parts e (above_of c.tree.above) w c.tree.place (tree_at trees c.tree.at) node.head (tree_at trees node.first) (tree_at trees node.second) c.own_fault.result _ _ _ _ (node_at trees c.tree.at c.in-Some.k node c.in-Some.is c.read_node-node.ensures.tree) c.own_fault.ensures refl refl refl refl in
    refused_here c.tree.place c.own_fault.result c.in-Some-own_fault.fault _ _ c.at.result c.in-Some-own_fault.is (sym parts ∙ c.tree.invariant.same) c.at.ensures

pub overflow_add-place : goal.overflow_add-place
overflow_add-place t c =
    let s = size_at c.args.pool.now.trees c.tree.at c.in-Some.k c.read_node-node.result c.in-Some.is c.read_node-node.ensures.tree in
    omega (arith, s, c.tree.invariant.sum, c.requires.fits, c.weight-place.ensures.weight)

pub walk-requires : goal.walk-requires
walk-requires t c =
    let trees = c.args.pool.now.trees in
    let node = c.read_node-node.result in
    let s = size_at trees c.tree.at c.in-Some.k node c.in-Some.is c.read_node-node.ensures.tree in
    let here = above_some c.tree.at c.in-Some.k c.in-Some.is in
    let below = above_child c.in-Some.k.0 node.first c.read_node-node.ensures.first in
    let less : rank node.first < rank c.args.tree = omega (arith, here, below, c.tree.invariant.less) in
    (search rules, (child_live (length trees) c.tree.at c.in-Some.k node.first c.in-Some.is c.tree.invariant.live c.read_node-node.ensures.first, (c.wants_below-below.ensures.live.0, (c.requires.arguments, omega (arith, s, c.tree.invariant.sum, c.requires.fits, c.weight-place.ensures.weight)))))

pub returns-in_err-place-clause-fault : goal.returns-in_err-place-clause-fault
returns-in_err-place-clause-fault t c =
    let trees = c.args.pool.now.trees in
    let node = c.read_node-node.result in
    let e = signature_in trees c.args.decls.now.list c.args.arrays.now in
    let w = want_of trees c.args.arrays.now c.tree.want in
    let parts = fault_parts e (above_of c.tree.above) w c.tree.place (tree_at trees c.tree.at) node.head (tree_at trees node.first) (tree_at trees node.second) c.own_fault.result _ _ _ _ (node_at trees c.tree.at c.in-Some.k node c.in-Some.is c.read_node-node.ensures.tree) c.own_fault.ensures c.wants_below-below.ensures.wants (ap (λ n. c.tree.place + n) c.weight-place.ensures.weight) refl refl in
    let p = err_from_is_err_and c.from_residual.result c.from_residual.ensures.1 in
    rw (p.1, p.2) (refused_first c.tree.place c.own_fault.result _ _ _ c.in_err-place.field-0.0 c.in_default-own_fault.is (sym parts ∙ c.tree.invariant.same) c.in_err-place.ensures.fault)

pub walk-requires-then-binds : goal.walk-requires-then-binds
walk-requires-then-binds t c =
    let trees = c.args.pool.now.trees in
    let node = c.read_node-node.result in
    let s = size_at trees c.tree.at c.in-Some.k node c.in-Some.is c.read_node-node.ensures.tree in
    let here = above_some c.tree.at c.in-Some.k c.in-Some.is in
    let below = above_child c.in-Some.k.0 node.second c.read_node-node.ensures.second in
    let less : rank node.second < rank c.args.tree = omega (arith, here, below, c.tree.invariant.less) in
    (search rules, (child_live (length trees) c.tree.at c.in-Some.k node.second c.in-Some.is c.tree.invariant.live c.read_node-node.ensures.second, (c.wants_below-below.ensures.live.1, (c.requires.arguments, omega (arith, s, c.tree.invariant.sum, c.requires.fits, c.weight-place.ensures.weight, c.in_ok-place.ensures.next)))))

pub returns-in_err-next-clause-fault : goal.returns-in_err-next-clause-fault
returns-in_err-next-clause-fault t c =
    let trees = c.args.pool.now.trees in
    let node = c.read_node-node.result in
    let e = signature_in trees c.args.decls.now.list c.args.arrays.now in
    let w = want_of trees c.args.arrays.now c.tree.want in
    let below = c.in_ok-bound.ensures.names ∙ (ap (with_names node.head (tree_at trees node.first)) c.in_ok-place.ensures.kept ∙ names_bound w node.head (tree_at trees node.first) (above_of c.tree.above) c.binds.result (c.binds.ensures trees c.args.arrays.now) c.if-binds.true) in
    let parts = fault_parts e (above_of c.tree.above) w c.tree.place (tree_at trees c.tree.at) node.head (tree_at trees node.first) (tree_at trees node.second) c.own_fault.result _ _ _ _ (node_at trees c.tree.at c.in-Some.k node c.in-Some.is c.read_node-node.ensures.tree) c.own_fault.ensures c.wants_below-below.ensures.wants (ap (λ n. c.tree.place + n) c.weight-place.ensures.weight) c.in_ok-place.ensures.next below in
    let here = sym (parts ∙ skip_two c.tree.place c.own_fault.result _ _ c.in_default-own_fault.is c.in_ok-place.ensures.typed) ∙ c.tree.invariant.same in
    let p = err_from_is_err_and c.from_residual-in_err-next.result c.from_residual-in_err-next.ensures.1 in
    rw (p.1, p.2) (refused_as _ _ c.in_err-next.field-0.0 here c.in_err-next.ensures.fault)

pub returns-then-binds-clause-typed : goal.returns-then-binds-clause-typed
returns-then-binds-clause-typed t c =
    let trees = c.args.pool.now.trees in
    let node = c.read_node-node.result in
    let e = signature_in trees c.args.decls.now.list c.args.arrays.now in
    let w = want_of trees c.args.arrays.now c.tree.want in
    let below = c.in_ok-bound.ensures.names ∙ (ap (with_names node.head (tree_at trees node.first)) c.in_ok-place.ensures.kept ∙ names_bound w node.head (tree_at trees node.first) (above_of c.tree.above) c.binds.result (c.binds.ensures trees c.args.arrays.now) c.if-binds.true) in
    let parts = fault_parts e (above_of c.tree.above) w c.tree.place (tree_at trees c.tree.at) node.head (tree_at trees node.first) (tree_at trees node.second) c.own_fault.result _ _ _ _ (node_at trees c.tree.at c.in-Some.k node c.in-Some.is c.read_node-node.ensures.tree) c.own_fault.ensures c.wants_below-below.ensures.wants (ap (λ n. c.tree.place + n) c.weight-place.ensures.weight) c.in_ok-place.ensures.next below in
    sym c.tree.invariant.same ∙ (parts ∙ (skip_two c.tree.place c.own_fault.result _ _ c.in_default-own_fault.is c.in_ok-place.ensures.typed ∙ c.in_ok-next.ensures.typed))

pub returns-then-binds-clause-next : goal.returns-then-binds-clause-next
returns-then-binds-clause-next t c =
    let s = size_at c.args.pool.now.trees c.tree.at c.in-Some.k c.read_node-node.result c.in-Some.is c.read_node-node.ensures.tree in
    omega (arith, s, c.tree.invariant.sum, c.weight-place.ensures.weight, c.in_ok-place.ensures.next, c.in_ok-next.ensures.next)

pub returns-then-binds-clause-kept : goal.returns-then-binds-clause-kept
returns-then-binds-clause-kept t c = c.in_ok-unbind.ensures ∙ (ap (λ f. restored f c.in_ok-bound.bound.items) c.in_ok-next.ensures.kept ∙ (c.in_ok-bound.ensures.back ∙ (c.in_ok-place.ensures.kept ∙ c.tree.invariant.kept)))

pub tree-preserved : goal.tree-preserved
tree-preserved t c =
    let trees = c.args.pool.now.trees in
    let node = c.read_node-node.result in
    let e = signature_in trees c.args.decls.now.list c.args.arrays.now in
    let w = want_of trees c.args.arrays.now c.tree.want in
    let s = size_at trees c.tree.at c.in-Some.k node c.in-Some.is c.read_node-node.ensures.tree in
    let below = c.in_ok-place.ensures.kept ∙ none_bound w node.head (tree_at trees node.first) (above_of c.tree.above) c.binds.result (c.binds.ensures trees c.args.arrays.now) c.if-binds.false in
    let parts = fault_parts e (above_of c.tree.above) w c.tree.place (tree_at trees c.tree.at) node.head (tree_at trees node.first) (tree_at trees node.second) c.own_fault.result _ _ _ _ (node_at trees c.tree.at c.in-Some.k node c.in-Some.is c.read_node-node.ensures.tree) c.own_fault.ensures c.wants_below-below.ensures.wants (ap (λ n. c.tree.place + n) c.weight-place.ensures.weight) c.in_ok-place.ensures.next below in
    record {
      live = child_live (length trees) c.tree.at c.in-Some.k node.second c.in-Some.is c.tree.invariant.live c.read_node-node.ensures.second;
      want = c.wants_below-below.ensures.live.1;
      same = sym (parts ∙ skip_two c.tree.place c.own_fault.result _ _ c.in_default-own_fault.is c.in_ok-place.ensures.typed) ∙ c.tree.invariant.same;
      sum = omega (arith, s, c.tree.invariant.sum, c.weight-place.ensures.weight, c.in_ok-place.ensures.next);
      kept = c.in_ok-place.ensures.kept ∙ c.tree.invariant.kept;
      less = child_above _ c.tree.at c.in-Some.k node.second c.in-Some.is c.tree.invariant.less c.read_node-node.ensures.second;
    }

pub returns-clause-typed : goal.returns-clause-typed
returns-clause-typed t c =
    let trees = c.args.pool.now.trees in
    sym c.tree.invariant.same ∙ fault_end (signature_in trees c.args.decls.now.list c.args.arrays.now) (above_of c.tree.above) (want_of trees c.args.arrays.now c.tree.want) c.tree.place (tree_at trees c.tree.at) (empty_at trees c.tree.at c.in_default.is)

pub returns-clause-next : goal.returns-clause-next
returns-clause-next t c = omega (arith, c.tree.invariant.sum, size_end c.args.pool.now.trees c.tree.at c.in_default.is)
