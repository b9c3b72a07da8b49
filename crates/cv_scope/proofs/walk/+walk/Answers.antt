use Rattle.std.proofs.Common.{rules, ◌≡◌, ◌+◌, ◌<◌, length, arith, refl, ap, sym, ◌∙◌, subst}
use Rattle.std.proofs.lemmas.Result.{err_from_is_err_and}
use Rattle.cv_syntax_trees.specs.Head.{weight}
use Rattle.cv_syntax_trees.specs.Tree.{size}
use Rattle.cv_syntax.specs.PoolTrees.{tree_at}
use Rattle.cv_syntax.specs.Walks.{above as rank}
use Rattle.cv_syntax.proofs.Walking.{above_child, above_some, size_at, size_end}
use Rattle.cv_syntax.proofs.Trees.{child_above, child_live, empty_at, node_at}
use Rattle.cv_scope.specs.Held.{AreListed, HasLiveBinders, last_held, names_held, state_held}
use Rattle.cv_syntax.proofs.faults.Steps.{skip_two}
use Rattle.cv_scope.proofs.Going.{found_end, found_parts, held_only, keeps_more, keeps_same, passed_first, passed_second, refused_first, refused_here, released, seen_second, sites_end, sites_second}
use Rattle.cv_scope.proofs.walk.+walk.Goals as goal

pub returns-in-Some-2-clause-fault : goal.returns-in-Some-2-clause-fault
returns-in-Some-2-clause-fault t c =
    let trees = c.args.pool.now.trees in
    let node = c.read_node-node.result in
    let parts = found_parts (names_held c.args.names.now) (state_held trees c.tree.state) c.tree.here c.tree.place (tree_at trees c.tree.at) node.head (tree_at trees node.first) (tree_at trees node.second) c.in_ok-fault.field-0 _ _ _ _ _ _ (node_at trees c.tree.at c.in-Some.k node c.in-Some.is c.read_node-node.ensures.tree) c.in_ok-fault.ensures.fault refl refl refl refl refl refl in
    refused_here c.tree.place c.in_ok-fault.field-0 c.in-Some-2.fault _ _ c.at.result c.in-Some-2.is (sym parts ∙ c.tree.invariant.same) c.at.ensures

pub overflow_add-first : goal.overflow_add-first
overflow_add-first t c =
    let s = size_at c.args.pool.now.trees c.tree.at c.in-Some.k c.read_node-node.result c.in-Some.is c.read_node-node.ensures.tree in
    omega (arith, s, c.tree.invariant.sum, c.requires.fits, c.weight.ensures.weight)

pub walk-requires : goal.walk-requires
walk-requires t c =
    let trees = c.args.pool.now.trees in
    let node = c.read_node-node.result in
    let s = size_at trees c.tree.at c.in-Some.k node c.in-Some.is c.read_node-node.ensures.tree in
    let here = above_some c.tree.at c.in-Some.k c.in-Some.is in
    let below = above_child c.in-Some.k.0 node.first c.read_node-node.ensures.first in
    let less : rank node.first < rank c.args.tree = omega (arith, here, below, c.tree.invariant.less) in
    let m1 = c.in_ok-fault.ensures.noted c.in_default-2.is in
    let listed = subst (AreListed trees) (sym m1.above.listed) c.tree.invariant.listed in
    let passed = passed_first c.tree.state c.node_fault.new.state c.tree.place (c.tree.place + c.weight.result) m1.above.passed c.tree.invariant.passed (omega arith) in
    (search rules, (child_live (length trees) c.tree.at c.in-Some.k node.first c.in-Some.is c.tree.invariant.live c.read_node-node.ensures.first, (listed, (m1.live, (passed, omega (arith, s, c.tree.invariant.sum, c.requires.fits, c.weight.ensures.weight))))))

pub returns-in_err-place-clause-fault : goal.returns-in_err-place-clause-fault
returns-in_err-place-clause-fault t c =
    let trees = c.args.pool.now.trees in
    let node = c.read_node-node.result in
    let a = tree_at trees node.first in
    let s = c.tree.state in
    let p1 = c.tree.place + c.weight.result in
    let q1 : p1 ≡ c.tree.place + weight node.head = ap (λ n. c.tree.place + n) c.weight.ensures.weight in
    let m1 = c.in_ok-fault.ensures.noted c.in_default-2.is in
    let parts = found_parts (names_held c.args.names.now) (state_held trees s) c.tree.here c.tree.place (tree_at trees c.tree.at) node.head a (tree_at trees node.second) c.in_ok-fault.field-0 _ _ _ _ _ _ (node_at trees c.tree.at c.in-Some.k node c.in-Some.is c.read_node-node.ensures.tree) c.in_ok-fault.ensures.fault (held_only trees s c.node_fault.new.state _ m1) c.first.ensures q1 refl refl refl in
    let p = err_from_is_err_and c.from_residual-in_err-place.result c.from_residual-in_err-place.ensures.1 in
    rw (p.1, p.2) (refused_first c.tree.place c.in_ok-fault.field-0 _ _ _ c.in_err-place.field-0.0 c.in_default-2.is (sym parts ∙ c.tree.invariant.same) c.in_err-place.ensures.fault)

pub enter-requires-clause-passed : goal.enter-requires-clause-passed
enter-requires-clause-passed t c =
    let m1 = c.in_ok-fault.ensures.noted c.in_default-2.is in
    passed_first c.tree.state c.walk.new.state c.tree.place (c.tree.place + c.weight.result) (c.in_ok-place.ensures.noted.above.passed ∙ m1.above.passed) c.tree.invariant.passed (omega arith)

pub tree-preserved : goal.tree-preserved
tree-preserved t c =
    let trees = c.args.pool.now.trees in
    let node = c.read_node-node.result in
    let a = tree_at trees node.first in
    let s = c.tree.state in
    let p1 = c.tree.place + c.weight.result in
    let q1 : p1 ≡ c.tree.place + weight node.head = ap (λ n. c.tree.place + n) c.weight.ensures.weight in
    let m1 = c.in_ok-fault.ensures.noted c.in_default-2.is in
    let q2 = c.in_ok-place.ensures.next in
    let m2 = c.in_ok-place.ensures.noted in
    let m3 = c.in_ok-enter.ensures in
    let second = seen_second trees s c.node_fault.new.state c.walk.new.state c.enter.new.self c.tree.here node.head a c.tree.place p1 c.in_ok-place.place m1 q1 m2 q2 m3 in
    let open_ = node_at trees c.tree.at c.in-Some.k node c.in-Some.is c.read_node-node.ensures.tree in
    let parts = found_parts (names_held c.args.names.now) (state_held trees s) c.tree.here c.tree.place (tree_at trees c.tree.at) node.head a (tree_at trees node.second) c.in_ok-fault.field-0 _ _ _ _ _ _ open_ c.in_ok-fault.ensures.fault (held_only trees s c.node_fault.new.state _ m1) c.first.ensures q1 second c.second-here.ensures (q2 ∙ ap (λ n. n + size a) q1) in
    let z = size_at trees c.tree.at c.in-Some.k node c.in-Some.is c.read_node-node.ensures.tree in
    record {
      live = child_live (length trees) c.tree.at c.in-Some.k node.second c.in-Some.is c.tree.invariant.live c.read_node-node.ensures.second;
      listed = m3.live;
      binders = subst (HasLiveBinders (length trees)) (sym m3.last) m2.live;
      passed = passed_second trees s c.node_fault.new.state c.walk.new.state c.enter.new.self c.tree.here node.head a c.tree.place p1 c.in_ok-place.place m1 q1 m2 q2 m3 c.tree.invariant.passed;
      same = sym (parts ∙ skip_two c.tree.place c.in_ok-fault.field-0 _ _ c.in_default-2.is c.in_ok-place.ensures.scoped) ∙ c.tree.invariant.same;
      sites = sites_second trees s c.node_fault.new.state c.walk.new.state c.enter.new.self c.tree.here node.head a c.tree.place p1 c.in_ok-place.place m1 q1 m2 q2 m3 (tree_at trees c.tree.at) (tree_at trees node.second) open_ ∙ c.tree.invariant.sites;
      keeps = keeps_more c.marks-marks.result c.args.state.now c.walk.new.state c.enter.new.self c.marks-marks.ensures.replications c.marks-marks.ensures.defined c.marks-marks.ensures.listed c.marks-marks.ensures.passed (keeps_same c.marks-marks.result c.args.state.now c.node_fault.new.state c.walk.new.state (keeps_same c.marks-marks.result c.args.state.now s c.node_fault.new.state c.tree.invariant.keeps m1.above) m2.above) m3.front;
      sum = omega (arith, z, c.tree.invariant.sum, q1, q2);
      less = child_above _ c.tree.at c.in-Some.k node.second c.in-Some.is c.tree.invariant.less c.read_node-node.ensures.second;
    }

pub returns-clause-scoped : goal.returns-clause-scoped
returns-clause-scoped t c = sym c.tree.invariant.same ∙ found_end _ _ _ _ _ (empty_at c.args.pool.now.trees c.tree.at c.in_default.is)

pub returns-clause-next : goal.returns-clause-next
returns-clause-next t c = omega (arith, c.tree.invariant.sum, size_end c.args.pool.now.trees c.tree.at c.in_default.is)

pub returns-clause-noted : goal.returns-clause-noted
returns-clause-noted t c =
    let trees = c.args.pool.now.trees in
    released trees c.marks-marks.result c.args.state.now c.tree.state c.release.new.self _ c.tree.invariant.keeps c.release.ensures (sym (sites_end (last_held trees c.tree.state.last) c.tree.state.replications.items c.tree.place (tree_at trees c.tree.at) (empty_at trees c.tree.at c.in_default.is)) ∙ c.tree.invariant.sites) c.tree.invariant.binders
