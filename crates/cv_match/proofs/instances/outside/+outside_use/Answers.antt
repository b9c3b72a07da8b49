use Rattle.std.proofs.Common.{rules, ◌+◌, ◌<◌, ◌≡◌, false, arith, ap, length, refl, sym, ◌∙◌}
use Rattle.std.specs.Prelude.{is_some}
use Rattle.cv_syntax_trees.specs.Tree.{first_place, second_place, size}
use Rattle.cv_syntax.specs.PoolTrees.{tree_at}
use Rattle.cv_syntax.specs.Walks.{above}
use Rattle.cv_syntax.proofs.Trees.{child_above, child_live, empty_at, node_at}
use Rattle.cv_syntax.proofs.Walking.{above_child, above_some, size_at, size_end}
use Rattle.cv_syntax_trees.specs.sites.Sites.{first_of}
use Rattle.cv_scope_rules.specs.Context.{first_position, second_position}
use Rattle.cv_scene.specs.Scenes.{head_reads}
use Rattle.cv_scene.specs.Instances.{call_at}
use Rattle.cv_scene.specs.Sites.{is_guard}
use Rattle.cv_match.specs.instances.Matchings.{matching_by}
use Rattle.cv_scene_view.proofs.Tested.{reads_first, reads_here, reads_rest}
use Rattle.cv_match.specs.instances.Walks.{use_unless}
use Rattle.cv_match.proofs.instances.Walked.{called, not_called, skipped_use, use_end, use_moved, use_node, use_here}
use Rattle.cv_match.proofs.instances.outside.+outside_use.Goals as goal

pub returns-then-skip-clause-none : goal.returns-then-skip-clause-none
returns-then-skip-clause-none t c = skipped_use c.args.skip (matching_by c.args.work.now.pool c.args.work.now.decls c.args.search.now) c.args.position c.args.from (tree_at c.args.work.now.pool.trees c.args.tree) c.if-skip.true

pub returns-then-is_call-clause-none : goal.returns-then-is_call-clause-none
returns-then-is_call-clause-none t c =
    let trees = c.args.work.now.pool.trees in
    let M = matching_by c.args.work.now.pool c.args.work.now.decls c.args.search.now in
    let node = c.read_node-node.result in
    let w = c.tree.here in
    let p = c.tree.place in
    let a = tree_at trees node.first in
    let b = tree_at trees node.second in
    let here = node_at trees c.tree.at c.in-Some.k node c.in-Some.is c.read_node-node.ensures.tree in
    let call_here : c.is_call.result ≡ is_some (call_at M (tree_at trees c.tree.at)) = c.is_call.ensures ∙ ap (λ o. is_some (call_at M (tree_at trees o))) (sym c.in-Some.is) in
    ap (λ s. use_unless s (matching_by c.args.work.now.pool c.args.work.now.decls c.args.search.now) c.args.position c.args.from (tree_at c.args.work.now.pool.trees c.args.tree)) c.if-skip.false
    ∙ (sym c.tree.invariant.same ∙ (use_node M w p (tree_at trees c.tree.at) node.head a b here ∙ called (call_at M (tree_at trees c.tree.at)) (use_here M w p node.head a b) c.is_call.result call_here c.if-is_call.true))

pub returns-then-is_reading-clause-found : goal.returns-then-is_reading-clause-found
returns-then-is_reading-clause-found t c =
    let trees = c.args.work.now.pool.trees in
    let M = matching_by c.args.work.now.pool c.args.work.now.decls c.args.search.now in
    let node = c.read_node-node.result in
    let w = c.tree.here in
    let p = c.tree.place in
    let a = tree_at trees node.first in
    let b = tree_at trees node.second in
    let here = node_at trees c.tree.at c.in-Some.k node c.in-Some.is c.read_node-node.ensures.tree in
    let call_here : c.is_call.result ≡ is_some (call_at M (tree_at trees c.tree.at)) = c.is_call.ensures ∙ ap (λ o. is_some (call_at M (tree_at trees o))) (sym c.in-Some.is) in
    let e = use_node M w p (tree_at trees c.tree.at) node.head a b here ∙ not_called (call_at M (tree_at trees c.tree.at)) (use_here M w p node.head a b) c.is_call.result call_here c.if-is_call.false in
    ap (λ s. use_unless s (matching_by c.args.work.now.pool c.args.work.now.decls c.args.search.now) c.args.position c.args.from (tree_at c.args.work.now.pool.trees c.args.tree)) c.if-skip.false
    ∙ (sym c.tree.invariant.same ∙ reads_here (use_unless false M w p (tree_at trees c.tree.at)) (first_of (use_unless (is_guard w) M (first_position w node.head) (first_place p node.head) a) (use_unless false M (second_position w node.head) (second_place p node.head a) b)) p c.is_reading.result (head_reads M.key node.head) e c.is_reading.ensures c.if-is_reading.true)

pub overflow_add-first : goal.overflow_add-first
overflow_add-first t c =
    let s = size_at c.args.work.now.pool.trees c.tree.at c.in-Some.k c.read_node-node.result c.in-Some.is c.read_node-node.ensures.tree in
    omega (arith, s, c.tree.invariant.sum, c.requires.fits, c.weight.ensures.weight)

pub outside_use-requires : goal.outside_use-requires
outside_use-requires t c =
    let s = size_at c.args.work.now.pool.trees c.tree.at c.in-Some.k c.read_node-node.result c.in-Some.is c.read_node-node.ensures.tree in
    let k = above_some c.tree.at c.in-Some.k c.in-Some.is in
    let b = above_child c.in-Some.k.0 c.read_node-node.result.first c.read_node-node.ensures.first in
    let less : above c.read_node-node.result.first < above c.args.tree = omega (arith, k, b, c.tree.invariant.less) in
    (search rules, (c.requires.ready, (child_live (length c.args.work.now.pool.trees) c.tree.at c.in-Some.k c.read_node-node.result.first c.in-Some.is c.tree.invariant.live c.read_node-node.ensures.first, omega (arith, s, c.tree.invariant.sum, c.requires.fits, c.weight.ensures.weight))))

pub returns-in-Err-clause-found : goal.returns-in-Err-clause-found
returns-in-Err-clause-found t c =
    let trees = c.args.work.now.pool.trees in
    let M = matching_by c.args.work.now.pool c.args.work.now.decls c.args.search.now in
    let node = c.read_node-node.result in
    let w = c.tree.here in
    let p = c.tree.place in
    let a = tree_at trees node.first in
    let b = tree_at trees node.second in
    let here = node_at trees c.tree.at c.in-Some.k node c.in-Some.is c.read_node-node.ensures.tree in
    let call_here : c.is_call.result ≡ is_some (call_at M (tree_at trees c.tree.at)) = c.is_call.ensures ∙ ap (λ o. is_some (call_at M (tree_at trees o))) (sym c.in-Some.is) in
    let e = use_node M w p (tree_at trees c.tree.at) node.head a b here ∙ not_called (call_at M (tree_at trees c.tree.at)) (use_here M w p node.head a b) c.is_call.result call_here c.if-is_call.false in
    let m = use_moved M a c.is_guard.result (is_guard w) c.first.result (first_position w node.head) (p + c.weight.result) (first_place p node.head) c.is_guard.ensures c.first.ensures (ap (λ n. p + n) c.weight.ensures.weight) in
    ap (λ s. use_unless s (matching_by c.args.work.now.pool c.args.work.now.decls c.args.search.now) c.args.position c.args.from (tree_at c.args.work.now.pool.trees c.args.tree)) c.if-skip.false
    ∙ (sym c.tree.invariant.same ∙ reads_first (use_unless false M w p (tree_at trees c.tree.at)) (use_unless (is_guard w) M (first_position w node.head) (first_place p node.head) a) (use_unless false M (second_position w node.head) (second_place p node.head a) b) p c.in-Err.found c.is_reading.result (head_reads M.key node.head) e c.is_reading.ensures c.if-is_reading.false (m ∙ c.in-Err.ensures.found))

pub tree-preserved : goal.tree-preserved
tree-preserved t c =
    let trees = c.args.work.now.pool.trees in
    let M = matching_by c.args.work.now.pool c.args.work.now.decls c.args.search.now in
    let node = c.read_node-node.result in
    let w = c.tree.here in
    let p = c.tree.place in
    let a = tree_at trees node.first in
    let b = tree_at trees node.second in
    let here = node_at trees c.tree.at c.in-Some.k node c.in-Some.is c.read_node-node.ensures.tree in
    let call_here : c.is_call.result ≡ is_some (call_at M (tree_at trees c.tree.at)) = c.is_call.ensures ∙ ap (λ o. is_some (call_at M (tree_at trees o))) (sym c.in-Some.is) in
    let e = use_node M w p (tree_at trees c.tree.at) node.head a b here ∙ not_called (call_at M (tree_at trees c.tree.at)) (use_here M w p node.head a b) c.is_call.result call_here c.if-is_call.false in
    let m = use_moved M a c.is_guard.result (is_guard w) c.first.result (first_position w node.head) (p + c.weight.result) (first_place p node.head) c.is_guard.ensures c.first.ensures (ap (λ n. p + n) c.weight.ensures.weight) in
    let s = size_at trees c.tree.at c.in-Some.k node c.in-Some.is c.read_node-node.ensures.tree in
    let q = c.in-Ok.ensures.next ∙ ap (λ n. p + n + size a) c.weight.ensures.weight in
    record {
      live = child_live (length trees) c.tree.at c.in-Some.k node.second c.in-Some.is c.tree.invariant.live c.read_node-node.ensures.second;
      less = child_above _ c.tree.at c.in-Some.k node.second c.in-Some.is c.tree.invariant.less c.read_node-node.ensures.second;
      sum = omega (arith, s, q, c.tree.invariant.sum);
      same = sym (use_moved M b false false c.second-here.result (second_position w node.head) c.in-Ok.next (second_place p node.head a) refl c.second-here.ensures q) ∙ (sym (reads_rest (use_unless false M w p (tree_at trees c.tree.at)) (use_unless (is_guard w) M (first_position w node.head) (first_place p node.head) a) (use_unless false M (second_position w node.head) (second_place p node.head a) b) p c.is_reading.result (head_reads M.key node.head) e c.is_reading.ensures c.if-is_reading.false (m ∙ c.in-Ok.ensures.none)) ∙ c.tree.invariant.same);
    }

pub returns-clause-none : goal.returns-clause-none
returns-clause-none t c =
    ap (λ s. use_unless s (matching_by c.args.work.now.pool c.args.work.now.decls c.args.search.now) c.args.position c.args.from (tree_at c.args.work.now.pool.trees c.args.tree)) c.if-skip.false
    ∙ (sym c.tree.invariant.same ∙ use_end (matching_by c.args.work.now.pool c.args.work.now.decls c.args.search.now) c.tree.here c.tree.place (tree_at c.args.work.now.pool.trees c.tree.at) (empty_at c.args.work.now.pool.trees c.tree.at c.in_default.is))

pub returns-clause-next : goal.returns-clause-next
returns-clause-next t c = omega (arith, c.tree.invariant.sum, size_end c.args.work.now.pool.trees c.tree.at c.in_default.is)
