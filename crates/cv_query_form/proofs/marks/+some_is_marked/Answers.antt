use Rattle.std.proofs.Common.{◌<◌, ap, arith, length, rules, sym, ◌∙◌, Some}
use Rattle.cv_syntax.specs.PoolTrees.{tree_at}
use Rattle.cv_syntax.specs.Walks.{above}
use Rattle.cv_syntax.proofs.Trees.{child_above, child_live, node_at}
use Rattle.cv_syntax.proofs.Walking.{above_child, above_some}
use Rattle.cv_query_form.specs.Tests.{some_is_marked}
use Rattle.cv_query_form.proofs.Parts.{marked_atom, marked_end, marked_step, or_false, or_true}
use Rattle.cv_query_form.proofs.marks.+some_is_marked.Goals as goal

pub returns-then-not-has_parts : goal.returns-then-not-has_parts
returns-then-not-has_parts t c =
    let trees = c.args.pool.now.trees in
    let node = c.read_node-node.result in
    c.is_marked.ensures
    ∙ (marked_atom (tree_at trees (Some c.in-Some.k)) node.head (tree_at trees node.first) (tree_at trees node.second) c.read_node-node.ensures.tree (sym c.has_parts.ensures ∙ c.if-not-has_parts.true)
    ∙ (ap (λ o. some_is_marked (tree_at trees o)) (sym c.in-Some.is) ∙ c.parts.invariant.same))

pub some_is_marked-requires : goal.some_is_marked-requires
some_is_marked-requires t c =
    let k = above_some c.parts.at c.in-Some.k c.in-Some.is in
    let b = above_child c.in-Some.k.0 c.read_node-node.result.first c.read_node-node.ensures.first in
    let less : above c.read_node-node.result.first < above c.args.right = omega (arith, k, b, c.parts.invariant.less) in
    (search rules, child_live (length c.args.pool.now.trees) c.parts.at c.in-Some.k c.read_node-node.result.first c.in-Some.is c.parts.invariant.live c.read_node-node.ensures.first)

pub returns-then-some_is_marked : goal.returns-then-some_is_marked
returns-then-some_is_marked t c =
    let trees = c.args.pool.now.trees in
    let node = c.read_node-node.result in
    or_true _ _ _ _ (marked_step (tree_at trees c.parts.at) node.head (tree_at trees node.first) (tree_at trees node.second) (node_at trees c.parts.at c.in-Some.k node c.in-Some.is c.read_node-node.ensures.tree) (sym c.has_parts.ensures ∙ c.if-not-has_parts.false)) c.parts.invariant.same (sym c.some_is_marked.ensures ∙ c.if-some_is_marked.true)

pub parts-preserved : goal.parts-preserved
parts-preserved t c =
    let trees = c.args.pool.now.trees in
    let node = c.read_node-node.result in
    record {
      live = child_live (length trees) c.parts.at c.in-Some.k node.second c.in-Some.is c.parts.invariant.live c.read_node-node.ensures.second;
      less = child_above _ c.parts.at c.in-Some.k node.second c.in-Some.is c.parts.invariant.less c.read_node-node.ensures.second;
      same = or_false _ _ _ _ (marked_step (tree_at trees c.parts.at) node.head (tree_at trees node.first) (tree_at trees node.second) (node_at trees c.parts.at c.in-Some.k node c.in-Some.is c.read_node-node.ensures.tree) (sym c.has_parts.ensures ∙ c.if-not-has_parts.false)) c.parts.invariant.same (sym c.some_is_marked.ensures ∙ c.if-some_is_marked.false);
    }

pub returns : goal.returns
returns t c = sym (marked_end c.args.pool.now.trees c.parts.at c.in_default.is) ∙ c.parts.invariant.same
