use Rattle.std.proofs.Common.{length, ap, sym, ◌∙◌}
use Rattle.cv_syntax.specs.PoolTrees.{tree_at}
use Rattle.cv_syntax.specs.NameSets.{is_in}
use Rattle.cv_syntax.proofs.Trees.{child_live, node_at}
use Rattle.cv_query_form.specs.Tests.{are_distinct}
use Rattle.cv_query_form.proofs.Parts.{and_false, and_true, distinct_end, distinct_other, distinct_step, removed}
use Rattle.cv_query_form.proofs.arguments.are_distinct.Goals as goal

pub returns-in_default-variable : goal.returns-in_default-variable
returns-in_default-variable c =
    let trees = c.args.pool.now.trees in
    let node = c.read_node-cell.result in
    sym (distinct_other (is_in c.list.free) (tree_at trees c.list.at) node.head (tree_at trees node.first) (tree_at trees node.second) (node_at trees c.list.at c.in-Some.k node c.in-Some.is c.read_node-cell.ensures.tree) (sym c.variable.ensures ∙ c.in_default-variable.is)) ∙ c.list.invariant.same

pub returns-then-not-remove : goal.returns-then-not-remove
returns-then-not-remove c =
    let trees = c.args.pool.now.trees in
    let node = c.read_node-cell.result in
    and_false _ _ _ _ (distinct_step (is_in c.list.free) (tree_at trees c.list.at) node.head (tree_at trees node.first) (tree_at trees node.second) c.in-Some-variable.x (node_at trees c.list.at c.in-Some.k node c.in-Some.is c.read_node-cell.ensures.tree) (sym c.variable.ensures ∙ c.in-Some-variable.is)) c.list.invariant.same (sym c.remove.ensures.test ∙ c.if-not-remove.true)

pub list-preserved : goal.list-preserved
list-preserved c =
    let trees = c.args.pool.now.trees in
    let node = c.read_node-cell.result in
    record {
      live = child_live (length trees) c.list.at c.in-Some.k node.second c.in-Some.is c.list.invariant.live c.read_node-cell.ensures.second;
      same = ap (λ free. are_distinct free (tree_at trees node.second)) (removed c.in-Some-variable.x c.list.free c.remove.new.self c.remove.ensures.updates) ∙ and_true _ _ _ _ (distinct_step (is_in c.list.free) (tree_at trees c.list.at) node.head (tree_at trees node.first) (tree_at trees node.second) c.in-Some-variable.x (node_at trees c.list.at c.in-Some.k node c.in-Some.is c.read_node-cell.ensures.tree) (sym c.variable.ensures ∙ c.in-Some-variable.is)) c.list.invariant.same (sym c.remove.ensures.test ∙ c.if-not-remove.false);
    }

pub returns : goal.returns
returns c = sym (distinct_end (is_in c.list.free) c.args.pool.now.trees c.list.at c.in_default.is) ∙ c.list.invariant.same
