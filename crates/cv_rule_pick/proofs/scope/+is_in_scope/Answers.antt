use Rattle.std.proofs.Common.{length, sym, ◌∙◌}
use Rattle.cv_syntax.specs.PoolTrees.{tree_at}
use Rattle.cv_syntax.proofs.Trees.{child_above, child_live, empty_at, node_at}
use Rattle.cv_scope.specs.Held.{names_held}
use Rattle.cv_rule_pick.proofs.InScope.{first_fails, read_fails, rest_is, scope_end}
use Rattle.cv_rule_pick.proofs.scope.+is_in_scope.Goals as goal

pub returns-then-not-branch : goal.returns-then-not-branch
returns-then-not-branch t c = λ Γ k r.
    let trees = c.args.pool.now.trees in
    let node = c.read_node-node.result in
    let e = node_at trees c.term.at c.in-Some.k node c.in-Some.is c.read_node-node.ensures.tree in
    sym (read_fails (names_held c.args.names.now) Γ (tree_at trees c.term.at) node.head (tree_at trees node.first) (tree_at trees node.second) e _ (c.in_ok-reads_reached.ensures Γ k r) c.if-not-branch.true) ∙ c.term.invariant.same Γ k r

pub returns-then-not-branch-2 : goal.returns-then-not-branch-2
returns-then-not-branch-2 t c = λ Γ k r.
    let trees = c.args.pool.now.trees in
    let node = c.read_node-node.result in
    let e = node_at trees c.term.at c.in-Some.k node c.in-Some.is c.read_node-node.ensures.tree in
    sym (first_fails (names_held c.args.names.now) Γ (tree_at trees c.term.at) node.head (tree_at trees node.first) (tree_at trees node.second) e _ (c.in_ok-reads_reached.ensures Γ k r) c.if-not-branch.false _ (c.in_ok-is_in_scope.ensures Γ k r) c.if-not-branch-2.true) ∙ c.term.invariant.same Γ k r

pub term-preserved : goal.term-preserved
term-preserved t c =
    let trees = c.args.pool.now.trees in
    let node = c.read_node-node.result in
    let e = node_at trees c.term.at c.in-Some.k node c.in-Some.is c.read_node-node.ensures.tree in
    record {
      live = child_live (length trees) c.term.at c.in-Some.k node.second c.in-Some.is c.term.invariant.live c.read_node-node.ensures.second;
      less = child_above _ c.term.at c.in-Some.k node.second c.in-Some.is c.term.invariant.less c.read_node-node.ensures.second;
      same = λ Γ k r. rest_is (names_held c.args.names.now) Γ (tree_at trees c.term.at) node.head (tree_at trees node.first) (tree_at trees node.second) e _ (c.in_ok-reads_reached.ensures Γ k r) c.if-not-branch.false _ (c.in_ok-is_in_scope.ensures Γ k r) c.if-not-branch-2.false ∙ c.term.invariant.same Γ k r;
    }

pub returns : goal.returns
returns t c = λ Γ k r. sym (scope_end (names_held c.args.names.now) Γ (tree_at c.args.pool.now.trees c.term.at) (empty_at c.args.pool.now.trees c.term.at c.in_default.is)) ∙ c.term.invariant.same Γ k r
