use Rattle.std.proofs.Common.{ap, length, sym, ◌∙◌, Some}
use Rattle.cv_syntax.specs.PoolTrees.{tree_at}
use Rattle.cv_syntax.proofs.Trees.{child_above, child_live, empty_at, node_at}
use Rattle.cv_scope.specs.Held.{names_held}
use Rattle.cv_scene_view.proofs.Tested.{all_first, all_rest}
use Rattle.cv_costs.specs.names.Reach.{is_in_scope}
use Rattle.cv_rule_fresh.specs.Looks.{reads_here}
use Rattle.cv_rule_fresh.proofs.Seeing.{scope_end, scope_node, unread}
use Rattle.cv_rule_fresh.proofs.reach.+is_in_scope.Goals as goal

pub returns-then-not-branch : goal.returns-then-not-branch
returns-then-not-branch t c = λ Γ k r.
    let trees = c.args.pool.now.trees in
    let names = names_held c.args.names.now in
    sym (unread names Γ (tree_at trees (Some c.in-Some.n)) (sym (c.in_ok-is_read.ensures Γ k r) ∙ c.if-not-branch.true))
    ∙ (ap (λ o. is_in_scope names Γ (tree_at trees o)) (sym c.in-Some.is) ∙ c.chain.invariant.same Γ k r)

pub returns-then-not-branch-2 : goal.returns-then-not-branch-2
returns-then-not-branch-2 t c = λ Γ k r.
    let trees = c.args.pool.now.trees in
    let names = names_held c.args.names.now in
    let node = c.read_node-node.result in
    let at = tree_at trees c.chain.at in
    let e = scope_node names Γ at node.head (tree_at trees node.first) (tree_at trees node.second) (node_at trees c.chain.at c.in-Some.n node c.in-Some.is c.read_node-node.ensures.tree) in
    sym (all_first (is_in_scope names Γ at) (reads_here names Γ at) (is_in_scope names Γ (tree_at trees node.first)) (is_in_scope names Γ (tree_at trees node.second)) c.in_ok-is_in_scope.field-0 e (c.in_ok-is_in_scope.ensures Γ k r) c.if-not-branch-2.true)
    ∙ c.chain.invariant.same Γ k r

pub chain-preserved : goal.chain-preserved
chain-preserved t c =
    let trees = c.args.pool.now.trees in
    let node = c.read_node-node.result in
    record {
      below = child_above _ c.chain.at c.in-Some.n node.second c.in-Some.is c.chain.invariant.below c.read_node-node.ensures.second;
      live = child_live (length trees) c.chain.at c.in-Some.n node.second c.in-Some.is c.chain.invariant.live c.read_node-node.ensures.second;
      same = λ Γ k r.
          let names = names_held c.args.names.now in
          let at = tree_at trees c.chain.at in
          let e = scope_node names Γ at node.head (tree_at trees node.first) (tree_at trees node.second) (node_at trees c.chain.at c.in-Some.n node c.in-Some.is c.read_node-node.ensures.tree) in
          let read = c.in_ok-is_read.ensures Γ k r ∙ ap (λ o. reads_here names Γ (tree_at trees o)) (sym c.in-Some.is) in
          sym (all_rest (is_in_scope names Γ at) (reads_here names Γ at) (is_in_scope names Γ (tree_at trees node.first)) (is_in_scope names Γ (tree_at trees node.second)) c.in_ok-is_read.field-0 c.in_ok-is_in_scope.field-0 e read c.if-not-branch.false (c.in_ok-is_in_scope.ensures Γ k r) c.if-not-branch-2.false)
          ∙ c.chain.invariant.same Γ k r;
    }

pub returns : goal.returns
returns t c = λ Γ k r.
    let trees = c.args.pool.now.trees in
    sym (scope_end (names_held c.args.names.now) Γ (tree_at trees c.chain.at) (empty_at trees c.chain.at c.in_default.is)) ∙ c.chain.invariant.same Γ k r
