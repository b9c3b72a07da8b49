use Rattle.std.proofs.Common.{rules, arith, ap, refl, sym, ◌∙◌, Some}
use Rattle.cv_syntax.specs.PoolTrees.{tree_at}
use Rattle.cv_syntax.proofs.Trees.{empty_at}
use Rattle.cv_syntax.proofs.Walking.{size_node}
use Rattle.cv_scope_rules.specs.Context.{context_at, first_context, nothing_known, second_context}
use Rattle.cv_scope_rules.proofs.Apart.{first_replications, second_replications}
use Rattle.cv_rule_pick.proofs.Descent.{context_behind, context_within, here_reached, keeps_first, none_there, nothing_reached}
use Rattle.cv_rule_pick.proofs.scope.is_reached.Goals as goal

pub down-init : goal.down-init
down-init c = record {
  live = search rules;
  within = omega arith;
  context = nothing_known;
  passed = sym c.new-passed.ensures.items;
  reaches = nothing_reached (tree_at c.args.pool.now.trees (Some c.args.cell));
  same = refl;
}

pub place_in-requires-clause-fits : goal.place_in-requires-clause-fits
place_in-requires-clause-fits c =
    let trees = c.args.pool.now.trees in
    let node = c.read_node-node.result in
    omega (arith, c.requires.fits, c.down.invariant.within, size_node (tree_at trees c.down.at) node.head (tree_at trees node.first) (tree_at trees node.second) (ap (tree_at trees) c.in-Some.is ∙ c.read_node-node.ensures.tree))

pub returns-in-Here : goal.returns-in-Here
returns-in-Here c = λ Γ f.
    let trees = c.args.pool.now.trees in
    let node = c.read_node-node.result in
    let e = ap (tree_at trees) c.in-Some.is ∙ c.read_node-node.ensures.tree in
    c.either.ensures ∙ here_reached (tree_at trees (Some c.args.cell)) c.down.position c.down.invariant.context Γ (tree_at trees c.down.at) node.head (tree_at trees node.first) (tree_at trees node.second) c.down.left e c.in-Here.ensures (c.down.invariant.same ∙ f) c.down.reach c.down.invariant.reaches

pub down-preserved-in-Within : goal.down-preserved-in-Within
down-preserved-in-Within c =
    let trees = c.args.pool.now.trees in
    let node = c.read_node-node.result in
    let Γ = c.down.invariant.context in
    let e = ap (tree_at trees) c.in-Some.is ∙ c.read_node-node.ensures.tree in
    record {
      live = search rules;
      within = omega (arith, c.down.invariant.within, size_node (tree_at trees c.down.at) node.head (tree_at trees node.first) (tree_at trees node.second) e);
      context = first_context c.down.position node.head Γ;
      passed = first_replications c.down.position node.head Γ ∙ c.down.invariant.passed;
      reaches = keeps_first (tree_at trees (Some c.args.cell)) c.down.position node.head Γ c.down.reach c.down.invariant.reaches;
      same = ap (λ w. context_at w (first_context c.down.position node.head Γ) (tree_at trees node.first) c.in-Within.rest) c.first-position.ensures
          ∙ (sym (context_within c.down.position Γ (tree_at trees c.down.at) node.head (tree_at trees node.first) (tree_at trees node.second) c.down.left c.in-Within.rest e c.in-Within.ensures) ∙ c.down.invariant.same);
    }

pub down-preserved : goal.down-preserved
down-preserved c =
    let trees = c.args.pool.now.trees in
    let node = c.read_node-node.result in
    let Γ = c.down.invariant.context in
    let e = ap (tree_at trees) c.in-Some.is ∙ c.read_node-node.ensures.tree in
    record {
      live = search rules;
      within = omega (arith, c.down.invariant.within, size_node (tree_at trees c.down.at) node.head (tree_at trees node.first) (tree_at trees node.second) e);
      context = second_context c.down.position node.head (tree_at trees node.first) Γ;
      passed = second_replications c.down.position node.head (tree_at trees node.first) Γ ∙ (ap (Rattle.cv_scope_rules.specs.Context.replications_below node.head) c.down.invariant.passed ∙ sym c.in_ok-pass-in-Behind.ensures);
      reaches = c.reach_behind-reach.ensures Γ (c.down.invariant.passed ∙ sym c.as_slice.ensures.value) c.down.invariant.reaches;
      same = ap (λ w. context_at w (second_context c.down.position node.head (tree_at trees node.first) Γ) (tree_at trees node.second) c.in-Behind.rest) c.second-position.ensures
          ∙ (sym (context_behind c.down.position Γ (tree_at trees c.down.at) node.head (tree_at trees node.first) (tree_at trees node.second) c.down.left c.in-Behind.rest e c.in-Behind.ensures) ∙ c.down.invariant.same);
    }

pub returns : goal.returns
returns c = λ Γ f. none_there c.down.position c.down.invariant.context Γ (tree_at c.args.pool.now.trees c.down.at) c.down.left (empty_at c.args.pool.now.trees c.down.at c.in_default.is) (c.down.invariant.same ∙ f)
