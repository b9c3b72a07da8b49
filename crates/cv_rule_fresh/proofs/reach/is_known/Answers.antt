use Rattle.std.proofs.Common.{◌≡◌, rules, arith, ap, refl, sym, ◌∙◌, None, Some}
use Rattle.cv_syntax.specs.PoolTrees.{tree_at}
use Rattle.cv_syntax.proofs.Trees.{empty_at}
use Rattle.cv_syntax.proofs.Walking.{size_node}
use Rattle.cv_scope_rules.specs.Context.{context_at, first_context, nothing_known, replications_below, second_context}
use Rattle.cv_scope_rules.proofs.Apart.{first_replications, second_replications}
use Rattle.cv_derive_facts.proofs.Covering.{known_behind, known_empty, known_here, known_within}
use Rattle.cv_rule_fresh.proofs.Seeing.{first_sees, seen_here}
use Rattle.cv_rule_fresh.proofs.reach.is_known.Goals as goal

pub down-init : goal.down-init
down-init c = record {
  live = search rules;
  within = omega arith;
  context = nothing_known;
  passed = sym c.new-passed.ensures.items;
  sees = record { defined = refl; own = refl };
  same = refl;
}

pub place_in-requires-clause-fits : goal.place_in-requires-clause-fits
place_in-requires-clause-fits c =
    let trees = c.args.pool.now.trees in
    let node = c.read_node-node.result in
    omega (arith, size_node (tree_at trees c.down.at) node.head (tree_at trees node.first) (tree_at trees node.second) (ap (tree_at trees) c.in-Some.is ∙ c.read_node-node.ensures.tree))

pub returns-in-Here : goal.returns-in-Here
returns-in-Here c = λ Γ e.
    let trees = c.args.pool.now.trees in
    let node = c.read_node-node.result in
    let known = c.down.invariant in
    let t = ap (tree_at trees) c.in-Some.is ∙ c.read_node-node.ensures.tree in
    let here = ap (λ u. context_at c.down.position known.context u c.down.left) t ∙ known_here c.down.position known.context node.head (tree_at trees node.first) (tree_at trees node.second) c.down.left 0 c.in-Here.ensures in
    c.is_seen.ensures ∙ seen_here (tree_at trees c.args.cell) known.context Γ c.down.seen known.sees (sym here ∙ (known.same ∙ e))

pub down-preserved-in-Within : goal.down-preserved-in-Within
down-preserved-in-Within c =
    let trees = c.args.pool.now.trees in
    let node = c.read_node-node.result in
    let known = c.down.invariant in
    let t = ap (tree_at trees) c.in-Some.is ∙ c.read_node-node.ensures.tree in
    record {
      live = search rules;
      within = omega (arith, size_node (tree_at trees c.down.at) node.head (tree_at trees node.first) (tree_at trees node.second) t, known.within);
      context = first_context c.down.position node.head known.context;
      passed = first_replications c.down.position node.head known.context ∙ known.passed;
      sees = first_sees (tree_at trees c.args.cell) c.down.position node.head known.context c.down.seen known.sees;
      same =
          ap (λ w. context_at w (first_context c.down.position node.head known.context) (tree_at trees node.first) c.in-Within.rest) c.first-position.ensures
          ∙ (sym (ap (λ u. context_at c.down.position known.context u c.down.left) t ∙ known_within c.down.position known.context node.head (tree_at trees node.first) (tree_at trees node.second) c.down.left c.in-Within.rest c.in-Within.ensures) ∙ known.same);
    }

pub down-preserved : goal.down-preserved
down-preserved c =
    let trees = c.args.pool.now.trees in
    let node = c.read_node-node.result in
    let known = c.down.invariant in
    let t = ap (tree_at trees) c.in-Some.is ∙ c.read_node-node.ensures.tree in
    let more = second_context c.down.position node.head (tree_at trees node.first) known.context in
    record {
      live = search rules;
      within = omega (arith, size_node (tree_at trees c.down.at) node.head (tree_at trees node.first) (tree_at trees node.second) t, known.within);
      context = more;
      passed = second_replications c.down.position node.head (tree_at trees node.first) known.context ∙ (ap (replications_below node.head) known.passed ∙ sym c.in_ok-pass-in-Behind.ensures);
      sees = c.entered-seen.ensures known.context (known.passed ∙ sym c.as_slice.ensures.value) known.sees;
      same =
          ap (λ w. context_at w more (tree_at trees node.second) c.in-Behind.rest) c.second-position.ensures
          ∙ (sym (ap (λ u. context_at c.down.position known.context u c.down.left) t ∙ known_behind c.down.position known.context node.head (tree_at trees node.first) (tree_at trees node.second) c.down.left c.in-Behind.rest c.in-Behind.ensures) ∙ known.same);
    }

pub returns : goal.returns
returns c = λ Γ e.
    let trees = c.args.pool.now.trees in
    let known = c.down.invariant in
    let t = empty_at trees c.down.at c.in_default.is in
    let none = ap (λ u. context_at c.down.position known.context u c.down.left) t ∙ known_empty c.down.position known.context c.down.left in
    let both : None ≡ Some Γ = sym none ∙ (known.same ∙ e) in
    absurd (cc)
